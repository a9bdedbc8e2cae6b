use Rattle.std.proofs.Common.{◌≡◌, ◌+◌, ◌*◌, ◌++◌, ◌∷◌, [], ℕ, List, length, ap, ◌∙◌, arith}
use Rattle.std.proofs.lemmas.List.{length-append}
use Rattle.scip_index.proofs.WritingSteps.{ok-then}
use Rattle.scip_index.proofs.InPlace.{headed}
use Rattle.scip_index.proofs.in_place.append_message_in_place.Goals as goal

pub returns-then-size-lt-LONG : goal.returns-then-size-lt-LONG
returns-then-size-lt-LONG g c =
    let old = c.args.out.now.items in
    let payload = g.M.Written.written c.args.message.now in
    let field = c.args.field in
    let key = field * 8 + 2 in
    let is : c.encode_into.new.out.items ≡ (old ++ key ∷ 0 ∷ []) ++ payload = c.in_ok-encode_into.ensures.bytes ∙ ap (λ (bytes : List ℕ). bytes ++ payload) c.in_ok-extend_from_slice.ensures.items in
    ok-then c.store_length.result (c.store_length.ensures old payload key is (omega (arith, c.args.out.now.ok.0)))
    (λ e. e ∙ headed old payload field key _ c.requires.few (omega arith) (omega (arith, c.args.out.now.ok.0, c.encode_into.new.out.ok.0, ap length is, length-append (old ++ key ∷ 0 ∷ []) payload, length-append old (key ∷ 0 ∷ []))))
