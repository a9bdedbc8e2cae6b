-- Each key is new, or repeats an earlier one and so is the first duplicate.
use Rattle.std.proofs.Common.{◌≡◌, Bool, true, false, refl, sym, ◌∙◌}
use Rattle.std.specs.Prelude.{not}
use Rattle.std.specs.List.{list_any}
use Rattle.std.proofs.lemmas.Option.{slice_get-get_or}
use Rattle.ob_scan.specs.Texts.{text_at}
use Rattle.ob_scope.proofs.Keyed.{key_eq, index_more, twice_at}
use Rattle.ob_scope.proofs.member_index.build_member_index.Goals as goal

not_true : (b : Bool) → true ≡ not b → b ≡ false
not_true true e = e
not_true false e = refl

not_false : (b : Bool) → false ≡ not b → b ≡ true
not_false true e = refl
not_false false e = e

pub loop-i-preserved : goal.loop-i-preserved
loop-i-preserved c =
    let name = text_at c.args.text.now.bytes.now c.args.text.now.tokens.now in
    let k = c.member_key-key.result in
    let new : list_any (key_eq k) c.loop-i.index.keys ≡ false = not_true _ (sym c.in-Ok-default-true.field-0-1-test ∙ c.in-Ok-default-true.ensures.added) in
    let keys = rw new at c.in-Ok-default-true.ensures.keys in
    rw keys
    (index_more name c.args.members.now c.loop-i.index.keys c.loop-i.i k _ c.loop-i.invariant (slice_get-get_or c.args.members.now c.loop-i.i _ c.loop-i-test.true) c.member_key-key.ensures new)

pub returns-in-Ok-default-false-clause-fault : goal.returns-in-Ok-default-false-clause-fault
returns-in-Ok-default-false-clause-fault c =
    let name = text_at c.args.text.now.bytes.now c.args.text.now.tokens.now in
    let k = c.member_key-key.result in
    let there : list_any (key_eq k) c.loop-i.index.keys ≡ true = not_false _ (sym c.in-Ok-default-false.field-0-1-test ∙ c.in-Ok-default-false.ensures.added) in
    let keys = rw there at c.in-Ok-default-false.ensures.keys in
    let stored = rw keys at c.in-Ok-default-false.ensures.stored in
    twice_at name c.args.members.now c.loop-i.index.keys c.loop-i.i c.in-Ok-default-false.first k stored.0 _ c.loop-i.invariant (slice_get-get_or c.args.members.now c.loop-i.i _ c.loop-i-test.true) c.member_key-key.ensures
    stored.1 stored.2
