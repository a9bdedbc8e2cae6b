use Rattle.std.proofs.Common.{◌≡◌, ◌++◌, ◌∷◌, ◌∙◌, ℕ, List, [], ap, sym, refl, rules, take, drop, append-nil, arith}
use Rattle.std.specs.String.{string_bytes}
use Rattle.std.proofs.KnownBytes.{Appends-nil}
use Rattle.std.proofs.lemmas.List.{nil_from_length}
use Rattle.std.proofs.lemmas.Bool.Decides.{nat_tests}
use Rattle.std.proofs.lemmas.Result.{err_from_is_err_and}
use Rattle.hex.specs.Hex.{encode_lower, encode_with}
use Rattle.byte_sink.proofs.Joining.{front_joined, joined, puts_then, some_front}
use Rattle.index_run.proofs.Digits.{digits_of_both, line_around, line_so_far, part_more}
use Rattle.index_run.proofs.hexadecimal.hex_line.Goals as goal

pub loop-rest-init : goal.loop-rest-init
unfolding encode_with
loop-rest-init g c = record { gathered = ([], refl, ([], sym c.new-text.ensures.bytes, Appends-nil (g.S.Sink.taken c.args.sink.now))); failures = refl }

pub loop-rest-preserved : goal.loop-rest-preserved
loop-rest-preserved g c =
    let so_far = c.loop-rest.invariant.gathered in
    let rest = c.loop-rest.rest.now in
    let part = take c.min-end.result rest in
    record {
      gathered = (
        so_far.0 ++ part,
        part_more c.args.bytes.now so_far.0 rest c.min-end.result so_far.1,
        joined _ _ _ [] (encode_lower so_far.0) (encode_lower part) (string_bytes c.loop-rest.text) (string_bytes c.write_digits.new.text) (encode_lower (so_far.0 ++ part)) (digits_of_both so_far.0 part) so_far.2
            c.in_ok-write_digits.ensures.gathered,
      );
      failures = search rules;
    }

pub returns-in_err-write_digits-clause-writes : goal.returns-in_err-write_digits-clause-writes
returns-in_err-write_digits-clause-writes g c =
    let p = err_from_is_err_and c.from_residual.result c.from_residual.ensures.1 in
    let so_far = c.loop-rest.invariant.gathered in
    let rest = c.loop-rest.rest.now in
    let k = c.min-end.result in
    rw p.1 (front_joined _ _ _ [] (encode_lower so_far.0) (encode_lower (take k rest)) (string_bytes c.loop-rest.text) (encode_lower (drop k rest) ++ 10 ∷ []) _
    (line_around c.args.bytes.now so_far.0 rest (10 ∷ []) k so_far.1) so_far.2 c.in_err-write_digits.ensures.error_prefix)

pub returns-in_default-clause-writes : goal.returns-in_default-clause-writes
returns-in_default-clause-writes g c =
    let so_far = c.loop-rest.invariant.gathered in
    let rest = c.loop-rest.rest.now in
    some_front _ _ [] (encode_lower so_far.0) (string_bytes c.loop-rest.text) (encode_lower rest ++ 10 ∷ []) _ (line_so_far c.args.bytes.now so_far.0 rest (10 ∷ []) so_far.1) so_far.2

pub returns-clause-writes : goal.returns-clause-writes
returns-clause-writes g c =
    let so_far = c.loop-rest.invariant.gathered in
    let none : c.loop-rest.rest.now ≡ [] = nil_from_length c.loop-rest.rest.now (grind (arith, nat_tests, c.is_empty.ensures, c.loop-rest-test.false)) in
    let whole = so_far.1 ∙ ap (λ (t : List ℕ). so_far.0 ++ t) none ∙ append-nil so_far.0 in
    let text = string_bytes c.loop-rest.text in
    let all = joined _ _ _ [] (encode_lower so_far.0) (10 ∷ []) text (text ++ 10 ∷ []) (encode_lower c.args.bytes.now ++ 10 ∷ []) (ap (λ (t : List ℕ). encode_lower t ++ 10 ∷ []) whole) so_far.2
    ([], refl, Appends-nil (g.S.Sink.taken c.loop-rest.sink)) in
    puts_then _ _ _ _ (text ++ 10 ∷ []) c.write_fully.result all (rw (c.as_bytes.ensures.value, c.in-Ok.ensures.bytes) at c.write_fully.ensures.writes)
