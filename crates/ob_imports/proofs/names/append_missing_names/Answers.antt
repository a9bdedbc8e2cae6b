-- One more name, which the table may lack.
use Rattle.std.proofs.Common.{◌≡◌, ◌++◌, [], ◌∷◌, true, false, take, refl, sym, ◌∙◌, ap}
use Rattle.std.specs.String.{string_bytes}
use Rattle.std.proofs.lemmas.List.{append_assoc, append-nil, map_push}
use Rattle.ob_imports.specs.Names.{texts}
use Rattle.ob_imports.specs.Numbering.{has_name, lacked}
use Rattle.digraph.proofs.Names.{any_text}
use Rattle.ob_imports.proofs.Places.{lacked_more}
use Rattle.ob_imports.proofs.names.append_missing_names.Goals as goal
use Rattle.ob_imports.proofs.names.append_missing_names.Goals.{then-not-contains+in_ok-from_str+in_ok-push, else-not-contains}

pub loop-name-preserved : goal.loop-name-preserved
loop-name-preserved c =
    let keys = texts c.args.table.now.keys in
    let old = texts c.args.others.now.items in
    let item = c.name-item.result in
    let more = lacked_more keys c.args.names.now c.loop-name.name-index item c.loop-name-test.true c.name-item.is in
    let test : has_name keys (string_bytes item) ≡ c.contains.result = sym (c.contains.ensures ∙ any_text c.as_str.result.now c.args.table.now.keys ∙ ap (has_name keys) c.as_str.ensures.value) in
    let old_are : texts c.loop-name.others.items ≡ old ++ lacked keys (texts (take c.loop-name.name-index c.args.names.now)) = c.loop-name.invariant in
    elim c.if-not-contains.branch [
      | then-not-contains+in_ok-from_str+in_ok-push w ↦
          let new : c.contains.result ≡ false = w.if-not-contains.true in
          let one : lacked keys (string_bytes item ∷ []) ≡ string_bytes item ∷ [] = rw (test, new) refl in
          let value : string_bytes w.in_ok-from_str.field-0 ≡ string_bytes item = w.in_ok-from_str.ensures.ok ∙ w.as_str-then-not-contains.ensures.value in
          rw (w.others-is, w.in_ok-push.ensures.items, more, one, map_push string_bytes c.loop-name.others.items w.in_ok-from_str.field-0, value, old_are)
          (append_assoc old (lacked keys (texts (take c.loop-name.name-index c.args.names.now))) (string_bytes item ∷ []))
      | else-not-contains w ↦
          let known : c.contains.result ≡ true = w.if-not-contains.false in
          let none : lacked keys (string_bytes item ∷ []) ≡ [] = rw (test, known) refl in
          rw (w.others-is, more, none, append-nil (lacked keys (texts (take c.loop-name.name-index c.args.names.now)))) old_are
    ]
