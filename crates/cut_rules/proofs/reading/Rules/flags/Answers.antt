use Rattle.std.proofs.Common.{◌≡◌, ◌∙◌, Bool, List, true, false, inl, inr, length, sym, ap, arith}
use Rattle.std.proofs.lemmas.List.{with_items_is}
use Rattle.digraph.specs.Marks.{marked}
use Rattle.cut_rules.proofs.Marking.{no_marks}
use Rattle.cut_rules.proofs.reading.Rules.flags.Goals as goal

pub returns-clause-size : goal.returns-clause-size
returns-clause-size c = let long = c.in_ok-flags.ensures.len in let nodes = c.nodes.ensures in omega arith

pub returns-clause-elements : goal.returns-clause-elements
returns-clause-elements c m low =
    let start = c.as_mut_slice.ensures.value in
    let begun = ap length start in
    let ok = c.in_ok-flags.flags.ok.0 in
    let long = c.in_ok-flags.ensures.len in
    let nodes = c.nodes.ensures in
    let size = c.flag_modules_of_name.ensures.size in
    let whole = ap (λ (ms : List Bool). marked ms m) (with_items_is c.in_ok-flags.flags c.flag_modules_of_name.new.flags (omega arith)) in
    let none : marked c.as_mut_slice.result.now m ≡ false = ap (λ (ms : List Bool). marked ms m) (start ∙ c.in_ok-flags.ensures.items_if_clones_equal (λ y e. e)) ∙ no_marks c.nodes.result m in
    let law = c.flag_modules_of_name.ensures.flags m (omega arith) in (
      λ e. elim (law.0 (sym whole ∙ e)) [ inl was ↦ absurd (let bad : true ≡ false = sym was ∙ none in cc) | inr named ↦ named ],
      λ named. whole ∙ law.1 (inr named),
    )
