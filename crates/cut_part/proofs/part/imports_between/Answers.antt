use Rattle.std.proofs.Common.{◌≡◌, ◌∙◌, ◌∷◌, [], true, false, ap, filter, get_or, length, map, sym, take, arith}
use Rattle.std.proofs.lemmas.List.{append-nil, map-append}
use Rattle.std.proofs.lemmas.List.Elements.{filter_more}
use Rattle.cut_net.specs.Network.{missing_item}
use Rattle.residual_graph.specs.Graphs.{is_flagged}
use Rattle.cut_part.specs.Subnetworks.{are_ends_in}
use Rattle.cut_part.specs.Renumbering.{renumbered}
use Rattle.cut_part.proofs.Adding.{from_in, to_in}
use Rattle.std.proofs.lemmas.Grind.{common_steps}
use Rattle.cut_part.proofs.part.imports_between.Goals as goal
use Rattle.cut_part.proofs.part.imports_between.Goals.{then-is_internal+in_ok-push, else-is_internal}

pub is_internal-requires-clause-from : goal.is_internal-requires-clause-from
is_internal-requires-clause-from c = from_in c.args.imports.now (length c.args.marks.now) c.loop-i.i-index c.requires.between c.loop-i-test.true

pub is_internal-requires-clause-to : goal.is_internal-requires-clause-to
is_internal-requires-clause-to c = to_in c.args.imports.now (length c.args.marks.now) c.loop-i.i-index c.requires.between c.loop-i-test.true

pub loop-i-preserved : goal.loop-i-preserved
loop-i-preserved c =
    let imports = c.args.imports.now in
    let k = c.loop-i.i-index in
    let invariants = are_ends_in (is_flagged c.args.marks.now) in
    let place = renumbered (λ m. get_or c.args.new_numbers.now m 0) in
    elim c.if-is_internal.branch [
      | then-is_internal+in_ok-push w ↦
          let kept : invariants (get_or imports k missing_item) ≡ true = sym c.is_internal.ensures ∙ w.if-is_internal.true in
          rw (w.some-is, w.in_ok-push.ensures.items, c.loop-i.invariant, filter_more invariants imports k missing_item c.loop-i-test.true, kept)
          (sym (map-append place (filter invariants (take k imports)) (get_or imports k missing_item ∷ [])))
      | else-is_internal w ↦
          let left : invariants (get_or imports k missing_item) ≡ false = sym c.is_internal.ensures ∙ w.if-is_internal.false in
          rw (w.some-is, c.loop-i.invariant, filter_more invariants imports k missing_item c.loop-i-test.true, left)
          (ap (map place) (sym (append-nil (filter invariants (take k imports)))))
    ]

pub bounds-new_numbers-i : goal.bounds-new_numbers-i
bounds-new_numbers-i c = grind (arith, common_steps)

pub bounds-new_numbers-i-then-is_internal : goal.bounds-new_numbers-i-then-is_internal
bounds-new_numbers-i-then-is_internal c = grind (arith, common_steps)

pub returns : goal.returns
returns c = grind (arith, common_steps)
