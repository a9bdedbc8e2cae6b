use Rattle.std.proofs.Common.{◌≡◌, ◌∙◌, ◌&&◌, ℕ, Bool, List, ap, subst, length, map}
use Rattle.cut_net.specs.declared.priced.Priced.{Priced}
use Rattle.residual_graph.specs.Graphs.{is_flagged}
use Rattle.cut_part.specs.Marks.{AreReachable}
use Rattle.cut_part.specs.Reversal.{reversed}
use Rattle.cut_part.proofs.Reversal.{between_turned}
use Rattle.cut_part.proofs.Marking.{both_between}
use Rattle.cut_part.proofs.part.flag_modules_on_paths.Goals as goal

pub mark_reachable-requires-clause-between : goal.mark_reachable-requires-clause-between
mark_reachable-requires-clause-between c = rw (c.imports.ensures, c.nodes.ensures) c.invariants.ensures.network.between

pub mark_reachable-requires-2-clause-between : goal.mark_reachable-requires-2-clause-between
mark_reachable-requires-2-clause-between c =
    rw (c.deref.ensures.value, c.in_ok-reversed.ensures, c.imports-2.ensures, c.nodes-2.ensures)
    (between_turned c.args.net.now.imports (length c.args.net.now.names) c.invariants.ensures.network.between)

pub returns-clause-between : goal.returns-clause-between
returns-clause-between c =
    let net = c.args.net.now in
    let forth = c.in_ok-forth.forth.items in
    let back = c.in_ok-back.back.items in
    let marks = c.in_ok-marks.marks.items in
    let from_a : AreReachable net.imports c.args.from forth = subst (λ (v : List Priced). AreReachable v c.args.from forth) c.imports.ensures c.in_ok-forth.ensures.mark_reachable in
    let to_b : AreReachable (map reversed net.imports) c.args.to back =
    subst (λ (v : List Priced). AreReachable v c.args.to back) (c.deref.ensures.value ∙ c.in_ok-reversed.ensures ∙ ap (λ (v : List Priced). map reversed v) c.imports-2.ensures) c.in_ok-back.ensures.mark_reachable in
    let flags_in_both : (m : ℕ) → is_flagged marks m ≡ (is_flagged forth m && is_flagged back m) =
    λ m. c.in_ok-marks.ensures.flags_in_both m ∙ ap (λ (v : List Bool). is_flagged v m && is_flagged c.deref-3.result.now m) c.deref-2.ensures.value ∙ ap (λ (v : List Bool). is_flagged forth m && is_flagged v m) c.deref-3.ensures.value in
    both_between net c.args.from c.args.to forth back marks from_a to_b flags_in_both
