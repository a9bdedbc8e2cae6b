use Rattle.std.proofs.Common.{◌≡◌, ◌<◌, ℕ, Bool, true, List, length, sym, ap, ◌∙◌, subst, arith}
use Rattle.std.specs.Prelude.{◌↔◌}
use Rattle.std.proofs.lemmas.List.{length-map, map-set}
use Rattle.work_board.specs.declared.state.State.TheVariants.{Claimed}
use Rattle.work_board.specs.Graphs.{lists, list_at, IsGraph, Modules}
use Rattle.work_board.specs.Cores.{IsReady}
use Rattle.work_board.specs.Marks.{marked, IsReachedBy}
use Rattle.work_board.specs.Keeping.{taken}
use Rattle.work_board.proofs.Claiming.{ready_free}
use Rattle.work_board.proofs.Holding.{held_kept}
use Rattle.std.proofs.lemmas.Grind.{common_steps}
use Rattle.work_board.proofs.board.Board.claim_ready.Goals as goal

pub invariant_of-self : goal.invariant_of-self
invariant_of-self g c =
    let b = c.self.inside in
    let kept = c.self.invariant.1 in
    let t = g.T.NamedTree.graph in
    let n = c.args.number in
    let new = c.replace_reached_flags.new in
    let ready = subst (λ core. IsReady t.imports core n) (sym c.self.view_is) c.requires in
    let at = ready_free g.E.WorkEntry.is_of t b.waiting.items b.states.items (lists b.reached.items) b.spare.items b.entries.items kept b.abandoned n ready in
    let r_size : length (lists new.reached.items) ≡ length (lists b.reached.items) =
    length-map new.reached.items (λ r. r.items) ∙ sym new.reached.ok.0 ∙ c.replace_reached_flags.ensures.size ∙ b.reached.ok.0 ∙ sym (length-map b.reached.items (λ r. r.items)) in
    let p_size : length new.spare.items ≡ length b.spare.items = sym new.spare.ok.0 ∙ c.replace_reached_flags.ensures.spare ∙ b.spare.ok.0 in
    let imports : c.imports_of.result.now ≡ list_at t.imports n = c.imports_of.ensures ∙ ap (λ (u : Modules). list_at u.imports n) c.self.invariant.0 in
    let filled : (v : ℕ) → v < length b.spare.items → (marked (list_at (lists new.reached.items) n) v ≡ true) ↔ IsReachedBy (lists b.reached.items) (list_at t.imports n) v = λ v lt.
    subst (λ row. (marked (list_at (lists new.reached.items) n) v ≡ true) ↔ IsReachedBy (lists b.reached.items) row v) imports (c.replace_reached_flags.ensures.filled v (subst (λ (k : ℕ). v < k) (sym b.spare.ok.0) lt)) in (
      c.self.invariant.0,
      held_kept g.E.WorkEntry.is_of t b.waiting.items b.states.items (lists b.reached.items) b.spare.items b.entries.items kept n at.0 at.1 (subst IsGraph c.self.invariant.0 c.invariants.ensures)
          (lists new.reached.items) new.spare.items r_size p_size c.replace_reached_flags.ensures.others filled (c.replace_reached_flags.ensures.long ∙ b.spare.ok.0),
    )

pub returns : goal.returns
returns g c =
    let b = c.self.inside in
    rw (← c.self.view_is) (ap (λ (cs : List Bool). record { entries = b.entries.items; claimed = cs; abandoned = b.abandoned }) (map-set taken b.states.items c.args.number Claimed))

pub replace_reached_flags-requires-clause-place : goal.replace_reached_flags-requires-clause-place
replace_reached_flags-requires-clause-place g c = grind (arith, common_steps)

pub replace_reached_flags-requires-clause-width : goal.replace_reached_flags-requires-clause-width
replace_reached_flags-requires-clause-width g c = grind (arith, common_steps)

pub replace_reached_flags-requires-clause-size : goal.replace_reached_flags-requires-clause-size
replace_reached_flags-requires-clause-size g c = grind (arith, common_steps)
