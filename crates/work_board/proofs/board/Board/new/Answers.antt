use Rattle.std.proofs.Common.{ℕ, false, length, map, ap, ◌∙◌, subst}
use Rattle.std.specs.Prelude.{None, replicate}
use Rattle.work_board.specs.declared.state.State.TheVariants.{Waiting}
use Rattle.work_board.specs.Graphs.{lists, Modules}
use Rattle.work_board.specs.Keeping.{state_after_delivery, taken, IsValidBoard}
use Rattle.work_board.proofs.Opening.{core_same, first_claimed, opened}
use Rattle.work_board.proofs.board.Board.new.Goals as goal

pub invariant_of-result : goal.invariant_of-result
invariant_of-result g c =
    let t = c.args.graph.now in
    let counts = c.in_ok-waiting.waiting.items in
    let start = opened g.E.WorkEntry.is_of t counts c.in_ok-waiting.ensures.size c.in_ok-waiting.ensures.counts c.invariants.ensures.size in (
      c.requires,
      subst (λ (u : Modules). IsValidBoard g.E.WorkEntry.is_of u counts c.in_ok-states.states.items (lists c.in_ok-reached.reached.items) c.in_ok-spare.spare.items c.in_ok-entries.entries.items) c.requires
          (rw (c.in_ok-states.ensures, c.as_slice.ensures.value, c.in_ok-reached.ensures, c.in_ok-spare.ensures, c.in_ok-entries.ensures, c.modules-count.ensures) start),
    )

pub returns : goal.returns
returns g c =
    let counts = c.in_ok-waiting.waiting.items in
    let names = ap (λ (u : Modules). length u.names) c.requires in
    core_same c.in_ok-entries.entries.items (replicate (length g.T.NamedTree.graph.names) None) (map taken c.in_ok-states.states.items) (replicate (length g.T.NamedTree.graph.names) false) false
    (c.in_ok-entries.ensures ∙ ap (λ (n : ℕ). replicate n None) (c.modules-count.ensures ∙ names))
    (ap (map taken) (c.in_ok-states.ensures ∙ ap (map (state_after_delivery Waiting)) c.as_slice.ensures.value) ∙ first_claimed counts ∙ ap (λ (n : ℕ). replicate n false) (c.in_ok-waiting.ensures.size ∙ names))
