use Rattle.std.proofs.Common.{◌≡◌, true, false, List, Bool, ◌++◌, length, map, take, drop, ap, ◌∙◌, subst}
use Rattle.std.specs.Prelude.{is_some, slice_index_or}
use Rattle.work_board.specs.Graphs.{lists}
use Rattle.work_board.specs.Keeping.{state_after_release, taken}
use Rattle.work_board.proofs.Marking.{restored}
use Rattle.work_board.proofs.Resting.{back_claimed, back_idle, back_kept}
use Rattle.work_board.proofs.board.Board.release_claims.Goals as goal

now : (g : _) (c : goal.After-self-1 g) → take c.self.inside.states.len (c.free_all_claimed.new.states ++ drop (length c.free_all_claimed.new.states) c.self.inside.states.items) ≡ map state_after_release c.self.inside.states.items
now g c =
    let old = c.self.inside.states in
    restored old.len c.free_all_claimed.new.states old.items (c.free_all_claimed.auto.states ∙ ap length c.as_mut_slice.ensures.value) old.ok.0
    ∙ c.free_all_claimed.ensures ∙ ap (map state_after_release) c.as_mut_slice.ensures.value

claimed : (g : _) (c : goal.After-self-1 g) → map taken (take c.self.inside.states.len (c.free_all_claimed.new.states ++ drop (length c.free_all_claimed.new.states) c.self.inside.states.items)) ≡ map is_some c.self.inside.entries.items
claimed g c =
    let b = c.self.inside in
    ap (map taken) (now g c) ∙ back_claimed g.E.WorkEntry.is_of g.T.NamedTree.graph b.waiting.items b.states.items (lists b.reached.items) b.spare.items b.entries.items c.self.invariant.1

pub invariant_of-self : goal.invariant_of-self
invariant_of-self g c =
    let b = c.self.inside in
    (c.self.invariant.0, rw (now g c) (back_kept g.E.WorkEntry.is_of g.T.NamedTree.graph b.waiting.items b.states.items (lists b.reached.items) b.spare.items b.entries.items c.self.invariant.1))

pub returns-clause-idle : goal.returns-clause-idle
returns-clause-idle g c = λ n is_so.
    let b = c.self.inside in
    back_idle (record { entries = b.entries.items; claimed = map is_some b.entries.items; abandoned = b.abandoned }) n
    (subst (λ (cs : List Bool). slice_index_or cs n false ≡ true) (claimed g c) is_so)

pub returns-clause-back : goal.returns-clause-back
returns-clause-back g c =
    let b = c.self.inside in
    rw (← c.self.view_is) (ap (λ (cs : List Bool). record { entries = b.entries.items; claimed = cs; abandoned = b.abandoned }) (claimed g c))
