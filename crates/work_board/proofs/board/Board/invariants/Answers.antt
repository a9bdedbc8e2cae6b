use Rattle.std.proofs.Common.{◌≡◌, true, length, sym, subst}
use Rattle.work_board.specs.Graphs.{lists, IsGraph}
use Rattle.work_board.specs.Cores.{has_entry, is_claimed}
use Rattle.work_board.proofs.Descending.{goes_on}
use Rattle.work_board.proofs.Reaching.{reaches_there}
use Rattle.work_board.proofs.board.Board.invariants.Goals as goal

pub returns-clause-reached : goal.returns-clause-reached
returns-clause-reached g c = λ n v claimed r.
    let b = c.self.inside in
    subst (λ core. has_entry core.entries v ≡ true) c.self.view_is
    (reaches_there g.E.WorkEntry.is_of g.T.NamedTree.graph b.waiting.items b.states.items (lists b.reached.items) b.spare.items b.entries.items c.self.invariant.1
    (subst IsGraph c.self.invariant.0 c.invariants.ensures) b.abandoned n v (subst (λ core. is_claimed core n ≡ true) (sym c.self.view_is) claimed) r)

pub returns-clause-goes_on : goal.returns-clause-goes_on
returns-clause-goes_on g c = λ acyclic idle none.
    let size = subst (λ core. length core.entries ≡ length g.T.NamedTree.graph.names) c.self.view_is c.self.invariant.1.entries_size in
    goes_on g.T.NamedTree.graph (subst IsGraph c.self.invariant.0 c.invariants.ensures) acyclic c.args.self.now size idle none
