use Rattle.std.proofs.Common.{◌≡◌, sym, ap, ◌∙◌, arith}
use Rattle.std.proofs.lemmas.Slice.Eq.{bytes_eq-Decides}
use Rattle.work_board.specs.Graphs.{lists, list_at}
use Rattle.work_board.specs.Keeping.{state_at}
use Rattle.work_board.specs.declared.state.State.TheVariants.{Claimed}
use Rattle.work_board.proofs.Claiming.{claimed_core}
use Rattle.std.proofs.lemmas.Grind.{common_steps}
use Rattle.work_board.proofs.board.Board.delivery_fault.Goals as goal

pub returns-then-eq-clause-fits_state : goal.returns-then-eq-clause-fits_state
returns-then-eq-clause-fits_state g c =
    let b = c.self.inside in
    let at_n : state_at b.states.items c.args.number ≡ Claimed = ap (λ ss. state_at ss c.args.number) (sym c.as_slice.ensures.value) ∙ sym c.state_of.ensures.value ∙ c.in-Claimed.is in
    let core = claimed_core g.E.WorkEntry.is_of g.T.NamedTree.graph b.waiting.items b.states.items (lists b.reached.items) b.spare.items b.entries.items c.self.invariant.1 b.abandoned c.args.number at_n in
    let same : c.name-name.result.now ≡ c.name.result.now = (bytes_eq-Decides c.name-name.result.now c.name.result.now).0 (sym c.eq.ensures ∙ c.if-eq.true) in
    rw (← c.self.view_is) (core.0, core.1, sym c.name-name.ensures.name ∙ same ∙ c.name.ensures ∙ ap (λ m. list_at m.names c.args.number) c.self.invariant.0)

pub returns-else-eq-clause-fits_state : goal.returns-else-eq-clause-fits_state
returns-else-eq-clause-fits_state g c =
    let b = c.self.inside in
    let at_n : state_at b.states.items c.args.number ≡ Claimed = ap (λ ss. state_at ss c.args.number) (sym c.as_slice.ensures.value) ∙ sym c.state_of.ensures.value ∙ c.in-Claimed.is in
    let core = claimed_core g.E.WorkEntry.is_of g.T.NamedTree.graph b.waiting.items b.states.items (lists b.reached.items) b.spare.items b.entries.items c.self.invariant.1 b.abandoned c.args.number at_n in
    let name_is : c.name.result.now ≡ list_at g.T.NamedTree.graph.names c.args.number = c.name.ensures ∙ ap (λ m. list_at m.names c.args.number) c.self.invariant.0 in
    rw (← c.self.view_is) (
      core.0,
      core.1,
      (λ f.
          let same : c.name-name.result.now ≡ c.name.result.now = c.name-name.ensures.name ∙ f ∙ sym name_is in
          let test = (bytes_eq-Decides c.name-name.result.now c.name.result.now).1 same in
          let is_not = sym c.eq.ensures in
          let fails = c.if-eq.false in
          cc),
    )

pub returns-in-Waiting-clause-fits_state : goal.returns-in-Waiting-clause-fits_state
returns-in-Waiting-clause-fits_state g c = grind (arith, common_steps)

pub returns-in-Free-clause-fits_state : goal.returns-in-Free-clause-fits_state
returns-in-Free-clause-fits_state g c = grind (arith, common_steps)

pub returns-in-Delivered-clause-fits_state : goal.returns-in-Delivered-clause-fits_state
returns-in-Delivered-clause-fits_state g c = grind (arith, common_steps)
