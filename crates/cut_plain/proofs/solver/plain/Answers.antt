use Rattle.cut_net.specs.Answers.{answer_claim}
use Rattle.cut_solve.proofs.Needing.{are_needed}
use Rattle.cut_plain.proofs.solver.plain.Goals as goal

pub returns-in-Some-clause-needed : goal.returns-in-Some-clause-needed
returns-in-Some-clause-needed c =
    are_needed c.args.net.now c.invariants.ensures.network c.invariants.ensures.pins c.args.from.now c.args.to.now c.in_ok-from.from c.in_ok-to.to (answer_claim c.in-Some.answer)
    c.in_ok-from.ensures c.in_ok-to.ensures (rw c.in-Some.is at c.in_ok-answer.ensures.answer)

pub returns-clause-needed : goal.returns-clause-needed
returns-clause-needed c =
    are_needed c.args.net.now c.invariants.ensures.network c.invariants.ensures.pins c.args.from.now c.args.to.now c.in_ok-from.from c.in_ok-to.to (answer_claim c.answer_of_cut.result)
    c.in_ok-from.ensures c.in_ok-to.ensures c.answer_of_cut.ensures.answer
