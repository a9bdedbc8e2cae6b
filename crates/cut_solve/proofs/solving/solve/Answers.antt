use Rattle.cut_net.specs.Answers.{answer_claim}
use Rattle.cut_solve.proofs.Needing.{are_needed}
use Rattle.cut_solve.proofs.solving.solve.Goals as goal

pub returns-clause-needed : goal.returns-clause-needed
returns-clause-needed g c =
    are_needed c.args.net.now c.invariants.ensures.network c.invariants.ensures.pins c.args.from.now c.args.to.now c.in_ok-from.from c.in_ok-to.to (answer_claim c.in_ok-answer_between.field-0)
    c.in_ok-from.ensures c.in_ok-to.ensures c.in_ok-answer_between.ensures.answer
