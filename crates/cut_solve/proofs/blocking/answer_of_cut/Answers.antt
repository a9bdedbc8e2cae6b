use Rattle.cut_net.specs.Answers.{cut_claim}
use Rattle.cut_solve.proofs.blocking.answer_of_cut.Goals as goal

pub returns-clause-answer : goal.returns-clause-answer
returns-clause-answer c =
    c.answer_stays_right_with_pins.ensures.answer c.args.net.now c.args.from c.args.to (cut_claim c.args.cut) c.invariants.ensures.pins c.requires.free c.requires.answer c.requires.cheapest

pub returns-clause-cheapest : goal.returns-clause-cheapest
returns-clause-cheapest c =
    c.answer_stays_right_with_pins.ensures.cheapest c.args.net.now c.args.from c.args.to (cut_claim c.args.cut) c.invariants.ensures.pins c.requires.free c.requires.answer c.requires.cheapest
