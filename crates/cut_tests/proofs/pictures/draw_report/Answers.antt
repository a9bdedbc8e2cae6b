use Rattle.std.proofs.Common.{arith}
use Rattle.cut_net.specs.declared.answer.Answer.{Answer}
use Rattle.cut_net.specs.declared.answer.Answer.TheVariants as answers
use Rattle.cut_net.specs.Answers.{answer_claim}
use Rattle.cut_net.specs.Lines.{IsAscending}
use Rattle.cut_net.specs.Network.{Network}
use Rattle.cut_report.specs.ReportText.{IsWellFormedAnswer}
use Rattle.cut_dot.specs.Pictures.{answer_flow, answer_removed}
use Rattle.cut_tests.proofs.pictures.draw_report.Goals as goal

-- the lines of an answer that a report may give ascend
removed_ascend : (net : Network) (answer : Answer) → IsWellFormedAnswer net (answer_claim answer) → IsAscending (answer_removed answer)
removed_ascend net (answers.Cut cut) says = says.printed_in_order
removed_ascend net (answers.Blocked chain) says = λ j k d lt within. absurd (omega arith)

flow_ascends : (net : Network) (answer : Answer) → IsWellFormedAnswer net (answer_claim answer) → IsAscending (answer_flow answer)
flow_ascends net (answers.Cut cut) says = says.flow_in_order
flow_ascends net (answers.Blocked chain) says = λ j k d lt within. absurd (omega arith)

pub draw_flow-requires-clause-from : goal.draw_flow-requires-clause-from
draw_flow-requires-clause-from c = c.in-Ok.ensures.exact.report.from

pub draw_flow-requires-clause-to : goal.draw_flow-requires-clause-to
draw_flow-requires-clause-to c = c.in-Ok.ensures.exact.report.to

pub draw_flow-requires-clause-removed : goal.draw_flow-requires-clause-removed
draw_flow-requires-clause-removed c = removed_ascend c.args.net.now c.in-Ok.report.answer c.in-Ok.ensures.exact.report.says

pub draw_flow-requires-clause-flow : goal.draw_flow-requires-clause-flow
draw_flow-requires-clause-flow c = flow_ascends c.args.net.now c.in-Ok.report.answer c.in-Ok.ensures.exact.report.says
