use Rattle.std.proofs.Common.{ap, sym, ◌∙◌}
use Rattle.std.specs.String.{string_bytes}
use Rattle.cut_net.specs.Answers.{answer_claim}
use Rattle.cut_net.specs.AnswerClaim.{BlockedBy}
use Rattle.cut_report.specs.ReportLine.{answer_lines, written}
use Rattle.byte_sink.proofs.Joining.{broken_as, gathered_as}
use Rattle.cut_report.proofs.writer.write_answer.Goals as goal

pub returns-in-Blocked-clause-gathered : goal.returns-in-Blocked-clause-gathered
returns-in-Blocked-clause-gathered g c =
    let lines = ap (λ chain. written (answer_lines c.args.net.now (BlockedBy chain))) c.deref.ensures.value ∙ ap (λ answer. written (answer_lines c.args.net.now (answer_claim answer))) (sym c.in-Blocked.is) in
    gathered_as _ _ (string_bytes c.args.text.now) _ _ _ c.write_pin_chain.result lines c.write_pin_chain.ensures.gathered

pub returns-in-Blocked-clause-error_prefix : goal.returns-in-Blocked-clause-error_prefix
returns-in-Blocked-clause-error_prefix g c =
    let lines = ap (λ chain. written (answer_lines c.args.net.now (BlockedBy chain))) c.deref.ensures.value ∙ ap (λ answer. written (answer_lines c.args.net.now (answer_claim answer))) (sym c.in-Blocked.is) in
    broken_as _ _ (string_bytes c.args.text.now) _ _ c.write_pin_chain.result lines c.write_pin_chain.ensures.error_prefix
