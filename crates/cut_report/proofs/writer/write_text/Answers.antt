use Rattle.std.proofs.Common.{◌++◌, [], ◌∷◌, ◌∙◌, append-nil, refl, sym}
use Rattle.std.specs.String.{string_bytes}
use Rattle.std.proofs.lemmas.Result.{err_from_is_err_and}
use Rattle.byte_sink.proofs.Joining.{front_joined, front_more, joined, puts_then}
use Rattle.cut_net.specs.Answers.{answer_claim}
use Rattle.cut_net.specs.Network.{name_of}
use Rattle.cut_report.specs.Reading.{claim_of}
use Rattle.cut_report.specs.ReportLine.{Ends, Last, answer_lines, written}
use Rattle.cut_report.proofs.ReportPieces.{all_lines, line}
use Rattle.cut_report.proofs.writer.write_text.Goals as goal

pub returns-in_err-write_line-clause-writes : goal.returns-in_err-write_line-clause-writes
returns-in_err-write_line-clause-writes g c =
    let p = err_from_is_err_and c.from_residual.result c.from_residual.ensures.1 in
    let net = c.args.net.now in
    rw p.1 (front_more _ _ [] (line (Ends (name_of net c.args.from) (name_of net c.args.to))) (written (answer_lines net (answer_claim c.args.answer.now) ++ Last ∷ [])) _ refl
    (rw (c.new-text.ensures.bytes, c.name.ensures, c.name-2.ensures) at c.in_err-write_line.ensures.error_prefix))

pub returns-in_err-write_answer-clause-writes : goal.returns-in_err-write_answer-clause-writes
returns-in_err-write_answer-clause-writes g c =
    let p = err_from_is_err_and c.from_residual-in_err-write_answer.result c.from_residual-in_err-write_answer.ensures.1 in
    let net = c.args.net.now in
    let first = rw (c.new-text.ensures.bytes, c.name.ensures, c.name-2.ensures) at c.in_ok-write_line.ensures.gathered in
    rw p.1 (front_joined _ _ _ [] (line (Ends (name_of net c.args.from) (name_of net c.args.to))) (written (answer_lines net (answer_claim c.args.answer.now))) (string_bytes c.write_line.new.text)
    (line Last) _ (all_lines net (claim_of c.args.from c.args.to c.args.answer.now)) first c.in_err-write_answer.ensures.error_prefix)

pub returns-in_err-write_line-2-clause-writes : goal.returns-in_err-write_line-2-clause-writes
returns-in_err-write_line-2-clause-writes g c =
    let p = err_from_is_err_and c.from_residual-in_err-write_line-2.result c.from_residual-in_err-write_line-2.ensures.1 in
    let net = c.args.net.now in
    let ends = line (Ends (name_of net c.args.from) (name_of net c.args.to)) in
    let claim = written (answer_lines net (answer_claim c.args.answer.now)) in
    let first = rw (c.new-text.ensures.bytes, c.name.ensures, c.name-2.ensures) at c.in_ok-write_line.ensures.gathered in
    let both = joined _ _ _ [] ends claim (string_bytes c.write_line.new.text) (string_bytes c.write_answer.new.text) (ends ++ claim) refl first c.in_ok-write_answer.ensures.gathered in
    rw p.1 (front_joined _ _ _ [] (ends ++ claim) (line Last) (string_bytes c.write_answer.new.text) [] _
    (all_lines net (claim_of c.args.from c.args.to c.args.answer.now) ∙ sym (append-nil ((ends ++ claim) ++ line Last))) both c.in_err-write_line-2.ensures.error_prefix)

pub returns-clause-writes : goal.returns-clause-writes
returns-clause-writes g c =
    let net = c.args.net.now in
    let ends = line (Ends (name_of net c.args.from) (name_of net c.args.to)) in
    let claim = written (answer_lines net (answer_claim c.args.answer.now)) in
    let first = rw (c.new-text.ensures.bytes, c.name.ensures, c.name-2.ensures) at c.in_ok-write_line.ensures.gathered in
    let both = joined _ _ _ [] ends claim (string_bytes c.write_line.new.text) (string_bytes c.write_answer.new.text) (ends ++ claim) refl first c.in_ok-write_answer.ensures.gathered in
    let all = joined _ _ _ [] (ends ++ claim) (line Last) (string_bytes c.write_answer.new.text) (string_bytes c.write_line-2.new.text) _
    (all_lines net (claim_of c.args.from c.args.to c.args.answer.now)) both c.in_ok-write_line-2.ensures.gathered in
    puts_then _ _ _ _ (string_bytes c.write_line-2.new.text) c.write_fully.result all (rw c.as_bytes.ensures.value at c.write_fully.ensures.writes)
