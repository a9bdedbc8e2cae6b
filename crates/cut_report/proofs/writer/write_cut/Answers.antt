use Rattle.std.proofs.Common.{◌++◌, [], ◌∙◌, append-nil, map, sym, refl}
use Rattle.std.specs.String.{string_bytes}
use Rattle.std.proofs.lemmas.Result.{err_from_is_err_and, IfErr-weaker}
use Rattle.byte_sink.proofs.Joining.{front_joined, front_more, joined}
use Rattle.cut_report.specs.ReportLine.{Weighs, flows, removes, written}
use Rattle.cut_report.proofs.ReportPieces.{cut_lines, line}
use Rattle.cut_report.proofs.Words.{on_ok}
use Rattle.cut_report.proofs.writer.write_cut.Goals as goal

pub write_removes-requires : goal.write_removes-requires
write_removes-requires g c = rw c.as_slice.ensures.value c.requires.printed_between

pub write_flows-requires : goal.write_flows-requires
write_flows-requires g c = rw c.as_slice-2.ensures.value c.requires.flow_between

pub returns-in_err-write_line-clause-error_prefix : goal.returns-in_err-write_line-clause-error_prefix
returns-in_err-write_line-clause-error_prefix g c =
    let p = err_from_is_err_and c.from_residual.result c.from_residual.ensures.1 in
    let net = c.args.net.now in
    let cut = c.args.cut.now in
    rw p.1 (front_more _ _ (string_bytes c.args.text.now) (line (Weighs cut.weight)) (written (map (removes net) cut.imports.items ++ map (flows net) cut.flow.items)) _ refl c.in_err-write_line.ensures.error_prefix)

pub returns-in_err-write_removes-clause-error_prefix : goal.returns-in_err-write_removes-clause-error_prefix
returns-in_err-write_removes-clause-error_prefix g c =
    let p = err_from_is_err_and c.from_residual-in_err-write_removes.result c.from_residual-in_err-write_removes.ensures.1 in
    let net = c.args.net.now in
    let cut = c.args.cut.now in
    rw p.1 (front_joined _ _ _ (string_bytes c.args.text.now) (line (Weighs cut.weight)) (written (map (removes net) cut.imports.items)) (string_bytes c.write_line.new.text)
    (written (map (flows net) cut.flow.items)) _ (cut_lines net cut.weight cut.imports.items cut.flow.items) c.in_ok-write_line.ensures.gathered
    (rw c.as_slice.ensures.value at c.in_err-write_removes.ensures.error_prefix))

pub returns-clause-gathered : goal.returns-clause-gathered
returns-clause-gathered g c =
    let net = c.args.net.now in
    let cut = c.args.cut.now in
    let start = string_bytes c.args.text.now in
    let weight = line (Weighs cut.weight) in
    let removed = written (map (removes net) cut.imports.items) in
    let first = joined _ _ _ start weight removed (string_bytes c.write_line.new.text) (string_bytes c.write_removes.new.text) (weight ++ removed) refl c.in_ok-write_line.ensures.gathered
    (rw c.as_slice.ensures.value at c.in_ok-write_removes.ensures.gathered) in
    on_ok _ _ c.write_flows.result
    (joined _ _ _ start (weight ++ removed) (written (map (flows net) cut.flow.items)) (string_bytes c.write_removes.new.text) (string_bytes c.write_flows.new.text) _
    (cut_lines net cut.weight cut.imports.items cut.flow.items) first)
    (rw c.as_slice-2.ensures.value at c.write_flows.ensures.gathered)

pub returns-clause-error_prefix : goal.returns-clause-error_prefix
returns-clause-error_prefix g c =
    let net = c.args.net.now in
    let cut = c.args.cut.now in
    let start = string_bytes c.args.text.now in
    let weight = line (Weighs cut.weight) in
    let removed = written (map (removes net) cut.imports.items) in
    let flown = written (map (flows net) cut.flow.items) in
    let first = joined _ _ _ start weight removed (string_bytes c.write_line.new.text) (string_bytes c.write_removes.new.text) (weight ++ removed) refl c.in_ok-write_line.ensures.gathered
    (rw c.as_slice.ensures.value at c.in_ok-write_removes.ensures.gathered) in
    IfErr-weaker c.write_flows.result _ _
    (λ fault. front_joined _ _ _ start (weight ++ removed) flown (string_bytes c.write_removes.new.text) [] _
    (cut_lines net cut.weight cut.imports.items cut.flow.items ∙ sym (append-nil ((weight ++ removed) ++ flown))) first)
    (rw c.as_slice-2.ensures.value at c.write_flows.ensures.error_prefix)
