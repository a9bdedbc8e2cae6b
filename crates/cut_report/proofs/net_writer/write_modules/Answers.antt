use Rattle.std.proofs.Common.{[], rules, arith}
use Rattle.std.proofs.lemmas.Result.{err_from_is_err_and}
use Rattle.cut_net.specs.NetText.{Module}
use Rattle.cut_report.specs.NetLines.{ended_line}
use Rattle.byte_sink.proofs.Joining.{front_joined, joined, lines_around, lines_more}
use Rattle.cut_report.proofs.net_writer.write_modules.Goals as goal

pub returns-in_err-write_line-clause-error_prefix : goal.returns-in_err-write_line-clause-error_prefix
returns-in_err-write_line-clause-error_prefix g c =
    let p = err_from_is_err_and c.from_residual.result c.from_residual.ensures.1 in
    let around = lines_around Module ended_line c.args.net.now.names c.loop-node.node [] (omega arith) in
    rw p.1 (front_joined _ _ _ _ _ _ _ _ _ around c.loop-node.invariant.gathered (rw c.name.ensures at c.in_err-write_line.ensures.error_prefix))

pub loop-node-preserved : goal.loop-node-preserved
loop-node-preserved g c =
    let more = lines_more Module ended_line c.args.net.now.names c.loop-node.node [] (omega arith) in
    record {
      gathered = joined _ _ _ _ _ _ _ _ _ more c.loop-node.invariant.gathered (rw c.name.ensures at c.in_ok-write_line.ensures.gathered);
      failures = search rules;
    }
