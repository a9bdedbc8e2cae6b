use Rattle.std.proofs.Common.{length, rules, arith}
use Rattle.std.proofs.lemmas.Result.{err_from_is_err_and}
use Rattle.std.specs.String.{string_bytes}
use Rattle.byte_sink.proofs.Joining.{front_joined, joined}
use Rattle.residual_graph.specs.Graphs.{is_flagged}
use Rattle.cut_dot.specs.Pictures.{is_drawn}
use Rattle.cut_dot.specs.Texts.{line_of_module}
use Rattle.cut_dot.proofs.Passing.{number_around, one_counted}
use Rattle.cut_dot.proofs.text.write_modules.Goals as goal

pub returns-in_err-write_drawn_module-clause-error_prefix : goal.returns-in_err-write_drawn_module-clause-error_prefix
returns-in_err-write_drawn_module-clause-error_prefix g c =
    let p = err_from_is_err_and c.from_residual.result c.from_residual.ensures.1 in
    let line = line_of_module c.args.net.now c.args.from c.args.to (is_flagged c.args.reached.now) in
    let around = number_around line (is_drawn c.args.from c.args.to (is_flagged c.args.marks.now)) (length c.args.net.now.names) c.loop-node.node (omega arith) in
    rw p.1 (front_joined _ _ _ (string_bytes c.args.text.now) _ _ (string_bytes c.loop-node.text) _ _ around c.loop-node.invariant.gathered c.in_err-write_drawn_module.ensures.error_prefix)

pub loop-node-preserved : goal.loop-node-preserved
loop-node-preserved g c =
    let line = line_of_module c.args.net.now c.args.from c.args.to (is_flagged c.args.reached.now) in
    let more = one_counted line (is_drawn c.args.from c.args.to (is_flagged c.args.marks.now)) c.loop-node.node in
    record {
      gathered = joined _ _ _ (string_bytes c.args.text.now) _ _ (string_bytes c.loop-node.text) (string_bytes c.write_drawn_module.new.text) _ more c.loop-node.invariant.gathered c.in_ok-write_drawn_module.ensures.gathered;
      failures = search rules;
    }
