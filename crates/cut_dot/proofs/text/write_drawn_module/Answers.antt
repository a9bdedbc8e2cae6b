use Rattle.std.proofs.Common.{◌≡◌, ◌++◌, if◌then◌else◌, [], rules}
use Rattle.std.specs.String.{string_bytes}
use Rattle.byte_sink.proofs.Joining.{broken_as}
use Rattle.residual_graph.specs.Graphs.{is_flagged}
use Rattle.cut_dot.specs.Pictures.{is_drawn}
use Rattle.cut_dot.specs.Texts.{line_of_module}
use Rattle.cut_dot.proofs.text.write_drawn_module.Goals as goal

pub returns-then-marks-node-clause-error_prefix : goal.returns-then-marks-node-clause-error_prefix
returns-then-marks-node-clause-error_prefix g c =
    let line = line_of_module c.args.net.now c.args.from c.args.to (is_flagged c.args.reached.now) c.args.node in
    let whole = string_bytes c.args.text.now ++ (if is_drawn c.args.from c.args.to (is_flagged c.args.marks.now) c.args.node then line else []) in
    let same : string_bytes c.append_module.new.text ≡ whole = search rules in
    broken_as _ _ [] (string_bytes c.append_module.new.text) whole c.flush_if_full.result same c.flush_if_full.ensures.error_prefix
