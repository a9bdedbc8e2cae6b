use Rattle.std.proofs.Common.{◌≡◌, ◌++◌, if◌then◌else◌, [], rules}
use Rattle.std.specs.String.{string_bytes}
use Rattle.byte_sink.proofs.Joining.{broken_as}
use Rattle.cut_part.specs.Subnetworks.{are_ends_in}
use Rattle.residual_graph.specs.Graphs.{is_flagged}
use Rattle.cut_dot.specs.Texts.{line_of_import}
use Rattle.cut_dot.proofs.text.write_internal_import.Goals as goal

pub returns-then-marks-import-clause-error_prefix : goal.returns-then-marks-import-clause-error_prefix
returns-then-marks-import-clause-error_prefix g c =
    let line = line_of_import c.args.net.now c.args.removed.now c.args.flow.now c.args.import in
    let whole = string_bytes c.args.text.now ++ (if are_ends_in (is_flagged c.args.marks.now) c.args.import then line else []) in
    let same : string_bytes c.append_import.new.text ≡ whole = search rules in
    broken_as _ _ [] (string_bytes c.append_import.new.text) whole c.flush_if_full.result same c.flush_if_full.ensures.error_prefix
