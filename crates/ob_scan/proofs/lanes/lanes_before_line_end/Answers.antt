use Rattle.std.proofs.Common.{ℕ, refl, ◌∙◌}
use Rattle.std.proofs.lemmas.Simd.{zip2_splat, length-chunk}
use lib.Lanes.{chunk}
use Rattle.ob_scan.specs.Lexemes.{ends_no_line}
use Rattle.texts.proofs.LaneRuns.{joined, run_is}
use Rattle.ob_scan.proofs.lanes.lanes_before_line_end.Goals as goal

pub returns : goal.returns
returns c =
    let v = chunk c.args.at 16 c.args.bytes.now in
    let long = length-chunk c.args.at 16 c.args.bytes.now c.requires in
    c.lanes_before_bit.ensures ∙ run_is ends_no_line c.args.bytes.now c.args.at _ c.requires c.type_inv.bytes _
    (joined _ _ _ v (zip2_splat {Y = ℕ} _ v 16 10 long) (zip2_splat {Y = ℕ} _ v 16 13 long)) refl
