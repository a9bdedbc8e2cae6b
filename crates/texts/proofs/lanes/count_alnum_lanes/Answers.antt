use Rattle.std.proofs.Common.{ℕ, cond, ltb, bit_and, bit_or, refl, ◌∙◌}
use Rattle.std.proofs.lemmas.Simd.{zip2_splat, length-chunk}
use lib.Lanes.{chunk}
use Rattle.std.specs.Char.{is_ascii_alphanumeric}
use Rattle.texts.proofs.LaneRuns.{joined, from_splat, run_is}
use Rattle.texts.proofs.lanes.count_alnum_lanes.Goals as goal

pub returns : goal.returns
returns c =
    let v = chunk 0 16 c.args.bytes.now in
    let long = length-chunk 0 16 c.args.bytes.now c.requires in
    let less = λ (a b : ℕ). cond (ltb a b) 255 0 in
    let above = λ (y : ℕ). from_splat less v 16 y long in
    let below = λ (y : ℕ). zip2_splat less v 16 y long in
    c.lanes_before_bit.ensures ∙ run_is is_ascii_alphanumeric c.args.bytes.now 0 _ c.requires c.type_inv.bytes _
    (joined bit_or _ _ v (joined bit_or _ _ v (joined bit_and _ _ v (above 57) (below 65)) (joined bit_and _ _ v (above 90) (below 97))) (joined bit_or _ _ v (below 48) (above 122))) refl
