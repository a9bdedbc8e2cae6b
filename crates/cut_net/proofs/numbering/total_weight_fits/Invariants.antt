use Rattle.std.proofs.Common.{◌≡◌, ◌<◌, ◌^◌, take}
use Rattle.std.specs.Prelude.{sum_by}
use Rattle.cut_net.proofs.numbering.total_weight_fits.Given as goal

abbrev pub invariant-loop-import : goal.invariant-loop-import
invariant-loop-import l = (l.total ≡ sum_by (λ i. i.amount) (take l.import-index l.imports)) × (l.total < 2 ^ 64)
