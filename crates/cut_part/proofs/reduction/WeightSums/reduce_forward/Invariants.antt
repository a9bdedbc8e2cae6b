use Rattle.std.proofs.Common.{◌≡◌, length}
use Rattle.cut_part.specs.WeightSums.{AreWeightSums, ReducesTo}
use Rattle.cut_part.proofs.reduction.WeightSums.reduce_forward.Given as goal

abbrev pub invariant-loop-number : goal.invariant-loop-number
invariant-loop-number l = record {
  weight_sums : AreWeightSums l.self.imports.items l.self.leaving.items l.self.entering.items;
  size : length l.self.leaving.items ≡ length l.initial.self.leaving.items;
  count : length l.self.imports.items ≡ length l.initial.self.imports.items;
  narrows : ReducesTo (length l.initial.self.leaving.items) l.initial.self.imports.items l.self.imports.items l.from l.to;
}
