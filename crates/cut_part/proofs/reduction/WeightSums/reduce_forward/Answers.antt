use Rattle.std.proofs.Common.{length, ◌∙◌, subst}
use Rattle.cut_part.specs.WeightSums.{ReducesTo}
use Rattle.cut_part.proofs.WeightSums.{narrows_twice}
use Rattle.cut_part.proofs.reduction.WeightSums.reduce_forward.Goals as goal

pub loop-number-preserved : goal.loop-number-preserved
loop-number-preserved c =
    let kept = c.loop-number.invariant in
    let now = c.reduce_to_inflow.ensures in
    let t = c.args.self.now in
    record {
      weight_sums = now.weight_sums;
      size = now.size.0 ∙ kept.size;
      count = now.size.1 ∙ kept.count;
      narrows = narrows_twice (length t.leaving.items) t.imports.items c.loop-number.self.imports.items c.reduce_to_inflow.new.self.imports.items c.args.from c.args.to kept.narrows
          (subst (λ n. ReducesTo n c.loop-number.self.imports.items c.reduce_to_inflow.new.self.imports.items c.args.from c.args.to) kept.size now.narrows);
    }
