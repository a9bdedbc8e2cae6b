use Rattle.std.proofs.Common.{arith}
use Rattle.std.proofs.lemmas.List.Sums.{sum_by_more_le}
use Rattle.cut_net.specs.Network.{missing_item}
use Rattle.cut_net.specs.declared.priced.Priced.{Priced}
use Rattle.cut_solve.proofs.reporting.weight_of.Goals as goal

pub overflow_add-weight : goal.overflow_add-weight
overflow_add-weight c =
    let le = sum_by_more_le (λ (i : Priced). i.amount) c.args.imports.now c.loop-i.i-index missing_item c.loop-i-test.true in
    let fits = c.requires in
    let so_far = c.loop-i.invariant in
    omega arith
