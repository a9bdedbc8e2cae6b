use Rattle.std.proofs.Common.{arith}
use Rattle.std.proofs.lemmas.Grind.{common_steps}
use Rattle.cut_net.proofs.prices.are_weights_in_limit.Goals as goal

pub returns-then-weight-total : goal.returns-then-weight-total
returns-then-weight-total c = grind (arith, common_steps)

pub loop-pin_state-preserved : goal.loop-pin_state-preserved
loop-pin_state-preserved c = grind (arith, common_steps)

pub returns : goal.returns
returns c = grind (arith, common_steps)
