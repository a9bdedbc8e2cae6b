-- The last entry has the greatest key.
use Rattle.std.proofs.Common.{◌<◌, ◌^◌, subst}
use Rattle.module_table.proofs.Counted.{few}
use Rattle.module_table.proofs.order.rows_are_bounded.Goals as goal

pub returns-in-Some : goal.returns-in-Some
returns-in-Some g c = few g.T.Keyed.number_in c.args.rows.now c.requires c.last.result c.in-Some.last c.last.ensures.value c.in-Some.is (subst (λ n. n < 2 ^ 32) c.key.ensures c.u32_is_bounded.ensures)
