use Rattle.std.proofs.Common.{sym, ◌∙◌}
use Rattle.ob_scan.proofs.Capitals.{plain_name}
use Rattle.ob_scan.proofs.name.name_kind.Goals as goal

pub returns-else-has_second_capital : goal.returns-else-has_second_capital
returns-else-has_second_capital c = plain_name c.args.name.now (sym c.has_second_capital.ensures ∙ c.if-has_second_capital.false)
