use Rattle.cut_report.proofs.ChainImports.{along_in}
use Rattle.cut_report.proofs.laws.path_imports_are_in_net.Goals as goal

pub returns : goal.returns
returns c = along_in
