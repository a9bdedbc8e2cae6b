use Rattle.ob_grammar.proofs.OneFault.{fault_is_unique}
use Rattle.ob_grammar.proofs.laws.fault_is_unique.Goals as goal

pub returns : goal.returns
returns c = fault_is_unique
