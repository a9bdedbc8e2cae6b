use Rattle.ob_grammar.proofs.OneFault.{syntax_place, deep_start}
use Rattle.ob_grammar.proofs.laws.fault_offsets.Goals as goal

pub returns-clause-syntax : goal.returns-clause-syntax
returns-clause-syntax c = syntax_place

pub returns-clause-deep : goal.returns-clause-deep
returns-clause-deep c = deep_start
