use Rattle.ob_grammar.specs.Combinators.{name_at}
use Rattle.ob_grammar.specs.ReadModules.{body_with}
use Rattle.std.proofs.Common.{arith}
use Rattle.ob_parse.proofs.declarations.procedure_ending.Goals as goal

pub returns : goal.returns
unfolding name_at body_with
returns c = grind arith
