use Rattle.ob_parse.proofs.StatementSteps.{made}
use Rattle.ob_grammar.specs.ReadStatements.{assign_with}
use Rattle.std.proofs.Common.{arith}
use Rattle.ob_parse.proofs.statements.assignment.Goals as goal

pub returns-in-None : goal.returns-in-None
unfolding assign_with
returns-in-None c = grind (arith, made)

pub returns-in_ok-value-in-Some : goal.returns-in_ok-value-in-Some
unfolding assign_with
returns-in_ok-value-in-Some c = grind (arith, made)
