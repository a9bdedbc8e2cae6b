use Rattle.std.proofs.Common.{arith}
use Rattle.ob_tree.specs.Statements.{stmt_events}
use Rattle.ob_grammar.specs.ReadStatements.{statement_at, empty_at}
use Rattle.ob_parse.proofs.Boxes.{gives_boxed}
use Rattle.ob_parse.proofs.StatementSteps.{made}
use Rattle.ob_parse.proofs.statements.empty_statement.Goals as goal

pub returns : goal.returns
unfolding statement_at empty_at
returns c = gives_boxed c.args.tokens.now stmt_events _ _ c.box_value.result _ c.box_value.ensures.of c.box_value.ensures.refused (grind (arith, made))
