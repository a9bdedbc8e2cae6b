use Rattle.ob_scan.specs.declared.kind.Kind.TheVariants as kinds
use Rattle.ob_grammar.specs.Combinators.{accept_at, expect_at, optional}
use Rattle.ob_grammar.specs.ReadNames.{qualident_at}
use Rattle.table_reader.specs.TypeShapes.{result_type_events, result_type_rows}
use Rattle.table_reader.proofs.Following.{word_told}
use Rattle.table_reader.proofs.Combine.{failed_then}
use Rattle.table_reader.proofs.parameters.parenthesis_and_result_type.Goals as goal

pub returns-in-Ok-clause-effect : goal.returns-in-Ok-clause-effect
returns-in-Ok-clause-effect c = word_told c.args.tokens.now c.args.context kinds.RightParen result_type_events result_type_rows (optional (accept_at kinds.Colon) qualident_at) _ _ _ c.args.input c.in-Ok.here _ c.in-Ok.ensures.effect c.result_type.ensures.effect

pub returns-in-Err-clause-effect : goal.returns-in-Err-clause-effect
returns-in-Err-clause-effect c = failed_then c.args.tokens.now (expect_at kinds.RightParen) (optional (accept_at kinds.Colon) qualident_at) _ _ c.in-Err.ensures.effect
