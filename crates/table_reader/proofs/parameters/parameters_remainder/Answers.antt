use Rattle.ob_scan.specs.declared.kind.Kind.TheVariants as kinds
use Rattle.ob_grammar.specs.Combinators.{accept_at, expect_at, optional, seq, several, unless}
use Rattle.ob_grammar.specs.ReadNames.{qualident_at}
use Rattle.ob_grammar.specs.ReadTypes.{section_at}
use Rattle.table_reader.specs.TypeShapes.{closing_events, closing_rows, sections_events, sections_rows}
use Rattle.table_reader.proofs.Following.{pair_told}
use Rattle.table_reader.proofs.Combine.{failed_then}
use Rattle.table_reader.proofs.parameters.parameters_remainder.Goals as goal

pub returns-in-Ok-clause-effect : goal.returns-in-Ok-clause-effect
returns-in-Ok-clause-effect c =
    pair_told c.args.tokens.now c.args.context sections_events sections_rows closing_events closing_rows (optional (unless kinds.RightParen) (several kinds.Semicolon section_at)) (seq (expect_at kinds.RightParen) (optional (accept_at kinds.Colon) qualident_at))
    _ _ _ c.args.input c.in-Ok.here _ c.in-Ok.ensures.effect c.parenthesis_and_result_type.ensures.effect

pub returns-in-Err-clause-effect : goal.returns-in-Err-clause-effect
returns-in-Err-clause-effect c =
    failed_then c.args.tokens.now (optional (unless kinds.RightParen) (several kinds.Semicolon section_at)) (seq (expect_at kinds.RightParen) (optional (accept_at kinds.Colon) qualident_at)) _ _ c.in-Err.ensures.effect
