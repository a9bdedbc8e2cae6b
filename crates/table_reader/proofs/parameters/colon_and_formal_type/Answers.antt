use Rattle.ob_scan.specs.declared.kind.Kind.TheVariants as kinds
use Rattle.ob_grammar.specs.Combinators.{accept_at, expect_at, many, seq}
use Rattle.ob_grammar.specs.ReadNames.{qualident_at}
use Rattle.table_reader.specs.TypeShapes.{formal_events, formal_rows}
use Rattle.table_reader.proofs.Following.{word_told}
use Rattle.table_reader.proofs.Combine.{failed_then}
use Rattle.table_reader.proofs.parameters.colon_and_formal_type.Goals as goal

pub returns-in-Ok-clause-effect : goal.returns-in-Ok-clause-effect
returns-in-Ok-clause-effect c =
    word_told c.args.tokens.now c.args.context kinds.Colon formal_events formal_rows (seq (many (accept_at kinds.Array) (expect_at kinds.Of)) qualident_at) _ _ _ c.args.input c.in-Ok.here _ c.in-Ok.ensures.effect c.formal_type.ensures.effect

pub returns-in-Err-clause-effect : goal.returns-in-Err-clause-effect
returns-in-Err-clause-effect c = failed_then c.args.tokens.now (expect_at kinds.Colon) (seq (many (accept_at kinds.Array) (expect_at kinds.Of)) qualident_at) _ _ c.in-Err.ensures.effect
