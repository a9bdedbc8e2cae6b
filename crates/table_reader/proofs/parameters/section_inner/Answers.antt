use Rattle.std.proofs.Common.{false}
use Rattle.ob_scan.specs.declared.kind.Kind.TheVariants as kinds
use Rattle.ob_tree.specs.TreeEvents.{declared}
use Rattle.ob_grammar.specs.Combinators.{accept_at, expect_at, many, name_at, seq, several}
use Rattle.ob_grammar.specs.ReadNames.{qualident_at}
use Rattle.table_reader.proofs.ParameterTrees.{inner_told, inner_failed}
use Rattle.table_reader.proofs.parameters.section_inner.Goals as goal

pub returns-in-Ok-clause-effect : goal.returns-in-Ok-clause-effect
returns-in-Ok-clause-effect c =
    inner_told c.args.tokens.now c.args.context (several kinds.Comma (name_at (declared false))) (seq (expect_at kinds.Colon) (seq (many (accept_at kinds.Array) (expect_at kinds.Of)) qualident_at))
    _ _ _ _ c.args.input _ c.in-Ok.here _ c.accept_word-here.ensures.effect c.in-Ok.ensures.effect c.colon_and_formal_type.ensures.effect

pub returns-in-Err-clause-effect : goal.returns-in-Err-clause-effect
returns-in-Err-clause-effect c =
    inner_failed c.args.tokens.now c.args.context c.in-Err.stop (several kinds.Comma (name_at (declared false))) (seq (expect_at kinds.Colon) (seq (many (accept_at kinds.Array) (expect_at kinds.Of)) qualident_at))
    _ _ c.args.input _ c.accept_word-here.ensures.effect c.in-Err.ensures.effect
