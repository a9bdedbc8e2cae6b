use Rattle.std.proofs.Common.{sym, ◌∙◌}
use Rattle.ob_scan.specs.declared.kind.Kind.TheVariants as kinds
use Rattle.ob_tree.specs.Types.{parameters_events}
use Rattle.table_rules.specs.Types.{parameters_rows}
use Rattle.ob_grammar.specs.Combinators.{begins}
use Rattle.ob_grammar.specs.Lookahead.{is_word}
use Rattle.ob_grammar.specs.ReadTypes.{parameters_at, optional_parameters_at}
use Rattle.ob_grammar.proofs.Loops.{has_begun, has_not_begun}
use Rattle.table_reader.proofs.Following.{absent_told, there_told}
use Rattle.table_reader.proofs.parameters.optional_parameters.Goals as goal

pub returns-then-next_is-clause-effect : goal.returns-then-next_is-clause-effect
unfolding optional_parameters_at
returns-then-next_is-clause-effect c =
    there_told c.args.tokens.now c.args.context parameters_events parameters_rows (begins (is_word kinds.LeftParen)) parameters_at _ _ c.args.input _ (has_begun (is_word kinds.LeftParen) _ (sym c.next_is.ensures ∙ c.if-next_is.true)) c.parameters.ensures.effect

pub returns-clause-effect : goal.returns-clause-effect
unfolding optional_parameters_at
returns-clause-effect c =
    absent_told c.args.tokens.now c.args.context parameters_events parameters_rows (begins (is_word kinds.LeftParen)) parameters_at _ c.args.input (has_not_begun (is_word kinds.LeftParen) _ (sym c.next_is.ensures ∙ c.if-next_is.false))
