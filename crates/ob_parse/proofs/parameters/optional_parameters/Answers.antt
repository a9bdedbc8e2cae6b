use Rattle.std.proofs.Common.{sym, ◌∙◌}
use Rattle.ob_scan.specs.declared.kind.Kind.TheVariants as kinds
use Rattle.ob_tree.specs.Types.{parameters_events}
use Rattle.ob_grammar.specs.Combinators.{begins}
use Rattle.ob_grammar.specs.Lookahead.{is_word}
use Rattle.ob_grammar.specs.ReadTypes.{optional_parameters_at}
use Rattle.ob_grammar.proofs.Loops.{has_begun}
use Rattle.ob_grammar.proofs.Somes.{gives_some}
use Rattle.ob_parse.proofs.parameters.optional_parameters.Goals as goal

pub returns-then-next_is : goal.returns-then-next_is
unfolding optional_parameters_at
returns-then-next_is c =
    gives_some c.args.tokens.now c.parameters.result parameters_events c.wrap_in_some.result (begins (is_word kinds.LeftParen)) _ _ _ c.wrap_in_some.ensures
    (has_begun (is_word kinds.LeftParen) _ (sym c.next_is.ensures ∙ c.if-next_is.true)) c.parameters.ensures
