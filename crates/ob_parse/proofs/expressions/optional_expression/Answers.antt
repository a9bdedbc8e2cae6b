use Rattle.std.proofs.Common.{sym}
use Rattle.ob_tree.specs.Expressions.{expr_events}
use Rattle.ob_grammar.specs.Combinators.{accept_at}
use Rattle.ob_grammar.proofs.Somes.{gives_some}
use Rattle.ob_parse.proofs.expressions.optional_expression.Goals as goal

pub returns-in-Some : goal.returns-in-Some
returns-in-Some c = gives_some c.args.tokens.now c.expression.result (λ e. expr_events e.value) c.wrap_in_some.result (accept_at c.args.word) _ _ _ c.wrap_in_some.ensures (sym c.in-Some.ensures.read) c.expression.ensures
