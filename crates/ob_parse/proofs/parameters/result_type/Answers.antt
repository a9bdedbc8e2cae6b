use Rattle.std.proofs.Common.{sym}
use Rattle.ob_scan.specs.declared.kind.Kind.TheVariants as kinds
use Rattle.ob_tree.specs.Names.{qualident_events}
use Rattle.ob_grammar.specs.Combinators.{accept_at}
use Rattle.ob_grammar.proofs.Somes.{gives_some}
use Rattle.ob_parse.proofs.parameters.result_type.Goals as goal

pub returns-in-Some : goal.returns-in-Some
returns-in-Some c = gives_some c.args.tokens.now c.qualident.result qualident_events c.wrap_in_some.result (accept_at kinds.Colon) _ _ _ c.wrap_in_some.ensures (sym c.in-Some.ensures.read) c.qualident.ensures.read
