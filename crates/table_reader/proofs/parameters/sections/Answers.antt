use Rattle.std.proofs.Common.{sym, ◌∙◌}
use Rattle.ob_scan.specs.declared.kind.Kind.TheVariants as kinds
use Rattle.ob_tree.specs.TreeEvents.{separated}
use Rattle.ob_tree.specs.Types.{section_events}
use Rattle.table_rules.specs.Types.{section_rows}
use Rattle.ob_grammar.specs.Combinators.{several, unless}
use Rattle.ob_grammar.specs.ReadTypes.{section_at}
use Rattle.ob_grammar.proofs.Somes.{not_closed}
use Rattle.table_reader.specs.TypeShapes.{list_rows}
use Rattle.table_reader.proofs.Following.{absent_told, there_told}
use Rattle.table_reader.proofs.FactorTrees.{closed}
use Rattle.table_reader.proofs.parameters.sections.Goals as goal

pub returns-then-next_is-clause-effect : goal.returns-then-next_is-clause-effect
returns-then-next_is-clause-effect c =
    absent_told c.args.tokens.now c.args.context (separated kinds.Semicolon section_events) (list_rows section_rows) (unless kinds.RightParen) (several kinds.Semicolon section_at) _ c.args.input (closed kinds.RightParen _ (sym c.next_is.ensures ∙ c.if-next_is.true))

pub returns-clause-effect : goal.returns-clause-effect
returns-clause-effect c =
    there_told c.args.tokens.now c.args.context (separated kinds.Semicolon section_events) (list_rows section_rows) (unless kinds.RightParen) (several kinds.Semicolon section_at) _ _ c.args.input _ (not_closed kinds.RightParen _ (sym c.next_is.ensures ∙ c.if-next_is.false)) c.section_list.ensures.effect
