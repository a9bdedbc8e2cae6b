use Rattle.ob_scan.specs.declared.kind.Kind.TheVariants as kinds
use Rattle.ob_tree.specs.Types.{section_events}
use Rattle.table_rules.specs.Types.{section_rows}
use Rattle.ob_grammar.specs.ReadTypes.{section_at}
use Rattle.table_reader.proofs.Following.{list_told}
use Rattle.table_reader.proofs.FactorTrees.{several_failed}
use Rattle.table_reader.proofs.parameters.section_list.Goals as goal

pub returns-in-Ok-clause-effect : goal.returns-in-Ok-clause-effect
returns-in-Ok-clause-effect c = list_told c.args.tokens.now c.args.context kinds.Semicolon section_events section_rows section_at _ _ _ c.args.input c.in-Ok.here _ c.in-Ok.ensures.effect c.more_sections.ensures.effect

pub returns-in-Err-clause-effect : goal.returns-in-Err-clause-effect
returns-in-Err-clause-effect c = several_failed c.args.tokens.now kinds.Semicolon _ _ _ c.in-Err.ensures.effect
