use Rattle.ob_scan.specs.declared.kind.Kind.TheVariants as kinds
use Rattle.ob_tree.specs.Names.{identdef_events}
use Rattle.table_rules.specs.Types.{identdef_rows}
use Rattle.ob_grammar.specs.ReadNames.{identdef_at}
use Rattle.table_reader.proofs.Following.{list_told}
use Rattle.table_reader.proofs.FactorTrees.{several_failed}
use Rattle.table_reader.proofs.names.declared_names.Goals as goal

pub returns-in-Ok-clause-effect : goal.returns-in-Ok-clause-effect
returns-in-Ok-clause-effect c = list_told c.args.tokens.now c.args.context kinds.Comma identdef_events identdef_rows identdef_at _ _ _ c.args.input c.in-Ok.here _ c.in-Ok.ensures.effect c.more_declared_names.ensures.effect

pub returns-in-Err-clause-effect : goal.returns-in-Err-clause-effect
returns-in-Err-clause-effect c = several_failed c.args.tokens.now kinds.Comma _ _ _ c.in-Err.ensures.effect
