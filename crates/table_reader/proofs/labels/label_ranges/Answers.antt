use Rattle.ob_scan.specs.declared.kind.Kind.TheVariants as kinds
use Rattle.table_reader.proofs.FactorTrees.{several_failed}
use Rattle.table_reader.proofs.LabelTrees.{ranges_told}
use Rattle.table_reader.proofs.labels.label_ranges.Goals as goal

pub returns-in-Ok-clause-effect : goal.returns-in-Ok-clause-effect
returns-in-Ok-clause-effect c = ranges_told c.args.tokens.now c.args.context _ _ _ c.args.input c.in-Ok.here _ c.in-Ok.ensures.effect c.more_label_ranges.ensures.effect

pub returns-in-Err-clause-effect : goal.returns-in-Err-clause-effect
returns-in-Err-clause-effect c = several_failed c.args.tokens.now kinds.Comma _ _ _ c.in-Err.ensures.effect
