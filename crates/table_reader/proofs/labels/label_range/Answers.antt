use Rattle.table_reader.proofs.LabelTrees.{range_told, range_failed}
use Rattle.table_reader.proofs.labels.label_range.Goals as goal

pub returns-in-Ok-clause-effect : goal.returns-in-Ok-clause-effect
returns-in-Ok-clause-effect c = range_told c.args.tokens.now c.args.context _ _ _ c.args.input c.in-Ok.here _ c.in-Ok.ensures.effect c.high_label.ensures.effect

pub returns-in-Err-clause-effect : goal.returns-in-Err-clause-effect
returns-in-Err-clause-effect c = range_failed c.args.tokens.now _ _ c.in-Err.ensures.effect
