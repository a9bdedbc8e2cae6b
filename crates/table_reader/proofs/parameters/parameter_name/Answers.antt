use Rattle.std.proofs.Common.{false}
use Rattle.ob_tree.specs.TreeEvents.{declared}
use Rattle.module_table.specs.TableStages.{after}
use Rattle.table_rules.specs.Types.{parameter_rows}
use Rattle.table_reader.proofs.Combine.{told_walked}
use Rattle.table_reader.proofs.Following.{name_read, name_failed}
use Rattle.table_reader.proofs.parameters.parameter_name.Goals as goal

pub returns-in-Ok-clause-effect : goal.returns-in-Ok-clause-effect
returns-in-Ok-clause-effect c = told_walked c.args.tokens.now (declared false) (λ n. after parameter_rows c.args.context) _ _ _ c.in-Ok.rest _ (name_read (declared false) _ _ _ c.in-Ok.ensures.read) c.append_parameter.ensures.stage

pub returns-in-Err-clause-effect : goal.returns-in-Err-clause-effect
returns-in-Err-clause-effect c = name_failed c.args.tokens.now _ (declared false) _ c.in-Err.ensures.read
