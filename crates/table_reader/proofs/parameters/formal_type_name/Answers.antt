use Rattle.ob_tree.specs.Names.{qualident_events}
use Rattle.module_table.specs.TableStages.{after}
use Rattle.table_reader.specs.TypeShapes.{formal_name_rows}
use Rattle.table_reader.proofs.Combine.{told_walked}
use Rattle.table_reader.proofs.ParameterTrees.{name_came}
use Rattle.table_reader.proofs.parameters.formal_type_name.Goals as goal

pub returns-in-Ok-clause-effect : goal.returns-in-Ok-clause-effect
returns-in-Ok-clause-effect c = told_walked c.args.tokens.now qualident_events (λ q. after (formal_name_rows q) c.args.context) c.in-Ok.name _ _ c.in-Ok.rest _ c.in-Ok.ensures.read (name_came c.args.context c.in-Ok.name _ _ _ c.add_type_name.ensures.stage c.append_qualident.ensures.stage)
