use Rattle.ob_tree.specs.Declaring.{import_events}
use Rattle.table_rules.specs.Declaring.{import_rows}
use Rattle.module_table.specs.TableStages.{after}
use Rattle.table_reader.proofs.Combine.{told_walked}
use Rattle.table_reader.proofs.modules.import.Goals as goal

pub returns-in-Ok-clause-effect : goal.returns-in-Ok-clause-effect
returns-in-Ok-clause-effect c = told_walked c.args.tokens.now import_events (λ x. after (import_rows x) c.args.context) c.in-Ok.item _ _ c.in-Ok.rest _ c.in-Ok.ensures.read c.append_import.ensures.stage
