use Rattle.table_rules.specs.Declaring.{procedure_end}
use Rattle.module_table.specs.TableStages.{after}
use Rattle.module_table.specs.Parts.{with_rows, token}
use Rattle.ob_tree.specs.TreeEvents.{repeated}
use Rattle.ob_grammar.specs.ParsesAs.{remaining}
use Rattle.ob_grammar.specs.Combinators.{name_at}
use Rattle.table_reader.proofs.Following.{name_failed, name_read}
use Rattle.table_reader.proofs.Combine.{told_walked}
use Rattle.table_reader.proofs.ends.procedure_end_name.Goals as goal

pub returns-in-Ok-clause-effect : goal.returns-in-Ok-clause-effect
returns-in-Ok-clause-effect c =
    let ls = remaining c.args.tokens.now c.args.input in
    told_walked c.args.tokens.now (repeated c.args.name) (λ x. after (with_rows procedure_end token) c.args.context) _ _ _ c.in-Ok.rest (name_at (repeated c.args.name) ls)
    (name_read (repeated c.args.name) ls _ (remaining c.args.tokens.now c.in-Ok.rest) c.in-Ok.ensures.read) c.append_procedure_end.ensures.stage

pub returns-in-Err-clause-effect : goal.returns-in-Err-clause-effect
returns-in-Err-clause-effect c = name_failed c.args.tokens.now c.in-Err.stop (repeated c.args.name) _ c.in-Err.ensures.read
