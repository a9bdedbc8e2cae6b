use Rattle.std.proofs.Common.{refl}
use Rattle.ob_grammar.specs.ParsesAs.{remaining}
use Rattle.table_reader.proofs.StatementTrees.{assign_told, assign_failed}
use Rattle.table_reader.proofs.statements.assignment.Goals as goal

pub returns-in-Ok-clause-effect : goal.returns-in-Ok-clause-effect
returns-in-Ok-clause-effect c =
    assign_told c.args.source.now.tokens.now c.args.context c.args.depth c.args.head _ c.designator_count-at.result _ _ _ c.args.input c.in-Ok.here _ refl c.designator_count-at.ensures c.in-Ok.ensures.effect c.assigned_value.ensures.effect

pub returns-in-Err-clause-effect : goal.returns-in-Err-clause-effect
returns-in-Err-clause-effect c = assign_failed c.args.source.now.tokens.now c.args.depth c.args.head c.in-Err.stop (remaining c.args.source.now.tokens.now c.args.input) c.in-Err.ensures.effect
