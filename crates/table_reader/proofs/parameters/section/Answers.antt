use Rattle.table_reader.proofs.ParameterTrees.{section_told, section_failed}
use Rattle.table_reader.proofs.parameters.section.Goals as goal

pub returns-in-Ok-clause-effect : goal.returns-in-Ok-clause-effect
returns-in-Ok-clause-effect c =
    section_told c.args.tokens.now c.args.context _ _ _ _ _ _ _ c.args.input c.in-Ok.here c.new_decl_group-row.ensures c.open_decl_group-at.ensures.slot c.decl_group_context.ensures c.open_decl_group-at.ensures.stage c.in-Ok.ensures.effect c.close_decl_group.ensures.stage

pub returns-in-Err-clause-effect : goal.returns-in-Err-clause-effect
returns-in-Err-clause-effect c = section_failed c.args.tokens.now _ c.args.input c.in-Err.ensures.effect
