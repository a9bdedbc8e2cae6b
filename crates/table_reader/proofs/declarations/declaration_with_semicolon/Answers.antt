use Rattle.table_reader.proofs.SectionTrees.{ended_told, ended_failed}
use Rattle.table_reader.proofs.declarations.declaration_with_semicolon.Goals as goal

pub returns-in-Ok-clause-effect : goal.returns-in-Ok-clause-effect
returns-in-Ok-clause-effect g c =
    ended_told c.args.source.now.tokens.now g.D.Declaration.events g.D.Declaration.effect g.D.Declaration.production c.args.decl_kind (g.D.Declaration.read c.args.depth)
    c.args.context c.decl_group_context.result c.new_decl_group-row.result c.open_decl_group-at.result _ c.open_decl_group-at.new.self _ c.close_decl_group.new.self _ c.args.input c.in-Ok.here _ c.new_decl_group-row.ensures c.decl_group_context.ensures c.open_decl_group-at.ensures.slot c.open_decl_group-at.ensures.stage c.in-Ok.ensures.effect c.close_decl_group.ensures.stage c.expect_word.ensures.effect

pub returns-in-Err-clause-effect : goal.returns-in-Err-clause-effect
returns-in-Err-clause-effect g c = ended_failed c.args.source.now.tokens.now g.D.Declaration.production (g.D.Declaration.read c.args.depth) c.in-Err.stop _ c.in-Err.ensures.effect
