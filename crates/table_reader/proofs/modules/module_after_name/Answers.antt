use Rattle.table_reader.proofs.ModuleTrees.{behind_name_told, semicolon_failed, imports_failed}
use Rattle.table_reader.proofs.modules.module_after_name.Goals as goal

pub returns-in-Ok-imports-clause-effect : goal.returns-in-Ok-imports-clause-effect
returns-in-Ok-imports-clause-effect c =
    behind_name_told c.args.source.now.tokens.now c.args.name c.args.depth c.args.context _ _ _ _ c.args.input c.in-Ok.here c.in-Ok-imports.here _ c.in-Ok.ensures.effect c.in-Ok-imports.ensures.effect c.module_remainder.ensures.effect

pub returns-in-Err-clause-effect : goal.returns-in-Err-clause-effect
returns-in-Err-clause-effect c = semicolon_failed c.args.source.now.tokens.now c.args.depth c.args.name c.in-Err.stop _ c.in-Err.ensures.effect

pub returns-in-Err-imports-clause-effect : goal.returns-in-Err-imports-clause-effect
returns-in-Err-imports-clause-effect c = imports_failed c.args.source.now.tokens.now c.args.depth c.args.name _ _ c.args.input c.in-Ok.here c.in-Err-imports.stop c.in-Ok.ensures.effect c.in-Err-imports.ensures.effect
