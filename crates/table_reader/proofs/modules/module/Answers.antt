use Rattle.table_reader.proofs.ModuleTrees.{module_told, word_failed, own_name_failed}
use Rattle.table_reader.proofs.modules.module.Goals as goal

pub returns-in-Ok-identifier-clause-effect : goal.returns-in-Ok-identifier-clause-effect
returns-in-Ok-identifier-clause-effect c =
    module_told c.args.source.now.tokens.now c.in-Ok-identifier.name c.args.depth c.args.context _ _ _ _ c.args.input c.in-Ok.here c.in-Ok-identifier.here _ c.in-Ok.ensures.effect c.in-Ok-identifier.ensures.read c.advance.ensures.stage c.module_after_name.ensures.effect

pub returns-in-Err-clause-effect : goal.returns-in-Err-clause-effect
returns-in-Err-clause-effect c = word_failed c.args.source.now.tokens.now c.args.depth c.in-Err.stop _ c.in-Err.ensures.effect

pub returns-in-Err-identifier-clause-effect : goal.returns-in-Err-identifier-clause-effect
returns-in-Err-identifier-clause-effect c = own_name_failed c.args.source.now.tokens.now c.args.depth _ _ c.args.input c.in-Ok.here c.in-Err-identifier.stop c.in-Ok.ensures.effect c.in-Err-identifier.ensures.read
