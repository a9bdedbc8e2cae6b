use Rattle.table_reader.proofs.ModuleTrees.{end_told}
use Rattle.table_reader.proofs.modules.module_ending.Goals as goal

pub returns-in-Ok-module_end_name-clause-effect : goal.returns-in-Ok-module_end_name-clause-effect
returns-in-Ok-module_end_name-clause-effect c =
    end_told c.args.tokens.now c.args.name c.args.context _ _ _ _ c.args.input c.in-Ok.here c.in-Ok-module_end_name.here _ c.in-Ok.ensures.effect c.in-Ok-module_end_name.ensures.effect c.expect_word-in-Ok-module_end_name.ensures.effect
