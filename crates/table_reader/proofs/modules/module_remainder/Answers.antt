use Rattle.table_reader.proofs.ModuleTrees.{parts_told}
use Rattle.table_reader.proofs.modules.module_remainder.Goals as goal

pub returns-in-Ok-body-clause-effect : goal.returns-in-Ok-body-clause-effect
returns-in-Ok-body-clause-effect c =
    parts_told c.args.source.now.tokens.now c.args.name c.args.depth c.args.context _ _ _ _ c.args.input c.in-Ok.here c.in-Ok-body.here _ c.in-Ok.ensures.effect c.in-Ok-body.ensures.effect c.module_ending.ensures.effect
