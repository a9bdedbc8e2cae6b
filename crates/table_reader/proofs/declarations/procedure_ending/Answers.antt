use Rattle.table_reader.proofs.ProcedureTrees.{ending_told}
use Rattle.table_reader.proofs.declarations.procedure_ending.Goals as goal

pub returns-in-Ok-expect_word-clause-effect : goal.returns-in-Ok-expect_word-clause-effect
returns-in-Ok-expect_word-clause-effect c =
    ending_told c.args.source.now.tokens.now c.args.name c.args.depth c.args.context _ _ _ _ _ c.args.input c.in-Ok.here c.in-Ok-optional_return.here c.in-Ok-expect_word.here _ c.in-Ok.ensures.effect c.in-Ok-optional_return.ensures.effect c.in-Ok-expect_word.ensures.effect c.procedure_end_name.ensures.effect
