use Rattle.table_reader.proofs.TypeTrees.{procedure_told}
use Rattle.table_reader.proofs.types.procedure.Goals as goal

pub returns-clause-effect : goal.returns-clause-effect
returns-clause-effect c = procedure_told c.args.tokens.now c.args.context _ _ _ _ _ _ c.args.input _ c.block_context.ensures c.add_type_component.ensures.stage c.add_block.ensures.stage c.advance.ensures.stage c.optional_parameters.ensures.effect
