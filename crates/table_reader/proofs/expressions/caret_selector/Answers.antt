use Rattle.table_reader.proofs.DesignatorTrees.{target_told}
use Rattle.table_reader.proofs.expressions.caret_selector.Goals as goal

pub returns-clause-effect : goal.returns-clause-effect
returns-clause-effect c = target_told c.args.source.now.tokens.now c.args.context c.args.head c.args.slot _ _ _ c.args.rest _ c.advance_token.ensures.cursor c.set_selector.ensures.stage c.advance_token.ensures.stage
