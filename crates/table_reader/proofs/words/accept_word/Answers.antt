use Rattle.table_reader.proofs.Following.{skipped_told, came_token, came_nothing}
use Rattle.table_reader.proofs.words.accept_word.Goals as goal

pub returns-then-stands-clause-effect : goal.returns-then-stands-clause-effect
returns-then-stands-clause-effect c = skipped_told c.args.tokens.now c.args.context c.args.kind c.skip-stands.result.0 _ _ c.skip-stands.result.1 _ c.skip-stands.ensures.read (came_token c.args.context c.skip-stands.result.0 _ _ c.if-stands.true c.advance.ensures.stage)

pub returns-else-stands-clause-effect : goal.returns-else-stands-clause-effect
returns-else-stands-clause-effect c = skipped_told c.args.tokens.now c.args.context c.args.kind c.skip-stands.result.0 _ _ c.skip-stands.result.1 _ c.skip-stands.ensures.read (came_nothing c.args.context c.skip-stands.result.0 _ c.if-stands.false)
