use Rattle.table_reader.proofs.ExpressionTrees.{sign_none, sign_some}
use Rattle.table_reader.proofs.expressions.optional_sign.Goals as goal

pub returns-in-None-clause-effect : goal.returns-in-None-clause-effect
returns-in-None-clause-effect c = sign_none c.args.source.now.tokens.now c.args.context _ c.sign-sign.result.0 _ _ c.in-None.is c.sign-sign.ensures.read

pub returns-in-Some-clause-effect : goal.returns-in-Some-clause-effect
returns-in-Some-clause-effect c = sign_some c.args.source.now.tokens.now c.args.context _ _ c.sign-sign.result.0 _ _ _ c.in-Some.is c.sign-sign.ensures.read c.advance.ensures.stage
