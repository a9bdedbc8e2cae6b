use Rattle.table_reader.proofs.ParameterTrees.{parameters_told, parameters_failed}
use Rattle.table_reader.proofs.parameters.parameters.Goals as goal

pub returns-in-Ok-clause-effect : goal.returns-in-Ok-clause-effect
returns-in-Ok-clause-effect c = parameters_told c.args.tokens.now c.args.context _ _ _ c.args.input c.in-Ok.here _ c.in-Ok.ensures.effect c.parameters_remainder.ensures.effect

pub returns-in-Err-clause-effect : goal.returns-in-Err-clause-effect
returns-in-Err-clause-effect c = parameters_failed c.args.tokens.now _ _ c.in-Err.ensures.effect
