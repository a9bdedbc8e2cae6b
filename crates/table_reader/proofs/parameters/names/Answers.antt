use Rattle.std.proofs.Common.{false}
use Rattle.ob_scan.specs.declared.kind.Kind.TheVariants as kinds
use Rattle.ob_tree.specs.TreeEvents.{declared}
use Rattle.table_rules.specs.Types.{parameter_rows}
use Rattle.ob_grammar.specs.Combinators.{name_at}
use Rattle.table_reader.proofs.Following.{list_told}
use Rattle.table_reader.proofs.FactorTrees.{several_failed}
use Rattle.table_reader.proofs.parameters.names.Goals as goal

pub returns-in-Ok-clause-effect : goal.returns-in-Ok-clause-effect
returns-in-Ok-clause-effect c = list_told c.args.tokens.now c.args.context kinds.Comma (declared false) (λ n. parameter_rows) (name_at (declared false)) _ _ _ c.args.input c.in-Ok.here _ c.in-Ok.ensures.effect c.more_names.ensures.effect

pub returns-in-Err-clause-effect : goal.returns-in-Err-clause-effect
returns-in-Err-clause-effect c = several_failed c.args.tokens.now kinds.Comma _ _ _ c.in-Err.ensures.effect
