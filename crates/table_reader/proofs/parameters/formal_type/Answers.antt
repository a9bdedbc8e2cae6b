use Rattle.ob_scan.specs.declared.kind.Kind.TheVariants as kinds
use Rattle.ob_tree.specs.Names.{qualident_events}
use Rattle.table_rules.specs.Types.{open_arrays}
use Rattle.ob_grammar.specs.Combinators.{accept_at, expect_at, many}
use Rattle.ob_grammar.specs.ReadNames.{qualident_at}
use Rattle.table_reader.specs.TypeShapes.{arrays_events, formal_name_rows}
use Rattle.table_reader.proofs.Following.{pair_told}
use Rattle.table_reader.proofs.Combine.{failed_then}
use Rattle.table_reader.proofs.parameters.formal_type.Goals as goal

pub returns-in-Ok-clause-effect : goal.returns-in-Ok-clause-effect
returns-in-Ok-clause-effect c =
    pair_told c.args.tokens.now c.args.context arrays_events open_arrays qualident_events formal_name_rows (many (accept_at kinds.Array) (expect_at kinds.Of)) qualident_at _ _ _ c.args.input c.in-Ok.here _ c.in-Ok.ensures.effect c.formal_type_name.ensures.effect

pub returns-in-Err-clause-effect : goal.returns-in-Err-clause-effect
returns-in-Err-clause-effect c = failed_then c.args.tokens.now (many (accept_at kinds.Array) (expect_at kinds.Of)) qualident_at _ _ c.in-Err.ensures.effect
