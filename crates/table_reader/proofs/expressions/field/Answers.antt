use Rattle.std.proofs.Common.{sym, ◌∙◌}
use Rattle.ob_scan.specs.declared.kind.Kind.TheVariants as kinds
use Rattle.ob_tree.specs.Constructs as constructs
use Rattle.ob_tree.specs.TreeEvents.{word}
use Rattle.ob_tree.specs.TreeEvents as marks
use Rattle.ob_grammar.specs.Combinators.{prefixed, name_at}
use Rattle.ob_grammar.specs.ParsesAs.{remaining}
use Rattle.table_reader.proofs.Combine.{failed_node, failed_prefixed}
use Rattle.table_reader.proofs.DesignatorTrees.{failed_name, field_told}
use Rattle.table_reader.proofs.expressions.field.Goals as goal

pub returns-in-Ok-clause-effect : goal.returns-in-Ok-clause-effect
returns-in-Ok-clause-effect c =
    field_told c.args.source.now.tokens.now c.args.context c.args.head c.args.slot _ _ _ _ _ _ c.args.input c.in-Ok.rest _ c.advance_token.ensures.cursor (c.number.ensures ∙ sym c.requires) c.set_selector.ensures.stage c.advance.ensures.stage c.in-Ok.ensures.read c.advance_token.ensures.stage

pub returns-in-Err-clause-effect : goal.returns-in-Err-clause-effect
returns-in-Err-clause-effect c =
    failed_node c.args.source.now.tokens.now constructs.Selector (prefixed (word kinds.Dot) (name_at marks.selected)) _ (remaining c.args.source.now.tokens.now c.args.input)
    (failed_prefixed c.args.source.now.tokens.now (word kinds.Dot) (name_at marks.selected) _ (remaining c.args.source.now.tokens.now c.args.input) (failed_name c.args.source.now.tokens.now marks.selected _ (remaining c.args.source.now.tokens.now c.args.input) c.in-Err.ensures.read))
