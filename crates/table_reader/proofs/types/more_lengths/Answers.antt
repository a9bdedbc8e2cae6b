use Rattle.std.proofs.Common.{◌++◌, Ok, refl, sym, ap, ◌∙◌}
use Rattle.ob_scan.specs.declared.kind.Kind.TheVariants as kinds
use Rattle.ob_tree.specs.declared.expression.Expr.{Expr}
use Rattle.ob_tree.specs.TreeEvents.{word}
use Rattle.ob_tree.specs.Expressions.{expr_events}
use Rattle.module_table.specs.TableStages.{added, after, advanced}
use Rattle.table_rules.specs.Expressions.{expr_rows}
use Rattle.table_rules.specs.Types.{part_row}
use Rattle.module_table.specs.declared.rows.Part.TheVariants as parts
use Rattle.ob_grammar.specs.Combinators.{accept_at}
use Rattle.ob_grammar.specs.ParsesAs.{remaining, skipped}
use Rattle.ob_grammar.specs.ReadExpressions.{expr_at}
use Rattle.table_reader.specs.TypeShapes.{length_rows}
use Rattle.table_reader.proofs.Lists.{pieces_more, repeat_begun, repeat_shorter, repeat_failed, repeat_done}
use Rattle.table_reader.proofs.TypeTrees.{length_after, told_part}
use Rattle.ob_grammar.proofs.Repetitions.{expressions}
use Rattle.table_reader.proofs.types.more_lengths.Goals as goal

pub more-init : goal.more-init
more-init c = (repeat_begun c.args.source.now.tokens.now (expressions c.args.depth) length_rows c.args.context _ c.args.input, c.requires)

pub more-smaller : goal.more-smaller
more-smaller c =
    repeat_shorter c.args.source.now.tokens.now (expressions c.args.depth) expr_rows c.args.context _ _ c.more.here c.in-Some.following c.in-Ok.next (sym c.accept.ensures.read ∙ ap (skipped c.args.source.now.tokens.now kinds.Comma) c.in-Some.is) c.in-Ok.ensures.effect

pub more-preserved : goal.more-preserved
more-preserved c = (pieces_more {X = Expr} c.args.source.now.tokens.now (accept_at kinds.Comma) (expr_at c.args.depth) (λ e. word kinds.Comma ++ expr_events e) length_rows c.args.context expr_events (λ e s. after (expr_rows e) c.args.context (advanced (added (part_row parts.Array c.args.context s.number) s))) (λ e. e) (word kinds.Comma) (expressions c.args.depth).advances (λ e. refl) (λ e s. length_after e c.args.context s) _ _ _ c.args.input c.more.here c.in-Some.following c.in-Ok.next (sym c.accept.ensures.read ∙ ap (skipped c.args.source.now.tokens.now kinds.Comma) c.in-Some.is) c.more.invariant.0 (told_part c.args.source.now.tokens.now c.args.context parts.Array expr_events (λ e. after (expr_rows e) c.args.context) c.more.builder c.add_type_component.new.builder c.advance.new.self c.expression.new.builder (Ok c.in-Ok.next) (expr_at c.args.depth (remaining c.args.source.now.tokens.now c.in-Some.following)) c.add_type_component.ensures.stage c.advance.ensures.stage c.in-Ok.ensures.effect), c.in-Ok.ensures.number)

pub returns-in-Err-clause-effect : goal.returns-in-Err-clause-effect
returns-in-Err-clause-effect c =
    repeat_failed c.args.source.now.tokens.now (expressions c.args.depth) length_rows c.args.context c.in-Err.stop _ _ c.args.input c.more.here c.in-Some.following (sym c.accept.ensures.read ∙ ap (skipped c.args.source.now.tokens.now kinds.Comma) c.in-Some.is) c.more.invariant.0 c.in-Err.ensures.effect

pub returns-clause-effect : goal.returns-clause-effect
returns-clause-effect c =
    repeat_done c.args.source.now.tokens.now (expressions c.args.depth) length_rows c.args.context _ _ c.args.input c.more.here (sym c.accept.ensures.read ∙ ap (skipped c.args.source.now.tokens.now kinds.Comma) c.in_default.is) c.more.invariant.0
