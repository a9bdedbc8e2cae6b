use Rattle.std.proofs.Common.{None, refl, sym, ap, ◌∙◌}
use Rattle.ob_scan.specs.declared.kind.Kind.TheVariants as kinds
use Rattle.ob_tree.specs.Expressions.{expr_events}
use Rattle.table_rules.specs.Expressions.{expr_rows}
use Rattle.module_table.specs.TableStages.{after}
use Rattle.module_table.proofs.Steps.{after_nothing}
use Rattle.ob_grammar.specs.Combinators.{accept_at}
use Rattle.ob_grammar.specs.ParsesAs.{skipped}
use Rattle.ob_grammar.specs.ReadExpressions.{expr_at}
use Rattle.table_reader.specs.DeclarationShapes.{returned_events, returned_rows}
use Rattle.table_reader.proofs.Combine.{told_absent}
use Rattle.table_reader.proofs.Following.{word_there_told}
use Rattle.table_reader.proofs.declarations.optional_return.Goals as goal

pub returns-in-None-clause-effect : goal.returns-in-None-clause-effect
returns-in-None-clause-effect c =
    told_absent c.args.source.now.tokens.now returned_events (λ x. after (returned_rows x) c.args.context) None (accept_at kinds.Return) _ _ c.args.input refl (λ s. after_nothing c.args.context s) (sym c.accept.ensures.read ∙ ap (skipped c.args.source.now.tokens.now kinds.Return) c.in-None.is)

pub returns-in-Some-clause-effect : goal.returns-in-Some-clause-effect
returns-in-Some-clause-effect c =
    word_there_told c.args.source.now.tokens.now c.args.context kinds.Return expr_events expr_rows (expr_at c.args.depth) _ _ _ c.args.input c.in-Some.rest _ (sym c.accept.ensures.read ∙ ap (skipped c.args.source.now.tokens.now kinds.Return) c.in-Some.is) c.advance.ensures.stage c.expression.ensures.effect
