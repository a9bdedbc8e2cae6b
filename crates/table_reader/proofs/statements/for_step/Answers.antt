use Rattle.std.proofs.Common.{refl, sym, ap, ◌∙◌}
use Rattle.ob_scan.specs.declared.kind.Kind.TheVariants as kinds
use Rattle.ob_tree.specs.Expressions.{expr_events}
use Rattle.table_rules.specs.Expressions.{expr_rows}
use Rattle.ob_grammar.specs.Combinators.{accept_at}
use Rattle.ob_grammar.specs.ParsesAs.{skipped}
use Rattle.ob_grammar.specs.ReadExpressions.{expr_at}
use Rattle.table_reader.proofs.Parts.{told_some, told_none}
use Rattle.table_reader.proofs.statements.for_step.Goals as goal

pub returns-in-None-clause-effect : goal.returns-in-None-clause-effect
returns-in-None-clause-effect c =
    told_none c.args.source.now.tokens.now c.args.context expr_events expr_rows kinds.By (accept_at kinds.By) (expr_at c.args.depth) _ c.args.input (sym c.accept.ensures.read ∙ ap (skipped c.args.source.now.tokens.now kinds.By) c.in-None.is)

pub returns-in-Some-clause-effect : goal.returns-in-Some-clause-effect
returns-in-Some-clause-effect c =
    told_some c.args.source.now.tokens.now c.args.context expr_events expr_rows expr_events expr_rows (λ x. x) kinds.By (accept_at kinds.By) (expr_at c.args.depth) _ _ _ c.in-Some.rest _ _ (λ x. refl) (λ x. refl)
    (sym c.accept.ensures.read ∙ ap (skipped c.args.source.now.tokens.now kinds.By) c.in-Some.is) c.advance.ensures.stage c.expression.ensures.effect
