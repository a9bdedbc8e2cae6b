use Rattle.std.proofs.Common.{None, refl, sym, ap, ◌∙◌}
use Rattle.ob_scan.specs.declared.kind.Kind.TheVariants as kinds
use Rattle.ob_grammar.specs.ParsesAs.{skipped}
use Rattle.ob_grammar.specs.Combinators.{accept_at}
use Rattle.ob_grammar.specs.ReadExpressions.{expr_at}
use Rattle.table_reader.specs.StatementShapes.{assigned_stage, value_events}
use Rattle.table_reader.proofs.Combine.{told_absent}
use Rattle.table_reader.proofs.StatementTrees.{some_given}
use Rattle.table_reader.proofs.statements.assigned_value.Goals as goal

pub returns-in-None-clause-effect : goal.returns-in-None-clause-effect
returns-in-None-clause-effect c =
    told_absent c.args.source.now.tokens.now (value_events kinds.Assign) (assigned_stage c.args.head c.args.at c.args.context) None (accept_at kinds.Assign) (expr_at c.args.depth) _ c.args.input refl (λ s. refl)
    (sym c.accept.ensures.read ∙ ap (skipped c.args.source.now.tokens.now kinds.Assign) c.in-None.is)

pub returns-in-Some-clause-effect : goal.returns-in-Some-clause-effect
returns-in-Some-clause-effect c =
    some_given c.args.source.now.tokens.now c.args.context c.args.head c.args.at (expr_at c.args.depth) _ _ _ _ c.args.input c.in-Some.rest _ (sym c.accept.ensures.read ∙ ap (skipped c.args.source.now.tokens.now kinds.Assign) c.in-Some.is)
    c.set_designator.ensures.stage c.advance.ensures.stage c.expression.ensures.effect
