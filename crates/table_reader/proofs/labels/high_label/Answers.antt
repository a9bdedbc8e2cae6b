use Rattle.std.proofs.Common.{refl, sym, ap, ◌∙◌}
use Rattle.ob_scan.specs.declared.kind.Kind.TheVariants as kinds
use Rattle.ob_tree.specs.Statements.{label_events}
use Rattle.table_rules.specs.Statements.{label_rows}
use Rattle.ob_grammar.specs.Combinators.{accept_at}
use Rattle.ob_grammar.specs.ParsesAs.{skipped}
use Rattle.ob_grammar.specs.ReadStatements.{case_label_at}
use Rattle.table_reader.proofs.Parts.{told_some, told_none}
use Rattle.table_reader.proofs.labels.high_label.Goals as goal

pub returns-in-None-clause-effect : goal.returns-in-None-clause-effect
returns-in-None-clause-effect c =
    told_none c.args.tokens.now c.args.context label_events label_rows kinds.DotDot (accept_at kinds.DotDot) case_label_at _ c.args.input (sym c.accept.ensures.read ∙ ap (skipped c.args.tokens.now kinds.DotDot) c.in-None.is)

pub returns-in-Some-clause-effect : goal.returns-in-Some-clause-effect
returns-in-Some-clause-effect c =
    told_some c.args.tokens.now c.args.context label_events label_rows label_events label_rows (λ x. x) kinds.DotDot (accept_at kinds.DotDot) case_label_at _ _ _ c.in-Some.rest _ _ (λ x. refl) (λ x. refl)
    (sym c.accept.ensures.read ∙ ap (skipped c.args.tokens.now kinds.DotDot) c.in-Some.is) c.advance.ensures.stage c.label.ensures.effect
