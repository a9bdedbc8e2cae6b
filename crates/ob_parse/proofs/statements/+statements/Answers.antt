use Rattle.std.proofs.Common.{sym, ap, ◌∙◌, arith, refl}
use Rattle.ob_scan.specs.declared.kind.Kind.TheVariants as kinds
use Rattle.ob_tree.specs.declared.token.Leaf.TheVariants as leafs
use Rattle.ob_tree.specs.Statements.{branch_events, case_events, stmt_events, block_events}
use Rattle.ob_grammar.specs.Combinators.{accept_at, name_at, several}
use Rattle.ob_grammar.specs.ParsesAs.{skipped, remaining}
use Rattle.ob_grammar.specs.ReadStatements.{branch_with, case_with, statement_at, block_with, cases_with, for_with, if_with, repeat_with, statement_with, while_with, block_at, label_first}
use Rattle.ob_parse.proofs.StatementSteps.{made}
use Rattle.ob_parse.proofs.Boxes.{gives_boxed}
use Rattle.ob_grammar.proofs.Somes.{gives_some}
use Rattle.ob_grammar.proofs.Repetitions.{statements, branches, cases}
use Rattle.ob_grammar.proofs.LoopEnds.{stopped}
use Rattle.ob_grammar.proofs.Turns.{turn_shorter, turn_kept, turn_failed, turns_done}
use Rattle.ob_grammar.specs.ReadExpressions.{expr_at}
use Rattle.ob_grammar.proofs.Loops.{has_begun, has_not_begun}
use Rattle.ob_tree.proofs.StatementLayers.{if_made, while_made, repeat_made, case_made, block_made, branch_made, labelled_made, nothing_made}
use Rattle.ob_grammar.proofs.Lookaheads.{leaf_stands, word_stands, statement_seen}
use Rattle.ob_parse.proofs.statements.+statements.Goals as goal

pub more_statements-more-smaller : goal.more_statements-more-smaller
more_statements-more-smaller t c =
    turn_shorter c.args.tokens.now (statements c.args.depth) c.statement.result (λ b. b.value) c.more.here c.in-Some.after _ _ _ (sym c.in-Some.ensures.read) c.statement.ensures c.in_ok-here.ensures

pub more_statements-more-preserved : goal.more_statements-more-preserved
more_statements-more-preserved t c =
    turn_kept c.args.tokens.now (statements c.args.depth) c.statement.result (λ b. b.value) c.more.here c.in-Some.after _ _ _ _ (sym c.in-Some.ensures.read) c.statement.ensures c.in_ok-here.ensures c.more.invariant

pub more_statements-returns-in_err-here : goal.more_statements-returns-in_err-here
more_statements-returns-in_err-here t c =
    stopped _ _ _ _ _ c.from_residual.ensures.1 (turn_failed c.args.tokens.now (statements c.args.depth) c.statement.result (λ b. b.value) c.more.here c.in-Some.after _ _ c.in_err-here.field-0.0 _ (sym c.in-Some.ensures.read) c.statement.ensures c.in_err-here.ensures c.more.invariant)

pub more_statements-returns : goal.more_statements-returns
more_statements-returns t c =
    turns_done c.args.tokens.now (statements c.args.depth) c.more.rest.items c.more.here _ (sym c.accept.ensures.read ∙ ap (skipped c.args.tokens.now kinds.Semicolon) c.in_default.is) c.more.invariant

pub elsif_branches-more-smaller : goal.elsif_branches-more-smaller
elsif_branches-more-smaller t c =
    turn_shorter c.args.tokens.now (branches c.args.depth c.args.keyword) c.branch-alloc.result (λ b. b.value) c.more.here c.in-Some.after _ _ _ (sym c.in-Some.ensures.read) c.branch-alloc.ensures c.in_ok-here.ensures

pub elsif_branches-more-preserved : goal.elsif_branches-more-preserved
elsif_branches-more-preserved t c =
    turn_kept c.args.tokens.now (branches c.args.depth c.args.keyword) c.branch-alloc.result (λ b. b.value) c.more.here c.in-Some.after _ _ _ _ (sym c.in-Some.ensures.read) c.branch-alloc.ensures c.in_ok-here.ensures c.more.invariant

pub elsif_branches-returns-in_err-here : goal.elsif_branches-returns-in_err-here
elsif_branches-returns-in_err-here t c =
    stopped _ _ _ _ _ c.from_residual.ensures.1 (turn_failed c.args.tokens.now (branches c.args.depth c.args.keyword) c.branch-alloc.result (λ b. b.value) c.more.here c.in-Some.after _ _ c.in_err-here.field-0.0 _ (sym c.in-Some.ensures.read) c.branch-alloc.ensures c.in_err-here.ensures c.more.invariant)

pub elsif_branches-returns : goal.elsif_branches-returns
elsif_branches-returns t c =
    turns_done c.args.tokens.now (branches c.args.depth c.args.keyword) c.more.rest.items c.more.here _ (sym c.accept.ensures.read ∙ ap (skipped c.args.tokens.now kinds.Elsif) c.in_default.is) c.more.invariant

pub more_cases-more-smaller : goal.more_cases-more-smaller
more_cases-more-smaller t c =
    turn_shorter c.args.tokens.now (cases c.args.depth) c.case.result (λ b. b.value) c.more.here c.in-Some.after _ _ _ (sym c.in-Some.ensures.read) c.case.ensures c.in_ok-here.ensures

pub more_cases-more-preserved : goal.more_cases-more-preserved
more_cases-more-preserved t c =
    turn_kept c.args.tokens.now (cases c.args.depth) c.case.result (λ b. b.value) c.more.here c.in-Some.after _ _ _ _ (sym c.in-Some.ensures.read) c.case.ensures c.in_ok-here.ensures c.more.invariant

pub more_cases-returns-in_err-here : goal.more_cases-returns-in_err-here
more_cases-returns-in_err-here t c =
    stopped _ _ _ _ _ c.from_residual.ensures.1 (turn_failed c.args.tokens.now (cases c.args.depth) c.case.result (λ b. b.value) c.more.here c.in-Some.after _ _ c.in_err-here.field-0.0 _ (sym c.in-Some.ensures.read) c.case.ensures c.in_err-here.ensures c.more.invariant)

pub more_cases-returns : goal.more_cases-returns
more_cases-returns t c =
    turns_done c.args.tokens.now (cases c.args.depth) c.more.rest.items c.more.here _ (sym c.accept.ensures.read ∙ ap (skipped c.args.tokens.now kinds.Bar) c.in_default.is) c.more.invariant

pub block-returns : goal.block-returns
unfolding block_with several
block-returns t c = gives_boxed c.args.tokens.now block_events _ _ c.box_value.result _ c.box_value.ensures.of c.box_value.ensures.refused (rw (c.in_ok-first.ensures, c.in_ok-rest.ensures, block_made c.into_inner.result c.in_ok-rest.rest, c.into_inner.ensures) refl)

pub branch-returns : goal.branch-returns
unfolding branch_with
branch-returns t c = gives_boxed c.args.tokens.now (λ b. branch_events b c.args.keyword) _ _ c.box_value.result _ c.box_value.ensures.of c.box_value.ensures.refused (rw (c.in_ok-condition.ensures, c.in_ok-input.ensures.read, c.in_ok-body.ensures, branch_made c.into_inner.result c.into_inner-2.result c.args.keyword, c.into_inner.ensures, c.into_inner-2.ensures) refl)

pub case-returns : goal.case-returns
unfolding case_with
case-returns t c = gives_boxed c.args.tokens.now case_events _ _ c.box_value-2.result _ c.box_value-2.ensures.of c.box_value-2.ensures.refused (rw (has_begun label_first (remaining c.args.tokens.now c.args.input) (sym c.begins_label.ensures ∙ c.if-not-begins_label.false), c.in_ok-labels.ensures, c.in_ok-input.ensures.read, c.in_ok-body.ensures, labelled_made c.in_ok-labels.labels c.in_ok-body.body) refl)

pub case-returns-then-not-begins_label : goal.case-returns-then-not-begins_label
unfolding case_with
case-returns-then-not-begins_label t c = gives_boxed c.args.tokens.now case_events _ _ c.box_value.result _ c.box_value.ensures.of c.box_value.ensures.refused (rw (has_not_begun label_first (remaining c.args.tokens.now c.args.input) (sym c.begins_label.ensures ∙ c.if-not-begins_label.true), nothing_made) refl)

pub case_statement-returns : goal.case_statement-returns
unfolding cases_with
case_statement-returns t c = rw (c.in_ok-value.ensures, c.in_ok-input.ensures.read, c.in_ok-first.ensures, case_made c.into_inner.result c.in_ok-first.first c.in_ok-first.rest, c.into_inner.ensures) refl

pub for_statement-returns : goal.for_statement-returns
unfolding for_with name_at
for_statement-returns t c = grind (arith, made)

pub if_statement-returns : goal.if_statement-returns
unfolding if_with
if_statement-returns t c = rw (c.in_ok-first.ensures, c.in_ok-rest.ensures, c.in_ok-otherwise.ensures, c.in_ok-input.ensures.read, if_made c.in_ok-first.first c.in_ok-rest.rest c.in_ok-otherwise.otherwise) refl

pub repeat_statement-returns : goal.repeat_statement-returns
unfolding repeat_with
repeat_statement-returns t c = rw (c.in_ok-body.ensures, c.in_ok-input.ensures.read, c.in_ok-condition.ensures, repeat_made c.in_ok-body.body c.into_inner.result, c.into_inner.ensures) refl

pub statement-returns : goal.statement-returns
unfolding statement_at
statement-returns t c = gives_boxed c.args.tokens.now stmt_events _ _ c.box_value.result _ c.box_value.ensures.of c.box_value.ensures.refused (grind arith)

pub statement-returns-then-depth-eq0 : goal.statement-returns-then-depth-eq0
unfolding statement_at
statement-returns-then-depth-eq0 t c = grind arith

pub statement_after_depth_check-returns-in-Some-Name-default : goal.statement_after_depth_check-returns-in-Some-Name-default
statement_after_depth_check-returns-in-Some-Name-default t c = rw (statement_seen (expr_at c.args.depth) (block_at c.args.depth) _ _ (leaf_stands c.args.tokens.now _ c.args.input c.in-Some-Name-default.rest _ (leafs.Name c.in-Some-Name-default.number) c.in-Some-Name-default.is c.in-Some-Name-default.field-0-0-is c.next.ensures.read)) c.assignment.ensures

pub statement_after_depth_check-returns-in-Some-Word-Case-default : goal.statement_after_depth_check-returns-in-Some-Word-Case-default
statement_after_depth_check-returns-in-Some-Word-Case-default t c = rw (statement_seen (expr_at c.args.depth) (block_at c.args.depth) _ _ (word_stands c.args.tokens.now _ c.args.input c.in-Some-Word-Case-default.rest _ _ kinds.Case c.in-Some-Word-Case-default.is c.in-Some-Word-Case-default.field-0-0-is c.in-Some-Word-Case-default.field-0-0-0-is c.next.ensures.read)) c.case_statement.ensures

pub statement_after_depth_check-returns-in-Some-Word-For-default : goal.statement_after_depth_check-returns-in-Some-Word-For-default
statement_after_depth_check-returns-in-Some-Word-For-default t c = rw (statement_seen (expr_at c.args.depth) (block_at c.args.depth) _ _ (word_stands c.args.tokens.now _ c.args.input c.in-Some-Word-For-default.rest _ _ kinds.For c.in-Some-Word-For-default.is c.in-Some-Word-For-default.field-0-0-is c.in-Some-Word-For-default.field-0-0-0-is c.next.ensures.read)) c.for_statement.ensures

pub statement_after_depth_check-returns-in-Some-Word-If-default : goal.statement_after_depth_check-returns-in-Some-Word-If-default
statement_after_depth_check-returns-in-Some-Word-If-default t c = rw (statement_seen (expr_at c.args.depth) (block_at c.args.depth) _ _ (word_stands c.args.tokens.now _ c.args.input c.in-Some-Word-If-default.rest _ _ kinds.If c.in-Some-Word-If-default.is c.in-Some-Word-If-default.field-0-0-is c.in-Some-Word-If-default.field-0-0-0-is c.next.ensures.read)) c.if_statement.ensures

pub statement_after_depth_check-returns-in-Some-Word-Repeat-default : goal.statement_after_depth_check-returns-in-Some-Word-Repeat-default
statement_after_depth_check-returns-in-Some-Word-Repeat-default t c = rw (statement_seen (expr_at c.args.depth) (block_at c.args.depth) _ _ (word_stands c.args.tokens.now _ c.args.input c.in-Some-Word-Repeat-default.rest _ _ kinds.Repeat c.in-Some-Word-Repeat-default.is c.in-Some-Word-Repeat-default.field-0-0-is c.in-Some-Word-Repeat-default.field-0-0-0-is c.next.ensures.read)) c.repeat_statement.ensures

pub statement_after_depth_check-returns-in-Some-Word-While-default : goal.statement_after_depth_check-returns-in-Some-Word-While-default
statement_after_depth_check-returns-in-Some-Word-While-default t c = rw (statement_seen (expr_at c.args.depth) (block_at c.args.depth) _ _ (word_stands c.args.tokens.now _ c.args.input c.in-Some-Word-While-default.rest _ _ kinds.While c.in-Some-Word-While-default.is c.in-Some-Word-While-default.field-0-0-is c.in-Some-Word-While-default.field-0-0-0-is c.next.ensures.read)) c.while_statement.ensures

pub statement_after_depth_check-returns-in_default : goal.statement_after_depth_check-returns-in_default
unfolding statement_with
statement_after_depth_check-returns-in_default t c = grind (arith, made)

pub while_statement-returns : goal.while_statement-returns
unfolding while_with
while_statement-returns t c = rw (c.in_ok-first.ensures, c.in_ok-rest.ensures, c.in_ok-input.ensures.read, while_made c.in_ok-first.first c.in_ok-rest.rest) refl

pub optional_block-returns-in-Some : goal.optional_block-returns-in-Some
optional_block-returns-in-Some t c =
    gives_some c.args.tokens.now c.block.result (λ b. block_events b.value) c.wrap_in_some.result (accept_at c.args.word) _ _ _ c.wrap_in_some.ensures (sym c.in-Some.ensures.read) c.block.ensures
