use Rattle.std.proofs.Common.{◌≡◌, [], Ok, Err, refl, sym, ap, ◌∙◌, arith}
use Rattle.std.specs.Global.{Box}
use Rattle.ob_scan.specs.declared.kind.Kind.TheVariants as kinds
use Rattle.ob_tree.specs.declared.token.Leaf.TheVariants as leafs
use Rattle.ob_tree.specs.declared.statement.StatementSequence.{StatementSequence}
use Rattle.ob_tree.specs.Constructs as constructs
use Rattle.ob_tree.specs.TreeEvents.{construct}
use Rattle.ob_tree.specs.Statements.{block_events}
use Rattle.table_rules.specs.Statements.{branch_rows, case_rows, stmt_rows, block_rows}
use Rattle.ob_grammar.specs.Combinators.{accept_at}
use Rattle.ob_grammar.specs.ParsesAs.{remaining, skipped}
use Rattle.ob_grammar.specs.ReadExpressions.{expr_at}
use Rattle.ob_grammar.specs.ReadStatements.{block_at, label_first, statement_with}
use Rattle.ob_grammar.proofs.Loops.{has_begun, has_not_begun}
use Rattle.table_reader.proofs.Made.{boxed}
use Rattle.table_reader.proofs.Parts.{told_word, told_some, told_none, part_then, word_then, part_failed, word_part}
use Rattle.table_reader.proofs.StatementTrees.{empty_told, deeper, none_begins, one_begins, told_seen, block_told, block_failed, branch_told, if_told, while_told, repeat_told, cases_told, case_told, no_case, for_told, variable_read, no_variable}
use Rattle.ob_grammar.proofs.Repetitions.{statements, branches, cases}
use Rattle.ob_grammar.proofs.Lookaheads.{leaf_stands, word_stands}
use Rattle.table_reader.proofs.Lists.{behind_token, repeat_begun, repeat_shorter, repeat_behind, repeat_failed, repeat_done}
use Rattle.table_reader.proofs.StatementParts.{expr_part, block_part, word_block_part, body_part, value_part, branch_part, branches_part, if_end_part, if_rest_part, while_rest_part, repeat_rest_part, labels_part, case_part, cases_part, cases_rest_part, cases_end_part, of_cases_part, block_end_part, for_body_part, for_step_part, for_end_part, for_limit_part, for_range_part, for_rest_part, variable_part}
use Rattle.table_reader.proofs.statements.+statements.Goals as goal

pub statement-returns-then-begins_statement-clause-effect : goal.statement-returns-then-begins_statement-clause-effect
statement-returns-then-begins_statement-clause-effect t c =
    one_begins c.args.depth (remaining c.args.source.now.tokens.now c.args.input) c.if-depth-eq0.true (sym c.begins_statement.ensures ∙ c.if-begins_statement.true)

pub statement-returns-then-depth-eq0-clause-effect : goal.statement-returns-then-depth-eq0-clause-effect
statement-returns-then-depth-eq0-clause-effect t c =
    empty_told c.args.source.now.tokens.now c.args.context _ c.args.input _ (none_begins c.args.depth (remaining c.args.source.now.tokens.now c.args.input) c.if-depth-eq0.true (sym c.begins_statement.ensures ∙ c.if-begins_statement.false))

pub statement-returns-clause-effect : goal.statement-returns-clause-effect
statement-returns-clause-effect t c =
    rw (deeper c.args.depth (remaining c.args.source.now.tokens.now c.args.input) c.if-depth-eq0.false) c.statement_after_depth_check.ensures.effect

pub statement_after_depth_check-returns-in-Some-Name-default-clause-effect : goal.statement_after_depth_check-returns-in-Some-Name-default-clause-effect
statement_after_depth_check-returns-in-Some-Name-default-clause-effect t c =
    let e = leaf_stands c.args.source.now.tokens.now _ c.args.input c.in-Some-Name-default.rest _ (leafs.Name c.in-Some-Name-default.number) c.in-Some-Name-default.is c.in-Some-Name-default.field-0-0-is c.next.ensures.read in
    told_seen c.args.source.now.tokens.now c.args.context (expr_at c.args.depth) (block_at c.args.depth) _ _ _ _ _ e c.assignment.ensures.effect

pub statement_after_depth_check-returns-in-Some-Word-If-default-clause-effect : goal.statement_after_depth_check-returns-in-Some-Word-If-default-clause-effect
statement_after_depth_check-returns-in-Some-Word-If-default-clause-effect t c =
    let e = word_stands c.args.source.now.tokens.now _ c.args.input c.in-Some-Word-If-default.rest _ _ kinds.If c.in-Some-Word-If-default.is c.in-Some-Word-If-default.field-0-0-is c.in-Some-Word-If-default.field-0-0-0-is c.next.ensures.read in
    told_seen c.args.source.now.tokens.now c.args.context (expr_at c.args.depth) (block_at c.args.depth) _ _ _ _ _ e c.if_statement.ensures.effect

pub statement_after_depth_check-returns-in-Some-Word-Case-default-clause-effect : goal.statement_after_depth_check-returns-in-Some-Word-Case-default-clause-effect
statement_after_depth_check-returns-in-Some-Word-Case-default-clause-effect t c =
    let e = word_stands c.args.source.now.tokens.now _ c.args.input c.in-Some-Word-Case-default.rest _ _ kinds.Case c.in-Some-Word-Case-default.is c.in-Some-Word-Case-default.field-0-0-is c.in-Some-Word-Case-default.field-0-0-0-is c.next.ensures.read in
    told_seen c.args.source.now.tokens.now c.args.context (expr_at c.args.depth) (block_at c.args.depth) _ _ _ _ _ e c.case_statement.ensures.effect

pub statement_after_depth_check-returns-in-Some-Word-While-default-clause-effect : goal.statement_after_depth_check-returns-in-Some-Word-While-default-clause-effect
statement_after_depth_check-returns-in-Some-Word-While-default-clause-effect t c =
    let e = word_stands c.args.source.now.tokens.now _ c.args.input c.in-Some-Word-While-default.rest _ _ kinds.While c.in-Some-Word-While-default.is c.in-Some-Word-While-default.field-0-0-is c.in-Some-Word-While-default.field-0-0-0-is c.next.ensures.read in
    told_seen c.args.source.now.tokens.now c.args.context (expr_at c.args.depth) (block_at c.args.depth) _ _ _ _ _ e c.while_statement.ensures.effect

pub statement_after_depth_check-returns-in-Some-Word-Repeat-default-clause-effect : goal.statement_after_depth_check-returns-in-Some-Word-Repeat-default-clause-effect
statement_after_depth_check-returns-in-Some-Word-Repeat-default-clause-effect t c =
    let e = word_stands c.args.source.now.tokens.now _ c.args.input c.in-Some-Word-Repeat-default.rest _ _ kinds.Repeat c.in-Some-Word-Repeat-default.is c.in-Some-Word-Repeat-default.field-0-0-is c.in-Some-Word-Repeat-default.field-0-0-0-is c.next.ensures.read in
    told_seen c.args.source.now.tokens.now c.args.context (expr_at c.args.depth) (block_at c.args.depth) _ _ _ _ _ e c.repeat_statement.ensures.effect

pub statement_after_depth_check-returns-in-Some-Word-For-default-clause-effect : goal.statement_after_depth_check-returns-in-Some-Word-For-default-clause-effect
statement_after_depth_check-returns-in-Some-Word-For-default-clause-effect t c =
    let e = word_stands c.args.source.now.tokens.now _ c.args.input c.in-Some-Word-For-default.rest _ _ kinds.For c.in-Some-Word-For-default.is c.in-Some-Word-For-default.field-0-0-is c.in-Some-Word-For-default.field-0-0-0-is c.next.ensures.read in
    told_seen c.args.source.now.tokens.now c.args.context (expr_at c.args.depth) (block_at c.args.depth) _ _ _ _ _ e c.for_statement.ensures.effect

pub statement_after_depth_check-returns-in_default-clause-effect : goal.statement_after_depth_check-returns-in_default-clause-effect
unfolding statement_with
statement_after_depth_check-returns-in_default-clause-effect t c =
    let e : statement_with (expr_at c.args.depth) (block_at c.args.depth) (remaining c.args.source.now.tokens.now c.args.input) ≡ Ok (construct constructs.EmptyStatement [], (remaining c.args.source.now.tokens.now c.args.input)) = grind arith in
    empty_told c.args.source.now.tokens.now c.args.context _ c.args.input _ e

pub statement_after_depth_check-returns-in_default-2-clause-effect : goal.statement_after_depth_check-returns-in_default-2-clause-effect
unfolding statement_with
statement_after_depth_check-returns-in_default-2-clause-effect t c =
    let e : statement_with (expr_at c.args.depth) (block_at c.args.depth) (remaining c.args.source.now.tokens.now c.args.input) ≡ Ok (construct constructs.EmptyStatement [], (remaining c.args.source.now.tokens.now c.args.input)) = grind arith in
    empty_told c.args.source.now.tokens.now c.args.context _ c.args.input _ e

pub statement_after_depth_check-returns-in_default-3-clause-effect : goal.statement_after_depth_check-returns-in_default-3-clause-effect
unfolding statement_with
statement_after_depth_check-returns-in_default-3-clause-effect t c =
    let e : statement_with (expr_at c.args.depth) (block_at c.args.depth) (remaining c.args.source.now.tokens.now c.args.input) ≡ Ok (construct constructs.EmptyStatement [], (remaining c.args.source.now.tokens.now c.args.input)) = grind arith in
    empty_told c.args.source.now.tokens.now c.args.context _ c.args.input _ e

pub block-returns-in-Ok-clause-effect : goal.block-returns-in-Ok-clause-effect
block-returns-in-Ok-clause-effect t c =
    block_told c.args.source.now.tokens.now c.args.context c.args.depth _ _ _ c.args.input c.in-Ok.here _ c.in-Ok.ensures.effect c.more_statements.ensures.effect

pub block-returns-in-Err-clause-effect : goal.block-returns-in-Err-clause-effect
block-returns-in-Err-clause-effect t c =
    block_failed c.args.source.now.tokens.now c.args.depth _ _ c.in-Err.ensures.effect

pub optional_block-returns-in-None-clause-effect : goal.optional_block-returns-in-None-clause-effect
optional_block-returns-in-None-clause-effect t c =
    told_none c.args.source.now.tokens.now c.args.context (λ (b : Box StatementSequence). block_events b.value) (λ (b : Box StatementSequence). block_rows b.value) c.args.word (accept_at c.args.word) (block_at c.args.depth) _ c.args.input (sym c.accept.ensures.read ∙ ap (skipped c.args.source.now.tokens.now c.args.word) c.in-None.is)

pub optional_block-returns-in-Some-clause-effect : goal.optional_block-returns-in-Some-clause-effect
optional_block-returns-in-Some-clause-effect t c =
    told_some c.args.source.now.tokens.now c.args.context block_events block_rows (λ (b : Box StatementSequence). block_events b.value) (λ (b : Box StatementSequence). block_rows b.value) (λ b. boxed c.args.builder.now.uses.alloc b) c.args.word (accept_at c.args.word) (block_at c.args.depth) _ _ _ c.in-Some.rest _ _ (λ b. refl) (λ b. refl)
    (sym c.accept.ensures.read ∙ ap (skipped c.args.source.now.tokens.now c.args.word) c.in-Some.is) c.advance.ensures.stage c.block.ensures.effect

pub branch-returns-in-Ok-expect_word-clause-effect : goal.branch-returns-in-Ok-expect_word-clause-effect
branch-returns-in-Ok-expect_word-clause-effect t c =
    branch_told c.args.source.now.tokens.now c.args.context (expr_at c.args.depth) (block_at c.args.depth) c.args.keyword _ _ _ _
    (part_then c.args.source.now.tokens.now c.args.context (expr_part c.args.depth) (word_block_part c.args.depth c.args.keyword) _ _ _ c.in-Ok.here _ _ c.in-Ok.ensures.effect
    (word_then c.args.source.now.tokens.now c.args.context c.args.keyword (block_part c.args.depth) _ _ _ c.in-Ok-expect_word.here _ _ c.in-Ok-expect_word.ensures.effect c.block.ensures.effect))

pub branch-returns-in-Err-expect_word-clause-effect : goal.branch-returns-in-Err-expect_word-clause-effect
branch-returns-in-Err-expect_word-clause-effect t c =
    branch_told c.args.source.now.tokens.now c.args.context (expr_at c.args.depth) (block_at c.args.depth) c.args.keyword c.args.builder.now c.args.builder.now (Err c.in-Err-expect_word.stop) _
    (part_then c.args.source.now.tokens.now c.args.context (expr_part c.args.depth) (word_block_part c.args.depth c.args.keyword) _ _ c.args.builder.now c.in-Ok.here (Err c.in-Err-expect_word.stop) _ c.in-Ok.ensures.effect
    (part_failed c.args.source.now.tokens.now (word_part c.args.keyword) (block_part c.args.depth) _ _ c.in-Err-expect_word.ensures.effect))

pub branch-returns-in-Err-clause-effect : goal.branch-returns-in-Err-clause-effect
branch-returns-in-Err-clause-effect t c =
    branch_told c.args.source.now.tokens.now c.args.context (expr_at c.args.depth) (block_at c.args.depth) c.args.keyword c.args.builder.now c.args.builder.now (Err c.in-Err.stop) _
    (part_failed c.args.source.now.tokens.now (expr_part c.args.depth) (word_block_part c.args.depth c.args.keyword) _ _ c.in-Err.ensures.effect)

pub if_statement-returns-in-Ok-optional_block-clause-effect : goal.if_statement-returns-in-Ok-optional_block-clause-effect
if_statement-returns-in-Ok-optional_block-clause-effect t c =
    if_told c.args.source.now.tokens.now c.args.context (expr_at c.args.depth) (block_at c.args.depth) _ _ _ _ (remaining c.args.source.now.tokens.now c.args.input) c.advance.ensures.stage
    (part_then c.args.source.now.tokens.now c.args.context (branch_part c.args.depth kinds.Then) (if_rest_part c.args.depth) _ _ _ c.in_Ok-here.here _ _ c.in_Ok-here.ensures.effect
    (part_then c.args.source.now.tokens.now c.args.context (branches_part c.args.depth kinds.Then) (if_end_part c.args.depth) _ _ _ c.in-Ok.here _ _ c.in-Ok.ensures.effect
    (part_then c.args.source.now.tokens.now c.args.context (body_part c.args.depth kinds.Else) (word_part kinds.End) _ _ _ c.in-Ok-optional_block.here _ _ c.in-Ok-optional_block.ensures.effect
    (told_word c.args.source.now.tokens.now c.args.context kinds.End _ _ _ _ c.expect_word.ensures.effect))))

pub if_statement-returns-in-Err-optional_block-clause-effect : goal.if_statement-returns-in-Err-optional_block-clause-effect
if_statement-returns-in-Err-optional_block-clause-effect t c =
    if_told c.args.source.now.tokens.now c.args.context (expr_at c.args.depth) (block_at c.args.depth) _ _ c.args.builder.now (Err c.in-Err-optional_block.stop) (remaining c.args.source.now.tokens.now c.args.input) c.advance.ensures.stage
    (part_then c.args.source.now.tokens.now c.args.context (branch_part c.args.depth kinds.Then) (if_rest_part c.args.depth) _ _ c.args.builder.now c.in_Ok-here.here (Err c.in-Err-optional_block.stop) _ c.in_Ok-here.ensures.effect
    (part_then c.args.source.now.tokens.now c.args.context (branches_part c.args.depth kinds.Then) (if_end_part c.args.depth) _ _ c.args.builder.now c.in-Ok.here (Err c.in-Err-optional_block.stop) _ c.in-Ok.ensures.effect
    (part_failed c.args.source.now.tokens.now (body_part c.args.depth kinds.Else) (word_part kinds.End) _ _ c.in-Err-optional_block.ensures.effect)))

pub if_statement-returns-in-Err-clause-effect : goal.if_statement-returns-in-Err-clause-effect
if_statement-returns-in-Err-clause-effect t c =
    if_told c.args.source.now.tokens.now c.args.context (expr_at c.args.depth) (block_at c.args.depth) _ _ c.args.builder.now (Err c.in-Err.stop) (remaining c.args.source.now.tokens.now c.args.input) c.advance.ensures.stage
    (part_then c.args.source.now.tokens.now c.args.context (branch_part c.args.depth kinds.Then) (if_rest_part c.args.depth) _ _ c.args.builder.now c.in_Ok-here.here (Err c.in-Err.stop) _ c.in_Ok-here.ensures.effect
    (part_failed c.args.source.now.tokens.now (branches_part c.args.depth kinds.Then) (if_end_part c.args.depth) _ _ c.in-Err.ensures.effect))

pub if_statement-returns-in_Err-here-clause-effect : goal.if_statement-returns-in_Err-here-clause-effect
if_statement-returns-in_Err-here-clause-effect t c =
    if_told c.args.source.now.tokens.now c.args.context (expr_at c.args.depth) (block_at c.args.depth) _ _ c.args.builder.now (Err c.in_Err-here.stop) (remaining c.args.source.now.tokens.now c.args.input) c.advance.ensures.stage
    (part_failed c.args.source.now.tokens.now (branch_part c.args.depth kinds.Then) (if_rest_part c.args.depth) _ _ c.in_Err-here.ensures.effect)

pub while_statement-returns-in-Ok-clause-effect : goal.while_statement-returns-in-Ok-clause-effect
while_statement-returns-in-Ok-clause-effect t c =
    while_told c.args.source.now.tokens.now c.args.context (expr_at c.args.depth) (block_at c.args.depth) _ _ _ _ (remaining c.args.source.now.tokens.now c.args.input) c.advance.ensures.stage
    (part_then c.args.source.now.tokens.now c.args.context (branch_part c.args.depth kinds.Do) (while_rest_part c.args.depth) _ _ _ c.in_Ok-here.here _ _ c.in_Ok-here.ensures.effect
    (part_then c.args.source.now.tokens.now c.args.context (branches_part c.args.depth kinds.Do) (word_part kinds.End) _ _ _ c.in-Ok.here _ _ c.in-Ok.ensures.effect
    (told_word c.args.source.now.tokens.now c.args.context kinds.End _ _ _ _ c.expect_word.ensures.effect)))

pub while_statement-returns-in-Err-clause-effect : goal.while_statement-returns-in-Err-clause-effect
while_statement-returns-in-Err-clause-effect t c =
    while_told c.args.source.now.tokens.now c.args.context (expr_at c.args.depth) (block_at c.args.depth) _ _ c.args.builder.now (Err c.in-Err.stop) (remaining c.args.source.now.tokens.now c.args.input) c.advance.ensures.stage
    (part_then c.args.source.now.tokens.now c.args.context (branch_part c.args.depth kinds.Do) (while_rest_part c.args.depth) _ _ c.args.builder.now c.in_Ok-here.here (Err c.in-Err.stop) _ c.in_Ok-here.ensures.effect
    (part_failed c.args.source.now.tokens.now (branches_part c.args.depth kinds.Do) (word_part kinds.End) _ _ c.in-Err.ensures.effect))

pub while_statement-returns-in_Err-here-clause-effect : goal.while_statement-returns-in_Err-here-clause-effect
while_statement-returns-in_Err-here-clause-effect t c =
    while_told c.args.source.now.tokens.now c.args.context (expr_at c.args.depth) (block_at c.args.depth) _ _ c.args.builder.now (Err c.in_Err-here.stop) (remaining c.args.source.now.tokens.now c.args.input) c.advance.ensures.stage
    (part_failed c.args.source.now.tokens.now (branch_part c.args.depth kinds.Do) (while_rest_part c.args.depth) _ _ c.in_Err-here.ensures.effect)

pub repeat_statement-returns-in-Ok-expect_word-clause-effect : goal.repeat_statement-returns-in-Ok-expect_word-clause-effect
repeat_statement-returns-in-Ok-expect_word-clause-effect t c =
    repeat_told c.args.source.now.tokens.now c.args.context (expr_at c.args.depth) (block_at c.args.depth) _ _ _ _ (remaining c.args.source.now.tokens.now c.args.input) c.advance.ensures.stage
    (part_then c.args.source.now.tokens.now c.args.context (block_part c.args.depth) (repeat_rest_part c.args.depth) _ _ _ c.in-Ok.here _ _ c.in-Ok.ensures.effect
    (word_then c.args.source.now.tokens.now c.args.context kinds.Until (expr_part c.args.depth) _ _ _ c.in-Ok-expect_word.here _ _ c.in-Ok-expect_word.ensures.effect c.expression.ensures.effect))

pub repeat_statement-returns-in-Err-expect_word-clause-effect : goal.repeat_statement-returns-in-Err-expect_word-clause-effect
repeat_statement-returns-in-Err-expect_word-clause-effect t c =
    repeat_told c.args.source.now.tokens.now c.args.context (expr_at c.args.depth) (block_at c.args.depth) _ _ c.args.builder.now (Err c.in-Err-expect_word.stop) (remaining c.args.source.now.tokens.now c.args.input) c.advance.ensures.stage
    (part_then c.args.source.now.tokens.now c.args.context (block_part c.args.depth) (repeat_rest_part c.args.depth) _ _ c.args.builder.now c.in-Ok.here (Err c.in-Err-expect_word.stop) _ c.in-Ok.ensures.effect
    (part_failed c.args.source.now.tokens.now (word_part kinds.Until) (expr_part c.args.depth) _ _ c.in-Err-expect_word.ensures.effect))

pub repeat_statement-returns-in-Err-clause-effect : goal.repeat_statement-returns-in-Err-clause-effect
repeat_statement-returns-in-Err-clause-effect t c =
    repeat_told c.args.source.now.tokens.now c.args.context (expr_at c.args.depth) (block_at c.args.depth) _ _ c.args.builder.now (Err c.in-Err.stop) (remaining c.args.source.now.tokens.now c.args.input) c.advance.ensures.stage
    (part_failed c.args.source.now.tokens.now (block_part c.args.depth) (repeat_rest_part c.args.depth) _ _ c.in-Err.ensures.effect)

pub case_statement-returns-in-Ok-expect_word-clause-effect : goal.case_statement-returns-in-Ok-expect_word-clause-effect
case_statement-returns-in-Ok-expect_word-clause-effect t c =
    cases_told c.args.source.now.tokens.now c.args.context (expr_at c.args.depth) (block_at c.args.depth) _ _ _ _ (remaining c.args.source.now.tokens.now c.args.input) c.advance.ensures.stage
    (part_then c.args.source.now.tokens.now c.args.context (expr_part c.args.depth) (of_cases_part c.args.depth) _ _ _ c.in-Ok.here _ _ c.in-Ok.ensures.effect
    (word_then c.args.source.now.tokens.now c.args.context kinds.Of (cases_end_part c.args.depth) _ _ _ c.in-Ok-expect_word.here _ _ c.in-Ok-expect_word.ensures.effect c.cases.ensures.effect))

pub case_statement-returns-in-Err-expect_word-clause-effect : goal.case_statement-returns-in-Err-expect_word-clause-effect
case_statement-returns-in-Err-expect_word-clause-effect t c =
    cases_told c.args.source.now.tokens.now c.args.context (expr_at c.args.depth) (block_at c.args.depth) _ _ c.args.builder.now (Err c.in-Err-expect_word.stop) (remaining c.args.source.now.tokens.now c.args.input) c.advance.ensures.stage
    (part_then c.args.source.now.tokens.now c.args.context (expr_part c.args.depth) (of_cases_part c.args.depth) _ _ c.args.builder.now c.in-Ok.here (Err c.in-Err-expect_word.stop) _ c.in-Ok.ensures.effect
    (part_failed c.args.source.now.tokens.now (word_part kinds.Of) (cases_end_part c.args.depth) _ _ c.in-Err-expect_word.ensures.effect))

pub case_statement-returns-in-Err-clause-effect : goal.case_statement-returns-in-Err-clause-effect
case_statement-returns-in-Err-clause-effect t c =
    cases_told c.args.source.now.tokens.now c.args.context (expr_at c.args.depth) (block_at c.args.depth) _ _ c.args.builder.now (Err c.in-Err.stop) (remaining c.args.source.now.tokens.now c.args.input) c.advance.ensures.stage
    (part_failed c.args.source.now.tokens.now (expr_part c.args.depth) (of_cases_part c.args.depth) _ _ c.in-Err.ensures.effect)

pub cases-returns-in-Ok-more_cases-clause-effect : goal.cases-returns-in-Ok-more_cases-clause-effect
cases-returns-in-Ok-more_cases-clause-effect t c =
    part_then c.args.source.now.tokens.now c.args.context (case_part c.args.depth) (cases_rest_part c.args.depth) _ _ _ c.in-Ok.here _ _ c.in-Ok.ensures.effect
    (part_then c.args.source.now.tokens.now c.args.context (cases_part c.args.depth) (word_part kinds.End) _ _ _ c.in-Ok-more_cases.here _ _ c.in-Ok-more_cases.ensures.effect
    (told_word c.args.source.now.tokens.now c.args.context kinds.End _ _ _ _ c.expect_word.ensures.effect))

pub cases-returns-in-Err-more_cases-clause-effect : goal.cases-returns-in-Err-more_cases-clause-effect
cases-returns-in-Err-more_cases-clause-effect t c =
    part_then c.args.source.now.tokens.now c.args.context (case_part c.args.depth) (cases_rest_part c.args.depth) _ _ c.args.builder.now c.in-Ok.here (Err c.in-Err-more_cases.stop) _ c.in-Ok.ensures.effect
    (part_failed c.args.source.now.tokens.now (cases_part c.args.depth) (word_part kinds.End) _ _ c.in-Err-more_cases.ensures.effect)

pub cases-returns-in-Err-clause-effect : goal.cases-returns-in-Err-clause-effect
cases-returns-in-Err-clause-effect t c =
    part_failed c.args.source.now.tokens.now (case_part c.args.depth) (cases_rest_part c.args.depth) _ _ c.in-Err.ensures.effect

pub case-returns-then-not-begins_label-clause-effect : goal.case-returns-then-not-begins_label-clause-effect
case-returns-then-not-begins_label-clause-effect t c =
    no_case c.args.source.now.tokens.now c.args.context (block_at c.args.depth) _ c.args.input (has_not_begun label_first (remaining c.args.source.now.tokens.now c.args.input) (sym c.begins_label.ensures ∙ c.if-not-begins_label.true))

pub case-returns-in-Ok-expect_word-clause-effect : goal.case-returns-in-Ok-expect_word-clause-effect
case-returns-in-Ok-expect_word-clause-effect t c =
    case_told c.args.source.now.tokens.now c.args.context (block_at c.args.depth) c.args.builder.now _ c.args.input _ (has_begun label_first (remaining c.args.source.now.tokens.now c.args.input) (sym c.begins_label.ensures ∙ c.if-not-begins_label.false))
    (part_then c.args.source.now.tokens.now c.args.context labels_part (word_block_part c.args.depth kinds.Colon) _ _ _ c.in-Ok.here _ _ c.in-Ok.ensures.effect
    (word_then c.args.source.now.tokens.now c.args.context kinds.Colon (block_part c.args.depth) _ _ _ c.in-Ok-expect_word.here _ _ c.in-Ok-expect_word.ensures.effect c.block.ensures.effect))

pub case-returns-in-Err-expect_word-clause-effect : goal.case-returns-in-Err-expect_word-clause-effect
case-returns-in-Err-expect_word-clause-effect t c =
    case_told c.args.source.now.tokens.now c.args.context (block_at c.args.depth) c.args.builder.now c.args.builder.now c.args.input (Err c.in-Err-expect_word.stop) (has_begun label_first (remaining c.args.source.now.tokens.now c.args.input) (sym c.begins_label.ensures ∙ c.if-not-begins_label.false))
    (part_then c.args.source.now.tokens.now c.args.context labels_part (word_block_part c.args.depth kinds.Colon) _ _ c.args.builder.now c.in-Ok.here (Err c.in-Err-expect_word.stop) _ c.in-Ok.ensures.effect
    (part_failed c.args.source.now.tokens.now (word_part kinds.Colon) (block_part c.args.depth) _ _ c.in-Err-expect_word.ensures.effect))

pub case-returns-in-Err-clause-effect : goal.case-returns-in-Err-clause-effect
case-returns-in-Err-clause-effect t c =
    case_told c.args.source.now.tokens.now c.args.context (block_at c.args.depth) c.args.builder.now c.args.builder.now c.args.input (Err c.in-Err.stop) (has_begun label_first (remaining c.args.source.now.tokens.now c.args.input) (sym c.begins_label.ensures ∙ c.if-not-begins_label.false))
    (part_failed c.args.source.now.tokens.now labels_part (word_block_part c.args.depth kinds.Colon) _ _ c.in-Err.ensures.effect)

pub for_statement-returns-in-Ok-expression-clause-effect : goal.for_statement-returns-in-Ok-expression-clause-effect
for_statement-returns-in-Ok-expression-clause-effect t c =
    for_told c.args.source.now.tokens.now c.args.context (expr_at c.args.depth) (block_at c.args.depth) _ _ _ _ (remaining c.args.source.now.tokens.now c.args.input) c.advance.ensures.stage
    (part_then c.args.source.now.tokens.now c.args.context variable_part (for_rest_part c.args.depth) _ _ _ c.in-Ok.here _ _ (variable_read c.args.source.now.tokens.now c.args.context c.in-Ok.field-0-0 _ _ c.args.input c.in-Ok.here c.in-Ok.ensures.read c.append_for_variable.ensures.stage)
    (word_then c.args.source.now.tokens.now c.args.context kinds.Assign (for_range_part c.args.depth) _ _ _ c.in-Ok-expect_word.here _ _ c.in-Ok-expect_word.ensures.effect
    (part_then c.args.source.now.tokens.now c.args.context (expr_part c.args.depth) (for_limit_part c.args.depth) _ _ _ c.in-Ok-expression.here _ _ c.in-Ok-expression.ensures.effect c.for_limit_and_body.ensures.effect)))

pub for_statement-returns-in-Err-expression-clause-effect : goal.for_statement-returns-in-Err-expression-clause-effect
for_statement-returns-in-Err-expression-clause-effect t c =
    for_told c.args.source.now.tokens.now c.args.context (expr_at c.args.depth) (block_at c.args.depth) _ _ c.args.builder.now (Err c.in-Err-expression.stop) (remaining c.args.source.now.tokens.now c.args.input) c.advance.ensures.stage
    (part_then c.args.source.now.tokens.now c.args.context variable_part (for_rest_part c.args.depth) _ _ c.args.builder.now c.in-Ok.here (Err c.in-Err-expression.stop) _ (variable_read c.args.source.now.tokens.now c.args.context c.in-Ok.field-0-0 _ _ c.args.input c.in-Ok.here c.in-Ok.ensures.read c.append_for_variable.ensures.stage)
    (word_then c.args.source.now.tokens.now c.args.context kinds.Assign (for_range_part c.args.depth) _ _ c.args.builder.now c.in-Ok-expect_word.here (Err c.in-Err-expression.stop) _ c.in-Ok-expect_word.ensures.effect
    (part_failed c.args.source.now.tokens.now (expr_part c.args.depth) (for_limit_part c.args.depth) _ _ c.in-Err-expression.ensures.effect)))

pub for_statement-returns-in-Err-expect_word-clause-effect : goal.for_statement-returns-in-Err-expect_word-clause-effect
for_statement-returns-in-Err-expect_word-clause-effect t c =
    for_told c.args.source.now.tokens.now c.args.context (expr_at c.args.depth) (block_at c.args.depth) _ _ c.args.builder.now (Err c.in-Err-expect_word.stop) (remaining c.args.source.now.tokens.now c.args.input) c.advance.ensures.stage
    (part_then c.args.source.now.tokens.now c.args.context variable_part (for_rest_part c.args.depth) _ _ c.args.builder.now c.in-Ok.here (Err c.in-Err-expect_word.stop) _ (variable_read c.args.source.now.tokens.now c.args.context c.in-Ok.field-0-0 _ _ c.args.input c.in-Ok.here c.in-Ok.ensures.read c.append_for_variable.ensures.stage)
    (part_failed c.args.source.now.tokens.now (word_part kinds.Assign) (for_range_part c.args.depth) _ _ c.in-Err-expect_word.ensures.effect))

pub for_statement-returns-in-Err-clause-effect : goal.for_statement-returns-in-Err-clause-effect
for_statement-returns-in-Err-clause-effect t c =
    for_told c.args.source.now.tokens.now c.args.context (expr_at c.args.depth) (block_at c.args.depth) _ _ c.args.builder.now (Err c.in-Err.stop) (remaining c.args.source.now.tokens.now c.args.input) c.advance.ensures.stage
    (part_failed c.args.source.now.tokens.now variable_part (for_rest_part c.args.depth) _ _ (no_variable c.args.source.now.tokens.now c.in-Err.stop _ c.in-Err.ensures.read))

pub for_limit_and_body-returns-in-Ok-for_step-clause-effect : goal.for_limit_and_body-returns-in-Ok-for_step-clause-effect
for_limit_and_body-returns-in-Ok-for_step-clause-effect t c =
    word_then c.args.source.now.tokens.now c.args.context kinds.To (for_end_part c.args.depth) _ _ _ c.in-Ok.here _ _ c.in-Ok.ensures.effect
    (part_then c.args.source.now.tokens.now c.args.context (expr_part c.args.depth) (for_step_part c.args.depth) _ _ _ c.in-Ok-expression.here _ _ c.in-Ok-expression.ensures.effect
    (part_then c.args.source.now.tokens.now c.args.context (value_part c.args.depth kinds.By) (for_body_part c.args.depth) _ _ _ c.in-Ok-for_step.here _ _ c.in-Ok-for_step.ensures.effect c.for_body.ensures.effect))

pub for_limit_and_body-returns-in-Err-for_step-clause-effect : goal.for_limit_and_body-returns-in-Err-for_step-clause-effect
for_limit_and_body-returns-in-Err-for_step-clause-effect t c =
    word_then c.args.source.now.tokens.now c.args.context kinds.To (for_end_part c.args.depth) _ _ c.args.builder.now c.in-Ok.here (Err c.in-Err-for_step.stop) _ c.in-Ok.ensures.effect
    (part_then c.args.source.now.tokens.now c.args.context (expr_part c.args.depth) (for_step_part c.args.depth) _ _ c.args.builder.now c.in-Ok-expression.here (Err c.in-Err-for_step.stop) _ c.in-Ok-expression.ensures.effect
    (part_failed c.args.source.now.tokens.now (value_part c.args.depth kinds.By) (for_body_part c.args.depth) _ _ c.in-Err-for_step.ensures.effect))

pub for_limit_and_body-returns-in-Err-expression-clause-effect : goal.for_limit_and_body-returns-in-Err-expression-clause-effect
for_limit_and_body-returns-in-Err-expression-clause-effect t c =
    word_then c.args.source.now.tokens.now c.args.context kinds.To (for_end_part c.args.depth) _ _ c.args.builder.now c.in-Ok.here (Err c.in-Err-expression.stop) _ c.in-Ok.ensures.effect
    (part_failed c.args.source.now.tokens.now (expr_part c.args.depth) (for_step_part c.args.depth) _ _ c.in-Err-expression.ensures.effect)

pub for_limit_and_body-returns-in-Err-clause-effect : goal.for_limit_and_body-returns-in-Err-clause-effect
for_limit_and_body-returns-in-Err-clause-effect t c =
    part_failed c.args.source.now.tokens.now (word_part kinds.To) (for_end_part c.args.depth) _ _ c.in-Err.ensures.effect

pub for_body-returns-in-Ok-block-clause-effect : goal.for_body-returns-in-Ok-block-clause-effect
for_body-returns-in-Ok-block-clause-effect t c =
    word_then c.args.source.now.tokens.now c.args.context kinds.Do (block_end_part c.args.depth) _ _ _ c.in-Ok.here _ _ c.in-Ok.ensures.effect
    (part_then c.args.source.now.tokens.now c.args.context (block_part c.args.depth) (word_part kinds.End) _ _ _ c.in-Ok-block.here _ _ c.in-Ok-block.ensures.effect
    (told_word c.args.source.now.tokens.now c.args.context kinds.End _ _ _ _ c.expect_word-in-Ok-block.ensures.effect))

pub for_body-returns-in-Err-block-clause-effect : goal.for_body-returns-in-Err-block-clause-effect
for_body-returns-in-Err-block-clause-effect t c =
    word_then c.args.source.now.tokens.now c.args.context kinds.Do (block_end_part c.args.depth) _ _ c.args.builder.now c.in-Ok.here (Err c.in-Err-block.stop) _ c.in-Ok.ensures.effect
    (part_failed c.args.source.now.tokens.now (block_part c.args.depth) (word_part kinds.End) _ _ c.in-Err-block.ensures.effect)

pub for_body-returns-in-Err-clause-effect : goal.for_body-returns-in-Err-clause-effect
for_body-returns-in-Err-clause-effect t c =
    part_failed c.args.source.now.tokens.now (word_part kinds.Do) (block_end_part c.args.depth) _ _ c.in-Err.ensures.effect

pub more_statements-more-init : goal.more_statements-more-init
more_statements-more-init t c = (repeat_begun c.args.source.now.tokens.now (statements c.args.depth) (behind_token stmt_rows) c.args.context _ c.args.input, c.requires)

pub more_statements-more-smaller : goal.more_statements-more-smaller
more_statements-more-smaller t c =
    repeat_shorter c.args.source.now.tokens.now (statements c.args.depth) stmt_rows c.args.context _ _ c.more.here c.in-Some.following c.in-Ok.next (sym c.accept.ensures.read ∙ ap (skipped c.args.source.now.tokens.now kinds.Semicolon) c.in-Some.is) c.in-Ok.ensures.effect

pub more_statements-more-preserved : goal.more_statements-more-preserved
more_statements-more-preserved t c = (repeat_behind c.args.source.now.tokens.now (statements c.args.depth) stmt_rows c.args.context _ _ _ _ c.args.input c.more.here c.in-Some.following c.in-Ok.next (sym c.accept.ensures.read ∙ ap (skipped c.args.source.now.tokens.now kinds.Semicolon) c.in-Some.is) c.more.invariant.0 c.advance.ensures.stage c.in-Ok.ensures.effect, c.in-Ok.ensures.number)

pub more_statements-returns-in-Err-clause-effect : goal.more_statements-returns-in-Err-clause-effect
more_statements-returns-in-Err-clause-effect t c =
    repeat_failed c.args.source.now.tokens.now (statements c.args.depth) (behind_token stmt_rows) c.args.context c.in-Err.stop _ _ c.args.input c.more.here c.in-Some.following (sym c.accept.ensures.read ∙ ap (skipped c.args.source.now.tokens.now kinds.Semicolon) c.in-Some.is) c.more.invariant.0 c.in-Err.ensures.effect

pub more_statements-returns-clause-effect : goal.more_statements-returns-clause-effect
more_statements-returns-clause-effect t c =
    repeat_done c.args.source.now.tokens.now (statements c.args.depth) (behind_token stmt_rows) c.args.context _ _ c.args.input c.more.here (sym c.accept.ensures.read ∙ ap (skipped c.args.source.now.tokens.now kinds.Semicolon) c.in_default.is) c.more.invariant.0

pub elsif_branches-more-init : goal.elsif_branches-more-init
elsif_branches-more-init t c = (repeat_begun c.args.source.now.tokens.now (branches c.args.depth c.args.keyword) (behind_token branch_rows) c.args.context _ c.args.input, c.requires)

pub elsif_branches-more-smaller : goal.elsif_branches-more-smaller
elsif_branches-more-smaller t c =
    repeat_shorter c.args.source.now.tokens.now (branches c.args.depth c.args.keyword) branch_rows c.args.context _ _ c.more.here c.in-Some.following c.in_Ok-next.next (sym c.accept.ensures.read ∙ ap (skipped c.args.source.now.tokens.now kinds.Elsif) c.in-Some.is) c.in_Ok-next.ensures.effect

pub elsif_branches-more-preserved : goal.elsif_branches-more-preserved
elsif_branches-more-preserved t c = (repeat_behind c.args.source.now.tokens.now (branches c.args.depth c.args.keyword) branch_rows c.args.context _ _ _ _ c.args.input c.more.here c.in-Some.following c.in_Ok-next.next (sym c.accept.ensures.read ∙ ap (skipped c.args.source.now.tokens.now kinds.Elsif) c.in-Some.is) c.more.invariant.0 c.advance.ensures.stage c.in_Ok-next.ensures.effect, c.in_Ok-next.ensures.number)

pub elsif_branches-returns-in_Err-next-clause-effect : goal.elsif_branches-returns-in_Err-next-clause-effect
elsif_branches-returns-in_Err-next-clause-effect t c =
    repeat_failed c.args.source.now.tokens.now (branches c.args.depth c.args.keyword) (behind_token branch_rows) c.args.context c.in_Err-next.stop _ _ c.args.input c.more.here c.in-Some.following (sym c.accept.ensures.read ∙ ap (skipped c.args.source.now.tokens.now kinds.Elsif) c.in-Some.is) c.more.invariant.0 c.in_Err-next.ensures.effect

pub elsif_branches-returns-clause-effect : goal.elsif_branches-returns-clause-effect
elsif_branches-returns-clause-effect t c =
    repeat_done c.args.source.now.tokens.now (branches c.args.depth c.args.keyword) (behind_token branch_rows) c.args.context _ _ c.args.input c.more.here (sym c.accept.ensures.read ∙ ap (skipped c.args.source.now.tokens.now kinds.Elsif) c.in_default.is) c.more.invariant.0

pub more_cases-more-init : goal.more_cases-more-init
more_cases-more-init t c = (repeat_begun c.args.source.now.tokens.now (cases c.args.depth) (behind_token case_rows) c.args.context _ c.args.input, c.requires)

pub more_cases-more-smaller : goal.more_cases-more-smaller
more_cases-more-smaller t c =
    repeat_shorter c.args.source.now.tokens.now (cases c.args.depth) case_rows c.args.context _ _ c.more.here c.in-Some.following c.in-Ok.next (sym c.accept.ensures.read ∙ ap (skipped c.args.source.now.tokens.now kinds.Bar) c.in-Some.is) c.in-Ok.ensures.effect

pub more_cases-more-preserved : goal.more_cases-more-preserved
more_cases-more-preserved t c = (repeat_behind c.args.source.now.tokens.now (cases c.args.depth) case_rows c.args.context _ _ _ _ c.args.input c.more.here c.in-Some.following c.in-Ok.next (sym c.accept.ensures.read ∙ ap (skipped c.args.source.now.tokens.now kinds.Bar) c.in-Some.is) c.more.invariant.0 c.advance.ensures.stage c.in-Ok.ensures.effect, c.in-Ok.ensures.number)

pub more_cases-returns-in-Err-clause-effect : goal.more_cases-returns-in-Err-clause-effect
more_cases-returns-in-Err-clause-effect t c =
    repeat_failed c.args.source.now.tokens.now (cases c.args.depth) (behind_token case_rows) c.args.context c.in-Err.stop _ _ c.args.input c.more.here c.in-Some.following (sym c.accept.ensures.read ∙ ap (skipped c.args.source.now.tokens.now kinds.Bar) c.in-Some.is) c.more.invariant.0 c.in-Err.ensures.effect

pub more_cases-returns-clause-effect : goal.more_cases-returns-clause-effect
more_cases-returns-clause-effect t c =
    repeat_done c.args.source.now.tokens.now (cases c.args.depth) (behind_token case_rows) c.args.context _ _ c.args.input c.more.here (sym c.accept.ensures.read ∙ ap (skipped c.args.source.now.tokens.now kinds.Bar) c.in_default.is) c.more.invariant.0
