use Rattle.std.proofs.Common.{append_assoc, arith}
use Rattle.ob_walk.proofs.StatementWalks.{if_items, case_items, statement_items}
use Rattle.ob_walk.proofs.Walks.{with_items-with_items}
use Rattle.ob_walk.proofs.walk.statements.+statements.Goals as goal

pub walk_stmt-returns-in-If : goal.walk_stmt-returns-in-If
walk_stmt-returns-in-If t c =
    rw (c.in-If.is, if_items, c.emit-in-If-2.ensures, c.walk_else.ensures, c.walk_branches.ensures, c.walk_branch.ensures, c.deref.ensures, c.emit-in-If.ensures) (simp (with_items-with_items, append_assoc))

pub walk_stmt-returns-in-Case : goal.walk_stmt-returns-in-Case
walk_stmt-returns-in-Case t c =
    rw (c.in-Case.is, case_items, c.emit-in-Case-3.ensures, c.walk_cases.ensures, c.walk_case.ensures, c.deref-in-Case.ensures, c.emit-in-Case-2.ensures, c.walk_expr-in-Case.ensures, c.emit-in-Case.ensures)
    (simp (with_items-with_items, append_assoc))

pub walk_block-loop-stmt-init : goal.walk_block-loop-stmt-init
walk_block-loop-stmt-init t c = grind (arith, statement_items)

pub walk_block-loop-stmt-preserved : goal.walk_block-loop-stmt-preserved
walk_block-loop-stmt-preserved t c = grind (arith, statement_items)

pub walk_block-returns : goal.walk_block-returns
walk_block-returns t c = grind (arith, statement_items)

pub walk_branch-returns : goal.walk_branch-returns
walk_branch-returns t c = grind (arith, statement_items)

pub walk_branches-loop-branch-init : goal.walk_branches-loop-branch-init
walk_branches-loop-branch-init t c = grind (arith, statement_items)

pub walk_branches-loop-branch-preserved : goal.walk_branches-loop-branch-preserved
walk_branches-loop-branch-preserved t c = grind (arith, statement_items)

pub walk_branches-returns : goal.walk_branches-returns
walk_branches-returns t c = grind (arith, statement_items)

pub walk_case-loop-range-init : goal.walk_case-loop-range-init
walk_case-loop-range-init t c = grind (arith, statement_items)

pub walk_case-loop-range-preserved : goal.walk_case-loop-range-preserved
walk_case-loop-range-preserved t c = grind (arith, statement_items)

pub walk_case-returns-in-Nothing : goal.walk_case-returns-in-Nothing
walk_case-returns-in-Nothing t c = grind (arith, statement_items)

pub walk_case-returns-after-loop-range : goal.walk_case-returns-after-loop-range
walk_case-returns-after-loop-range t c = grind (arith, statement_items)

pub walk_cases-loop-case-init : goal.walk_cases-loop-case-init
walk_cases-loop-case-init t c = grind (arith, statement_items)

pub walk_cases-loop-case-preserved : goal.walk_cases-loop-case-preserved
walk_cases-loop-case-preserved t c = grind (arith, statement_items)

pub walk_cases-returns : goal.walk_cases-returns
walk_cases-returns t c = grind (arith, statement_items)

pub walk_for-returns : goal.walk_for-returns
walk_for-returns t c = grind (arith, statement_items)

pub walk_else-returns-in-None : goal.walk_else-returns-in-None
walk_else-returns-in-None t c = grind (arith, statement_items)

pub walk_else-returns-in-Some : goal.walk_else-returns-in-Some
walk_else-returns-in-Some t c = grind (arith, statement_items)

pub walk_stmt-returns-in-Empty : goal.walk_stmt-returns-in-Empty
walk_stmt-returns-in-Empty t c = grind (arith, statement_items)

pub walk_stmt-returns-in-Assign : goal.walk_stmt-returns-in-Assign
walk_stmt-returns-in-Assign t c = grind (arith, statement_items)

pub walk_stmt-returns-in-Call : goal.walk_stmt-returns-in-Call
walk_stmt-returns-in-Call t c = grind (arith, statement_items)

pub walk_stmt-returns-in-While : goal.walk_stmt-returns-in-While
walk_stmt-returns-in-While t c = grind (arith, statement_items)

pub walk_stmt-returns-in-Repeat : goal.walk_stmt-returns-in-Repeat
walk_stmt-returns-in-Repeat t c = grind (arith, statement_items)

pub walk_stmt-returns-in-For : goal.walk_stmt-returns-in-For
walk_stmt-returns-in-For t c = grind (arith, statement_items)
