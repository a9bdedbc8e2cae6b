use Rattle.std.proofs.Common.{◌≡◌, take}
use Rattle.ob_scan.specs.declared.kind.Kind.TheVariants as kinds
use Rattle.ob_walk.specs.Items.{items_of, with_items}
use Rattle.ob_tree.specs.TreeEvents.{each_after}
use Rattle.ob_tree.specs.Statements.{label_range_events, case_events, stmt_events, branch_events}
use Rattle.ob_walk.proofs.walk.statements.+statements.Given as goal

abbrev pub invariant-walk_block-loop-stmt : goal.invariant-walk_block-loop-stmt
invariant-walk_block-loop-stmt l = l.out ≡ with_items l.initial.out (items_of (each_after kinds.Semicolon stmt_events (take l.stmt-index l.stmt-items)))

abbrev pub invariant-walk_branches-loop-branch : goal.invariant-walk_branches-loop-branch
invariant-walk_branches-loop-branch l = l.out ≡ with_items l.initial.out (items_of (each_after kinds.Elsif (λ b. branch_events b kinds.Then) (take l.branch-index l.branch-items)))

abbrev pub invariant-walk_cases-loop-case : goal.invariant-walk_cases-loop-case
invariant-walk_cases-loop-case l = l.out ≡ with_items l.initial.out (items_of (each_after kinds.Bar case_events (take l.case-index l.case-items)))

abbrev pub invariant-walk_case-loop-range : goal.invariant-walk_case-loop-range
invariant-walk_case-loop-range l = l.out ≡ with_items l.initial.out (items_of (each_after kinds.Comma label_range_events (take l.range-index l.range-items)))
