use Rattle.std.proofs.Common.{◌≡◌, ◌+◌, ◌*◌, length}
use Rattle.table_rules.specs.Statements.{branch_rows, case_rows, stmt_rows}
use Rattle.ob_grammar.specs.ParsesAs.{remaining}
use Rattle.ob_grammar.proofs.Repetitions.{branches, cases, statements}
use Rattle.table_reader.proofs.Lists.{behind_token, RepeatListing}
use Rattle.table_reader.proofs.statements.+statements.Given as goal

abbrev pub decreases-statement : goal.decreases-statement
decreases-statement l = 16 * l.depth + 0

abbrev pub decreases-more_statements : goal.decreases-more_statements
decreases-more_statements l = 16 * l.depth + 1

abbrev pub decreases-block : goal.decreases-block
decreases-block l = 16 * l.depth + 2

abbrev pub decreases-optional_block : goal.decreases-optional_block
decreases-optional_block l = 16 * l.depth + 3

abbrev pub decreases-branch : goal.decreases-branch
decreases-branch l = 16 * l.depth + 3

abbrev pub decreases-elsif_branches : goal.decreases-elsif_branches
decreases-elsif_branches l = 16 * l.depth + 4

abbrev pub decreases-case : goal.decreases-case
decreases-case l = 16 * l.depth + 3

abbrev pub decreases-more_cases : goal.decreases-more_cases
decreases-more_cases l = 16 * l.depth + 4

abbrev pub decreases-cases : goal.decreases-cases
decreases-cases l = 16 * l.depth + 5

abbrev pub decreases-for_body : goal.decreases-for_body
decreases-for_body l = 16 * l.depth + 3

abbrev pub decreases-for_limit_and_body : goal.decreases-for_limit_and_body
decreases-for_limit_and_body l = 16 * l.depth + 4

abbrev pub decreases-if_statement : goal.decreases-if_statement
decreases-if_statement l = 16 * l.depth + 6

abbrev pub decreases-case_statement : goal.decreases-case_statement
decreases-case_statement l = 16 * l.depth + 6

abbrev pub decreases-while_statement : goal.decreases-while_statement
decreases-while_statement l = 16 * l.depth + 6

abbrev pub decreases-repeat_statement : goal.decreases-repeat_statement
decreases-repeat_statement l = 16 * l.depth + 6

abbrev pub decreases-for_statement : goal.decreases-for_statement
decreases-for_statement l = 16 * l.depth + 6

abbrev pub decreases-statement_after_depth_check : goal.decreases-statement_after_depth_check
decreases-statement_after_depth_check l = 16 * l.depth + 7

abbrev pub invariant-more_statements-more : goal.invariant-more_statements-more
invariant-more_statements-more l = (RepeatListing l.fn.source.tokens.now (statements l.depth) (behind_token stmt_rows) l.context l.initial.builder l.builder l.fn.input l.here) × (l.builder.number ≡ l.here.at)

abbrev pub decreases-more_statements-more : goal.decreases-more_statements-more
decreases-more_statements-more l = length (remaining l.fn.source.tokens.now l.here)

abbrev pub invariant-elsif_branches-more : goal.invariant-elsif_branches-more
invariant-elsif_branches-more l = (RepeatListing l.fn.source.tokens.now (branches l.depth l.keyword) (behind_token branch_rows) l.context l.initial.builder l.builder l.fn.input l.here) × (l.builder.number ≡ l.here.at)

abbrev pub decreases-elsif_branches-more : goal.decreases-elsif_branches-more
decreases-elsif_branches-more l = length (remaining l.fn.source.tokens.now l.here)

abbrev pub invariant-more_cases-more : goal.invariant-more_cases-more
invariant-more_cases-more l = (RepeatListing l.fn.source.tokens.now (cases l.depth) (behind_token case_rows) l.context l.initial.builder l.builder l.fn.input l.here) × (l.builder.number ≡ l.here.at)

abbrev pub decreases-more_cases-more : goal.decreases-more_cases-more
decreases-more_cases-more l = length (remaining l.fn.source.tokens.now l.here)
