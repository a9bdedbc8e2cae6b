-- The parts of statements.
use Rattle.std.proofs.Common.{ℕ, Option}
use Rattle.std.specs.Global.{Box, Vec}
use Rattle.ob_scan.specs.declared.kind.Kind.{Kind}
use Rattle.ob_scan.specs.declared.kind.Kind.TheVariants as kinds
use Rattle.ob_tree.specs.declared.expression.Expr.{Expr}
use Rattle.ob_tree.specs.declared.name.OneOrMore.{OneOrMore}
use Rattle.ob_tree.specs.declared.statement.Branch.{Branch}
use Rattle.ob_tree.specs.declared.statement.Case.{Case}
use Rattle.ob_tree.specs.declared.statement.LabelRange.{LabelRange}
use Rattle.ob_tree.specs.declared.statement.StatementSequence.{StatementSequence}
use Rattle.ob_tree.specs.TreeEvents.{used}
use Rattle.ob_tree.specs.Expressions.{expr_events}
use Rattle.ob_tree.specs.Statements.{block_events, branch_events, case_events}
use Rattle.table_rules.specs.Expressions.{expr_rows}
use Rattle.table_rules.specs.Statements.{block_rows, branch_rows, case_rows}
use Rattle.ob_grammar.specs.Combinators.{accept_at, many, name_at, optional, several}
use Rattle.ob_grammar.specs.ReadExpressions.{expr_at}
use Rattle.ob_grammar.specs.ReadStatements.{block_at, branch_with, case_with, label_range_at}
use Rattle.table_reader.specs.StatementShapes.{CasesEnd, ForBody, ForLimit, body_events, body_rows, branches_events, branches_rows, cases_events, cases_rows, labels_events, labels_rows, value_events, value_rows, for_variable_rows}
use Rattle.table_reader.proofs.Parts.{Part, then_part, word_part}

abbrev pub expr_part : ℕ → Part Expr
expr_part d = record { events = expr_events; piece = expr_rows; read = expr_at d }

abbrev pub block_part : ℕ → Part StatementSequence
block_part d = record { events = block_events; piece = block_rows; read = block_at d }

-- statements after this word
abbrev pub word_block_part : ℕ → Kind → Part (Unit {0} × StatementSequence)
word_block_part d k = then_part (word_part k) (block_part d)

-- statements after this word, if the word is present
abbrev pub body_part : ℕ → Kind → Part (Option (Box StatementSequence))
body_part d k = record { events = body_events k; piece = body_rows; read = optional (accept_at k) (block_at d) }

-- an expression after this word, if the word is present
abbrev pub value_part : ℕ → Kind → Part (Option Expr)
value_part d k = record { events = value_events k; piece = value_rows; read = optional (accept_at k) (expr_at d) }

-- ---- IF and WHILE

abbrev pub branch_part : ℕ → Kind → Part Branch
branch_part d k = record { events = λ b. branch_events b k; piece = branch_rows; read = branch_with (expr_at d) (block_at d) k }

abbrev pub branches_part : ℕ → Kind → Part (Vec Branch)
branches_part d k = record { events = branches_events k; piece = branches_rows; read = many (accept_at kinds.Elsif) (branch_with (expr_at d) (block_at d) k) }

abbrev pub if_end_part : ℕ → Part (Option (Box StatementSequence) × Unit {0})
if_end_part d = then_part (body_part d kinds.Else) (word_part kinds.End)

abbrev pub if_rest_part : ℕ → Part (Vec Branch × (Option (Box StatementSequence) × Unit {0}))
if_rest_part d = then_part (branches_part d kinds.Then) (if_end_part d)

abbrev pub while_rest_part : ℕ → Part (Vec Branch × Unit {0})
while_rest_part d = then_part (branches_part d kinds.Do) (word_part kinds.End)

-- ---- REPEAT

abbrev pub repeat_rest_part : ℕ → Part (Unit {0} × Expr)
repeat_rest_part d = then_part (word_part kinds.Until) (expr_part d)

-- ---- CASE

abbrev pub labels_part : Part (OneOrMore LabelRange)
labels_part = record { events = labels_events; piece = labels_rows; read = several kinds.Comma label_range_at }

abbrev pub case_part : ℕ → Part Case
case_part d = record { events = case_events; piece = case_rows; read = case_with (block_at d) }

abbrev pub cases_part : ℕ → Part (Vec Case)
cases_part d = record { events = cases_events; piece = cases_rows; read = many (accept_at kinds.Bar) (case_with (block_at d)) }

abbrev pub cases_rest_part : ℕ → Part (Vec Case × Unit {0})
cases_rest_part d = then_part (cases_part d) (word_part kinds.End)

abbrev pub cases_end_part : ℕ → Part CasesEnd
cases_end_part d = then_part (case_part d) (cases_rest_part d)

abbrev pub of_cases_part : ℕ → Part (Unit {0} × CasesEnd)
of_cases_part d = then_part (word_part kinds.Of) (cases_end_part d)

-- ---- FOR, from its end on

abbrev pub block_end_part : ℕ → Part (StatementSequence × Unit {0})
block_end_part d = then_part (block_part d) (word_part kinds.End)

abbrev pub for_body_part : ℕ → Part ForBody
for_body_part d = then_part (word_part kinds.Do) (block_end_part d)

abbrev pub for_step_part : ℕ → Part (Option Expr × ForBody)
for_step_part d = then_part (value_part d kinds.By) (for_body_part d)

abbrev pub for_end_part : ℕ → Part (Expr × (Option Expr × ForBody))
for_end_part d = then_part (expr_part d) (for_step_part d)

abbrev pub for_limit_part : ℕ → Part ForLimit
for_limit_part d = then_part (word_part kinds.To) (for_end_part d)

abbrev pub for_range_part : ℕ → Part (Expr × ForLimit)
for_range_part d = then_part (expr_part d) (for_limit_part d)

abbrev pub for_rest_part : ℕ → Part (Unit {0} × (Expr × ForLimit))
for_rest_part d = then_part (word_part kinds.Assign) (for_range_part d)

-- the variable
abbrev pub variable_part : Part ℕ
variable_part = record { events = used; piece = for_variable_rows; read = name_at used }
