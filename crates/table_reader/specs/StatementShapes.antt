-- Parts of statements that have no type in the syntax tree: their events and their entries.
use Rattle.std.specs.Prelude.{ℕ, ◌++◌, true, Option, Some, None}
use Rattle.std.specs.Global.{Box, Vec}
use Rattle.ob_scan.specs.declared.kind.Kind.{Kind}
use Rattle.ob_scan.specs.declared.kind.Kind.TheVariants as kinds
use Rattle.ob_tree.specs.declared.expression.Expr.{Expr}
use Rattle.ob_tree.specs.declared.name.OneOrMore.{OneOrMore}
use Rattle.ob_tree.specs.declared.statement.Label.{Label}
use Rattle.ob_tree.specs.declared.statement.LabelRange.{LabelRange}
use Rattle.ob_tree.specs.declared.statement.Case.{Case}
use Rattle.ob_tree.specs.declared.statement.Stmt.{Stmt}
use Rattle.ob_tree.specs.declared.statement.Branch.{Branch}
use Rattle.ob_tree.specs.declared.statement.StatementSequence.{StatementSequence}
use Rattle.ob_tree.specs.TreeEvents.{Events, word, separated}
use Rattle.ob_tree.specs.TreeEvents.{if_present as shown_there, each_after as shown_after}
use Rattle.ob_tree.specs.Expressions.{expr_events}
use Rattle.ob_tree.specs.Statements.{label_events, label_range_events, case_events, stmt_events, block_events, branch_events}
use Rattle.module_table.specs.declared.builder.Context.{Context}
use Rattle.module_table.specs.TableStages.{Stage, after}
use Rattle.module_table.specs.Parts.{Fragment, token, both, if_present}
use Rattle.table_rules.specs.Expressions.{each_after, expr_rows}
use Rattle.table_rules.specs.Statements.{label_rows, label_range_rows, case_rows, stmt_rows, block_rows, branch_rows, variable_rows}
use Rattle.table_reader.specs.SelectorSlots.{written}

-- the events of two consecutive parts: those of the first part, then those of the second
abbrev pub then_events : {A B : Type 0} → (A → Events) → (B → Events) → A × B → Events
then_events f g x = f x.0 ++ g x.1

-- the entries of two consecutive parts: those of the first part, then those of the second
abbrev pub then_rows : {A B : Type 0} → (A → Fragment) → (B → Fragment) → A × B → Fragment
then_rows p q x = both (p x.0) (q x.1)

-- a keyword or delimiter
abbrev pub word_events : Kind → Unit {0} → Events
word_events k x = word k

abbrev pub word_rows : Unit {0} → Fragment
word_rows x = token

-- the events of `..` and the upper bound of a range of labels, if they are present
abbrev pub high_label_events : Option Label → Events
high_label_events = shown_there (λ l. word kinds.DotDot ++ label_events l)

abbrev pub high_label_rows : Option Label → Fragment
high_label_rows = if_present (λ l. both token (label_rows l))

-- ranges of labels, each after a comma
abbrev pub ranges_events : Vec LabelRange → Events
ranges_events v = shown_after kinds.Comma label_range_events v.items

abbrev pub ranges_rows : Vec LabelRange → Fragment
ranges_rows v = each_after label_range_rows v.items

-- one range of labels or more, separated by commas
abbrev pub labels_events : OneOrMore LabelRange → Events
labels_events = separated kinds.Comma label_range_events

abbrev pub labels_rows : OneOrMore LabelRange → Fragment
labels_rows l = both (label_range_rows l.first) (each_after label_range_rows l.rest.items)

-- statements, each after a semicolon
abbrev pub statements_events : Vec Stmt → Events
statements_events v = shown_after kinds.Semicolon stmt_events v.items

abbrev pub statements_rows : Vec Stmt → Fragment
statements_rows v = each_after stmt_rows v.items

-- the events of branches, each after ELSIF; the keyword, THEN or DO, is between the condition and the statements of each
abbrev pub branches_events : Kind → Vec Branch → Events
branches_events k v = shown_after kinds.Elsif (λ b. branch_events b k) v.items

abbrev pub branches_rows : Vec Branch → Fragment
branches_rows v = each_after branch_rows v.items

-- cases, each after a bar
abbrev pub cases_events : Vec Case → Events
cases_events v = shown_after kinds.Bar case_events v.items

abbrev pub cases_rows : Vec Case → Fragment
cases_rows v = each_after case_rows v.items

-- the events of this keyword and the statements after it, if they are present
abbrev pub body_events : Kind → Option (Box StatementSequence) → Events
body_events k = shown_there (λ b. word k ++ block_events b.value)

abbrev pub body_rows : Option (Box StatementSequence) → Fragment
body_rows = if_present (λ b. both token (block_rows b.value))

-- the events of this keyword and the expression after it, if they are present
abbrev pub value_events : Kind → Option Expr → Events
value_events k = shown_there (λ e. word k ++ expr_events e)

abbrev pub value_rows : Option Expr → Fragment
value_rows = if_present (λ e. both token (expr_rows e))

-- the stage after the right side of an assignment, if present: the assigned designator's entry, at index `at`, says that it is assigned
-- to; the entries of the right side are appended; `head` is the index of the designator's first identifier
abbrev pub assigned_stage : ℕ → ℕ → Context → Option Expr → Stage → Stage
assigned_stage head at c None s = s
assigned_stage head at c (Some e) s = after (both token (expr_rows e)) c (written at (record { head = head; block = c.block; is_written = true }) s)

-- the entries of the variable of a FOR statement; its index doesn't matter
abbrev pub for_variable_rows : ℕ → Fragment
for_variable_rows n = variable_rows

-- the cases of a CASE statement, the first one apart from the others, and its END
abbrev pub CasesEnd : Type 0
CasesEnd = Case × (Vec Case × Unit {0})

abbrev pub cases_end_events : CasesEnd → Events
cases_end_events = then_events case_events (then_events cases_events (word_events kinds.End))

abbrev pub cases_end_rows : CasesEnd → Fragment
cases_end_rows = then_rows case_rows (then_rows cases_rows word_rows)

-- the parts of a FOR statement from its DO on: DO, statements and END
abbrev pub ForBody : Type 0
ForBody = Unit {0} × (StatementSequence × Unit {0})

abbrev pub for_body_events : ForBody → Events
for_body_events = then_events (word_events kinds.Do) (then_events block_events (word_events kinds.End))

abbrev pub for_body_rows : ForBody → Fragment
for_body_rows = then_rows word_rows (then_rows block_rows word_rows)

-- the parts of a FOR statement from its TO on: TO, the limit, the step if it is present, and the parts from DO on
abbrev pub ForLimit : Type 0
ForLimit = Unit {0} × (Expr × (Option Expr × ForBody))

abbrev pub for_limit_events : ForLimit → Events
for_limit_events = then_events (word_events kinds.To) (then_events expr_events (then_events (value_events kinds.By) for_body_events))

abbrev pub for_limit_rows : ForLimit → Fragment
for_limit_rows = then_rows word_rows (then_rows expr_rows (then_rows value_rows for_body_rows))
