-- The entries of names and statements, a step for each production (Oberon-07 report, sections 4 and 9).
use Rattle.std.specs.Prelude.{None, true, false}
use Rattle.ob_tree.specs.declared.name.Qualident.{Qualident}
use Rattle.ob_tree.specs.declared.statement.Label.{Label}
use Rattle.ob_tree.specs.declared.statement.Label.TheVariants as labels
use Rattle.ob_tree.specs.declared.statement.LabelRange.{LabelRange}
use Rattle.ob_tree.specs.declared.statement.Case.{Case, Case-F, fold-Case}
use Rattle.ob_tree.specs.declared.statement.Case.TheOpen as layers
use Rattle.ob_tree.specs.declared.statement.Stmt.{Stmt, Stmt-F, fold-Stmt}
use Rattle.ob_tree.specs.declared.statement.StatementSequence.{StatementSequence, StatementSequence-F, fold-StatementSequence}
use Rattle.ob_tree.specs.declared.statement.Branch.{Branch, Branch-F, fold-Branch}
use Rattle.ob_tree.specs.declared.statement.For.{For, For-F, fold-For}
use Rattle.module_table.specs.Parts.{Fragment, nothing, token, both, with_rows, if_present}
use Rattle.table_rules.specs.Expressions.{used, each_after, expr_rows, designator_rows, designator_row}

-- qualident = ident ["." ident]; the use has the index of the name after the dot
unfoldable pub qualident_rows : Qualident → Fragment
qualident_rows q = both (used q.member) (if_present (λ m. both token token) q.member)

-- label = integer | string | qualident
unfoldable pub label_rows : Label → Fragment
label_rows (labels.Integer n) = token
label_rows (labels.Text n) = token
label_rows (labels.Name q) = qualident_rows q

-- LabelRange = label [".." label]
unfoldable pub label_range_rows : LabelRange → Fragment
label_range_rows r = both (label_rows r.low) (if_present (λ l. both token (label_rows l)) r.high)

-- Each `.._step` below gives the entries of a node from the entries of its children.

-- case = [LabelRange {"," LabelRange} ":" StatementSequence]
abbrev pub case_step : Case-F Fragment Fragment Fragment Fragment Fragment → Fragment
case_step layers.Nothing = nothing
case_step (layers.Labelled ranges body) = both (label_range_rows ranges.first) (both (each_after label_range_rows ranges.rest.items) (both token body.value))

-- statement = [designator [":=" expression] | IfStatement | CaseStatement | WhileStatement | RepeatStatement | ForStatement]
-- IfStatement = IF expression THEN StatementSequence {ELSIF expression THEN StatementSequence} [ELSE StatementSequence] END
-- CaseStatement = CASE expression OF case {"|" case} END
-- WhileStatement = WHILE expression DO StatementSequence {ELSIF expression DO StatementSequence} END
-- RepeatStatement = REPEAT StatementSequence UNTIL expression
abbrev pub stmt_step : Stmt-F Fragment Fragment Fragment Fragment Fragment → Fragment
stmt_step layers.Empty = nothing
stmt_step (layers.Assign d e) = both (designator_rows true d) (both token (expr_rows e))
stmt_step (layers.Call d) = designator_rows false d
stmt_step (layers.If first rest otherwise) =
    both token (both first.value (both (each_after (λ b. b) rest.items) (both (if_present (λ b. both token b.value) otherwise) token)))
stmt_step (layers.Case e first rest) =
    both token (both (expr_rows e) (both token (both first.value (both (each_after (λ c. c) rest.items) token))))
stmt_step (layers.While first rest) = both token (both first.value (both (each_after (λ b. b) rest.items) token))
stmt_step (layers.Repeat body e) = both token (both body.value (both token (expr_rows e)))
stmt_step (layers.For f) = f.value

-- StatementSequence = statement {";" statement}
abbrev pub block_step : StatementSequence-F Fragment Fragment Fragment Fragment Fragment → Fragment
block_step b = both b.first (each_after (λ s. s) b.rest.items)

-- expression THEN StatementSequence, or with DO
abbrev pub branch_step : Branch-F Fragment Fragment Fragment Fragment Fragment → Fragment
branch_step b = both (expr_rows b.condition) (both token b.body)

-- the variable of a FOR statement
unfoldable pub variable_rows : Fragment
variable_rows = with_rows (designator_row true) (used None)

-- ForStatement = FOR ident ":=" expression TO expression [BY expression] DO StatementSequence END
abbrev pub for_step : For-F Fragment Fragment Fragment Fragment Fragment → Fragment
for_step f =
    both token (both variable_rows (both token (both (expr_rows f.from) (both token (both (expr_rows f.to)
    (both (if_present (λ e. both token (expr_rows e)) f.by) (both token (both f.body token))))))))

unfoldable pub case_rows : Case → Fragment
case_rows = fold-Case Fragment Fragment Fragment Fragment Fragment case_step stmt_step branch_step for_step block_step

unfoldable pub stmt_rows : Stmt → Fragment
stmt_rows = fold-Stmt Fragment Fragment Fragment Fragment Fragment case_step stmt_step branch_step for_step block_step

unfoldable pub block_rows : StatementSequence → Fragment
block_rows = fold-StatementSequence Fragment Fragment Fragment Fragment Fragment case_step stmt_step branch_step for_step block_step

unfoldable pub branch_rows : Branch → Fragment
branch_rows = fold-Branch Fragment Fragment Fragment Fragment Fragment case_step stmt_step branch_step for_step block_step

unfoldable pub for_rows : For → Fragment
for_rows = fold-For Fragment Fragment Fragment Fragment Fragment case_step stmt_step branch_step for_step block_step
