-- The event sequences of statements, one definition for each production (Oberon-07 report, section 9).
use Rattle.std.specs.Prelude.{[], ◌∷◌, ◌++◌}
use Rattle.ob_scan.specs.declared.kind.Kind.{Kind}
use Rattle.ob_scan.specs.declared.kind.Kind.TheVariants as kinds
use Rattle.ob_tree.specs.declared.expression.Literal.TheVariants as literals
use Rattle.ob_tree.specs.declared.statement.Label.{Label}
use Rattle.ob_tree.specs.declared.statement.Label.TheVariants as labels
use Rattle.ob_tree.specs.declared.statement.LabelRange.{LabelRange}
use Rattle.ob_tree.specs.declared.statement.Case.{Case, Case-F, fold-Case}
use Rattle.ob_tree.specs.declared.statement.Case.TheOpen as layers
use Rattle.ob_tree.specs.declared.statement.Stmt.{Stmt, Stmt-F, fold-Stmt}
use Rattle.ob_tree.specs.declared.statement.StatementSequence.{StatementSequence, StatementSequence-F, fold-StatementSequence}
use Rattle.ob_tree.specs.declared.statement.Branch.{Branch, Branch-F, fold-Branch}
use Rattle.ob_tree.specs.declared.statement.For.{For, For-F, fold-For}
use Rattle.ob_tree.specs.Constructs as constructs
use Rattle.ob_tree.specs.TreeEvents.{Events, Value, construct, word, used, if_present, each_after, separated}
use Rattle.ob_tree.specs.Names.{qualident_events}
use Rattle.ob_tree.specs.Expressions.{expr_events, designator_events}

-- label = integer | string | qualident
unfoldable pub label_events : Label → Events
label_events (labels.Integer n) = Value literals.Integer n ∷ []
label_events (labels.Text n) = Value literals.Text n ∷ []
label_events (labels.Name q) = qualident_events q

-- LabelRange = label [".." label]
unfoldable pub label_range_events : LabelRange → Events
label_range_events r = label_events r.low ++ if_present (λ l. word kinds.DotDot ++ label_events l) r.high

-- Each `.._step` below gives the event sequence of a node from the event sequences of its children. A branch takes the keyword between
-- its condition and its statements as an argument: THEN in an IF, DO in a WHILE.
abbrev pub KeywordEvents : Type 0
KeywordEvents = Kind → Events

-- case = [LabelRange {"," LabelRange} ":" StatementSequence]
abbrev pub case_parts : Case-F Events Events KeywordEvents Events Events → Events
case_parts layers.Nothing = []
case_parts (layers.Labelled ranges body) = separated kinds.Comma label_range_events ranges ++ (word kinds.Colon ++ body.value)

abbrev pub case_step : Case-F Events Events KeywordEvents Events Events → Events
case_step c = construct constructs.Case (case_parts c)

-- statement = [designator [":=" expression] | IfStatement | CaseStatement | WhileStatement | RepeatStatement | ForStatement]
-- IfStatement = IF expression THEN StatementSequence {ELSIF expression THEN StatementSequence} [ELSE StatementSequence] END
-- CaseStatement = CASE expression OF case {"|" case} END
-- WhileStatement = WHILE expression DO StatementSequence {ELSIF expression DO StatementSequence} END
-- RepeatStatement = REPEAT StatementSequence UNTIL expression
abbrev pub stmt_step : Stmt-F Events Events KeywordEvents Events Events → Events
stmt_step layers.Empty = construct constructs.EmptyStatement []
stmt_step (layers.Assign d e) = construct constructs.Statement (designator_events d ++ (word kinds.Assign ++ expr_events e))
stmt_step (layers.Call d) = construct constructs.Statement (designator_events d)
stmt_step (layers.If first rest otherwise) = construct constructs.Statement (
    word kinds.If ++ (first.value kinds.Then ++ (each_after kinds.Elsif (λ b. b kinds.Then) rest.items ++
    (if_present (λ b. word kinds.Else ++ b.value) otherwise ++ word kinds.End))))
stmt_step (layers.Case e first rest) = construct constructs.Statement (
    word kinds.Case ++ (expr_events e ++ (word kinds.Of ++ (first.value ++
    (each_after kinds.Bar (λ c. c) rest.items ++ word kinds.End)))))
stmt_step (layers.While first rest) = construct constructs.Statement (
    word kinds.While ++ (first.value kinds.Do ++ (each_after kinds.Elsif (λ b. b kinds.Do) rest.items ++ word kinds.End)))
stmt_step (layers.Repeat body e) = construct constructs.Statement (word kinds.Repeat ++ (body.value ++ (word kinds.Until ++ expr_events e)))
stmt_step (layers.For f) = construct constructs.Statement f.value

-- StatementSequence = statement {";" statement}
abbrev pub block_step : StatementSequence-F Events Events KeywordEvents Events Events → Events
block_step b = b.first ++ each_after kinds.Semicolon (λ s. s) b.rest.items

-- expression (THEN | DO) StatementSequence
abbrev pub branch_step : Branch-F Events Events KeywordEvents Events Events → KeywordEvents
branch_step b = λ k. expr_events b.condition ++ (word k ++ b.body)

-- ForStatement = FOR ident ":=" expression TO expression [BY expression] DO StatementSequence END
abbrev pub for_step : For-F Events Events KeywordEvents Events Events → Events
for_step f =
    word kinds.For ++ (used f.variable ++ (word kinds.Assign ++ (expr_events f.from ++ (word kinds.To ++ (expr_events f.to ++
    (if_present (λ e. word kinds.By ++ expr_events e) f.by ++ (word kinds.Do ++ (f.body ++ word kinds.End))))))))

-- Each definition below gives the event sequence of a whole tree of one production, by folding the steps over the tree.
unfoldable pub case_events : Case → Events
case_events = fold-Case Events Events KeywordEvents Events Events case_step stmt_step branch_step for_step block_step

unfoldable pub stmt_events : Stmt → Events
stmt_events = fold-Stmt Events Events KeywordEvents Events Events case_step stmt_step branch_step for_step block_step

unfoldable pub block_events : StatementSequence → Events
block_events = fold-StatementSequence Events Events KeywordEvents Events Events case_step stmt_step branch_step for_step block_step

unfoldable pub branch_events : Branch → Kind → Events
branch_events = fold-Branch Events Events KeywordEvents Events Events case_step stmt_step branch_step for_step block_step

unfoldable pub for_events : For → Events
for_events = fold-For Events Events KeywordEvents Events Events case_step stmt_step branch_step for_step block_step
