-- The grammar of statements, a reader for each production (Oberon-07 report, section 9).
use Rattle.std.specs.Prelude.{ℕ, zero, suc, List, [], ◌∷◌, Option, Some, Ok, Err, Bool, true, false, if◌then◌else◌}
use Rattle.ob_scan.specs.declared.kind.Kind.{Kind}
use Rattle.ob_scan.specs.declared.kind.Kind.TheVariants as kinds
use Rattle.ob_tree.specs.declared.expression.Literal.TheVariants as literals
use Rattle.ob_tree.specs.declared.token.Leaf.{Leaf}
use Rattle.ob_tree.specs.declared.token.Leaf.TheVariants as leafs
use Rattle.ob_tree.specs.Constructs as constructs
use Rattle.ob_tree.specs.TreeEvents.{Value, construct, word, used}
use Rattle.ob_grammar.specs.Lookahead.{uncons, head_is}
use Rattle.ob_grammar.specs.Combinators.{Unexpected, too_deep_error, Read, Reader, expect_at, accept_at, name_at, begins, seq, prefixed, node, optional, many, several}
use Rattle.ob_grammar.specs.ReadNames.{qualident_after}
use Rattle.ob_grammar.specs.ReadExpressions.{designator_with, expr_at}

-- ---- the tokens that a construct begins with

abbrev pub label_first : Leaf → Bool
label_first (leafs.Name n) = true
label_first (leafs.Value literals.Integer n) = true
label_first (leafs.Value literals.Text n) = true
label_first l = false

abbrev pub statement_first : Leaf → Bool
statement_first (leafs.Name n) = true
statement_first (leafs.Word kinds.If) = true
statement_first (leafs.Word kinds.Case) = true
statement_first (leafs.Word kinds.While) = true
statement_first (leafs.Word kinds.Repeat) = true
statement_first (leafs.Word kinds.For) = true
statement_first l = false

-- ---- productions

-- label = integer | string | qualident
abbrev pub label_from : Option (Leaf × List Leaf) → Read
label_from (Some (leafs.Name n, rest)) = qualident_after n rest
label_from (Some (leafs.Value literals.Integer n, rest)) = Ok (Value literals.Integer n ∷ [], rest)
label_from (Some (leafs.Value literals.Text n, rest)) = Ok (Value literals.Text n ∷ [], rest)
label_from o = Err (Unexpected o)

unfoldable pub case_label_at : Reader
case_label_at ls = label_from (uncons ls)

-- LabelRange = label [".." label]
unfoldable pub label_range_at : Reader
label_range_at = seq case_label_at (optional (accept_at kinds.DotDot) case_label_at)

-- case = [LabelRange {"," LabelRange} ":" StatementSequence]
unfoldable pub case_with : Reader → Reader
case_with block = node constructs.Case (optional (begins label_first) (seq (several kinds.Comma label_range_at) (seq (expect_at kinds.Colon) block)))

-- StatementSequence = statement {";" statement}
unfoldable pub block_with : Reader → Reader
block_with statement = several kinds.Semicolon statement

-- expression THEN StatementSequence, or with DO
unfoldable pub branch_with : Reader → Reader → Kind → Reader
branch_with expr block k = seq expr (seq (expect_at k) block)

-- the part of a statement after IF
unfoldable pub if_with : Reader → Reader → Reader
if_with expr block = seq (branch_with expr block kinds.Then) (seq (many (accept_at kinds.Elsif) (branch_with expr block kinds.Then)) (seq (optional (accept_at kinds.Else) block) (expect_at kinds.End)))

-- the part of a statement after CASE
unfoldable pub cases_with : Reader → Reader → Reader
cases_with expr block = seq expr (seq (expect_at kinds.Of) (seq (case_with block) (seq (many (accept_at kinds.Bar) (case_with block)) (expect_at kinds.End))))

-- the part of a statement after WHILE
unfoldable pub while_with : Reader → Reader → Reader
while_with expr block = seq (branch_with expr block kinds.Do) (seq (many (accept_at kinds.Elsif) (branch_with expr block kinds.Do)) (expect_at kinds.End))

-- the part of a statement after REPEAT
unfoldable pub repeat_with : Reader → Reader → Reader
repeat_with expr block = seq block (seq (expect_at kinds.Until) expr)

-- the part of a statement after FOR
unfoldable pub for_with : Reader → Reader → Reader
for_with expr block = seq (name_at used) (seq (expect_at kinds.Assign) (seq expr (seq (expect_at kinds.To) (seq expr (seq (optional (accept_at kinds.By) expr) (seq (expect_at kinds.Do) (seq block (expect_at kinds.End))))))))

-- a designator, or an assignment to it, after its first identifier
unfoldable pub assign_with : Reader → ℕ → Reader
assign_with expr n = seq (designator_with expr n) (optional (accept_at kinds.Assign) expr)

-- statement = [designator [":=" expression] | IfStatement | CaseStatement | WhileStatement | RepeatStatement | ForStatement]
abbrev pub statement_from : Reader → Reader → List Leaf → Option (Leaf × List Leaf) → Read
statement_from expr block ls (Some (leafs.Name n, rest)) = node constructs.Statement (assign_with expr n) rest
statement_from expr block ls (Some (leafs.Word kinds.If, rest)) = node constructs.Statement (prefixed (word kinds.If) (if_with expr block)) rest
statement_from expr block ls (Some (leafs.Word kinds.Case, rest)) = node constructs.Statement (prefixed (word kinds.Case) (cases_with expr block)) rest
statement_from expr block ls (Some (leafs.Word kinds.While, rest)) = node constructs.Statement (prefixed (word kinds.While) (while_with expr block)) rest
statement_from expr block ls (Some (leafs.Word kinds.Repeat, rest)) = node constructs.Statement (prefixed (word kinds.Repeat) (repeat_with expr block)) rest
statement_from expr block ls (Some (leafs.Word kinds.For, rest)) = node constructs.Statement (prefixed (word kinds.For) (for_with expr block)) rest
statement_from expr block ls _ = Ok (construct constructs.EmptyStatement [], ls)

unfoldable pub statement_with : Reader → Reader → Reader
statement_with expr block ls = statement_from expr block ls (uncons ls)

-- an empty statement; if another one begins here it is nested too deep
abbrev pub empty_or_deep : List Leaf → Option (Leaf × List Leaf) → Read
empty_or_deep ls o = if head_is statement_first o then Err (too_deep_error o) else Ok (construct constructs.EmptyStatement [], ls)

unfoldable pub empty_at : Reader
empty_at ls = empty_or_deep ls (uncons ls)

-- a statement for which n levels are left, itself one of them
unfoldable pub statement_at : ℕ → Reader
statement_at zero = empty_at
statement_at (suc d) = statement_with (expr_at d) (block_with (statement_at d))

-- statements, each of which has n levels left
abbrev pub block_at : ℕ → Reader
block_at d = block_with (statement_at d)
