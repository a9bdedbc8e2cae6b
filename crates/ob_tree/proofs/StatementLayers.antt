-- The equations of the event sequences of statements, layer by layer.
use Rattle.std.proofs.Common.{◌≡◌, ℕ, [], ◌∷◌, ◌++◌, Option, Some, None, refl, ap, ◌∙◌}
use Rattle.std.specs.Prelude.{Vec}
use Rattle.std.specs.declared.boxed.Box.{Box}
use Rattle.std.specs.declared.alloc.Global.{Global}
use Rattle.ob_scan.specs.declared.kind.Kind.{Kind}
use Rattle.ob_scan.specs.declared.kind.Kind.TheVariants as kinds
use Rattle.ob_tree.specs.declared.expression.Designator.{Designator}
use Rattle.ob_tree.specs.declared.expression.Expr.{Expr}
use Rattle.ob_tree.specs.declared.expression.Literal.TheVariants as literals
use Rattle.ob_tree.specs.declared.name.OneOrMore.{OneOrMore}
use Rattle.ob_tree.specs.declared.name.Qualident.{Qualident}
use Rattle.ob_tree.specs.declared.statement.Label.TheVariants as labels
use Rattle.ob_tree.specs.declared.statement.LabelRange.{LabelRange}
use Rattle.ob_tree.specs.declared.statement.Case.{Case, fold_out-Case, roll-Case, out-Case, out-roll-Case, map-Case}
use Rattle.ob_tree.specs.declared.statement.Case.TheOpen as layers
use Rattle.ob_tree.specs.declared.statement.Case.TheShapes as shapes
use Rattle.ob_tree.specs.declared.statement.Case.TheVariants as cases
use Rattle.ob_tree.specs.declared.statement.Stmt.{Stmt, fold_out-Stmt, roll-Stmt, out-Stmt, out-roll-Stmt, map-Stmt}
use Rattle.ob_tree.specs.declared.statement.Stmt.TheVariants as statements
use Rattle.ob_tree.specs.declared.statement.StatementSequence.{StatementSequence, fold_out-StatementSequence, roll-StatementSequence, out-StatementSequence, out-roll-StatementSequence}
use Rattle.ob_tree.specs.declared.statement.Branch.{Branch, fold_out-Branch, roll-Branch, out-Branch, out-roll-Branch}
use Rattle.ob_tree.specs.declared.statement.For.{For, fold_out-For, roll-For, out-For, out-roll-For}
use Rattle.ob_tree.specs.Constructs as constructs
use Rattle.ob_tree.specs.TreeEvents.{Events, Value, construct, word, used, if_present, each_after, separated}
use Rattle.ob_tree.specs.Names.{qualident_events}
use Rattle.ob_tree.specs.Expressions.{expr_events, designator_events}
use Rattle.ob_tree.specs.Statements.{KeywordEvents, label_events, label_range_events, case_step, stmt_step, block_step, branch_step, for_step, case_events, stmt_events, block_events, branch_events, for_events}
use Rattle.ob_tree.proofs.StatementInduction.{CaseLayer, StmtLayer, BranchLayer, ForLayer, BlockLayer}
use Rattle.ob_tree.proofs.Eaches.{each-map}

else_there : (f : StatementSequence → Events) (o : Option (Box StatementSequence Global)) → if_present (λ b. word kinds.Else ++ b.value) ((shapes.former-Stmt-If-2).map StatementSequence Events f o)
    ≡ if_present (λ b. word kinds.Else ++ f b.value) o
else_there f None = refl
else_there f (Some b) = refl

-- ---- labels

pub integer_label : (n : ℕ) → label_events (labels.Integer n) ≡ Value literals.Integer n ∷ []
unfolding label_events
integer_label n = refl

pub text_label : (n : ℕ) → label_events (labels.Text n) ≡ Value literals.Text n ∷ []
unfolding label_events
text_label n = refl

pub name_label : (q : Qualident) → label_events (labels.Name q) ≡ qualident_events q
unfolding label_events
name_label q = refl

pub label_range_out : (r : LabelRange) → label_range_events r ≡ label_events r.low ++ if_present (λ l. word kinds.DotDot ++ label_events l) r.high
unfolding label_range_events
label_range_out r = refl

-- ---- the event sequences of a layer's children

abbrev pub case_shown : CaseLayer → Events
case_shown layers.Nothing = []
case_shown (layers.Labelled ranges body) = separated kinds.Comma label_range_events ranges ++ (word kinds.Colon ++ block_events body.value)

abbrev pub if_shown : Box Branch Global → Events → Events → Events
if_shown first rest otherwise = word kinds.If ++ (branch_events first.value kinds.Then ++ (rest ++ (otherwise ++ word kinds.End)))

-- a statement with its construct, since the empty one has a construct of its own
abbrev pub stmt_shown : StmtLayer → Events
stmt_shown layers.Empty = construct constructs.EmptyStatement []
stmt_shown (layers.Assign d e) = construct constructs.Statement (designator_events d ++ (word kinds.Assign ++ expr_events e))
stmt_shown (layers.Call d) = construct constructs.Statement (designator_events d)
stmt_shown (layers.If first rest otherwise) = construct constructs.Statement (if_shown first (each_after kinds.Elsif (λ b. branch_events b kinds.Then) rest.items) (if_present (λ b. word kinds.Else ++ block_events b.value) otherwise))
stmt_shown (layers.Case e first rest) = construct constructs.Statement (word kinds.Case ++ (expr_events e ++ (word kinds.Of ++ (case_events first.value ++ (each_after kinds.Bar case_events rest.items ++ word kinds.End)))))
stmt_shown (layers.While first rest) = construct constructs.Statement (word kinds.While ++ (branch_events first.value kinds.Do ++ (each_after kinds.Elsif (λ b. branch_events b kinds.Do) rest.items ++ word kinds.End)))
stmt_shown (layers.Repeat body e) = construct constructs.Statement (word kinds.Repeat ++ (block_events body.value ++ (word kinds.Until ++ expr_events e)))
stmt_shown (layers.For f) = construct constructs.Statement (for_events f.value)

abbrev pub block_shown : BlockLayer → Events
block_shown b = stmt_events b.first ++ each_after kinds.Semicolon stmt_events b.rest.items

abbrev pub branch_shown : BranchLayer → Kind → Events
branch_shown b k = expr_events b.condition ++ (word k ++ block_events b.body)

abbrev pub for_shown : ForLayer → Events
for_shown f = word kinds.For ++ (used f.variable ++ (word kinds.Assign ++ (expr_events f.from ++ (word kinds.To ++ (expr_events f.to ++ (if_present (λ e. word kinds.By ++ expr_events e) f.by ++ (word kinds.Do ++ (block_events f.body ++ word kinds.End))))))))

case_seen : (x : CaseLayer) → case_step (map-Case Case Stmt Branch For StatementSequence Events Events KeywordEvents Events Events case_events stmt_events branch_events for_events block_events x)
    ≡ construct constructs.Case (case_shown x)
case_seen layers.Nothing = refl
case_seen (layers.Labelled ranges body) = refl

pub case_out : (c : Case) → case_events c ≡ construct constructs.Case (case_shown (out-Case c))
unfolding case_events stmt_events branch_events for_events block_events
case_out c = fold_out-Case Events Events KeywordEvents Events Events case_step stmt_step branch_step for_step block_step c ∙ case_seen (out-Case c)

stmt_seen : (x : StmtLayer) → stmt_step (map-Stmt Case Stmt Branch For StatementSequence Events Events KeywordEvents Events Events case_events stmt_events branch_events for_events block_events x)
    ≡ stmt_shown x
stmt_seen layers.Empty = refl
stmt_seen (layers.Assign d e) = refl
stmt_seen (layers.Call d) = refl
stmt_seen (layers.If first rest otherwise) =
    ap (λ (o : Events). construct constructs.Statement (if_shown first o (if_present (λ b. word kinds.Else ++ b.value) ((shapes.former-Stmt-If-2).map StatementSequence Events block_events otherwise)))) (each-map (λ (b : KeywordEvents). word kinds.Elsif ++ b kinds.Then) branch_events rest.items)
    ∙ ap (λ (o : Events). construct constructs.Statement (if_shown first (each_after kinds.Elsif (λ b. branch_events b kinds.Then) rest.items) o)) (else_there block_events otherwise)
stmt_seen (layers.Case e first rest) = ap (λ (o : Events). construct constructs.Statement (word kinds.Case ++ (expr_events e ++ (word kinds.Of ++ (case_events first.value ++ (o ++ word kinds.End)))))) (each-map (λ (c : Events). word kinds.Bar ++ c) case_events rest.items)
stmt_seen (layers.While first rest) = ap (λ (o : Events). construct constructs.Statement (word kinds.While ++ (branch_events first.value kinds.Do ++ (o ++ word kinds.End)))) (each-map (λ (b : KeywordEvents). word kinds.Elsif ++ b kinds.Do) branch_events rest.items)
stmt_seen (layers.Repeat body e) = refl
stmt_seen (layers.For f) = refl

pub stmt_out : (s : Stmt) → stmt_events s ≡ stmt_shown (out-Stmt s)
unfolding case_events stmt_events branch_events for_events block_events
stmt_out s = fold_out-Stmt Events Events KeywordEvents Events Events case_step stmt_step branch_step for_step block_step s ∙ stmt_seen (out-Stmt s)

pub block_out : (b : StatementSequence) → block_events b ≡ block_shown (out-StatementSequence b)
unfolding block_events stmt_events
block_out b =
    fold_out-StatementSequence Events Events KeywordEvents Events Events case_step stmt_step branch_step for_step block_step b
    ∙ ap (λ (o : Events). stmt_events (out-StatementSequence b).first ++ o) (each-map (λ (s : Events). word kinds.Semicolon ++ s) _ (out-StatementSequence b).rest.items)

pub branch_out : (b : Branch) (k : Kind) → branch_events b k ≡ branch_shown (out-Branch b) k
unfolding branch_events block_events
branch_out b k = ap (λ (w : KeywordEvents). w k) (fold_out-Branch Events Events KeywordEvents Events Events case_step stmt_step branch_step for_step block_step b)

pub for_out : (f : For) → for_events f ≡ for_shown (out-For f)
unfolding for_events block_events
for_out f = fold_out-For Events Events KeywordEvents Events Events case_step stmt_step branch_step for_step block_step f

-- ---- the equations at constructed values

cased : (c : Case) (x : CaseLayer) → out-Case c ≡ x → case_events c ≡ construct constructs.Case (case_shown x)
cased c x e = case_out c ∙ ap (λ y. construct constructs.Case (case_shown y)) e

stated : (s : Stmt) (x : StmtLayer) → out-Stmt s ≡ x → stmt_events s ≡ stmt_shown x
stated s x e = stmt_out s ∙ ap (λ y. stmt_shown y) e

pub case_rolled : (x : CaseLayer) → case_events (roll-Case x) ≡ construct constructs.Case (case_shown x)
case_rolled x = cased (roll-Case x) x (out-roll-Case x)

pub stmt_rolled : (x : StmtLayer) → stmt_events (roll-Stmt x) ≡ stmt_shown x
stmt_rolled x = stated (roll-Stmt x) x (out-roll-Stmt x)

pub block_rolled : (x : BlockLayer) → block_events (roll-StatementSequence x) ≡ block_shown x
block_rolled x = block_out (roll-StatementSequence x) ∙ ap (λ y. block_shown y) (out-roll-StatementSequence x)

pub branch_rolled : (x : BranchLayer) (k : Kind) → branch_events (roll-Branch x) k ≡ branch_shown x k
branch_rolled x k = branch_out (roll-Branch x) k ∙ ap (λ y. branch_shown y k) (out-roll-Branch x)

pub for_rolled : (x : ForLayer) → for_events (roll-For x) ≡ for_shown x
for_rolled x = for_out (roll-For x) ∙ ap (λ y. for_shown y) (out-roll-For x)

pub block_made : (s : Stmt) (v : Vec Stmt Global) → block_events (roll-StatementSequence (record { first = s; rest = v }))
    ≡ stmt_events s ++ each_after kinds.Semicolon stmt_events v.items
block_made s v = block_rolled _

pub branch_made : (e : Expr) (b : StatementSequence) (k : Kind) → branch_events (roll-Branch (record { condition = e; body = b })) k
    ≡ expr_events e ++ (word k ++ block_events b)
branch_made e b k = branch_rolled _ k

pub for_made : (n : ℕ) (low high : Expr) (step : Option Expr) (b : StatementSequence) → for_events (roll-For (record { variable = n; from = low; to = high; by = step; body = b }))
    ≡ word kinds.For ++ (used n ++ (word kinds.Assign ++ (expr_events low ++ (word kinds.To ++ (expr_events high ++ (if_present (λ e. word kinds.By ++ expr_events e) step ++ (word kinds.Do ++ (block_events b ++ word kinds.End))))))))
for_made n low high step b = for_rolled _

pub nothing_made : case_events cases.Nothing ≡ construct constructs.Case []
nothing_made = cased _ _ cases.outs-Nothing

pub labelled_made : (l : OneOrMore LabelRange) (b : Box StatementSequence Global) → case_events (cases.Labelled l b)
    ≡ construct constructs.Case (separated kinds.Comma label_range_events l ++ (word kinds.Colon ++ block_events b.value))
labelled_made l b = cased _ _ (cases.outs-Labelled l b)

pub empty_made : stmt_events statements.Empty ≡ construct constructs.EmptyStatement []
empty_made = stated _ _ statements.outs-Empty

pub assign_made : (d : Designator) (e : Expr) → stmt_events (statements.Assign d e)
    ≡ construct constructs.Statement (designator_events d ++ (word kinds.Assign ++ expr_events e))
assign_made d e = stated _ _ (statements.outs-Assign d e)

pub call_made : (d : Designator) → stmt_events (statements.Call d) ≡ construct constructs.Statement (designator_events d)
call_made d = stated _ _ (statements.outs-Call d)

pub if_made : (b : Box Branch Global) (v : Vec Branch Global) (o : Option (Box StatementSequence Global)) → stmt_events (statements.If b v o)
    ≡ construct constructs.Statement (word kinds.If ++ (branch_events b.value kinds.Then ++ (each_after kinds.Elsif (λ x. branch_events x kinds.Then) v.items ++ (if_present (λ x. word kinds.Else ++ block_events x.value) o ++ word kinds.End))))
if_made b v o = stated _ _ (statements.outs-If b v o)

pub case_made : (e : Expr) (b : Box Case Global) (v : Vec Case Global) → stmt_events (statements.Case e b v)
    ≡ construct constructs.Statement (word kinds.Case ++ (expr_events e ++ (word kinds.Of ++ (case_events b.value ++ (each_after kinds.Bar case_events v.items ++ word kinds.End)))))
case_made e b v = stated _ _ (statements.outs-Case e b v)

pub while_made : (b : Box Branch Global) (v : Vec Branch Global) → stmt_events (statements.While b v)
    ≡ construct constructs.Statement (word kinds.While ++ (branch_events b.value kinds.Do ++ (each_after kinds.Elsif (λ x. branch_events x kinds.Do) v.items ++ word kinds.End)))
while_made b v = stated _ _ (statements.outs-While b v)

pub repeat_made : (b : Box StatementSequence Global) (e : Expr) → stmt_events (statements.Repeat b e)
    ≡ construct constructs.Statement (word kinds.Repeat ++ (block_events b.value ++ (word kinds.Until ++ expr_events e)))
repeat_made b e = stated _ _ (statements.outs-Repeat b e)

pub for_stmt_made : (b : Box For Global) → stmt_events (statements.For b) ≡ construct constructs.Statement (for_events b.value)
for_stmt_made b = stated _ _ (statements.outs-For b)

pub ruleset statements_made = (integer_label, text_label, name_label, label_range_out, block_made, branch_made, for_made, nothing_made, labelled_made, empty_made, assign_made, call_made, if_made, case_made, while_made, repeat_made, for_stmt_made)
