-- The entries of names and statements, layer by layer.
use Rattle.std.proofs.Common.{◌≡◌, ℕ, Option, Some, None, true, false, refl, ap, ◌∙◌}
use Rattle.std.specs.Prelude.{Vec}
use Rattle.std.specs.declared.boxed.Box.{Box}
use Rattle.std.specs.declared.alloc.Global.{Global}
use Rattle.ob_tree.specs.declared.expression.Designator.{Designator}
use Rattle.ob_tree.specs.declared.expression.Expr.{Expr}
use Rattle.ob_tree.specs.declared.name.OneOrMore.{OneOrMore}
use Rattle.ob_tree.specs.declared.name.Qualident.{Qualident}
use Rattle.ob_tree.specs.declared.statement.Label.TheVariants as labels
use Rattle.ob_tree.specs.declared.statement.LabelRange.{LabelRange}
use Rattle.ob_tree.specs.declared.statement.Case.{Case, fold_out-Case, roll-Case, out-Case, out-roll-Case, map-Case}
use Rattle.ob_tree.specs.declared.statement.Case.TheOpen as layers
use Rattle.ob_tree.specs.declared.statement.Case.TheShapes as shapes
use Rattle.ob_tree.specs.declared.statement.Case.TheVariants as cases
use Rattle.ob_tree.specs.declared.statement.Stmt.{Stmt, fold_out-Stmt, roll-Stmt, out-Stmt, out-roll-Stmt, map-Stmt}
use Rattle.ob_tree.specs.declared.statement.Stmt.TheVariants as statements
use Rattle.ob_tree.specs.declared.statement.StatementSequence.{StatementSequence, fold_out-StatementSequence, roll-StatementSequence, out-StatementSequence, out-roll-StatementSequence}
use Rattle.ob_tree.specs.declared.statement.Branch.{Branch, fold_out-Branch, roll-Branch, out-Branch, out-roll-Branch}
use Rattle.ob_tree.specs.declared.statement.For.{For, fold_out-For, roll-For, out-For, out-roll-For}
use Rattle.ob_tree.proofs.StatementInduction.{CaseLayer, StmtLayer, BranchLayer, ForLayer, BlockLayer}
use Rattle.module_table.specs.Parts.{Fragment, nothing, token, both, with_rows, if_present}
use Rattle.table_rules.specs.Expressions.{used, designator_row, each_after, expr_rows, designator_rows}
use Rattle.table_rules.specs.Statements.{variable_rows, qualident_rows, label_rows, label_range_rows, case_step, stmt_step, block_step, branch_step, for_step, case_rows, stmt_rows, block_rows, branch_rows, for_rows}
use Rattle.module_table.proofs.Steps.{each-map, steps}

else_there : (f : StatementSequence → Fragment) (o : Option (Box StatementSequence Global)) → if_present (λ b. both token b.value) ((shapes.former-Stmt-If-2).map StatementSequence Fragment f o)
    ≡ if_present (λ b. both token (f b.value)) o
else_there f None = refl
else_there f (Some b) = refl

pub qualident_out : (q : Qualident) → qualident_rows q ≡ both (used q.member) (if_present (λ m. both token token) q.member)
unfolding qualident_rows
qualident_out q = refl

pub variable_out : variable_rows ≡ with_rows (designator_row true) (used None)
unfolding variable_rows
variable_out = refl

pub integer_label : (n : ℕ) → label_rows (labels.Integer n) ≡ token
unfolding label_rows
integer_label n = refl

pub text_label : (n : ℕ) → label_rows (labels.Text n) ≡ token
unfolding label_rows
text_label n = refl

pub name_label : (q : Qualident) → label_rows (labels.Name q) ≡ qualident_rows q
unfolding label_rows
name_label q = refl

pub label_range_out : (r : LabelRange) → label_range_rows r ≡ both (label_rows r.low) (if_present (λ l. both token (label_rows l)) r.high)
unfolding label_range_rows
label_range_out r = refl

abbrev pub case_shown : CaseLayer → Fragment
case_shown layers.Nothing = nothing
case_shown (layers.Labelled ranges body) = both (label_range_rows ranges.first) (both (each_after label_range_rows ranges.rest.items) (both token (block_rows body.value)))

abbrev pub if_shown : Box Branch Global → Fragment → Fragment → Fragment
if_shown first rest otherwise = both token (both (branch_rows first.value) (both rest (both otherwise token)))

abbrev pub stmt_shown : StmtLayer → Fragment
stmt_shown layers.Empty = nothing
stmt_shown (layers.Assign d e) = both (designator_rows true d) (both token (expr_rows e))
stmt_shown (layers.Call d) = designator_rows false d
stmt_shown (layers.If first rest otherwise) = if_shown first (each_after branch_rows rest.items) (if_present (λ b. both token (block_rows b.value)) otherwise)
stmt_shown (layers.Case e first rest) = both token (both (expr_rows e) (both token (both (case_rows first.value) (both (each_after case_rows rest.items) token))))
stmt_shown (layers.While first rest) = both token (both (branch_rows first.value) (both (each_after branch_rows rest.items) token))
stmt_shown (layers.Repeat body e) = both token (both (block_rows body.value) (both token (expr_rows e)))
stmt_shown (layers.For f) = for_rows f.value

abbrev pub block_shown : BlockLayer → Fragment
block_shown b = both (stmt_rows b.first) (each_after stmt_rows b.rest.items)

abbrev pub branch_shown : BranchLayer → Fragment
branch_shown b = both (expr_rows b.condition) (both token (block_rows b.body))

abbrev pub for_shown : ForLayer → Fragment
for_shown f =
    both token (both variable_rows (both token (both (expr_rows f.from) (both token (both (expr_rows f.to)
    (both (if_present (λ e. both token (expr_rows e)) f.by) (both token (both (block_rows f.body) token))))))))

case_seen : (x : CaseLayer) → case_step (map-Case Case Stmt Branch For StatementSequence Fragment Fragment Fragment Fragment Fragment case_rows stmt_rows branch_rows for_rows block_rows x) ≡ case_shown x
case_seen layers.Nothing = refl
case_seen (layers.Labelled ranges body) = refl

case_out : (c : Case) → case_rows c ≡ case_shown (out-Case c)
unfolding case_rows stmt_rows branch_rows for_rows block_rows
case_out c = fold_out-Case Fragment Fragment Fragment Fragment Fragment case_step stmt_step branch_step for_step block_step c ∙ case_seen (out-Case c)

stmt_seen : (x : StmtLayer) → stmt_step (map-Stmt Case Stmt Branch For StatementSequence Fragment Fragment Fragment Fragment Fragment case_rows stmt_rows branch_rows for_rows block_rows x) ≡ stmt_shown x
stmt_seen layers.Empty = refl
stmt_seen (layers.Assign d e) = refl
stmt_seen (layers.Call d) = refl
stmt_seen (layers.If first rest otherwise) =
    ap (λ (o : Fragment). if_shown first o (if_present (λ b. both token b.value) ((shapes.former-Stmt-If-2).map StatementSequence Fragment block_rows otherwise))) (each-map (λ (b : Fragment). both token b) branch_rows rest.items)
    ∙ ap (λ (o : Fragment). if_shown first (each_after branch_rows rest.items) o) (else_there block_rows otherwise)
stmt_seen (layers.Case e first rest) = ap (λ (o : Fragment). both token (both (expr_rows e) (both token (both (case_rows first.value) (both o token))))) (each-map (λ (c : Fragment). both token c) case_rows rest.items)
stmt_seen (layers.While first rest) = ap (λ (o : Fragment). both token (both (branch_rows first.value) (both o token))) (each-map (λ (b : Fragment). both token b) branch_rows rest.items)
stmt_seen (layers.Repeat body e) = refl
stmt_seen (layers.For f) = refl

stmt_out : (s : Stmt) → stmt_rows s ≡ stmt_shown (out-Stmt s)
unfolding case_rows stmt_rows branch_rows for_rows block_rows
stmt_out s = fold_out-Stmt Fragment Fragment Fragment Fragment Fragment case_step stmt_step branch_step for_step block_step s ∙ stmt_seen (out-Stmt s)

pub block_out : (b : StatementSequence) → block_rows b ≡ block_shown (out-StatementSequence b)
unfolding block_rows stmt_rows
block_out b =
    fold_out-StatementSequence Fragment Fragment Fragment Fragment Fragment case_step stmt_step branch_step for_step block_step b
    ∙ ap (λ (o : Fragment). both (stmt_rows (out-StatementSequence b).first) o) (each-map (λ (s : Fragment). both token s) _ (out-StatementSequence b).rest.items)

pub branch_out : (b : Branch) → branch_rows b ≡ branch_shown (out-Branch b)
unfolding branch_rows block_rows
branch_out b = fold_out-Branch Fragment Fragment Fragment Fragment Fragment case_step stmt_step branch_step for_step block_step b

pub for_out : (f : For) → for_rows f ≡ for_shown (out-For f)
unfolding for_rows block_rows
for_out f = fold_out-For Fragment Fragment Fragment Fragment Fragment case_step stmt_step branch_step for_step block_step f

-- the same at a constructed value

cased : (c : Case) (x : CaseLayer) → out-Case c ≡ x → case_rows c ≡ case_shown x
cased c x e = case_out c ∙ ap (λ y. case_shown y) e

stated : (s : Stmt) (x : StmtLayer) → out-Stmt s ≡ x → stmt_rows s ≡ stmt_shown x
stated s x e = stmt_out s ∙ ap (λ y. stmt_shown y) e

pub case_rolled : (x : CaseLayer) → case_rows (roll-Case x) ≡ case_shown x
case_rolled x = cased (roll-Case x) x (out-roll-Case x)

pub stmt_rolled : (x : StmtLayer) → stmt_rows (roll-Stmt x) ≡ stmt_shown x
stmt_rolled x = stated (roll-Stmt x) x (out-roll-Stmt x)

pub branch_rolled : (x : BranchLayer) → branch_rows (roll-Branch x) ≡ branch_shown x
branch_rolled x = branch_out (roll-Branch x) ∙ ap (λ y. branch_shown y) (out-roll-Branch x)

pub for_rolled : (x : ForLayer) → for_rows (roll-For x) ≡ for_shown x
for_rolled x = for_out (roll-For x) ∙ ap (λ y. for_shown y) (out-roll-For x)

pub block_rolled : (x : BlockLayer) → block_rows (roll-StatementSequence x) ≡ block_shown x
block_rolled x = block_out (roll-StatementSequence x) ∙ ap (λ y. block_shown y) (out-roll-StatementSequence x)

pub nothing_made : case_rows cases.Nothing ≡ nothing
nothing_made = cased _ _ cases.outs-Nothing

pub labelled_made : (l : OneOrMore LabelRange) (b : Box StatementSequence Global) → case_rows (cases.Labelled l b)
    ≡ both (label_range_rows l.first) (both (each_after label_range_rows l.rest.items) (both token (block_rows b.value)))
labelled_made l b = cased _ _ (cases.outs-Labelled l b)

pub empty_made : stmt_rows statements.Empty ≡ nothing
empty_made = stated _ _ statements.outs-Empty

pub assign_made : (d : Designator) (e : Expr) → stmt_rows (statements.Assign d e) ≡ both (designator_rows true d) (both token (expr_rows e))
assign_made d e = stated _ _ (statements.outs-Assign d e)

pub call_made : (d : Designator) → stmt_rows (statements.Call d) ≡ designator_rows false d
call_made d = stated _ _ (statements.outs-Call d)

pub if_made : (b : Box Branch Global) (v : Vec Branch Global) (o : Option (Box StatementSequence Global)) → stmt_rows (statements.If b v o)
    ≡ both token (both (branch_rows b.value) (both (each_after branch_rows v.items) (both (if_present (λ x. both token (block_rows x.value)) o) token)))
if_made b v o = stated _ _ (statements.outs-If b v o)

pub case_made : (e : Expr) (b : Box Case Global) (v : Vec Case Global) → stmt_rows (statements.Case e b v)
    ≡ both token (both (expr_rows e) (both token (both (case_rows b.value) (both (each_after case_rows v.items) token))))
case_made e b v = stated _ _ (statements.outs-Case e b v)

pub while_made : (b : Box Branch Global) (v : Vec Branch Global) → stmt_rows (statements.While b v)
    ≡ both token (both (branch_rows b.value) (both (each_after branch_rows v.items) token))
while_made b v = stated _ _ (statements.outs-While b v)

pub repeat_made : (b : Box StatementSequence Global) (e : Expr) → stmt_rows (statements.Repeat b e) ≡ both token (both (block_rows b.value) (both token (expr_rows e)))
repeat_made b e = stated _ _ (statements.outs-Repeat b e)

pub for_stmt_made : (b : Box For Global) → stmt_rows (statements.For b) ≡ for_rows b.value
for_stmt_made b = stated _ _ (statements.outs-For b)

pub ruleset labels_made = (steps, qualident_out, variable_out)

pub case_told : (c : Case) → case_rows c ≡ case_shown (out-Case c)
case_told = case_out

pub stmt_told : (s : Stmt) → stmt_rows s ≡ stmt_shown (out-Stmt s)
stmt_told = stmt_out
