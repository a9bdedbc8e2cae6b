-- The items of statements, from those of their children.
use Rattle.std.proofs.Common.{◌≡◌, ℕ, List, [], ◌∷◌, ◌++◌, Option, refl, append_assoc}
use Rattle.std.specs.Prelude.{Vec}
use Rattle.std.specs.declared.boxed.Box.{Box}
use Rattle.std.specs.declared.alloc.Global.{Global}
use Rattle.ob_scan.specs.declared.kind.Kind.{Kind}
use Rattle.ob_scan.specs.declared.kind.Kind.TheVariants as kinds
use Rattle.ob_walk.specs.declared.item.Item.TheVariants as items
use Rattle.ob_tree.specs.declared.role.Role.TheVariants as roles
use Rattle.ob_tree.specs.declared.expression.Designator.{Designator}
use Rattle.ob_tree.specs.declared.expression.Expr.{Expr}
use Rattle.ob_tree.specs.declared.name.OneOrMore.{OneOrMore}
use Rattle.ob_tree.specs.declared.name.Qualident.{Qualident}
use Rattle.ob_tree.specs.declared.statement.Label.TheVariants as labels
use Rattle.ob_tree.specs.declared.statement.LabelRange.{LabelRange}
use Rattle.ob_tree.specs.declared.statement.Case.{Case}
use Rattle.ob_tree.specs.declared.statement.Case.TheVariants as cases
use Rattle.ob_tree.specs.declared.statement.Stmt.TheVariants as statements
use Rattle.ob_tree.specs.declared.statement.StatementSequence.{StatementSequence, out-StatementSequence}
use Rattle.ob_tree.specs.declared.statement.Branch.{Branch, out-Branch}
use Rattle.ob_tree.specs.declared.statement.For.{For, out-For}
use Rattle.ob_tree.specs.TreeEvents.{word, if_present, each_after}
use Rattle.ob_walk.specs.Items.{items_of}
use Rattle.ob_tree.specs.Names.{qualident_events}
use Rattle.ob_tree.specs.Expressions.{expr_events, designator_events}
use Rattle.ob_tree.specs.Statements.{label_events, label_range_events, case_events, stmt_events, block_events, branch_events, for_events}
use Rattle.ob_tree.proofs.StatementLayers.{integer_label, text_label, name_label, label_range_out, block_out, branch_out, for_out, nothing_made, labelled_made, empty_made, assign_made, call_made, if_made, case_made, while_made, repeat_made, for_stmt_made}
use Rattle.ob_walk.proofs.Walks.{items-append, items-construct, walks}

pub integer_items : (n : ℕ) → items_of (label_events (labels.Integer n)) ≡ items.Value n ∷ []
integer_items n = rw (integer_label n) refl

pub text_items : (n : ℕ) → items_of (label_events (labels.Text n)) ≡ items.Value n ∷ []
text_items n = rw (text_label n) refl

pub name_label_items : (q : Qualident) → items_of (label_events (labels.Name q)) ≡ items_of (qualident_events q)
name_label_items q = rw (name_label q) refl

pub label_range_items : (r : LabelRange) → items_of (label_range_events r) ≡
    items_of (label_events r.low) ++ items_of (if_present (λ l. word kinds.DotDot ++ label_events l) r.high)
label_range_items r = rw (label_range_out r, items-append) refl

pub block_items : (b : StatementSequence) → items_of (block_events b) ≡
    items_of (stmt_events (out-StatementSequence b).first) ++ items_of (each_after kinds.Semicolon stmt_events (out-StatementSequence b).rest.items)
block_items b = rw (block_out b, items-append) refl

pub branch_items : (b : Branch) (k : Kind) → items_of (branch_events b k) ≡
    items_of (expr_events (out-Branch b).condition) ++ (items.Word ∷ items_of (block_events (out-Branch b).body))
branch_items b k = rw (branch_out b k, items-append) refl

pub for_items : (f : For) → items_of (for_events f) ≡
    items.Word ∷ (items.Identifier roles.Uses (out-For f).variable ∷ (items.Word ∷ (items_of (expr_events (out-For f).from) ++ (items.Word ∷ (items_of (expr_events (out-For f).to) ++
    (items_of (if_present (λ e. word kinds.By ++ expr_events e) (out-For f).by) ++ (items.Word ∷ (items_of (block_events (out-For f).body) ++ items.Word ∷ []))))))))
for_items f = simp (for_out f, items-append)

pub nothing_items : items_of (case_events cases.Nothing) ≡ []
nothing_items = rw (nothing_made, items-construct) refl

pub labelled_items : (l : OneOrMore LabelRange) (b : Box StatementSequence Global) → items_of (case_events (cases.Labelled l b)) ≡
    items_of (label_range_events l.first) ++ (items_of (each_after kinds.Comma label_range_events l.rest.items) ++ (items.Word ∷ items_of (block_events b.value)))
labelled_items l b = simp (labelled_made l b, items-construct, items-append, append_assoc)

pub empty_items : items_of (stmt_events statements.Empty) ≡ []
empty_items = rw (empty_made, items-construct) refl

pub assign_items : (d : Designator) (e : Expr) →
    items_of (stmt_events (statements.Assign d e)) ≡ items_of (designator_events d) ++ (items.Word ∷ items_of (expr_events e))
assign_items d e = simp (assign_made d e, items-construct, items-append)

pub call_items : (d : Designator) → items_of (stmt_events (statements.Call d)) ≡ items_of (designator_events d)
call_items d = simp (call_made d, items-construct)

pub if_items : (b : Box Branch Global) (v : Vec Branch Global) (o : Option (Box StatementSequence Global)) → items_of (stmt_events (statements.If b v o)) ≡
    items.Word ∷ (items_of (branch_events b.value kinds.Then) ++ (items_of (each_after kinds.Elsif (λ x. branch_events x kinds.Then) v.items) ++
    (items_of (if_present (λ x. word kinds.Else ++ block_events x.value) o) ++ items.Word ∷ [])))
if_items b v o = simp (if_made b v o, items-construct, items-append)

pub case_items : (e : Expr) (b : Box Case Global) (v : Vec Case Global) → items_of (stmt_events (statements.Case e b v)) ≡
    items.Word ∷ (items_of (expr_events e) ++ (items.Word ∷ (items_of (case_events b.value) ++ (items_of (each_after kinds.Bar case_events v.items) ++ items.Word ∷ []))))
case_items e b v = simp (case_made e b v, items-construct, items-append)

-- A list of branches has equal items for every keyword in it.
pub branches_alike : (k j : Kind) (bs : List Branch) →
    items_of (each_after kinds.Elsif (λ x. branch_events x k) bs) ≡ items_of (each_after kinds.Elsif (λ x. branch_events x j) bs)
branches_alike k j [] = refl
branches_alike k j (b ∷ bs) = simp (items-append, branch_items b k, branch_items b j, branches_alike k j bs)

pub while_items : (b : Box Branch Global) (v : Vec Branch Global) → items_of (stmt_events (statements.While b v)) ≡
    items.Word ∷ (items_of (branch_events b.value kinds.Then) ++ (items_of (each_after kinds.Elsif (λ x. branch_events x kinds.Then) v.items) ++ items.Word ∷ []))
while_items b v = simp (while_made b v, items-construct, items-append, branch_items b.value kinds.Do, branch_items b.value kinds.Then, branches_alike kinds.Do kinds.Then v.items)

pub repeat_items : (b : Box StatementSequence Global) (e : Expr) →
    items_of (stmt_events (statements.Repeat b e)) ≡ items.Word ∷ (items_of (block_events b.value) ++ (items.Word ∷ items_of (expr_events e)))
repeat_items b e = simp (repeat_made b e, items-construct, items-append)

pub for_stmt_items : (b : Box For Global) → items_of (stmt_events (statements.For b)) ≡ items_of (for_events b.value)
for_stmt_items b = simp (for_stmt_made b, items-construct)

pub ruleset label_items = (walks, integer_items, text_items, name_label_items, label_range_items)

pub ruleset statement_items = (walks, block_items, branch_items, for_items, nothing_items, labelled_items, empty_items, assign_items, call_items, if_items, case_items, while_items, repeat_items, for_stmt_items)
