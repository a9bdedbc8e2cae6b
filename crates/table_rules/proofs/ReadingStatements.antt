-- The entries of a statement are determined by its event sequence.
use Rattle.std.proofs.Common.{◌≡◌, ℕ, false, List, [], ◌∷◌, ◌++◌, map, Option, Some, None, refl, sym, ap, ◌∙◌, append_assoc}
use Rattle.std.specs.Prelude.{Vec}
use Rattle.std.specs.declared.boxed.Box.{Box}
use Rattle.std.specs.declared.alloc.Global.{Global}
use Rattle.ob_scan.specs.declared.kind.Kind.{Kind}
use Rattle.ob_scan.specs.declared.kind.Kind.TheVariants as kinds
use Rattle.ob_tree.specs.declared.name.OneOrMore.{OneOrMore}
use Rattle.ob_tree.specs.declared.statement.LabelRange.{LabelRange}
use Rattle.ob_tree.specs.declared.statement.Label.{Label}
use Rattle.ob_tree.specs.declared.statement.Label.TheVariants as labels
use Rattle.ob_tree.specs.declared.statement.Case.TheOpen as layers
use Rattle.ob_tree.specs.declared.statement.Case.TheShapes as shapes
use Rattle.ob_tree.specs.declared.statement.Case.{Case, roll-Case, out-Case, out-roll-Case}
use Rattle.ob_tree.specs.declared.statement.Stmt.{roll-Stmt, out-Stmt, out-roll-Stmt}
use Rattle.ob_tree.specs.declared.statement.StatementSequence.{StatementSequence, roll-StatementSequence, out-StatementSequence, out-roll-StatementSequence}
use Rattle.ob_tree.specs.declared.statement.Branch.{Branch, roll-Branch, out-Branch, out-roll-Branch}
use Rattle.ob_tree.specs.declared.statement.For.{For, roll-For, out-For, out-roll-For}
use Rattle.ob_tree.specs.Constructs as constructs
use Rattle.ob_tree.specs.TreeEvents.{Events, Ends, construct, word, if_present, each, each_after, separated}
use Rattle.ob_tree.specs.Expressions.{expr_events}
use Rattle.ob_tree.specs.Statements.{label_events, label_range_events, case_events, stmt_events, block_events, branch_events, for_events}
use Rattle.ob_tree.specs.Names.{qualident_events}
use Rattle.ob_tree.proofs.StatementLayers.{case_shown, stmt_shown, block_shown, branch_shown, for_shown, case_out, stmt_out, block_out, branch_out, for_out}
use Rattle.ob_tree.proofs.ExpressionInduction.{With}
use Rattle.ob_tree.proofs.StatementInduction.{StatementPredicates, StatementSteps, CaseLayer, BranchLayer, ForLayer, BlockLayer, WithCase, WithStmt, WithBranch, WithFor, WithBlock, case_of, stmt_of, branch_of, for_of, block_of, block_induction}
use Rattle.module_table.specs.Parts.{Fragment, token, both}
use Rattle.module_table.specs.Parts.{if_present as there, each as pieces}
use Rattle.table_rules.specs.Expressions.{Phrase, expr_phrase, expr_rows}
use Rattle.table_rules.specs.Statements.{variable_rows, label_range_rows, case_rows, stmt_rows, block_rows, branch_rows, for_rows}
use Rattle.table_rules.proofs.StatementLayers as told
use Rattle.table_rules.proofs.Reading.{tail_is, Reads, never, on_word, maybe, r-use, r-until, r-both, r-past, r-then, r-at, r-none, r-some, r-layer}
use Rattle.table_rules.proofs.ReadingLists.{r-there, r-map, r-each, there_told, each_told}
use Rattle.table_rules.proofs.ReadingNames.{on_words, dots, not_the_first, none_behind, r-range}
use Rattle.table_rules.proofs.ReadingExpressions.{r-expr}
use Rattle.table_rules.proofs.ReadingStatementForms.{context, empty_same, assign_same, call_same, if_same, case_same, while_same, repeat_same, for_same}

-- each part can be read

abbrev predicates : StatementPredicates
predicates = record {
  case = λ t. Reads case_rows case_events never (case_rows t) (case_events t);
  stmt = λ t. Reads stmt_rows stmt_events never (stmt_rows t) (stmt_events t);
  branch = λ t. (k : Kind) → Reads branch_rows (λ z. branch_events z k) (on_word kinds.Semicolon) (branch_rows t) (branch_events t k);
  for = λ t. Reads for_rows for_events never (for_rows t) (for_events t);
  block = λ t. Reads block_rows block_events (on_word kinds.Semicolon) (block_rows t) (block_events t);
}

-- the parts after boxes and in lists

abbrev block_in : Box (With predicates.block) Global → Box StatementSequence Global
block_in = (shapes.former-Case-Labelled-1).map (With predicates.block) StatementSequence (λ e. e.0)

abbrev branch_in : Box (With predicates.branch) Global → Box Branch Global
branch_in = (shapes.former-Stmt-If-0).map (With predicates.branch) Branch (λ e. e.0)

abbrev branches_in : Vec (With predicates.branch) Global → Vec Branch Global
branches_in = (shapes.former-Stmt-If-1).map (With predicates.branch) Branch (λ e. e.0)

abbrev case_in : Box (With predicates.case) Global → Box Case Global
case_in = (shapes.former-Stmt-Case-1).map (With predicates.case) Case (λ e. e.0)

abbrev cases_in : Vec (With predicates.case) Global → Vec Case Global
cases_in = (shapes.former-Stmt-Case-2).map (With predicates.case) Case (λ e. e.0)

abbrev for_in : Box (With predicates.for) Global → Box For Global
for_in = (shapes.former-Stmt-For-0).map (With predicates.for) For (λ e. e.0)

-- ---- cases

abbrev Labelled : Type 0
Labelled = OneOrMore LabelRange × Box StatementSequence Global

abbrev labelled_parts : Labelled → (Fragment × List Fragment) × Fragment
labelled_parts z = ((label_range_rows z.0.first, map label_range_rows z.0.rest.items), block_rows z.1.value)

abbrev labelled_outline : Labelled → Events
labelled_outline z = separated kinds.Comma label_range_events z.0 ++ (word kinds.Colon ++ block_events z.1.value)

abbrev labelled_told : (Fragment × List Fragment) × Fragment → Fragment
labelled_told p = both p.0.0 (both (pieces (λ r. both token r) p.0.1) (both token p.1))

labelled_seen : (z : Labelled) → told.case_shown (layers.Labelled z.0 z.1) ≡ labelled_told (labelled_parts z)
labelled_seen z = ap (λ (o : Fragment). both (label_range_rows z.0.first) (both o (both token (block_rows z.1.value)))) (each_told label_range_rows (λ r. both token r) z.0.rest.items)

range_ends : (rs : List LabelRange) (s : Events) → on_words (kinds.Comma ∷ dots) s ≡ false → on_words dots (each_after kinds.Comma label_range_events rs ++ s) ≡ false
range_ends [] s i = none_behind kinds.Comma dots s i
range_ends (r ∷ rs) s i = refl

abbrev ranges_parts : OneOrMore LabelRange → Fragment × List Fragment
ranges_parts l = (label_range_rows l.first, map label_range_rows l.rest.items)

abbrev ranges_outline : OneOrMore LabelRange → Events
ranges_outline l = separated kinds.Comma label_range_events l

ranges_held : (l : OneOrMore LabelRange) → Reads ranges_parts ranges_outline (on_words (kinds.Comma ∷ dots)) (ranges_parts l) (ranges_outline l)
ranges_held l = r-until (r-at (λ z. z.first) (r-range l.first)) (λ s i. range_ends l.rest.items s i) (λ z s i. range_ends z.rest.items s i)
    (r-at (λ z. z.rest.items) (r-each label_range_rows (λ r. word kinds.Comma ++ label_range_events r) (on_words dots) (on_words (kinds.Comma ∷ dots)) (λ r s. refl) (λ s i. none_behind kinds.Comma dots s i) (λ r s. refl) l.rest.items (λ r. r-past kinds.Comma (r-range r))))

-- a label is no end
label_there : (l : Label) (o p s : Events) → (label_events l ++ o) ++ p ≡ Ends constructs.Case ∷ s → ⊥
unfolding label_events qualident_events
label_there (labels.Integer n) o p s e = cc
label_there (labels.Text n) o p s e = cc
label_there (labels.Name q) o p s e = cc

range_there : (r : LabelRange) (o p s : Events) → (label_range_events r ++ o) ++ p ≡ Ends constructs.Case ∷ s → ⊥
unfolding label_range_events
range_there r o p s e = label_there r.low _ (o ++ p) s (sym (append_assoc (label_events r.low ++ if_present (λ l. word kinds.DotDot ++ label_events l) r.high) o p) ∙ e)

labelled_there : (z : Labelled) (r s : Events) → labelled_outline z ++ r ≡ Ends constructs.Case ∷ s → ⊥
labelled_there z r s e = range_there z.0.first _ _ s (sym (append_assoc (separated kinds.Comma label_range_events z.0) (word kinds.Colon ++ block_events z.1.value) r) ∙ e)

none_same : (z : CaseLayer) (r s : Events) → Ends constructs.Case ∷ r ≡ case_shown z ++ Ends constructs.Case ∷ s → (told.case_shown layers.Nothing ≡ told.case_shown z) × (r ≡ s)
none_same layers.Nothing r s e = (refl, tail_is _ _ r s e)
none_same (layers.Labelled l b) r s e = absurd (labelled_there (l, b) _ r (sym e))

labelled_same : (m : OneOrMore LabelRange) (b : Box StatementSequence Global) → Reads labelled_parts labelled_outline (on_word kinds.Semicolon) (labelled_parts (m, b)) (labelled_outline (m, b)) →
    (z : CaseLayer) (r s : Events) → labelled_outline (m, b) ++ Ends constructs.Case ∷ r ≡ case_shown z ++ Ends constructs.Case ∷ s → (told.case_shown (layers.Labelled m b) ≡ told.case_shown z) × (r ≡ s)
labelled_same m b x layers.Nothing r s e = absurd (labelled_there (m, b) _ s e)
labelled_same m b x (layers.Labelled l c) r s e = let h = x.same (l, c) (Ends constructs.Case ∷ r) (Ends constructs.Case ∷ s) refl refl e in (labelled_seen (m, b) ∙ ap labelled_told h.0 ∙ sym (labelled_seen (l, c)), tail_is _ _ r s h.1)

case_inside : (y : WithCase predicates) (z : CaseLayer) (r s : Events) → case_shown (case_of predicates y) ++ Ends constructs.Case ∷ r ≡ case_shown z ++ Ends constructs.Case ∷ s → (told.case_shown (case_of predicates y) ≡ told.case_shown z) × (r ≡ s)
case_inside layers.Nothing z r s e = none_same z r s e
case_inside (layers.Labelled l b) z r s e = labelled_same l (block_in b) (r-until (r-at (λ q. q.0) (ranges_held l)) (λ p i. refl) (λ q p i. refl) (r-past kinds.Colon (r-at (λ q. q.1.value) b.value.1))) z r s e

case_held : (y : WithCase predicates) → Reads told.case_shown (λ z. construct constructs.Case (case_shown z)) never (told.case_shown (case_of predicates y)) (construct constructs.Case (case_shown (case_of predicates y)))
case_held y = record { same = λ z r s i j e. case_inside y z r s (context constructs.Case _ _ r s e) }

case_layer : (y : WithCase predicates) → predicates.case (roll-Case (case_of predicates y))
case_layer y = r-layer out-Case told.case_shown (λ z. construct constructs.Case (case_shown z)) (λ a. a) told.case_told case_out _ _ (out-roll-Case (case_of predicates y)) (case_held y)

-- ---- statements

-- what is after a block or a branch: no semicolon
abbrev ends_if : List Kind
ends_if = kinds.Elsif ∷ kinds.Semicolon ∷ []

abbrev ends_else : List Kind
ends_else = kinds.Else ∷ kinds.Semicolon ∷ []

no_semicolon : (k : Kind) (s : Events) → on_words (k ∷ kinds.Semicolon ∷ []) s ≡ false → on_word kinds.Semicolon s ≡ false
no_semicolon k s i = not_the_first kinds.Semicolon [] s (none_behind k (kinds.Semicolon ∷ []) s i)

abbrev else_outline : Option (Box StatementSequence Global) → Events
else_outline o = if_present (λ b. word kinds.Else ++ block_events b.value) o

abbrev else_of : Option (Box (With predicates.block) Global) → Option (Box StatementSequence Global)
else_of = (shapes.former-Stmt-If-2).map (With predicates.block) StatementSequence (λ e. e.0)

else_held : (o : Option (Box (With predicates.block) Global)) →
    Reads {Z = Option (Box StatementSequence Global)} (λ z. maybe (λ b. block_rows b.value) z) else_outline (on_words ends_else) (maybe (λ b. block_rows b.value) (else_of o)) (else_outline (else_of o))
else_held None = r-none (λ b. block_rows b.value) (λ b. word kinds.Else ++ block_events b.value) (on_words ends_else) (λ b s. refl) (λ z. z)
else_held (Some b) = r-some (r-past kinds.Else (r-at (λ c. c.value) b.value.1)) (λ s i. no_semicolon kinds.Else s i) (λ s. refl) (λ z. z)

abbrev branches_outline : Kind → List Branch → Events
branches_outline k bs = each (λ b. word kinds.Elsif ++ branch_events b k) bs

branches_held : {X : Type 0} (k : Kind) (h : X → Branch) (xs : List X) → ((x : X) → predicates.branch (h x)) →
    Reads (map branch_rows) (branches_outline k) (on_words ends_if) (map branch_rows (map h xs)) (branches_outline k (map h xs))
branches_held k h xs w = r-map branch_rows (λ b. word kinds.Elsif ++ branch_events b k) (on_word kinds.Semicolon) (on_words ends_if) (λ b s. refl) (λ s i. no_semicolon kinds.Elsif s i) (λ b s. refl) h xs (λ x. r-past kinds.Elsif (w x k))

behind_branches : (o : Option (Box StatementSequence Global)) (s : Events) → on_words ends_if ((else_outline o ++ word kinds.End) ++ s) ≡ false
behind_branches None s = refl
behind_branches (Some b) s = refl

behind_branch : (k : Kind) (bs : List Branch) (o : Option (Box StatementSequence Global)) (s : Events) → on_word kinds.Semicolon ((branches_outline k bs ++ (else_outline o ++ word kinds.End)) ++ s) ≡ false
behind_branch k [] None s = refl
behind_branch k [] (Some b) s = refl
behind_branch k (b ∷ bs) o s = refl

behind_while : (k : Kind) (bs : List Branch) (s : Events) → on_word kinds.Semicolon ((branches_outline k bs ++ word kinds.End) ++ s) ≡ false
behind_while k [] s = refl
behind_while k (b ∷ bs) s = refl

stmt_held : (y : WithStmt predicates) → Reads told.stmt_shown stmt_shown never (told.stmt_shown (stmt_of predicates y)) (stmt_shown (stmt_of predicates y))
stmt_held layers.Empty = record { same = λ z r s i j e. empty_same z r s e }
stmt_held (layers.Assign d a) = record { same = λ z r s i j e. assign_same (d, a) z r s e }
stmt_held (layers.Call d) = record { same = λ z r s i j e. call_same d z r s e }
stmt_held (layers.If f v o) = record {
  same = λ z r s i j e. if_same (branch_in f) (branches_in v) (else_of o) (r-past kinds.If (r-until (r-at (λ q. q.0.value) (f.value.1 kinds.Then)) (λ s i. behind_branch kinds.Then (branches_in v).items (else_of o) s) (λ q s i. behind_branch kinds.Then q.1.0.items q.1.1 s)
      (r-until (r-at (λ q. q.1.0.items) (branches_held kinds.Then _ v.items (λ b. b.1))) (λ s i. behind_branches (else_of o) s) (λ q s i. behind_branches q.1.1 s)
      (r-then kinds.End (r-at (λ q. q.1.1) (else_held o)) (λ s. refl))))) z r s e;
}
stmt_held (layers.Case a c v) = record {
  same = λ z r s i j e. case_same a (case_in c) (cases_in v) (r-past kinds.Case (r-both (r-at (λ q. q.0) (r-expr a)) (r-past kinds.Of (r-both (r-at (λ q. q.1.0.value) c.value.1)
      (r-then kinds.End (r-at (λ q. q.1.1.items) (r-map case_rows (λ c. word kinds.Bar ++ case_events c) never (on_word kinds.Bar) (λ c s. refl) (λ s i. refl) (λ c s. refl) _ v.items (λ c. r-past kinds.Bar c.1))) (λ s. refl)))))) z r s e;
}
stmt_held (layers.While f v) = record {
  same = λ z r s i j e. while_same (branch_in f) (branches_in v) (r-past kinds.While (r-until (r-at (λ q. q.0.value) (f.value.1 kinds.Do)) (λ s i. behind_while kinds.Do (branches_in v).items s) (λ q s i. behind_while kinds.Do q.1.items s)
      (r-then kinds.End (r-at (λ q. q.1.items) (branches_held kinds.Do _ v.items (λ b. b.1))) (λ s. refl)))) z r s e;
}
stmt_held (layers.Repeat b a) = record { same = λ z r s i j e. repeat_same (block_in b) a (r-past kinds.Repeat (r-until (r-at (λ q. q.0.value) b.value.1) (λ s i. refl) (λ q s i. refl) (r-past kinds.Until (r-at (λ q. q.1) (r-expr a))))) z r s e }
stmt_held (layers.For f) = record { same = λ z r s i j e. for_same (for_in f) f.value.1 z r s e }

stmt_layer : (y : WithStmt predicates) → predicates.stmt (roll-Stmt (stmt_of predicates y))
stmt_layer y = r-layer out-Stmt told.stmt_shown stmt_shown (λ a. a) told.stmt_told stmt_out _ _ (out-roll-Stmt (stmt_of predicates y)) (stmt_held y)

-- ---- blocks, branches and FOR

abbrev block_parts : BlockLayer → Fragment × List Fragment
block_parts z = (stmt_rows z.first, map stmt_rows z.rest.items)

abbrev block_told : Fragment × List Fragment → Fragment
block_told p = both p.0 (pieces (λ s. both token s) p.1)

block_tells : (b : StatementSequence) → block_rows b ≡ block_told (block_parts (out-StatementSequence b))
block_tells b = told.block_out b ∙ ap (λ (o : Fragment). both (stmt_rows (out-StatementSequence b).first) o) (each_told stmt_rows (λ s. both token s) (out-StatementSequence b).rest.items)

block_held : (y : WithBlock predicates) → Reads block_parts block_shown (on_word kinds.Semicolon) (block_parts (block_of predicates y)) (block_shown (block_of predicates y))
block_held y = r-both (r-at (λ z. z.first) y.first.1) (r-at (λ z. z.rest.items) (r-map stmt_rows (λ s. word kinds.Semicolon ++ stmt_events s) never (on_word kinds.Semicolon) (λ p s. refl) (λ s i. refl) (λ p s. refl) _ y.rest.items (λ s. r-past kinds.Semicolon s.1)))

block_layer : (y : WithBlock predicates) → predicates.block (roll-StatementSequence (block_of predicates y))
block_layer y = r-layer out-StatementSequence block_parts block_shown block_told block_tells block_out _ _ (out-roll-StatementSequence (block_of predicates y)) (block_held y)

abbrev branch_parts : BranchLayer → Phrase × Fragment
branch_parts z = (expr_phrase z.condition, block_rows z.body)

abbrev branch_told : Phrase × Fragment → Fragment
branch_told p = both p.0.piece (both token p.1)

branch_tells : (b : Branch) → branch_rows b ≡ branch_told (branch_parts (out-Branch b))
unfolding expr_rows
branch_tells b = told.branch_out b

branch_held : (y : WithBranch predicates) (k : Kind) → Reads branch_parts (λ z. branch_shown z k) (on_word kinds.Semicolon) (branch_parts (branch_of predicates y)) (branch_shown (branch_of predicates y) k)
branch_held y k = r-both (r-at (λ z. z.condition) (r-expr y.condition)) (r-past k (r-at (λ z. z.body) y.body.1))

branch_layer : (y : WithBranch predicates) → predicates.branch (roll-Branch (branch_of predicates y))
branch_layer y k = r-layer out-Branch branch_parts (λ z. branch_shown z k) branch_told branch_tells (λ b. branch_out b k) _ _ (out-roll-Branch (branch_of predicates y)) (branch_held y k)

abbrev for_parts : ForLayer → ℕ × (Phrase × (Phrase × (Option Phrase × Fragment)))
for_parts z = (z.variable, (expr_phrase z.from, (expr_phrase z.to, (maybe expr_phrase z.by, block_rows z.body))))

abbrev for_told : ℕ × (Phrase × (Phrase × (Option Phrase × Fragment))) → Fragment
for_told p = both token (both variable_rows (both token (both p.1.0.piece (both token (both p.1.1.0.piece
    (both (there (λ e. both token e.piece) p.1.1.1.0) (both token (both p.1.1.1.1 token))))))))

for_tells : (f : For) → for_rows f ≡ for_told (for_parts (out-For f))
unfolding expr_rows
for_tells f = told.for_out f ∙ ap (λ (o : Fragment). both token (both variable_rows (both token (both (expr_phrase (out-For f).from).piece (both token (both (expr_phrase (out-For f).to).piece
    (both o (both token (both (block_rows (out-For f).body) token))))))))) (there_told expr_phrase (λ e. both token e.piece) (out-For f).by)

for_held : (y : WithFor predicates) → Reads for_parts for_shown never (for_parts (for_of predicates y)) (for_shown (for_of predicates y))
for_held y = r-past kinds.For (r-both (r-use (λ z. z.variable) y.variable) (r-past kinds.Assign (r-both (r-at (λ z. z.from) (r-expr y.from)) (r-past kinds.To (r-both (r-at (λ z. z.to) (r-expr y.to))
    (r-until (r-there {f = expr_phrase} {g = λ e. word kinds.By ++ expr_events e} {part = never} (on_word kinds.By) (λ z. z.by) y.by (λ e. r-past kinds.By (r-expr e)) (λ s i. refl) (λ e s. refl)) (λ s i. refl) (λ z s i. refl)
    (r-past kinds.Do (r-then kinds.End (r-at (λ z. z.body) y.body.1) (λ s. refl)))))))))

for_layer : (y : WithFor predicates) → predicates.for (roll-For (for_of predicates y))
for_layer y = r-layer out-For for_parts for_shown for_told for_tells for_out _ _ (out-roll-For (for_of predicates y)) (for_held y)

-- ---- every tree can be read

steps : StatementSteps predicates
steps = record {
  case = case_layer;
  stmt = stmt_layer;
  branch = branch_layer;
  for = for_layer;
  block = block_layer;
}

pub r-block : (b : StatementSequence) → Reads block_rows block_events (on_word kinds.Semicolon) (block_rows b) (block_events b)
r-block = block_induction predicates steps
