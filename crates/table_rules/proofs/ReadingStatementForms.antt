-- The entries of each kind of statement are determined by its event sequence, if those of its parts are.
use Rattle.std.proofs.Common.{◌≡◌, true, false, List, [], ◌∷◌, ◌++◌, map, Option, refl, sym, ap, ap₂, ◌∙◌, append_assoc}
use Rattle.std.specs.Prelude.{Vec}
use Rattle.std.specs.declared.boxed.Box.{Box}
use Rattle.std.specs.declared.alloc.Global.{Global}
use Rattle.ob_scan.specs.declared.kind.Kind.{Kind}
use Rattle.ob_scan.specs.declared.kind.Kind.TheVariants as kinds
use Rattle.ob_tree.specs.declared.expression.Designator.{Designator}
use Rattle.ob_tree.specs.declared.expression.Expr.{Expr}
use Rattle.ob_tree.specs.declared.statement.Case.{Case}
use Rattle.ob_tree.specs.declared.statement.Case.TheOpen as layers
use Rattle.ob_tree.specs.declared.statement.StatementSequence.{StatementSequence}
use Rattle.ob_tree.specs.declared.statement.Branch.{Branch}
use Rattle.ob_tree.specs.declared.statement.For.{For}
use Rattle.ob_tree.specs.Constructs.{Construct}
use Rattle.ob_tree.specs.Constructs as constructs
use Rattle.ob_tree.specs.Leaves.{kind_eq}
use Rattle.ob_tree.specs.TreeEvents.{Events, Ends, Word, construct, word, if_present, each_after}
use Rattle.ob_tree.specs.Expressions.{expr_events, designator_events}
use Rattle.ob_tree.specs.Statements.{case_events, block_events, branch_events, for_events}
use Rattle.ob_tree.proofs.StatementLayers.{if_shown, stmt_shown, for_out}
use Rattle.ob_tree.proofs.StatementInduction.{StmtLayer}
use Rattle.module_table.specs.Parts.{Fragment, token, both}
use Rattle.module_table.specs.Parts.{if_present as there, each as pieces}
use Rattle.table_rules.specs.Expressions.{Phrase, DesignatorPhrase, designator_phrase, expr_phrase, expr_rows, designator_rows}
use Rattle.table_rules.specs.Statements.{case_rows, block_rows, branch_rows, for_rows}
use Rattle.table_rules.proofs.StatementLayers as told
use Rattle.table_rules.proofs.Reading.{tail_is, Reads, never, on_word, on_construct, clash, maybe, r-both, r-past, r-at, r-held}
use Rattle.table_rules.proofs.ReadingLists.{there_told, each_told}
use Rattle.table_rules.proofs.ReadingFactors.{no_name_here}
use Rattle.table_rules.proofs.ReadingExpressions.{r-expr, r-designator}

-- ---- what the parts of each form contribute, and their event sequences

abbrev pub AssignForm : Type 0
AssignForm = Designator × Expr

abbrev pub assign_parts : AssignForm → DesignatorPhrase × Phrase
assign_parts z = (designator_phrase z.0, expr_phrase z.1)

abbrev pub assign_outline : AssignForm → Events
assign_outline z = designator_events z.0 ++ (word kinds.Assign ++ expr_events z.1)

abbrev pub IfForm : Type 0
IfForm = Box Branch Global × (Vec Branch Global × Option (Box StatementSequence Global))

abbrev pub if_parts : IfForm → Fragment × (List Fragment × Option Fragment)
if_parts z = (branch_rows z.0.value, (map branch_rows z.1.0.items, maybe (λ b. block_rows b.value) z.1.1))

abbrev pub if_outline : IfForm → Events
if_outline z = if_shown z.0 (each_after kinds.Elsif (λ b. branch_events b kinds.Then) z.1.0.items) (if_present (λ b. word kinds.Else ++ block_events b.value) z.1.1)

abbrev pub CaseForm : Type 0
CaseForm = Expr × (Box Case Global × Vec Case Global)

abbrev pub case_parts : CaseForm → Phrase × (Fragment × List Fragment)
case_parts z = (expr_phrase z.0, (case_rows z.1.0.value, map case_rows z.1.1.items))

abbrev pub cases_outline : CaseForm → Events
cases_outline z = word kinds.Case ++ (expr_events z.0 ++ (word kinds.Of ++ (case_events z.1.0.value ++ (each_after kinds.Bar case_events z.1.1.items ++ word kinds.End))))

abbrev pub WhileForm : Type 0
WhileForm = Box Branch Global × Vec Branch Global

abbrev pub while_parts : WhileForm → Fragment × List Fragment
while_parts z = (branch_rows z.0.value, map branch_rows z.1.items)

abbrev pub while_outline : WhileForm → Events
while_outline z = word kinds.While ++ (branch_events z.0.value kinds.Do ++ (each_after kinds.Elsif (λ b. branch_events b kinds.Do) z.1.items ++ word kinds.End))

abbrev pub RepeatForm : Type 0
RepeatForm = Box StatementSequence Global × Expr

abbrev pub repeat_parts : RepeatForm → Fragment × Phrase
repeat_parts z = (block_rows z.0.value, expr_phrase z.1)

abbrev pub repeat_outline : RepeatForm → Events
repeat_outline z = word kinds.Repeat ++ (block_events z.0.value ++ (word kinds.Until ++ expr_events z.1))

-- ---- the pieces made of what the parts contribute

abbrev assign_told : DesignatorPhrase × Phrase → Fragment
assign_told p = both (p.0.piece true) (both token p.1.piece)

assign_seen : (z : AssignForm) → told.stmt_shown (layers.Assign z.0 z.1) ≡ assign_told (assign_parts z)
unfolding designator_rows expr_rows
assign_seen z = refl

abbrev call_told : DesignatorPhrase → Fragment
call_told d = d.piece false

call_seen : (d : Designator) → told.stmt_shown (layers.Call d) ≡ call_told (designator_phrase d)
unfolding designator_rows
call_seen d = refl

abbrev if_told : Fragment × (List Fragment × Option Fragment) → Fragment
if_told p = both token (both p.0 (both (pieces (λ b. both token b) p.1.0) (both (there (λ b. both token b) p.1.1) token)))

if_seen : (z : IfForm) → told.stmt_shown (layers.If z.0 z.1.0 z.1.1) ≡ if_told (if_parts z)
if_seen z = ap₂ (λ (o p : Fragment). told.if_shown z.0 o p) (each_told branch_rows (λ b. both token b) z.1.0.items) (there_told (λ (b : Box StatementSequence Global). block_rows b.value) (λ b. both token b) z.1.1)

abbrev case_told : Phrase × (Fragment × List Fragment) → Fragment
case_told p = both token (both p.0.piece (both token (both p.1.0 (both (pieces (λ c. both token c) p.1.1) token))))

case_seen : (z : CaseForm) → told.stmt_shown (layers.Case z.0 z.1.0 z.1.1) ≡ case_told (case_parts z)
unfolding expr_rows
case_seen z = ap (λ (o : Fragment). both token (both (expr_phrase z.0).piece (both token (both (case_rows z.1.0.value) (both o token))))) (each_told case_rows (λ c. both token c) z.1.1.items)

abbrev while_told : Fragment × List Fragment → Fragment
while_told p = both token (both p.0 (both (pieces (λ b. both token b) p.1) token))

while_seen : (z : WhileForm) → told.stmt_shown (layers.While z.0 z.1) ≡ while_told (while_parts z)
while_seen z = ap (λ (o : Fragment). both token (both (branch_rows z.0.value) (both o token))) (each_told branch_rows (λ b. both token b) z.1.items)

abbrev repeat_told : Fragment × Phrase → Fragment
repeat_told p = both token (both p.0 (both token p.1.piece))

repeat_seen : (z : RepeatForm) → told.stmt_shown (layers.Repeat z.0 z.1) ≡ repeat_told (repeat_parts z)
unfolding expr_rows
repeat_seen z = refl

-- ---- what contributes the forms apart

-- what is in the constructs, and after it
pub context : (c : Construct) (o p r s : Events) → construct c o ++ r ≡ construct c p ++ s → o ++ Ends c ∷ r ≡ p ++ Ends c ∷ s
unfolding construct
context c o p r s e = sym (append_assoc o (Ends c ∷ []) r) ∙ tail_is _ _ _ _ e ∙ append_assoc p (Ends c ∷ []) s

no_assign : (d : Designator) (o r s : Events) → on_construct r ≡ false → r ≡ (designator_events d ++ o) ++ s → ⊥
no_assign d o r s i e = no_name_here d r (o ++ s) i (e ∙ append_assoc (designator_events d) o s)

for_begins : (f : For) (s : Events) → on_word kinds.For (for_events f ++ s) ≡ true
for_begins f s = ap (λ (o : Events). on_word kinds.For (o ++ s)) (for_out f)

for_plain : (f : For) (s : Events) → on_construct (for_events f ++ s) ≡ false
for_plain f s = ap (λ (o : Events). on_construct (o ++ s)) (for_out f)

no_for : (f : Box For Global) (r s : Events) → on_word kinds.For r ≡ false → r ≡ for_events f.value ++ s → ⊥
no_for f r s i e = clash (on_word kinds.For r) true (ap (on_word kinds.For) e ∙ for_begins f.value s) i

-- another word
other : (a b : Kind) (r s : Events) → kind_eq a b ≡ false → kind_eq b b ≡ true → Word a ∷ r ≡ Word b ∷ s → ⊥
other a b r s i j e = clash (kind_eq a b) true (ap (on_word b) e ∙ j) i

no_more : (o r s : Events) → (word kinds.Assign ++ o) ++ r ≡ Ends constructs.Statement ∷ s → ⊥
no_more o r s e = cc

-- after a designator, an end is no ":="
apart : (d q : Designator) (o r s : Events) → (designator_events d ++ (word kinds.Assign ++ o)) ++ r ≡ designator_events q ++ Ends constructs.Statement ∷ s → ⊥
apart d q o r s e = let h = (r-designator d).same q ((word kinds.Assign ++ o) ++ r) (Ends constructs.Statement ∷ s) refl refl (sym (append_assoc (designator_events d) (word kinds.Assign ++ o) r) ∙ e) in no_more o r s h.1

-- ---- form by form

abbrev pub Agrees : StmtLayer → StmtLayer → Events → Events → Type 0
Agrees x z r s = (told.stmt_shown x ≡ told.stmt_shown z) × (r ≡ s)

empty_unlike : (o p r s : Events) → construct constructs.EmptyStatement o ++ r ≡ construct constructs.Statement p ++ s → ⊥
unfolding construct
empty_unlike o p r s e = cc

pub empty_same : (z : StmtLayer) (r s : Events) → construct constructs.EmptyStatement [] ++ r ≡ stmt_shown z ++ s → Agrees layers.Empty z r s
empty_same layers.Empty r s e = (refl, tail_is _ _ _ _ (context constructs.EmptyStatement [] [] r s e))
empty_same (layers.Assign d a) r s e = absurd (empty_unlike [] _ r s e)
empty_same (layers.Call d) r s e = absurd (empty_unlike [] _ r s e)
empty_same (layers.If f v o) r s e = absurd (empty_unlike [] _ r s e)
empty_same (layers.Case a c v) r s e = absurd (empty_unlike [] _ r s e)
empty_same (layers.While f v) r s e = absurd (empty_unlike [] _ r s e)
empty_same (layers.Repeat m a) r s e = absurd (empty_unlike [] _ r s e)
empty_same (layers.For f) r s e = absurd (empty_unlike [] _ r s e)

pub if_same : (f : Box Branch Global) (v : Vec Branch Global) (o : Option (Box StatementSequence Global)) → Reads if_parts if_outline never (if_parts (f, (v, o))) (if_outline (f, (v, o))) → (z : StmtLayer) (r s : Events) → construct constructs.Statement (if_outline (f, (v, o))) ++ r ≡ stmt_shown z ++ s → Agrees (layers.If f v o) z r s
if_same f v o x layers.Empty r s e = absurd (empty_unlike [] _ s r (sym e))
if_same f v o x (layers.Assign d u) r s e = absurd (no_assign d _ _ _ refl (context constructs.Statement _ _ r s e))
if_same f v o x (layers.Call d) r s e = absurd (no_name_here d _ _ refl (context constructs.Statement _ _ r s e))
if_same f v o x (layers.If g w q) r s e = let h = (r-held constructs.Statement x (λ p. refl)).same (g, (w, q)) r s refl refl e in (if_seen (f, (v, o)) ∙ ap if_told h.0 ∙ sym (if_seen (g, (w, q))), h.1)
if_same f v o x (layers.Case u k w) r s e = absurd (other kinds.If kinds.Case _ _ refl refl (context constructs.Statement _ _ r s e))
if_same f v o x (layers.While g w) r s e = absurd (other kinds.If kinds.While _ _ refl refl (context constructs.Statement _ _ r s e))
if_same f v o x (layers.Repeat n u) r s e = absurd (other kinds.If kinds.Repeat _ _ refl refl (context constructs.Statement _ _ r s e))
if_same f v o x (layers.For g) r s e = absurd (no_for g _ _ refl (context constructs.Statement _ _ r s e))

pub case_same : (a : Expr) (c : Box Case Global) (v : Vec Case Global) → Reads case_parts cases_outline never (case_parts (a, (c, v))) (cases_outline (a, (c, v))) → (z : StmtLayer) (r s : Events) → construct constructs.Statement (cases_outline (a, (c, v))) ++ r ≡ stmt_shown z ++ s → Agrees (layers.Case a c v) z r s
case_same a c v x layers.Empty r s e = absurd (empty_unlike [] _ s r (sym e))
case_same a c v x (layers.Assign d u) r s e = absurd (no_assign d _ _ _ refl (context constructs.Statement _ _ r s e))
case_same a c v x (layers.Call d) r s e = absurd (no_name_here d _ _ refl (context constructs.Statement _ _ r s e))
case_same a c v x (layers.If g w q) r s e = absurd (other kinds.Case kinds.If _ _ refl refl (context constructs.Statement _ _ r s e))
case_same a c v x (layers.Case u k w) r s e = let h = (r-held constructs.Statement x (λ p. refl)).same (u, (k, w)) r s refl refl e in (case_seen (a, (c, v)) ∙ ap case_told h.0 ∙ sym (case_seen (u, (k, w))), h.1)
case_same a c v x (layers.While g w) r s e = absurd (other kinds.Case kinds.While _ _ refl refl (context constructs.Statement _ _ r s e))
case_same a c v x (layers.Repeat n u) r s e = absurd (other kinds.Case kinds.Repeat _ _ refl refl (context constructs.Statement _ _ r s e))
case_same a c v x (layers.For g) r s e = absurd (no_for g _ _ refl (context constructs.Statement _ _ r s e))

pub while_same : (f : Box Branch Global) (v : Vec Branch Global) → Reads while_parts while_outline never (while_parts (f, v)) (while_outline (f, v)) → (z : StmtLayer) (r s : Events) → construct constructs.Statement (while_outline (f, v)) ++ r ≡ stmt_shown z ++ s → Agrees (layers.While f v) z r s
while_same f v x layers.Empty r s e = absurd (empty_unlike [] _ s r (sym e))
while_same f v x (layers.Assign d u) r s e = absurd (no_assign d _ _ _ refl (context constructs.Statement _ _ r s e))
while_same f v x (layers.Call d) r s e = absurd (no_name_here d _ _ refl (context constructs.Statement _ _ r s e))
while_same f v x (layers.If g w q) r s e = absurd (other kinds.While kinds.If _ _ refl refl (context constructs.Statement _ _ r s e))
while_same f v x (layers.Case u k w) r s e = absurd (other kinds.While kinds.Case _ _ refl refl (context constructs.Statement _ _ r s e))
while_same f v x (layers.While g w) r s e = let h = (r-held constructs.Statement x (λ p. refl)).same (g, w) r s refl refl e in (while_seen (f, v) ∙ ap while_told h.0 ∙ sym (while_seen (g, w)), h.1)
while_same f v x (layers.Repeat n u) r s e = absurd (other kinds.While kinds.Repeat _ _ refl refl (context constructs.Statement _ _ r s e))
while_same f v x (layers.For g) r s e = absurd (no_for g _ _ refl (context constructs.Statement _ _ r s e))

pub repeat_same : (m : Box StatementSequence Global) (a : Expr) → Reads repeat_parts repeat_outline never (repeat_parts (m, a)) (repeat_outline (m, a)) → (z : StmtLayer) (r s : Events) → construct constructs.Statement (repeat_outline (m, a)) ++ r ≡ stmt_shown z ++ s → Agrees (layers.Repeat m a) z r s
repeat_same m a x layers.Empty r s e = absurd (empty_unlike [] _ s r (sym e))
repeat_same m a x (layers.Assign d u) r s e = absurd (no_assign d _ _ _ refl (context constructs.Statement _ _ r s e))
repeat_same m a x (layers.Call d) r s e = absurd (no_name_here d _ _ refl (context constructs.Statement _ _ r s e))
repeat_same m a x (layers.If g w q) r s e = absurd (other kinds.Repeat kinds.If _ _ refl refl (context constructs.Statement _ _ r s e))
repeat_same m a x (layers.Case u k w) r s e = absurd (other kinds.Repeat kinds.Case _ _ refl refl (context constructs.Statement _ _ r s e))
repeat_same m a x (layers.While g w) r s e = absurd (other kinds.Repeat kinds.While _ _ refl refl (context constructs.Statement _ _ r s e))
repeat_same m a x (layers.Repeat n u) r s e = let h = (r-held constructs.Statement x (λ p. refl)).same (n, u) r s refl refl e in (repeat_seen (m, a) ∙ ap repeat_told h.0 ∙ sym (repeat_seen (n, u)), h.1)
repeat_same m a x (layers.For g) r s e = absurd (no_for g _ _ refl (context constructs.Statement _ _ r s e))

pub for_same : (b : Box For Global) → Reads for_rows for_events never (for_rows b.value) (for_events b.value) → (z : StmtLayer) (r s : Events) → construct constructs.Statement (for_events b.value) ++ r ≡ stmt_shown z ++ s → Agrees (layers.For b) z r s
for_same b x layers.Empty r s e = absurd (empty_unlike [] _ s r (sym e))
for_same b x (layers.Assign d a) r s e = absurd (no_assign d _ _ _ (for_plain b.value _) (context constructs.Statement _ _ r s e))
for_same b x (layers.Call d) r s e = absurd (no_name_here d _ _ (for_plain b.value _) (context constructs.Statement _ _ r s e))
for_same b x (layers.If f v o) r s e = absurd (no_for b _ _ refl (sym (context constructs.Statement _ _ r s e)))
for_same b x (layers.Case a c v) r s e = absurd (no_for b _ _ refl (sym (context constructs.Statement _ _ r s e)))
for_same b x (layers.While f v) r s e = absurd (no_for b _ _ refl (sym (context constructs.Statement _ _ r s e)))
for_same b x (layers.Repeat m a) r s e = absurd (no_for b _ _ refl (sym (context constructs.Statement _ _ r s e)))
for_same b x (layers.For f) r s e = (r-held constructs.Statement x (λ q. refl)).same f.value r s refl refl e

assign_held : (b : AssignForm) → Reads assign_parts assign_outline never (assign_parts b) (assign_outline b)
assign_held b = r-both (r-at (λ z. z.0) (r-designator b.0)) (r-past kinds.Assign (r-at (λ z. z.1) (r-expr b.1)))

pub assign_same : (b : AssignForm) (z : StmtLayer) (r s : Events) → construct constructs.Statement (assign_outline b) ++ r ≡ stmt_shown z ++ s → Agrees (layers.Assign b.0 b.1) z r s
assign_same b layers.Empty r s e = absurd (empty_unlike [] _ s r (sym e))
assign_same b (layers.Assign d a) r s e = let h = (r-held constructs.Statement (assign_held b) (λ q. refl)).same (d, a) r s refl refl e in (assign_seen b ∙ ap assign_told h.0 ∙ sym (assign_seen (d, a)), h.1)
assign_same b (layers.Call d) r s e = absurd (apart b.0 d _ _ _ (context constructs.Statement _ _ r s e))
assign_same b (layers.If f v o) r s e = absurd (no_assign b.0 _ _ _ refl (sym (context constructs.Statement _ _ r s e)))
assign_same b (layers.Case a c v) r s e = absurd (no_assign b.0 _ _ _ refl (sym (context constructs.Statement _ _ r s e)))
assign_same b (layers.While f v) r s e = absurd (no_assign b.0 _ _ _ refl (sym (context constructs.Statement _ _ r s e)))
assign_same b (layers.Repeat m a) r s e = absurd (no_assign b.0 _ _ _ refl (sym (context constructs.Statement _ _ r s e)))
assign_same b (layers.For f) r s e = absurd (no_assign b.0 _ _ _ (for_plain f.value _) (sym (context constructs.Statement _ _ r s e)))

pub call_same : (b : Designator) (z : StmtLayer) (r s : Events) → construct constructs.Statement (designator_events b) ++ r ≡ stmt_shown z ++ s → Agrees (layers.Call b) z r s
call_same b layers.Empty r s e = absurd (empty_unlike [] _ s r (sym e))
call_same b (layers.Assign d a) r s e = absurd (apart d b _ _ _ (sym (context constructs.Statement _ _ r s e)))
call_same b (layers.Call d) r s e = let h = (r-held constructs.Statement (r-designator b) (λ q. refl)).same d r s refl refl e in (call_seen b ∙ ap call_told h.0 ∙ sym (call_seen d), h.1)
call_same b (layers.If f v o) r s e = absurd (no_name_here b _ _ refl (sym (context constructs.Statement _ _ r s e)))
call_same b (layers.Case a c v) r s e = absurd (no_name_here b _ _ refl (sym (context constructs.Statement _ _ r s e)))
call_same b (layers.While f v) r s e = absurd (no_name_here b _ _ refl (sym (context constructs.Statement _ _ r s e)))
call_same b (layers.Repeat m a) r s e = absurd (no_name_here b _ _ refl (sym (context constructs.Statement _ _ r s e)))
call_same b (layers.For f) r s e = absurd (no_name_here b _ _ (for_plain f.value _) (sym (context constructs.Statement _ _ r s e)))
