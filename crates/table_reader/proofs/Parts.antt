-- Parts that are tabulated one after the other, by their entries.
use Rattle.std.proofs.Common.{◌≡◌, ◌++◌, List, Some, None, Ok, refl, ap, ◌∙◌}
use Rattle.std.specs.Prelude.{Result}
use Rattle.ob_scan.specs.declared.kind.Kind.{Kind}
use Rattle.ob_scan.specs.declared.token.Token.{Token}
use Rattle.ob_tree.specs.declared.token.Leaf.{Leaf}
use Rattle.ob_tree.specs.declared.statement.Stmt.{Stmt}
use Rattle.ob_tree.specs.Constructs as constructs
use Rattle.ob_tree.specs.TreeEvents.{Events, construct, word}
use Rattle.ob_tree.specs.TreeEvents.{if_present as shown_there}
use Rattle.ob_tree.specs.Statements.{stmt_events}
use Rattle.module_table.specs.declared.builder.Context.{Context}
use Rattle.module_table.specs.declared.builder.TableBuilder.{TableBuilder}
use Rattle.module_table.specs.TableStages.{after, advanced, PerformsStep}
use Rattle.module_table.specs.Parts.{Fragment, token, both, if_present}
use Rattle.table_rules.specs.Statements.{stmt_rows}
use Rattle.module_table.proofs.Steps.{after_both, after_token, after_nothing}
use Rattle.ob_grammar.specs.declared.cursor.Cursor.{Cursor}
use Rattle.ob_grammar.specs.declared.stop.Stop.{Stop}
use Rattle.ob_grammar.specs.Combinators.{Read, Reader, Start, expect_at, seq, prefixed, node, optional}
use Rattle.ob_grammar.specs.ParsesAs.{Fails, remaining}
use Rattle.table_reader.specs.StatementShapes.{then_events, then_rows, word_events, word_rows}
use Rattle.table_reader.specs.Tabulating.{AppendsEntries, AppendsEntriesBy}
use Rattle.table_reader.proofs.Combine.{told_as, told_node, told_then, told_prefixed, told_behind, told_there, told_absent, failed_then}
use Rattle.table_reader.proofs.Lists.{word_after}

-- a part of the grammar: its event sequence, its entries, and its reader
pub record Part (A : Type 0) : Type 0 where
  pub events : A → Events
  pub piece : A → Fragment
  pub read : Reader

abbrev pub word_part : Kind → Part (Unit {0})
word_part k = record { events = word_events k; piece = word_rows; read = expect_at k }

-- one part, and another after it
abbrev pub then_part : {A B : Type 0} → Part A → Part B → Part (A × B)
then_part p q = record { events = then_events p.events q.events; piece = then_rows p.piece q.piece; read = seq p.read q.read }

-- if the first part fails, both do
pub part_failed : {A B : Type 0} (ts : List Token) (p : Part A) (q : Part B) (e : Stop) (ls : List Leaf) → Fails ts e (p.read ls) → Fails ts e (seq p.read q.read ls)
part_failed ts p q e ls h = failed_then ts p.read q.read e ls h

module _ (ts : List Token) (c : Context) where
  -- a tree of the appended entries
  pub made_told : {A B : Type 0} (f : A → Events) (p : A → Fragment) (g : B → Events) (q : B → Fragment) (make : A → B) (old new : TableBuilder) (result : Result Cursor Stop) (read : Read) →
      ((x : A) → g (make x) ≡ f x) → ((x : A) → q (make x) ≡ p x) → AppendsEntries ts f p c old new result read → AppendsEntries ts g q c old new result read
  made_told f p g q make old new result read events effect t =
      told_as ts f (λ x. after (p x) c) g (λ x. after (q x) c) make events (λ x s. ap (λ (y : Fragment). after y c s) (effect x)) old new result read t

  -- one part, and another after it
  pub told_both : {A B : Type 0} (f : A → Events) (p : A → Fragment) (g : B → Events) (q : B → Fragment) (r s : Reader) (old mid new : TableBuilder) (here : Cursor) (result : Result Cursor Stop) (ls : List Leaf) →
      AppendsEntries ts f p c old mid (Ok here) (r ls) → AppendsEntries ts g q c mid new result (s (remaining ts here)) → AppendsEntries ts (then_events f g) (then_rows p q) c old new result (seq r s ls)
  told_both {A} {B} f p g q r s old mid new here result ls a b =
      told_as ts (λ (x : A × B). f x.0 ++ g x.1) (λ x z. after (q x.1) c (after (p x.0) c z)) (then_events f g) (λ x. after (then_rows p q x) c) (λ x. x) (λ x. refl)
      (λ x z. after_both (p x.0) (q x.1) c z) old new result _
      (told_then ts f (λ x. after (p x) c) g (λ x. after (q x) c) r s old mid new here result ls a b)

  -- a word
  pub told_word : (k : Kind) (old new : TableBuilder) (result : Result Cursor Stop) (read : Read) → AppendsEntriesBy ts (λ (x : Unit {0}). word k) (λ x s. advanced s) old new result read →
      AppendsEntries ts (word_events k) word_rows c old new result read
  told_word k old new result read t =
      told_as ts (λ (x : Unit {0}). word k) (λ x s. advanced s) (word_events k) (λ x. after (word_rows x) c) (λ x. x) (λ x. refl) (λ x s. after_token c s) old new result read t

  -- a part after an optional word that is present
  pub told_some : {A X : Type 0} (f : A → Events) (p : A → Fragment) (g : X → Events) (q : X → Fragment) (make : A → X) (k : Kind) (start : Start) (r : Reader) (old mid new : TableBuilder) (rest : Cursor) (result : Result Cursor Stop) (ls : List Leaf) →
      ((x : A) → g (make x) ≡ f x) → ((x : A) → q (make x) ≡ p x) → start ls ≡ Some (word k, remaining ts rest) → PerformsStep advanced old mid → AppendsEntries ts f p c mid new result (r (remaining ts rest)) →
      AppendsEntries ts (shown_there (λ x. word k ++ g x)) (if_present (λ x. both token (q x))) c old new result (optional start r ls)
  told_some {A} {X} f p g q make k start r old mid new rest result ls events effect found h t =
      told_as ts (λ (x : A). word k ++ f x) (λ x s. after (p x) c (advanced s)) (shown_there (λ (x : X). word k ++ g x)) (λ x. after (if_present (λ (y : X). both token (q y)) x) c) (λ x. Some (make x))
      (λ x. ap (λ (o : Events). word k ++ o) (events x)) (λ x s. ap (λ (y : Fragment). after (both token y) c s) (effect x) ∙ word_after (p x) c s) old new result (optional start r ls)
      (told_there ts f (λ x s. after (p x) c (advanced s)) start r (word k) old new rest result ls found
      (told_behind ts f (λ x. after (p x) c) advanced old mid new result (r (remaining ts rest)) h t))

  -- a part after an optional word that is absent
  pub told_none : {X : Type 0} (g : X → Events) (q : X → Fragment) (k : Kind) (start : Start) (r : Reader) (d : TableBuilder) (here : Cursor) → start (remaining ts here) ≡ None →
      AppendsEntries ts (shown_there (λ x. word k ++ g x)) (if_present (λ x. both token (q x))) c d d (Ok here) (optional start r (remaining ts here))
  told_none {X} g q k start r d here e =
      told_absent ts (shown_there (λ (x : X). word k ++ g x)) (λ x. after (if_present (λ (y : X). both token (q y)) x) c) None start r d here refl (λ s. after_nothing c s) e

  -- a statement after its first word
  pub told_statement : {A : Type 0} (f : A → Events) (p : A → Fragment) (make : A → Stmt) (k : Kind) (r : Reader) (old mid new : TableBuilder) (result : Result Cursor Stop) (ls : List Leaf) →
      ((x : A) → stmt_events (make x) ≡ construct constructs.Statement (word k ++ f x)) → ((x : A) → stmt_rows (make x) ≡ both token (p x)) →
      PerformsStep advanced old mid → AppendsEntries ts f p c mid new result (r ls) → AppendsEntries ts stmt_events stmt_rows c old new result (node constructs.Statement (prefixed (word k) r) ls)
  told_statement {A} f p make k r old mid new result ls events effect h t =
      told_as ts (λ (x : A). construct constructs.Statement (word k ++ f x)) (λ x s. after (p x) c (advanced s)) stmt_events (λ x. after (stmt_rows x) c) make events
      (λ x s. ap (λ (y : Fragment). after y c s) (effect x) ∙ word_after (p x) c s) old new result _
      (told_node ts (λ (x : A). word k ++ f x) (λ x s. after (p x) c (advanced s)) constructs.Statement (prefixed (word k) r) old new result ls
      (told_prefixed ts f (λ x s. after (p x) c (advanced s)) (word k) r old new result ls
      (told_behind ts f (λ x. after (p x) c) advanced old mid new result (r ls) h t)))

  -- the same for parts
  pub part_then : {A B : Type 0} (p : Part A) (q : Part B) (old mid new : TableBuilder) (here : Cursor) (result : Result Cursor Stop) (ls : List Leaf) →
      AppendsEntries ts p.events p.piece c old mid (Ok here) (p.read ls) → AppendsEntries ts q.events q.piece c mid new result (q.read (remaining ts here)) →
      AppendsEntries ts (then_events p.events q.events) (then_rows p.piece q.piece) c old new result (seq p.read q.read ls)
  part_then p q old mid new here result ls a b = told_both p.events p.piece q.events q.piece p.read q.read old mid new here result ls a b

  pub word_then : {B : Type 0} (k : Kind) (q : Part B) (old mid new : TableBuilder) (here : Cursor) (result : Result Cursor Stop) (ls : List Leaf) →
      AppendsEntriesBy ts (λ (x : Unit {0}). word k) (λ x s. advanced s) old mid (Ok here) (expect_at k ls) → AppendsEntries ts q.events q.piece c mid new result (q.read (remaining ts here)) →
      AppendsEntries ts (then_events (word_events k) q.events) (then_rows word_rows q.piece) c old new result (seq (expect_at k) q.read ls)
  word_then k q old mid new here result ls a b = part_then (word_part k) q old mid new here result ls (told_word k old mid (Ok here) (expect_at k ls) a) b
