-- The entries of one pass after a token, in a list, and in a declaration.
use Rattle.std.proofs.Common.{◌≡◌, ℕ, Bool, true, false, List, [], ◌++◌, length, Ok, Some, None, refl, sym, ap, ◌∙◌}
use Rattle.std.specs.Prelude.{Result}
use Rattle.std.specs.Global.{Vec}
use Rattle.ob_scan.specs.declared.kind.Kind.{Kind}
use Rattle.ob_scan.specs.declared.token.Token.{Token}
use Rattle.ob_tree.specs.TreeEvents.{Events, word, separated}
use Rattle.ob_tree.specs.TreeEvents.{if_present as shown_there}
use Rattle.module_table.specs.declared.rows.DeclKind.{DeclKind}
use Rattle.module_table.specs.declared.rows.DeclGroup.{DeclGroup}
use Rattle.module_table.specs.declared.builder.Context.{Context}
use Rattle.module_table.specs.declared.builder.TableBuilder.{TableBuilder}
use Rattle.module_table.specs.TableStages.{Stage, stage_of, after, added, closed, advanced, PerformsStep}
use Rattle.module_table.specs.Parts.{Fragment, token, both, if_present, decl_group, declaring, declaring_at, one_decl_group}
use Rattle.module_table.proofs.Steps.{after_both, after_token, after_nothing, after_declaring, number_of, declarers_of}
use Rattle.ob_grammar.specs.declared.cursor.Cursor.{Cursor}
use Rattle.ob_grammar.specs.declared.stop.Stop.{Stop}
use Rattle.ob_grammar.specs.declared.stop.Stop.TheVariants as stops
use Rattle.ob_grammar.specs.Combinators.{Read, Reader, Start, accept_at, expect_at, identifier_at, name_at, many, optional, seq, several}
use Rattle.ob_grammar.specs.ParsesAs.{Fails, remaining}
use Rattle.ob_grammar.proofs.Loops.{with_front}
use Rattle.table_reader.specs.TypeShapes.{more_events, more_rows, list_rows, optional_word_events, optional_word_rows}
use Rattle.table_reader.specs.Tabulating.{HasAppendedEntries, AppendsEntries, AppendsEntriesBy}
use Rattle.table_reader.proofs.Combine.{told_at, told_as, told_then, told_there, told_absent, told_behind, told_before, told_walked}
use Rattle.table_reader.proofs.Lists.{word_after}

-- after a word
pub word_told : {A : Type 0} (ts : List Token) (c : Context) (k : Kind) (f : A → Events) (p : A → Fragment) (r : Reader) (old mid new : TableBuilder) (input here : Cursor) (result : Result Cursor Stop) →
    AppendsEntriesBy ts (λ (_ : Unit {0}). word k) (λ x s. advanced s) old mid (Ok here) (expect_at k (remaining ts input)) →
    AppendsEntries ts f p c mid new result (r (remaining ts here)) →
    AppendsEntries ts (λ x. word k ++ f x) (λ x. both token (p x)) c old new result (seq (expect_at k) r (remaining ts input))
word_told {A} ts c k f p r old mid new input here result a b =
    told_as ts (λ (x : Unit {0} × A). word k ++ f x.1) (λ x s. after (p x.1) c (advanced s)) (λ x. word k ++ f x) (λ x. after (both token (p x)) c) (λ x. x.1) (λ x. refl) (λ x s. word_after (p x.1) c s) old new result _
    (told_then ts (λ (x : Unit {0}). word k) (λ x s. advanced s) f (λ x. after (p x) c) (expect_at k) r old mid new here result (remaining ts input) a b)

-- two parts, by their entries
pub pair_told : {A B : Type 0} (ts : List Token) (c : Context) (f : A → Events) (p : A → Fragment) (g : B → Events) (q : B → Fragment) (r s : Reader) (old mid new : TableBuilder) (input here : Cursor) (result : Result Cursor Stop) →
    AppendsEntries ts f p c old mid (Ok here) (r (remaining ts input)) → AppendsEntries ts g q c mid new result (s (remaining ts here)) →
    AppendsEntries ts (λ (x : A × B). f x.0 ++ g x.1) (λ x. both (p x.0) (q x.1)) c old new result (seq r s (remaining ts input))
pair_told {A} {B} ts c f p g q r s old mid new input here result a b =
    told_as ts (λ (x : A × B). f x.0 ++ g x.1) (λ x z. after (q x.1) c (after (p x.0) c z)) (λ x. f x.0 ++ g x.1) (λ x. after (both (p x.0) (q x.1)) c) (λ x. x) (λ x. refl) (λ x z. after_both (p x.0) (q x.1) c z) old new result _
    (told_then ts f (λ x. after (p x) c) g (λ x. after (q x) c) r s old mid new here result (remaining ts input) a b)

-- one item or more, with a token between any two
pub list_told : {X : Type 0} (ts : List Token) (c : Context) (k : Kind) (f : X → Events) (p : X → Fragment) (r : Reader) (old mid new : TableBuilder) (input here : Cursor) (result : Result Cursor Stop) →
    AppendsEntries ts f p c old mid (Ok here) (r (remaining ts input)) →
    AppendsEntries ts (more_events k f) (more_rows p) c mid new result (many (accept_at k) r (remaining ts here)) →
    AppendsEntries ts (separated k f) (list_rows p) c old new result (several k r (remaining ts input))
unfolding several
list_told {X} ts c k f p r old mid new input here result a b =
    told_as ts (λ (x : X × Vec X). f x.0 ++ more_events k f x.1) (λ x. after (both (p x.0) (more_rows p x.1)) c) (separated k f) (λ l. after (list_rows p l) c)
    (λ x. record { first = x.0; rest = x.1 }) (λ x. refl) (λ x s. refl) old new result _
    (pair_told ts c f p (more_events k f) (more_rows p) r (many (accept_at k) r) old mid new input here result a b)

-- an optional token
pub skipped_told : (ts : List Token) (c : Context) (k : Kind) (b : Bool) (old new : TableBuilder) (rest : Cursor) (read : Read) → Ok (optional_word_events k b, remaining ts rest) ≡ read →
    PerformsStep (after (optional_word_rows b) c) old new → HasAppendedEntries ts (optional_word_events k) (λ x. after (optional_word_rows x) c) old new rest read
skipped_told ts c k b old new rest read e h = told_walked ts (optional_word_events k) (λ x. after (optional_word_rows x) c) b old new rest read (sym e) h

pub came_token : (c : Context) (b : Bool) (old new : TableBuilder) → b ≡ true → PerformsStep advanced old new → PerformsStep (after (optional_word_rows b) c) old new
came_token c true old new e h = λ q. let k = h q in (k.0, k.1 ∙ sym (after_token c (stage_of old)))
came_token c false old new e h = absurd cc

pub came_nothing : (c : Context) (b : Bool) (d : TableBuilder) → b ≡ false → PerformsStep (after (optional_word_rows b) c) d d
came_nothing c true d e = absurd cc
came_nothing c false d e = λ q. (q, sym (after_nothing c (stage_of d)))

-- a declaration with its entry
pub declaring_told : {A : Type 0} (ts : List Token) (decl_kind : DeclKind) (c : Context) (f : A → Events) (p : A → Fragment) (row : DeclGroup) (around : Context) (at : ℕ) (old opened last new : TableBuilder) (here : Cursor) (read : Read) →
    row ≡ decl_group decl_kind c old.number 0 → at ≡ length old.decl_groups.items → around ≡ declaring_at c old.number →
    PerformsStep (added (one_decl_group row)) old opened → AppendsEntries ts f p around opened last (Ok here) read → PerformsStep (closed at row) last new →
    AppendsEntries ts f (λ x. declaring decl_kind (p x)) c old new (Ok here) read
declaring_told {A} ts decl_kind c f p row around at old opened last new here read d e g a t b =
    told_at ts f (λ x s. closed at row (after (p x) around (added (one_decl_group row) s))) f (λ x. after (declaring decl_kind (p x)) c) (λ x. x) (λ x. refl) old new (Ok here) read
    (λ x. after_declaring decl_kind (p x) c (stage_of old) ∙ same x)
    (told_before ts f (λ x s. after (p x) around (added (one_decl_group row) s)) (closed at row) old last new here read
    (told_behind ts f (λ x. after (p x) around) (added (one_decl_group row)) old opened last (Ok here) read a t) b)
  where
    same : (x : A) → closed (length (stage_of old).rows.decl_groups) (decl_group decl_kind c (stage_of old).number 0) (after (p x) (declaring_at c (stage_of old).number) (added (one_decl_group (decl_group decl_kind c (stage_of old).number 0)) (stage_of old)))
        ≡ closed at row (after (p x) around (added (one_decl_group row) (stage_of old)))
    same x = rw (number_of old, declarers_of old, d, e, g) refl

-- ---- names

pub name_read : (role : ℕ → Events) (ls : List _) (n : ℕ) (rest : List _) → identifier_at ls ≡ Ok (n, rest) → name_at role ls ≡ Ok (role n, rest)
unfolding name_at
name_read role ls n rest e = rw e refl

pub name_failed : (ts : List Token) (e : Stop) (role : ℕ → Events) (ls : List _) → Fails ts e (identifier_at ls) → Fails ts e (name_at role ls)
unfolding name_at
name_failed ts stops.Memory role ls h = tt
name_failed ts (stops.Unexpected i) role ls h = rw h refl
name_failed ts (stops.TooDeep i) role ls h = rw h refl

---- optional parts

pub there_told : {A : Type 0} (ts : List Token) (c : Context) (f : A → Events) (p : A → Fragment) (start : Start) (r : Reader) (old new : TableBuilder) (input : Cursor) (result : Result Cursor Stop) →
    start (remaining ts input) ≡ Some ([], remaining ts input) → AppendsEntries ts f p c old new result (r (remaining ts input)) →
    AppendsEntries ts (shown_there f) (if_present p) c old new result (optional start r (remaining ts input))
there_told {A} ts c f p start r old new input result found t =
    told_as ts (λ (x : A). [] ++ f x) (λ x. after (p x) c) (shown_there f) (λ o. after (if_present p o) c) (λ x. Some x) (λ x. refl) (λ x s. refl) old new result (optional start r (remaining ts input))
    (told_there ts f (λ x. after (p x) c) start r [] old new input result (remaining ts input) found t)

-- an optional part after a word, by which the builder advances
pub word_there_told : {A : Type 0} (ts : List Token) (c : Context) (k : Kind) (f : A → Events) (p : A → Fragment) (r : Reader) (old mid new : TableBuilder) (input rest : Cursor) (result : Result Cursor Stop) →
    accept_at k (remaining ts input) ≡ Some (word k, remaining ts rest) → PerformsStep advanced old mid → AppendsEntries ts f p c mid new result (r (remaining ts rest)) →
    AppendsEntries ts (shown_there (λ x. word k ++ f x)) (if_present (λ x. both token (p x))) c old new result (optional (accept_at k) r (remaining ts input))
word_there_told {A} ts c k f p r old mid new input rest result found h t =
    told_as ts (λ (x : A). word k ++ f x) (λ x s. after (p x) c (advanced s)) (shown_there (λ x. word k ++ f x)) (λ o. after (if_present (λ x. both token (p x)) o) c) (λ x. Some x) (λ x. refl) (λ x s. word_after (p x) c s) old new result (optional (accept_at k) r (remaining ts input))
    (told_there ts f (λ x s. after (p x) c (advanced s)) (accept_at k) r (word k) old new rest result (remaining ts input) found
    (told_behind ts f (λ x. after (p x) c) advanced old mid new result (r (remaining ts rest)) h t))

pub absent_told : {A : Type 0} (ts : List Token) (c : Context) (f : A → Events) (p : A → Fragment) (start : Start) (r : Reader) (d : TableBuilder) (input : Cursor) →
    start (remaining ts input) ≡ None → AppendsEntries ts (shown_there f) (if_present p) c d d (Ok input) (optional start r (remaining ts input))
absent_told ts c f p start r d input h = told_absent ts (shown_there f) (λ o. after (if_present p o) c) None start r d input refl (λ s. after_nothing c s) h

-- one step and then another
pub came_then : (f g : Stage → Stage) (old mid new : TableBuilder) → PerformsStep f old mid → PerformsStep g mid new → PerformsStep (λ s. g (f s)) old new
came_then f g old mid new a b = λ e. let k = b e in let h = a k.0 in (h.0, k.1 ∙ ap g h.1)

pub came_as : (f g : Stage → Stage) (old new : TableBuilder) → PerformsStep f old new → ((s : Stage) → g s ≡ f s) → PerformsStep g old new
came_as f g old new a h = λ e. let k = a e in (k.0, k.1 ∙ sym (h (stage_of old)))

-- three parts, the first two of which were joined
pub regrouped : (p q r : Fragment) (c : Context) (s : Stage) → after (both (both p q) r) c s ≡ after (both p (both q r)) c s
regrouped p q r c s = after_both (both p q) r c s ∙ ap (after r c) (after_both p q c s) ∙ sym (after_both q r c (after p c s)) ∙ sym (after_both p (both q r) c s)

-- if the part after it fails
pub fails_behind : (ts : List Token) (e : Stop) (o : Events) (read : Read) → Fails ts e read → Fails ts e (with_front o read)
fails_behind ts stops.Memory o read h = tt
fails_behind ts (stops.Unexpected i) o read h = rw h refl
fails_behind ts (stops.TooDeep i) o read h = rw h refl

-- one part was tabulated, and the next one fails
pub then_failed : {A : Type 0} (ts : List Token) (f : A → Events) (p : A → Stage → Stage) (e : Stop) (r s : Reader) (old new : TableBuilder) (input following : Cursor) →
    AppendsEntriesBy ts f p old new (Ok following) (r (remaining ts input)) → Fails ts e (s (remaining ts following)) → Fails ts e (seq r s (remaining ts input))
then_failed ts f p e r s old new input following a h = rw a.is_read (fails_behind ts e a.out (s (remaining ts following)) h)
