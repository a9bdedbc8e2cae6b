-- Designators and selectors from their tabulated parts.
use Rattle.std.proofs.Common.{◌≡◌, ℕ, zero, suc, ◌+◌, ◌-◌, ◌<◌, ◌≤◌, ◌⊎◌, inl, inr, Bool, true, false, List, [], ◌∷◌, ◌++◌, length, map, set, Option, Some, None, Ok, refl, sym, ap, subst, ◌∙◌, arith, length-append}
use Rattle.std.proofs.lemmas.List.{append-nil}
use Rattle.std.specs.Global.{Global}
use Rattle.std.specs.Prelude.{Result}
use Rattle.ob_scan.specs.declared.kind.Kind.{Kind}
use Rattle.ob_scan.specs.declared.kind.Kind.TheVariants as kinds
use Rattle.ob_scan.specs.declared.token.Token.{Token}
use Rattle.ob_tree.specs.declared.token.Leaf.{Leaf}
use Rattle.ob_tree.specs.declared.token.Leaf.TheVariants as leafs
use Rattle.ob_tree.specs.declared.expression.Factor.TheOpen as layers
use Rattle.ob_tree.specs.declared.expression.Selector.{Selector}
use Rattle.ob_tree.specs.declared.expression.Selector.TheVariants as selectors
use Rattle.ob_tree.specs.declared.expression.Designator.{Designator}
use Rattle.ob_tree.specs.declared.expression.ExprList.{ExprList}
use Rattle.ob_tree.specs.Constructs as constructs
use Rattle.ob_tree.specs.TreeEvents.{Events, construct, word, used, each}
use Rattle.ob_tree.specs.TreeEvents as marks
use Rattle.ob_tree.specs.Expressions.{selector_events, designator_events}
use Rattle.ob_tree.proofs.ExpressionLayers as events
use Rattle.module_table.specs.declared.rows.Selector.{Selector as SelectorRow}
use Rattle.module_table.specs.declared.rows.Step.TheVariants as steps
use Rattle.module_table.specs.declared.builder.Context.{Context}
use Rattle.module_table.specs.declared.builder.TableBuilder.{TableBuilder}
use Rattle.module_table.specs.TableStages.{Stage, stage_of, after, advanced, added, with_selector, PerformsStep}
use Rattle.module_table.specs.Parts.{Fragment, token, both, with_rows, no_rows, joined, these_selectors}
use Rattle.table_rules.specs.Expressions.{SelectorPhrase, selected, first_name, designator_rows, designator_row, expr_list_rows}
use Rattle.table_rules.specs.Expressions.{used as uses}
use Rattle.table_rules.specs.SelectorEntries.{placeholders, row_at, after_selectors}
use Rattle.table_rules.proofs.ExpressionLayers as effect
use Rattle.table_rules.proofs.ExpressionLayers.{length_map}
use Rattle.table_rules.proofs.Settled.{map_more, settling_more, settling_none, designator_after}
use Rattle.module_table.proofs.Steps.{after_both, after_token, number_of, selectors_of}
use Rattle.ob_grammar.specs.declared.cursor.Cursor.{Cursor}
use Rattle.ob_grammar.specs.declared.stop.Stop.{Stop}
use Rattle.ob_grammar.specs.declared.stop.Stop.TheVariants as stops
use Rattle.ob_grammar.proofs.Loops.{Advances}
use Rattle.ob_grammar.specs.Lookahead.{uncons, head_is, is_word}
use Rattle.ob_grammar.specs.Combinators.{Reader, seq, node, prefixed, many, begins, expect_at, identifier_at, name_at}
use Rattle.ob_grammar.specs.ParsesAs.{remaining, Fails}
use Rattle.ob_grammar.specs.ReadExpressions.{selector_first, selector_from, selector_with, designator_with, expr_at}
use Rattle.ob_grammar.proofs.Sound.{done}
use Rattle.table_reader.specs.SelectorShapes.{dot_at, is_present, SelectorShape, selector_shape_events, selector_stage, SelectorsShape, selectors_shape_events, selectors_stage, Counted, counted_events}
use Rattle.table_reader.specs.SelectorSlots.{placeholder, slots, inserted, removed, EnsuresSlot}
use Rattle.table_reader.specs.Tabulating.{HasAppendedEntries, AppendsEntries, AppendsEntriesBy}
use Rattle.table_reader.proofs.Combine.{told_as, told_at, told_node, told_then, told_prefixed, told_behind, told_before, told_knowing}
use Rattle.table_reader.proofs.FactorTrees.{bracket_after}
use Rattle.table_reader.proofs.Lists.{Gathered, Listing, listing_begun, listing_more, listing_mended, listing_known, listing_done}
use Rattle.table_reader.proofs.Made.{boxed}
use Rattle.table_reader.proofs.Mended.{settling_length, opened_length, place_inserted, places_removed}
use Rattle.table_reader.proofs.Room.{no_places}

-- ---- entries of selectors

set_front : (xs ys : List SelectorRow) (at : ℕ) (row : SelectorRow) → at < length xs → set (xs ++ ys) at row ≡ set xs at row ++ ys
set_front [] ys at row h = absurd (omega (arith, h))
set_front (x ∷ xs) ys zero row h = refl
set_front (x ∷ xs) ys (suc n) row h = ap (λ (zs : List SelectorRow). x ∷ zs) (set_front xs ys n row (omega (arith, h)))

-- the entry of a selector may be set after it is reserved
settled_late : (p : Fragment) (c : Context) (s : Stage) (at : ℕ) (row : SelectorRow) → at < length s.rows.selectors → with_selector at row (after p c s) ≡ after p c (with_selector at row s)
unfolding with_selector after joined
settled_late p c s at row h =
    ap (λ (zs : List SelectorRow). let t : Stage = record { number = s.number + p.width; rows = record (joined s.rows (p.rows c s.number)) { selectors = zs } } in t)
    (set_front s.rows.selectors (p.rows c s.number).selectors at row h)

settled_passed : (s : Stage) (at : ℕ) (row : SelectorRow) → with_selector at row (advanced s) ≡ advanced (with_selector at row s)
unfolding with_selector advanced
settled_passed s at row = refl

-- the entries of a selector, by its fields
pub picking_shown : {dot : Bool} (head at : ℕ) (c : Context) (x : SelectorShape dot) (y : SelectorPhrase) (s : Stage) → selected x.selector ≡ y →
    selector_stage head at c x s ≡ after y.piece c (with_selector at (row_at head y s) s)
picking_shown head at c x y s e = ap (λ (z : SelectorPhrase). after z.piece c (with_selector at (row_at head z s) s)) e

-- ---- "^"

target_picked : SelectorShape false
target_picked = record { selector = selectors.Target; named = ap (λ (x : SelectorPhrase). is_present x.name) effect.target_made }

pub target_told : (ts : List Token) (c : Context) (head at : ℕ) (old mid new : TableBuilder) (input rest : Cursor) → rest ≡ input →
    PerformsStep (with_selector at (record { of = head; step = steps.Target })) old mid → PerformsStep advanced mid new →
    HasAppendedEntries ts selector_shape_events (selector_stage {dot = false} head at c) old new rest (Ok (construct constructs.Selector (word kinds.Caret), remaining ts input))
unfolding target_picked
target_told ts c head at old mid new input rest same h k = record {
  out = construct constructs.Selector (word kinds.Caret);
  is_read = ap (λ (i : Cursor). done (construct constructs.Selector (word kinds.Caret), remaining ts i)) (sym same);
  tabulates = λ e.
      let b = k e in
      let a = h b.0 in (
        a.0,
        record {
          tree = target_picked;
          has_events = events.target_made;
          comes = b.1 ∙ ap advanced a.1 ∙ sym (after_token c _) ∙ sym (picking_shown head at c target_picked (effect.selector_shown layers.Target) (stage_of old) effect.target_made);
        },
      );
}

-- ---- "." ident

field_picked : ℕ → SelectorShape true
field_picked n = record { selector = selectors.Field n; named = ap (λ (x : SelectorPhrase). is_present x.name) (effect.field_made n) }

pub field_told : (ts : List Token) (c : Context) (head at number m : ℕ) (old mid late new : TableBuilder) (input following rest : Cursor) → rest ≡ following → number ≡ old.number + 1 →
    PerformsStep (with_selector at (record { of = head; step = steps.Field number })) old mid → PerformsStep advanced mid late →
    identifier_at (remaining ts input) ≡ Ok (m, remaining ts following) → PerformsStep advanced late new →
    HasAppendedEntries ts selector_shape_events (selector_stage {dot = true} head at c) old new rest (node constructs.Selector (prefixed (word kinds.Dot) (name_at marks.selected)) (remaining ts input))
unfolding field_picked name_at
field_told ts c head at number m old mid late new input following rest equal in_range h k e l = record {
  out = construct constructs.Selector (word kinds.Dot ++ marks.selected m);
  is_read = rw e (ap (λ (i : Cursor). done (construct constructs.Selector (word kinds.Dot ++ marks.selected m), remaining ts i)) (sym equal));
  tabulates = λ q.
      let z = l q in
      let b = k z.0 in
      let a = h b.0 in
      let same : number ≡ (stage_of old).number + 1 = in_range ∙ ap (λ (n : ℕ). n + 1) (sym (number_of old)) in (
        a.0,
        record {
          tree = field_picked m;
          has_events = events.field_made m;
          comes = z.1 ∙ ap advanced (b.1 ∙ ap advanced (a.1 ∙ ap (λ (n : ℕ). with_selector at (record { of = head; step = steps.Field n }) (stage_of old)) same))
              ∙ sym (after_both token token c _ ∙ after_token c _ ∙ ap advanced (after_token c _))
              ∙ sym (picking_shown head at c (field_picked m) (effect.selector_shown (layers.Field m)) (stage_of old) (effect.field_made m));
        },
      );
}

---- between two words, with an entry that is set before the second word

settled_bracket : (p : Fragment) (c : Context) (s : Stage) (at : ℕ) (row : SelectorRow) → at < length s.rows.selectors →
    after (both token (both p token)) c (with_selector at row s) ≡ advanced (with_selector at row (after p c (advanced s)))
unfolding advanced
settled_bracket p c s at row h =
    bracket_after p c (with_selector at row s) ∙ ap (λ (t : Stage). advanced (after p c t)) (sym (settled_passed s at row)) ∙ ap advanced (sym (settled_late p c (advanced s) at row h))

-- the part between two words, the first of which the builder has passed, with an entry that is set before the second word
pub told_settled : {A : Type 0} (B : Type 0) (ts : List Token) (f : A → Events) (q : A → Fragment) (c : Context) (begin end : Kind) (r : Reader) (at : ℕ) (row : SelectorRow) (old mid list late new : TableBuilder) (input here : Cursor) (result : Result Cursor Stop) →
    (old.failed ≡ false → at < length old.selectors.items) → PerformsStep advanced old mid →
    HasAppendedEntries ts f (λ x. after (q x) c) mid list here (r (remaining ts input)) → PerformsStep (with_selector at row) list late →
    AppendsEntriesBy ts (λ (x : B). word end) (λ x s. advanced s) late new result (expect_at end (remaining ts here)) →
    AppendsEntriesBy ts (λ (x : A × B). construct constructs.Selector (word begin ++ (f x.0 ++ word end))) (λ x s. after (both token (both (q x.0) token)) c (with_selector at row s)) old new result
    (node constructs.Selector (prefixed (word begin) (seq r (expect_at end))) (remaining ts input))
told_settled {A} B ts f q c begin end r at row old mid list late new input here result in_range h a k b =
    let Fact : Type 0 = at < length old.selectors.items in
    told_at ts (λ (x : (A × B) × Fact). construct constructs.Selector (word begin ++ (f x.0.0 ++ word end))) (λ x s. advanced (with_selector at row (after (q x.0.0) c (advanced s)))) _ _ (λ x. x.0) (λ x. refl) old new result _
    (λ x. settled_bracket (q x.0.0) c (stage_of old) at row (subst (λ (ss : List SelectorRow). at < length ss) (sym (selectors_of old)) x.1))
    (told_node ts (λ (x : (A × B) × Fact). word begin ++ (f x.0.0 ++ word end)) _ constructs.Selector (prefixed (word begin) (seq r (expect_at end))) old new result (remaining ts input)
    (told_prefixed ts (λ (x : (A × B) × Fact). f x.0.0 ++ word end) _ (word begin) (seq r (expect_at end)) old new result (remaining ts input)
    (told_knowing ts (λ (x : A × B). f x.0 ++ word end) (λ x s. advanced (with_selector at row (after (q x.0) c s))) advanced old mid new result (seq r (expect_at end) (remaining ts input)) h (λ e. in_range (h e).0)
    (told_then ts f (λ x s. with_selector at row (after (q x) c s)) (λ (x : B). word end) (λ x s. advanced s) r (expect_at end) mid late new here result (remaining ts input)
    (told_before ts f (λ x. after (q x) c) (with_selector at row) mid list late here (r (remaining ts input)) a k) b))))

-- ---- "[" list "]"

index_picked : Global → ExprList → SelectorShape false
index_picked g l = record { selector = selectors.Index (boxed g l); named = ap (λ (x : SelectorPhrase). is_present x.name) (effect.index_made (boxed g l)) }

pub index_told : (ts : List Token) (c : Context) (r : Reader) (head at count : ℕ) (old mid list late new : TableBuilder) (input here : Cursor) (result : Result Cursor Stop) →
    (old.failed ≡ false → at < length old.selectors.items) → PerformsStep advanced old mid →
    HasAppendedEntries {T = Counted count} ts counted_events (λ l. after (expr_list_rows l.list) c) mid list here (r (remaining ts input)) →
    PerformsStep (with_selector at (record { of = head; step = steps.Elements count })) list late →
    AppendsEntriesBy ts (λ (x : Unit {0}). word kinds.RightBracket) (λ x s. advanced s) late new result (expect_at kinds.RightBracket (remaining ts here)) →
    AppendsEntriesBy {T = SelectorShape false} ts selector_shape_events (selector_stage head at c) old new result (node constructs.Selector (prefixed (word kinds.LeftBracket) (seq r (expect_at kinds.RightBracket))) (remaining ts input))
unfolding index_picked
index_told ts c r head at count old mid list late new input here result in_range h a k b =
    let row : SelectorRow = record { of = head; step = steps.Elements count } in
    told_as ts (λ (x : Counted count × Unit {0}). construct constructs.Selector (word kinds.LeftBracket ++ (counted_events x.0 ++ word kinds.RightBracket)))
    (λ x s. after (both token (both (expr_list_rows x.0.list) token)) c (with_selector at row s)) selector_shape_events (selector_stage head at c) (λ x. index_picked old.uses.alloc x.0.list)
    (λ x. events.index_made (boxed old.uses.alloc x.0.list))
    (λ x s. picking_shown head at c (index_picked old.uses.alloc x.0.list) (effect.selector_shown (layers.Index (boxed old.uses.alloc x.0.list))) s (effect.index_made (boxed old.uses.alloc x.0.list))
    ∙ ap (λ (n : ℕ). after (both token (both (expr_list_rows x.0.list) token)) c (with_selector at (record { of = head; step = steps.Elements n }) s)) x.0.counted)
    old new result _
    (told_settled (Unit {0}) ts (counted_events {n = count}) (λ l. expr_list_rows l.list) c kinds.LeftBracket kinds.RightBracket r at row old mid list late new input here result in_range h a k b)

-- ---- the selectors of a designator

-- the first selector selects a name if a dot is next
abbrev pub FirstNamed : List Token → Cursor → Cursor → List Selector → Type 0
FirstNamed ts input here [] = here ≡ input
FirstNamed ts input here (x ∷ xs) = is_present (selected x).name ≡ dot_at ts input

first_more : (ts : List Token) (input here next : Cursor) (xs : List Selector) (x : Selector) → is_present (selected x).name ≡ dot_at ts here → FirstNamed ts input here xs → FirstNamed ts input next (xs ++ x ∷ [])
first_more ts input here next [] x e h = e ∙ ap (dot_at ts) h
first_more ts input here next (y ∷ ys) x e h = h

-- the slot of the next selector, the end of the reserved entries, and the first selector if there is one
abbrev pub Placed : List Token → ℕ → ℕ → ℕ → Cursor → Cursor → List Selector → Type 0
Placed ts at slot end input here xs = (slot ≡ at + length xs) × (at + (end - at) ≡ end) × (slot ≤ end) × FirstNamed ts input here xs

-- the same, if the slot of the next selector is reserved
abbrev pub HasPlace : List Token → ℕ → ℕ → ℕ → Cursor → Cursor → List Selector → Type 0
HasPlace ts at slot end input here xs = (slot < end) × Placed ts at slot end input here xs

-- the stage after these selectors, if entries are reserved up to this end
abbrev pub choosing_to : ℕ → ℕ → ℕ → Context → List Selector → Stage → Stage
choosing_to head at end c xs s = after_selectors head at (map selected xs) c (added (these_selectors (slots head (end - at))) s)

chosen_more : (ts : List Token) (c : Context) (head at slot later end : ℕ) (input here next : Cursor) (xs : List Selector) (x : SelectorShape (dot_at ts here)) → later ≡ slot + 1 →
    HasPlace ts at slot end input here xs →
    Placed ts at later end input next (xs ++ x.selector ∷ []) × ((s : Stage) → choosing_to head at end c (xs ++ x.selector ∷ []) s ≡ selector_stage head slot c x (choosing_to head at end c xs s))
chosen_more ts c head at slot later end input here next xs x e (less, h) = (
  (omega (arith, e, h.0, length-append xs (x.selector ∷ [])), h.1, omega (arith, e, less), first_more ts input here next xs x.selector x.named h.3),
  λ s.
      let t : Stage = added (these_selectors (slots head (end - at))) s in
      let p : at + length (map selected xs) ≡ slot = ap (λ (n : ℕ). at + n) (length_map selected xs) ∙ sym h.0 in
      ap (λ (ys : List SelectorPhrase). after_selectors head at ys c t) (map_more selected xs x.selector)
      ∙ settling_more head at (map selected xs) (selected x.selector) c t
      ∙ ap (λ (n : ℕ). let u : Stage = after_selectors head at (map selected xs) c t in after (selected x.selector).piece c (with_selector n (row_at head (selected x.selector) u) u)) p,
)

no_dot : (o : Option (Leaf × List Leaf)) → head_is selector_first o ≡ false → head_is (is_word kinds.Dot) o ≡ false
no_dot None e = refl
no_dot (Some (leafs.Name n, ls)) e = refl
no_dot (Some (leafs.Value k n, ls)) e = refl
no_dot (Some (leafs.Word kinds.Dot, ls)) e = absurd cc
no_dot (Some (leafs.Word k, ls)) e = refl

first_known : (ts : List Token) (input here : Cursor) (xs : List Selector) → head_is selector_first (uncons (remaining ts here)) ≡ false → FirstNamed ts input here xs → is_present (first_name (map selected xs)) ≡ dot_at ts input
first_known ts input here [] e h = sym (no_dot (uncons (remaining ts input)) (ap (λ (i : Cursor). head_is selector_first (uncons (remaining ts i))) (sym h) ∙ e))
first_known ts input here (x ∷ xs) e h = h

-- the invariant of the loop over the selectors
abbrev pub ChosenListing : List Token → Reader → Context → ℕ → ℕ → ℕ → ℕ → TableBuilder → TableBuilder → Cursor → Cursor → Type 0
ChosenListing ts r c head at slot end old now input here =
    Listing {X = Selector} ts (begins selector_first) r selector_events (choosing_to head at end c) (Placed ts at slot end input here) old now input here

-- the same, if the slot of the next selector is reserved
abbrev pub ReadyListing : List Token → Reader → Context → ℕ → ℕ → ℕ → ℕ → TableBuilder → TableBuilder → Cursor → Cursor → Type 0
ReadyListing ts r c head at slot end old now input here =
    Listing {X = Selector} ts (begins selector_first) r selector_events (choosing_to head at end c) (HasPlace ts at slot end input here) old now input here

-- before entries are reserved
abbrev NoListing : List Token → Reader → TableBuilder → Cursor → Type 0
NoListing ts r d input = Listing {X = Selector} ts (begins selector_first) r selector_events (λ xs s. s) (λ xs. xs ≡ []) d d input input

none_yet : (ts : List Token) (r : Reader) (d : TableBuilder) (input : Cursor) → NoListing ts r d input
none_yet ts r d input = listing_begun {X = Selector} ts (begins selector_first) r selector_events (λ xs s. s) (λ xs. xs ≡ []) d input (λ s. refl) refl

opened_at : (ts : List Token) (c : Context) (head at end count : ℕ) (input : Cursor) (xs : List Selector) (s t : Stage) → xs ≡ [] → end ≡ at + count → t ≡ added (these_selectors (slots head count)) s →
    Placed ts at at end input input xs × (t ≡ choosing_to head at end c xs s)
opened_at ts c head at end count input [] s t none size h =
    let n : count ≡ end - at = omega (arith, size) in (
      (omega arith, omega (arith, size), omega (arith, size), refl),
      h ∙ ap (λ (k : ℕ). added (these_selectors (slots head k)) s) n ∙ sym (settling_none head at c _),
    )
opened_at ts c head at end count input (x ∷ xs) s t none size h = absurd cc

pub chosen_begun : (ts : List Token) (r : Reader) (c : Context) (head at end count : ℕ) (old new : TableBuilder) (input : Cursor) → at ≡ length old.selectors.items →
    PerformsStep (added (these_selectors (slots head count))) old new → end ≡ length new.selectors.items → ChosenListing ts r c head at at end old new input input
chosen_begun ts r c head at end count old new input h k e =
    listing_mended {X = Selector} ts (begins selector_first) r selector_events (λ xs s. s) (choosing_to head at end c) (λ xs. xs ≡ []) (Placed ts at at end input input) old old new input input
    (λ q.
    let a = k q in (
      a.0,
      λ xs none effect.
          let size : end ≡ at + count = e ∙ ap length (sym (selectors_of new)) ∙ ap (λ (t : Stage). length t.rows.selectors) a.1 ∙ opened_length head count (stage_of old) ∙ ap (λ (n : ℕ). n + count) (ap length (selectors_of old) ∙ sym h) in
          opened_at ts c head at end count input xs (stage_of old) (stage_of new) none size a.1,
    ))
    (none_yet ts r old input)

kept_at : (ts : List Token) (c : Context) (head at slot end later : ℕ) (input here : Cursor) (xs : List Selector) (s t u : Stage) → at ≡ length s.rows.selectors → Placed ts at slot end input here xs → t ≡ choosing_to head at end c xs s →
    ((slot < end) × (u ≡ t) × (later ≡ end)) ⊎ ((end ≤ slot) × (u ≡ inserted end (placeholder head) t) × (later ≡ end + 1)) →
    HasPlace ts at slot later input here xs × (u ≡ choosing_to head at later c xs s)
kept_at ts c head at slot end later input here xs s t u h so effect (inl a) = (
  (omega (arith, a.0, a.2), (so.0, omega (arith, so.1, a.2), omega (arith, so.2, a.2), so.3)),
  a.1 ∙ effect ∙ ap (λ (n : ℕ). choosing_to head at n c xs s) (sym a.2),
)
kept_at ts c head at slot end later input here xs s t u h so effect (inr a) =
    let few : length (map selected xs) ≤ end - at = omega (arith, so.0, so.2, length_map selected xs) in
    let more : end - at + 1 ≡ later - at = omega (arith, so.1, a.2) in (
      (omega (arith, a.2, so.2), (so.0, omega (arith, so.1, a.2), omega (arith, so.2, a.2), so.3)),
      a.1 ∙ ap (inserted end (placeholder head)) effect
          ∙ ap (λ (n : ℕ). inserted n (placeholder head) (choosing_to head at end c xs s)) (sym so.1)
          ∙ place_inserted head at (map selected xs) c (end - at) s h few
          ∙ ap (λ (n : ℕ). after_selectors head at (map selected xs) c (added (these_selectors (slots head n)) s)) more,
    )

pub chosen_kept : (ts : List Token) (r : Reader) (c : Context) (head at slot end later : ℕ) (old now new : TableBuilder) (input here : Cursor) → at ≡ length old.selectors.items → EnsuresSlot head slot end now new later →
    ChosenListing ts r c head at slot end old now input here → ReadyListing ts r c head at slot later old new input here
chosen_kept ts r c head at slot end later old now new input here h k l =
    listing_mended {X = Selector} ts (begins selector_first) r selector_events (choosing_to head at end c) (choosing_to head at later c) (Placed ts at slot end input here) (HasPlace ts at slot later input here) old now new input here
    (λ e. let a = k e in (a.0, λ xs so effect. kept_at ts c head at slot end later input here xs (stage_of old) (stage_of now) (stage_of new) (h ∙ ap length (sym (selectors_of old))) so effect a.1)) l

pub chosen_next : (ts : List Token) (r : Reader) (c : Context) (head at slot later end : ℕ) → Advances (begins selector_first) r → (old now new : TableBuilder) (input here next : Cursor) →
    begins selector_first (remaining ts here) ≡ Some ([], remaining ts here) → ReadyListing ts r c head at slot end old now input here →
    HasAppendedEntries {T = SelectorShape (dot_at ts here)} ts selector_shape_events (selector_stage head slot c) now new next (r (remaining ts here)) → (now.failed ≡ false → later ≡ slot + 1) →
    ChosenListing ts r c head at later end old new input next
chosen_next ts r c head at slot later end adv old now new input here next found l t in_range =
    listing_more {X = Selector} ts (begins selector_first) r selector_events (choosing_to head at end c) (HasPlace ts at slot end input here) (Placed ts at later end input next)
    (selector_shape_events {dot = dot_at ts here}) (selector_stage head slot c) (λ x. x.selector) [] adv (λ x. refl) old now new input here here next
    (λ e xs x so. chosen_more ts c head at slot later end input here next xs x (in_range (t.tabulates e).0) so) found l t

-- the entries are reserved
pub chosen_room : (ts : List Token) (r : Reader) (c : Context) (head at slot end : ℕ) (old now : TableBuilder) (input here : Cursor) → at ≡ length old.selectors.items →
    ChosenListing ts r c head at slot end old now input here → now.failed ≡ false → (slot ≤ end) × (end ≤ length now.selectors.items)
chosen_room ts r c head at slot end old now input here h l =
    listing_known {X = Selector} ts (begins selector_first) r selector_events (choosing_to head at end c) (Placed ts at slot end input here) old now input here
    (λ xs so effect.
    let t : Stage = added (these_selectors (slots head (end - at))) (stage_of old) in
    let opened = opened_length head (end - at) (stage_of old) in
    let longer = settling_length head at (map selected xs) c t in
    let size : length now.selectors.items ≡ length (after_selectors head at (map selected xs) c t).rows.selectors = ap length (sym (selectors_of now)) ∙ ap (λ (u : Stage). length u.rows.selectors) effect in
    let begun : at ≡ length (stage_of old).rows.selectors = h ∙ ap length (sym (selectors_of old)) in (so.2, omega (arith, so.1, opened, longer, size, begun)))
    l

closed_at : (ts : List Token) (c : Context) (head at slot end : ℕ) (input here : Cursor) (xs : List Selector) (s : Stage) → at ≡ length s.rows.selectors → Placed ts at slot end input here xs →
    after_selectors head (length s.rows.selectors) (map selected xs) c (added (these_selectors (slots head (length xs))) s) ≡ removed slot end (choosing_to head at end c xs s)
closed_at ts c head at slot end input here xs s h so =
    let all : length xs + (end - slot) ≡ end - at = omega (arith, so.0, so.1, so.2) in
    ap (λ (n : ℕ). after_selectors head n (map selected xs) c (added (these_selectors (slots head (length xs))) s)) (sym h)
    ∙ sym (places_removed head at (map selected xs) c (length xs) (end - slot) slot end s h (omega (arith, length_map selected xs)) so.0 (omega (arith, so.2)))
    ∙ ap (λ (n : ℕ). removed slot end (after_selectors head at (map selected xs) c (added (these_selectors (slots head n)) s))) all

pub chosen_all : (ts : List Token) (r : Reader) (c : Context) (head at slot end : ℕ) → Advances (begins selector_first) r → (old now new : TableBuilder) (input here : Cursor) → at ≡ length old.selectors.items →
    head_is selector_first (uncons (remaining ts here)) ≡ false → begins selector_first (remaining ts here) ≡ None → ChosenListing ts r c head at slot end old now input here → PerformsStep (removed slot end) now new →
    HasAppendedEntries ts (selectors_shape_events {dot = dot_at ts input}) (selectors_stage head c) old new here (many (begins selector_first) r (remaining ts input))
chosen_all ts r c head at slot end adv old now new input here h e none l k =
    told_at ts (λ (v : Gathered {X = Selector} (Placed ts at slot end input here)). each selector_events v.list.items) (λ v s. removed slot end (choosing_to head at end c v.list.items s))
    (selectors_shape_events {dot = dot_at ts input}) (selectors_stage head c) (λ v. record { list = v.list; named = first_known ts input here v.list.items e v.so.3 }) (λ v. refl) old new (Ok here) _
    (λ v. closed_at ts c head at slot end input here v.list.items (stage_of old) (h ∙ ap length (sym (selectors_of old))) v.so)
    (told_before ts (λ (v : Gathered {X = Selector} (Placed ts at slot end input here)). each selector_events v.list.items) (λ v. choosing_to head at end c v.list.items) (removed slot end) old now new here _
    (listing_done {X = Selector} ts (begins selector_first) r selector_events (choosing_to head at end c) (Placed ts at slot end input here) adv old now input here none l) k)

none_named : (ts : List Token) (input : Cursor) (xs : List Selector) → xs ≡ [] → head_is selector_first (uncons (remaining ts input)) ≡ false → is_present (first_name (map selected xs)) ≡ dot_at ts input
none_named ts input [] none e = first_known ts input input [] e refl
none_named ts input (x ∷ xs) none e = absurd cc

none_settled : (head at : ℕ) (c : Context) (xs : List Selector) (s : Stage) → xs ≡ [] → after_selectors head at (map selected xs) c (added (these_selectors (slots head (length xs))) s) ≡ s
none_settled head at c [] s none = settling_none head at c _ ∙ no_places head s
none_settled head at c (x ∷ xs) s none = absurd cc

-- if there is no selector
pub none_chosen : (ts : List Token) (r : Reader) (c : Context) (head : ℕ) → Advances (begins selector_first) r → (d : TableBuilder) (input : Cursor) →
    head_is selector_first (uncons (remaining ts input)) ≡ false → begins selector_first (remaining ts input) ≡ None →
    HasAppendedEntries ts (selectors_shape_events {dot = dot_at ts input}) (selectors_stage head c) d d input (many (begins selector_first) r (remaining ts input))
none_chosen ts r c head adv d input e none =
    told_as ts (λ (v : Gathered {X = Selector} (λ xs. xs ≡ [])). each selector_events v.list.items) (λ v s. s)
    (selectors_shape_events {dot = dot_at ts input}) (selectors_stage head c) (λ v. record { list = v.list; named = none_named ts input v.list.items v.so e }) (λ v. refl) (λ v s. none_settled head (length s.rows.selectors) c v.list.items s v.so) d d (Ok input) _
    (listing_done {X = Selector} ts (begins selector_first) r selector_events (λ xs s. s) (λ xs. xs ≡ []) adv d d input input none (none_yet ts r d input))

pub failed_name : (ts : List Token) (role : ℕ → Events) (e : Stop) (ls : List Leaf) → Fails ts e (identifier_at ls) → Fails ts e (name_at role ls)
unfolding name_at
failed_name ts role stops.Memory ls h = tt
failed_name ts role (stops.Unexpected i) ls h = rw h refl
failed_name ts role (stops.TooDeep i) ls h = rw h refl

-- a selector with this first token
pub told_selector : {A : Type 0} (ts : List Token) (f : A → Events) (p : A → Stage → Stage) (r : Reader) (old new : TableBuilder) (result : Result Cursor Stop) (ls : List Leaf) (o : Option (Leaf × List Leaf)) → uncons ls ≡ o →
    AppendsEntriesBy ts f p old new result (node constructs.Selector (λ z. selector_from r o) ls) → AppendsEntriesBy ts f p old new result (selector_with r ls)
unfolding selector_with
told_selector ts f p r old new result ls o e t = rw e t

-- a selector after this token, which may be a dot
pub selector_so : (ts : List Token) (c : Context) (head at : ℕ) (r : Reader) (old new : TableBuilder) (result : Result Cursor Stop) (input : Cursor) (dot : Bool) (o : Option (Leaf × List Leaf)) →
    uncons (remaining ts input) ≡ o → head_is (is_word kinds.Dot) o ≡ dot →
    AppendsEntriesBy {T = SelectorShape dot} ts selector_shape_events (selector_stage head at c) old new result (node constructs.Selector (λ z. selector_from r o) (remaining ts input)) →
    AppendsEntriesBy {T = SelectorShape (dot_at ts input)} ts selector_shape_events (selector_stage head at c) old new result (selector_with r (remaining ts input))
selector_so ts c head at r old new result input dot o e h t =
    told_selector ts selector_shape_events (selector_stage head at c) r old new result (remaining ts input) o e
    (subst (λ (b : Bool). AppendsEntriesBy {T = SelectorShape b} ts selector_shape_events (selector_stage head at c) old new result (node constructs.Selector (λ z. selector_from r o) (remaining ts input))) (sym h ∙ ap (head_is (is_word kinds.Dot)) (sym e)) t)

-- ---- designators

blanks_places : {X : Type 0} (head : ℕ) (xs : List X) → placeholders head xs ≡ slots head (length xs)
blanks_places head [] = refl
blanks_places head (x ∷ xs) = ap (λ (zs : List SelectorRow). record { of = head; step = steps.Target } ∷ zs) (blanks_places head xs)

same_use : (m n : Option ℕ) → is_present m ≡ is_present n → uses m ≡ uses n
same_use None None e = refl
same_use None (Some n) e = absurd cc
same_use (Some m) None e = absurd cc
same_use (Some m) (Some n) e = refl

abbrev designator_of : {dot : Bool} → ℕ → SelectorsShape dot → Designator
designator_of n x = record { head = n; selectors = x.list }

use_first : (member : Option ℕ) (c : Context) (zs : List SelectorRow) (s : Stage) → after (uses member) c (added (these_selectors zs) s) ≡ added (these_selectors zs) (after (uses member) c s)
unfolding after added joined with_rows token no_rows
use_first member c zs s = simp append-nil

same_selectors : (member : Option ℕ) (w : Bool) (c : Context) (head : ℕ) (s : Stage) → (after (uses member) c (added (designator_row w c head) s)).rows.selectors ≡ s.rows.selectors
unfolding after added joined with_rows token no_rows
same_selectors member w c head s = simp append-nil

chosen_after : {dot : Bool} (w : Bool) (n head : ℕ) (member : Option ℕ) (c : Context) (s : Stage) (x : SelectorsShape dot) → is_present member ≡ dot → head ≡ s.number →
    after (designator_rows w (designator_of n x)) c s ≡ selectors_stage head c x (after (uses member) c (added (designator_row w c head) s))
chosen_after {dot} w n head member c s x e h =
    let ss : List SelectorPhrase = map selected x.list.items in
    let at : ℕ = length s.rows.selectors in
    let row : Stage = added (designator_row w c s.number) s in
    let room : List SelectorRow = slots s.number (length x.list.items) in
    designator_after w (designator_of n x) c s
    ∙ ap (λ (zs : List SelectorRow). after_selectors s.number at ss c (after (uses (first_name ss)) c (added (these_selectors zs) row))) (blanks_places s.number x.list.items)
    ∙ ap (λ (p : Fragment). after_selectors s.number at ss c (after p c (added (these_selectors room) row))) (same_use (first_name ss) member (x.named ∙ sym e))
    ∙ ap (after_selectors s.number at ss c) (use_first member c room row)
    ∙ ap (λ (k : ℕ). after_selectors s.number k ss c (added (these_selectors room) (after (uses member) c row))) (ap length (sym (same_selectors member w c s.number s)))
    ∙ ap (λ (k : ℕ). selectors_stage k c x (after (uses member) c (added (designator_row w c k) s))) (sym h)

pub designator_told : (ts : List Token) (c : Context) (w : Bool) (d n head : ℕ) (member : Option ℕ) (old row looked new : TableBuilder) (input : Cursor) (result : Result Cursor Stop) →
    head ≡ old.number → PerformsStep (added (designator_row w c head)) old row → is_present member ≡ dot_at ts input → PerformsStep (after (uses member) c) row looked →
    AppendsEntriesBy {T = SelectorsShape (dot_at ts input)} ts selectors_shape_events (selectors_stage head c) looked new result (many (begins selector_first) (selector_with (expr_at d)) (remaining ts input)) →
    AppendsEntries ts designator_events (designator_rows w) c old new result (designator_with (expr_at d) n (remaining ts input))
unfolding designator_with
designator_told ts c w d n head member old row looked new input result h a e u t =
    let loop : Reader = many (begins selector_first) (selector_with (expr_at d)) in
    let f : SelectorsShape (dot_at ts input) → Events = λ x. used n ++ selectors_shape_events x in
    told_at ts (λ (x : SelectorsShape (dot_at ts input)). construct constructs.Designator (used n ++ selectors_shape_events x)) (λ x s. selectors_stage head c x (after (uses member) c (added (designator_row w c head) s)))
    designator_events (λ x. after (designator_rows w x) c) (λ x. designator_of n x) (λ x. events.designator_out (designator_of n x)) old new result _
    (λ x. chosen_after w n head member c (stage_of old) x e (h ∙ sym (number_of old)))
    (told_node ts f (λ x s. selectors_stage head c x (after (uses member) c (added (designator_row w c head) s))) constructs.Designator (prefixed (used n) loop) old new result (remaining ts input)
    (told_prefixed ts selectors_shape_events (λ x s. selectors_stage head c x (after (uses member) c (added (designator_row w c head) s))) (used n) loop old new result (remaining ts input)
    (told_behind ts selectors_shape_events (λ x s. selectors_stage head c x (after (uses member) c s)) (added (designator_row w c head)) old row new result (loop (remaining ts input)) a
    (told_behind ts selectors_shape_events (selectors_stage head c) (after (uses member) c) row looked new result (loop (remaining ts input)) u t))))
