-- The first references to external targets have the symbol information of all references.
use Rattle.std.proofs.Common.{◌≡◌, ℕ, ◌+◌, ◌<◌, ◌≤◌, List, [], ◌∷◌, ◌++◌, length, take, get_or, Bool, true, false, cond, Option, Some, None, refl, sym, ap, ◌∙◌, subst, inl, inr, arith, eqb-true}
use Rattle.std.specs.Prelude.{Contains, nat_eq}
use Rattle.std.specs.Borrow.{Bor}
use Rattle.std.specs.Option.{option_and_then, option_eq}
use Rattle.std.specs.Str.{bytes_eq}
use Rattle.std.proofs.lemmas.Bool.{and_parts}
use Rattle.std.proofs.lemmas.List.{take_all, take_more}
use Rattle.std.proofs.lemmas.List.Elements.{Contains-append_cases, Contains-append_left, Contains-append_right, filter_map-append}
use Rattle.std.proofs.lemmas.Option.{slice_get-get_or}
use Rattle.std.proofs.lemmas.Slice.Eq.{bytes_eq-Decides}
use Rattle.indexmap.specs.IndexSet.{contains, IndexSet}
use Rattle.module_table.proofs.Elements.{contains_slice, slice_contains}
use Rattle.ob_view.specs.declared.target.Reference.{Reference}
use Rattle.ob_view.specs.World.{World}
use Rattle.scip_index.specs.Plain.{SymbolModel as SymbolRow}
use Rattle.ob_emit.specs.Externals.{external_symbol_info, externals_in, AreExternals}
use Rattle.ob_emit.specs.StoredTexts.{external_symbol_info_of_key, is_same_external_key, CoverExternals, ExternalKey}
use Rattle.ob_emit.specs.Named.{ReferencesAreIdentifiers}
use Rattle.ob_emit.proofs.NamesGiven.{row_of}
use Rattle.ob_emit.proofs.OneMember.{mapped}

-- targets with equal keys have equal symbol information
module _ (w : World) where
  one_name : (item : ℕ) (m n : Option (Bor (List ℕ))) → option_eq (λ (a b : Bor (List ℕ)). bytes_eq a.now b.now) m n ≡ true → external_symbol_info_of_key w (item, m) ≡ external_symbol_info_of_key w (item, n)
  one_name item None None e = refl
  one_name item None (Some n) e = absurd cc
  one_name item (Some m) None e = absurd cc
  one_name item (Some m) (Some n) e = rw ((bytes_eq-Decides m.now n.now).0 e) refl

  one_outside : (a b : ExternalKey) → is_same_external_key a b ≡ true → external_symbol_info_of_key w a ≡ external_symbol_info_of_key w b
  one_outside a b e =
      let parts = and_parts (nat_eq a.0 b.0) (option_eq (λ (m n : Bor (List ℕ)). bytes_eq m.now n.now) a.1 b.1) e in
      ap (λ (item : ℕ). external_symbol_info_of_key w (item, a.1)) (eqb-true a.0 b.0 parts.0) ∙ one_name b.0 a.1 b.1 parts.1

-- the invariant: the kept references are references, and the symbol information of the visited keys and references is theirs
pub record AreFirst {S : Type 0} (w : World) (refs : List Reference) (seen : IndexSet ExternalKey S) (part stored_text : List Reference) : Type 0 where
  pub among : (r : Reference) → Contains stored_text r → Contains refs r
  pub known : (k : ExternalKey) (x : SymbolRow) → contains is_same_external_key seen k ≡ true → external_symbol_info_of_key w k ≡ Some x → Contains (externals_in w stored_text) x
  pub each : (r : Reference) (x : SymbolRow) → Contains part r → external_symbol_info w r.target ≡ Some x → Contains (externals_in w stored_text) x

only_one : {X : Type 0} (x y : X) → Contains (x ∷ []) y → x ≡ y
only_one x y (k, l, e) = let zero_is : k ≡ 0 = omega (arith, l) in subst (λ (n : ℕ). get_or (x ∷ []) n y ≡ y) zero_is e

module _ {S : Type 0} (w : World) (refs : List Reference) (i : ℕ) (d : Reference) (l : i < length refs) (old : IndexSet ExternalKey S) (stored_text : List Reference) (before : AreFirst w refs old (take i refs) stored_text) where
  abbrev this : Reference
  this = get_or refs i d

  -- one more reference, whose symbol information is there already
  module _ (more : List Reference) (stay : (x : SymbolRow) → Contains (externals_in w stored_text) x → Contains (externals_in w more) x)
      (here : (x : SymbolRow) → external_symbol_info w this.target ≡ Some x → Contains (externals_in w more) x) where
    each_more : (r : Reference) (x : SymbolRow) → Contains (take (i + 1) refs) r → external_symbol_info w r.target ≡ Some x → Contains (externals_in w more) x
    each_more r x there e = elim (Contains-append_cases (take i refs) (this ∷ []) r (subst (λ (rs : List Reference). Contains rs r) (take_more refs i d l) there)) [
      | inl earlier ↦ stay x (before.each r x earlier e)
      | inr last ↦ here x (ap (λ (s : Reference). external_symbol_info w s.target) (only_one this r last) ∙ e)
    ]

  -- the reference has no external target
  pub nothing_more : option_and_then (external_symbol_info_of_key w) None ≡ external_symbol_info w this.target → AreFirst w refs old (take (i + 1) refs) stored_text
  nothing_more e = record {
    among = before.among;
    known = before.known;
    each = each_more stored_text (λ x h. h) (λ x f. absurd (let none : None ≡ Some x = e ∙ f in cc));
  }

  module _ (new : IndexSet ExternalKey S) (key : ExternalKey) (is : external_symbol_info_of_key w key ≡ external_symbol_info w this.target)
      (updates : (q : ExternalKey) → contains is_same_external_key new q ≡ cond (is_same_external_key key q) true (contains is_same_external_key old q)) where
    known_more : (more : List Reference) → ((x : SymbolRow) → Contains (externals_in w stored_text) x → Contains (externals_in w more) x)
        → ((x : SymbolRow) → external_symbol_info w this.target ≡ Some x → Contains (externals_in w more) x) → (q : ExternalKey) (x : SymbolRow) → contains is_same_external_key new q ≡ true → external_symbol_info_of_key w q ≡ Some x
        → Contains (externals_in w more) x
    known_more more stay here q x h e = at (is_same_external_key key q) refl (sym (updates q) ∙ h)
      where
        at : (b : Bool) → is_same_external_key key q ≡ b → cond b true (contains is_same_external_key old q) ≡ true → Contains (externals_in w more) x
        at false s g = stay x (before.known q x g e)
        at true s g = here x (sym is ∙ one_outside w key q s ∙ e)

    -- the reference's target has been visited
    pub seen_more : contains is_same_external_key old key ≡ true → AreFirst w refs new (take (i + 1) refs) stored_text
    seen_more h =
        let here : (x : SymbolRow) → external_symbol_info w this.target ≡ Some x → Contains (externals_in w stored_text) x = λ x f. before.known key x h (is ∙ f) in
        record {
          among = before.among;
          known = known_more stored_text (λ x g. g) here;
          each = each_more stored_text (λ x g. g) here;
        }

    -- the reference is the first one to its target
    pub first_more : AreFirst w refs new (take (i + 1) refs) (stored_text ++ this ∷ [])
    first_more =
        let more = stored_text ++ this ∷ [] in
        let split = filter_map-append (λ (r : Reference). external_symbol_info w r.target) stored_text (this ∷ []) in
        let stay : (x : SymbolRow) → Contains (externals_in w stored_text) x → Contains (externals_in w more) x =
        λ x g. subst (λ (rows : List SymbolRow). Contains rows x) (sym split) (Contains-append_left (externals_in w stored_text) (externals_in w (this ∷ [])) x g) in
        let here : (x : SymbolRow) → external_symbol_info w this.target ≡ Some x → Contains (externals_in w more) x =
        λ x f. mapped (λ (r : Reference). external_symbol_info w r.target) more this x (Contains-append_right stored_text (this ∷ []) this (0, omega arith, refl)) f in
        record {
          among = λ r h. elim (Contains-append_cases stored_text (this ∷ []) r h) [
            | inl earlier ↦ before.among r earlier
            | inr last ↦ subst (λ (s : Reference). Contains refs s) (only_one this r last) (contains_slice refs i this (slice_get-get_or refs i d l))
          ];
          known = known_more more stay here;
          each = each_more more stay here;
        }

pub none_yet : {S : Type 0} (w : World) (refs : List Reference) (seen : IndexSet ExternalKey S) (stored_text : List Reference) → seen.keys ≡ [] → stored_text ≡ [] → AreFirst w refs seen (take 0 refs) stored_text
none_yet w refs seen stored_text e f = record {
  among = λ r h. absurd (let g : Contains [] r = subst (λ (rs : List Reference). Contains rs r) f h in omega (arith, g.1));
  known = λ k x h is. absurd (let g : false ≡ true = rw e at h in cc);
  each = λ r x h is. absurd (omega (arith, h.1));
}

pub all_firsts : {S : Type 0} (w : World) (refs : List Reference) (i : ℕ) (seen : IndexSet ExternalKey S) (stored_text : List Reference) → length refs ≤ i → AreFirst w refs seen (take i refs) stored_text → CoverExternals w refs stored_text
all_firsts w refs i seen stored_text l h = record { among = h.among; each = λ r x there e. h.each r x (subst (λ (rs : List Reference). Contains rs r) (sym (take_all i refs l)) there) e }

-- a property of the names of all references
module _ (w : World) (refs stored_text : List Reference) (enough : CoverExternals w refs stored_text) where
  pub kept_named : ReferencesAreIdentifiers w refs → ReferencesAreIdentifiers w stored_text
  kept_named names = record { own = λ r h. names.own r (enough.among r h); external = λ r h. names.external r (enough.among r h) }

  abbrev row : Reference → Option SymbolRow
  row r = external_symbol_info w r.target

  pub in_all : (x : SymbolRow) → Contains (externals_in w stored_text) x → Contains (externals_in w refs) x
  in_all x h =
      let at = slice_contains (externals_in w stored_text) x h in
      let r = row_of row stored_text x at.0 at.1 in
      mapped row refs r.row x (enough.among r.row (contains_slice stored_text r.place r.row r.at)) r.tells

  pub in_kept : (x : SymbolRow) → Contains (externals_in w refs) x → Contains (externals_in w stored_text) x
  in_kept x h =
      let at = slice_contains (externals_in w refs) x h in
      let r = row_of row refs x at.0 at.1 in
      enough.each r.row x (contains_slice refs r.place r.row r.at) r.tells

  pub of_all : (rows : List SymbolRow) → AreExternals (externals_in w stored_text) rows → AreExternals (externals_in w refs) rows
  of_all rows e = record { ordered = e.ordered; each = λ x. (λ h. in_all x ((e.each x).0 h), λ h. (e.each x).1 (in_kept x h)) }
