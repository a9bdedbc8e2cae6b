-- If a tree derives the tokens, each identifier has a syntactic position.
use Rattle.std.proofs.Common.{◌≡◌, ℕ, zero, suc, ◌+◌, ◌==◌, ◌⊎◌, inl, inr, Bool, true, false, List, [], ◌∷◌, cond, map, Option, Some, None, refl, sym, ap, ◌∙◌, subst, arith, eq-eqb}
use Rattle.std.specs.Prelude.{Contains, position, slice_get}
use Rattle.std.specs.List.{enumerate_from, filter_map, position_from}
use Rattle.std.specs.Option.{option_map_or}
use Rattle.std.proofs.lemmas.Bool.{cases_Bool}
use Rattle.std.proofs.lemmas.Iterator.Adapters.{position_from-zero}
use Rattle.ob_scan.specs.declared.kind.Kind.{Kind}
use Rattle.ob_scan.specs.declared.kind.Kind.TheVariants as kinds
use Rattle.ob_scan.specs.declared.token.Token.{Token}
use Rattle.ob_tree.specs.declared.declaration.Module.{Module}
use Rattle.ob_tree.specs.Derives.{Derives}
use Rattle.module_table.specs.Tables.{module_name_token}
use Rattle.table_rules.specs.Declaring.{rows_of}
use Rattle.table_rules.specs.Naming.{IsNamed}
use Rattle.table_rules.specs.Naming as names
use Rattle.module_table.specs.Parts.{Rows}
use Rattle.table_rules.proofs.Derived.{each_named}
use Rattle.ob_targets.specs.declared.syntax_position.SyntaxPosition.{SyntaxPosition}
use Rattle.ob_targets.specs.declared.syntax_position.SyntaxPosition.TheVariants as syntax_positions
use Rattle.ob_targets.specs.Refers.{identifiers, is_identifier, identifier_number}
use Rattle.ob_targets.specs.SyntaxPosition.{first, is_alias, is_declared, is_end_name, is_imported_name, is_second, is_selected, is_token, is_use, name_of, syntax_position}

-- ---- the first entry of a kind

module _ {X : Type 0} (stands : X → Bool) where
  found_step : (n : ℕ) (y : X) (ys : List X) (x : X) (b : Bool) → stands y ≡ b → stands x ≡ true → Contains (y ∷ ys) x → (Contains ys x → position_from stands (n + 1) ys ≡ None → ⊥) →
      cond b (Some n) (position_from stands (n + 1) ys) ≡ None → ⊥
  found_step n y ys x true is t c rest e = cc
  found_step n y ys x false is t (zero, l, s) rest e = let same : stands y ≡ true = ap stands s ∙ t in cc
  found_step n y ys x false is t (suc j, l, s) rest e = rest (j, omega (arith, l), s) e

  found_from : (n : ℕ) (xs : List X) (x : X) → Contains xs x → stands x ≡ true → position_from stands n xs ≡ None → ⊥
  found_from n [] x (i, l, e) t none = omega (arith, l)
  found_from n (y ∷ ys) x c t none = found_step n y ys x (stands y) refl t c (λ d e. found_from (n + 1) ys x d t e) none

  found : (xs : List X) (x : X) → Contains xs x → stands x ≡ true → position stands xs ≡ None → ⊥
  found xs x c t none = found_from 0 xs x c t (sym (position_from-zero stands xs) ∙ none)

  -- if the first test finds no entry, there is none, and the other position decides
  none_first : (at : ℕ → SyntaxPosition) (xs : List X) (otherwise : SyntaxPosition) → ((n : ℕ) → at n ≡ syntax_positions.Nowhere → ⊥) → first stands at xs otherwise ≡ syntax_positions.Nowhere →
      ((x : X) → Contains xs x → stands x ≡ true → ⊥) × (otherwise ≡ syntax_positions.Nowhere)
  none_first at xs otherwise never e = by (position stands xs) refl e
    where
      by : (o : Option ℕ) → position stands xs ≡ o → option_map_or at o otherwise ≡ syntax_positions.Nowhere → ((x : X) → Contains xs x → stands x ≡ true → ⊥) × (otherwise ≡ syntax_positions.Nowhere)
      by None none rest = (λ x c t. found xs x c t none, rest)
      by (Some n) some here = absurd (never n here)

same : (a k : ℕ) → a ≡ k → (a == k) ≡ true
same a k e = eq-eqb a k e

---- an identifier of an entry has a syntactic position

module _ (rows : Rows) (k : ℕ) where
  abbrev by_second : SyntaxPosition
  by_second = first (is_second k) syntax_positions.QualidentMember rows.uses syntax_positions.Nowhere

  abbrev by_selected : SyntaxPosition
  by_selected = first (is_selected k) syntax_positions.Selected rows.selectors by_second

  abbrev by_use : SyntaxPosition
  by_use = first (is_use k) syntax_positions.Use rows.uses by_selected

  abbrev by_end : SyntaxPosition
  by_end = first (is_end_name k) syntax_positions.End rows.ends by_use

  abbrev by_declared : SyntaxPosition
  by_declared = first (is_declared k) syntax_positions.Declaration rows.declared by_end

  abbrev by_imported : SyntaxPosition
  by_imported = first (is_imported_name k) syntax_positions.Item rows.imports by_declared

  abbrev by_alias : SyntaxPosition
  by_alias = first (is_alias k) syntax_positions.Item rows.imports by_imported

  behind_own : (k ≡ module_name_token → ⊥) → IsNamed rows k → by_alias ≡ syntax_positions.Nowhere → ⊥
  behind_own not_own named e =
      let a = none_first (is_alias k) syntax_positions.Item rows.imports by_imported (λ n f. cc) e in
      let b = none_first (is_imported_name k) syntax_positions.Item rows.imports by_declared (λ n f. cc) a.1 in
      let c = none_first (is_declared k) syntax_positions.Declaration rows.declared by_end (λ n f. cc) b.1 in
      let d = none_first (is_end_name k) syntax_positions.End rows.ends by_use (λ n f. cc) c.1 in
      let u = none_first (is_use k) syntax_positions.Use rows.uses by_selected (λ n f. cc) d.1 in
      let s = none_first (is_selected k) syntax_positions.Selected rows.selectors by_second (λ n f. cc) u.1 in
      let t = none_first (is_second k) syntax_positions.QualidentMember rows.uses syntax_positions.Nowhere (λ n f. cc) s.1 in
      elim named [
        | names.own is ↦ not_own is
        | names.imported i among is ↦ b.0 i among (same i.imported k is)
        | names.declared x among is ↦ c.0 x among (same x.number k is)
        | names.ended x among is ↦ d.0 x among (same x.number k is)
        | names.used x among is ↦ u.0 x among (same x.number k is)
        | names.selected x among is ↦ s.0 x among (ap (λ step. is_token k (name_of step)) is ∙ same k k refl)
        | names.second x among is ↦ t.0 x among (ap (is_token k) is ∙ same k k refl)
      ]

  pub somewhere : IsNamed rows k → syntax_position rows k ≡ syntax_positions.Nowhere → ⊥
  somewhere named e = elim (cases_Bool (k == module_name_token)) [
    | inl is ↦ (let f : syntax_positions.OwnName ≡ syntax_positions.Nowhere = rw is at e in cc)
    | inr isnt ↦ behind_own (λ own. let t : (k == module_name_token) ≡ true = same k module_name_token own in let f : true ≡ false = sym t ∙ isnt in cc) named (rw isnt at e)
  ]

-- ---- identifiers

ident_kind : (k : Kind) → is_identifier k ≡ true → k ≡ kinds.Ident
ident_kind kinds.Ident e = refl
ident_kind _ e = absurd (let f : false ≡ true = e in cc)

first_or_later : {X : Type 0} (y : X) (xs : List X) (x : X) → Contains (y ∷ xs) x → (y ≡ x) ⊎ Contains xs x
first_or_later y xs x (zero, l, e) = inl e
first_or_later y xs x (suc k, l, e) = inr (k, omega arith, e)

-- the number of an identifier is that of a token of its kind
ident_from : (ts : List Token) (a k : ℕ) → Contains (filter_map identifier_number (enumerate_from a ts)) k → (j : ℕ) × (a + j ≡ k) × (slice_get (map (λ (t : Token). t.kind) ts) j ≡ Some kinds.Ident)
ident_from [] a k (i, l, e) = absurd (omega (arith, l))
ident_from (t ∷ ts) a k h = elim (cases_Bool (is_identifier t.kind)) [
  | inl is_one ↦
      let g : Contains (a ∷ filter_map identifier_number (enumerate_from (a + 1) ts)) k = rw is_one at h in
      elim (first_or_later a (filter_map identifier_number (enumerate_from (a + 1) ts)) k g) [
        | inl here ↦ (zero, omega (arith, here), ap Some (ident_kind t.kind is_one))
        | inr later ↦ let r = ident_from ts (a + 1) k later in (suc r.0, (let e : a + 1 + r.0 ≡ k = r.1 in omega arith), r.2)
      ]
  | inr is_none ↦
      let g : Contains (filter_map identifier_number (enumerate_from (a + 1) ts)) k = rw is_none at h in
      let r = ident_from ts (a + 1) k g in
      (suc r.0, (let e : a + 1 + r.0 ≡ k = r.1 in omega arith), r.2)
]

pub identifier_somewhere : (tokens : List Token) (m : Module) (k : ℕ) → Derives (map (λ (t : Token). t.kind) tokens) m → Contains (identifiers tokens) k → syntax_position (rows_of m) k ≡ syntax_positions.Nowhere → ⊥
identifier_somewhere tokens m k d h =
    let r = ident_from tokens 0 k h in
    let place : r.0 ≡ k = (let e : 0 + r.0 ≡ k = r.1 in omega arith) in
    somewhere (rows_of m) k (each_named (map (λ (t : Token). t.kind) tokens) m k d (subst (λ (j : ℕ). slice_get (map (λ (t : Token). t.kind) tokens) j ≡ Some kinds.Ident) place r.2))
