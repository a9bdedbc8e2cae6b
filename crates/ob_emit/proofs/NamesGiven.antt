-- The names in a module's interface are identifiers, by its scopes.
use Rattle.std.proofs.Common.{◌≡◌, ℕ, zero, suc, List, [], ◌∷◌, Option, Some, None, Bool, true, refl, ap, ◌∙◌, subst, inl, inr}
use Rattle.std.specs.Prelude.{slice_get, ◌==◌, find}
use Rattle.std.specs.List.{cons_option, filter_map}
use Rattle.std.proofs.lemmas.Bool.{and_parts, cases_Bool}
use Rattle.ob_scan.specs.declared.token.Token.{Token}
use Rattle.ob_scan.specs.Texts.{text_at}
use Rattle.module_table.specs.declared.rows.Declared.{Declared}
use Rattle.module_table.specs.declared.rows.DeclGroup.{DeclGroup}
use Rattle.module_table.specs.Parts.{Rows}
use Rattle.ob_interface.specs.Interfaces.{declaration, declaration_by, declaration_of, interface_of, is_module_level, is_exportable, module_level_by, Declaration}
use Rattle.scopes.specs.IdentifierNames.{AreNames}
use Rattle.scopes.specs.Members.{decl_group_at, declared_member, members_of}
use Rattle.module_table.proofs.Elements.{contains_slice, slice_contains, some_one}
use Rattle.ob_emit.specs.Named.{IsName, HasNames}
use Rattle.ob_emit.proofs.Naming.{found_there, same_declarer, told_there}

---- the declarations of entries

-- the entry of a declaration
pub record RowOf {X Y : Type 0} (f : X → Option Y) (xs : List X) (y : Y) : Type 0 where
  pub place : ℕ
  pub row : X
  pub at : slice_get xs place ≡ Some row
  pub tells : f row ≡ Some y

row_later : {X Y : Type 0} (f : X → Option Y) (x : X) (xs : List X) (y : Y) → RowOf f xs y → RowOf f (x ∷ xs) y
row_later f x xs y r = record { place = suc r.place; row = r.row; at = r.at; tells = r.tells }

row_step : {X Y : Type 0} (f : X → Option Y) (x : X) (xs : List X) (y : Y) (k : ℕ) (o : Option Y) → f x ≡ o → ((j : ℕ) → slice_get (filter_map f xs) j ≡ Some y → RowOf f xs y)
    → slice_get (cons_option o (filter_map f xs)) k ≡ Some y → RowOf f (x ∷ xs) y
row_step f x xs y k None e rest h = row_later f x xs y (rest k h)
row_step f x xs y zero (Some z) e rest h = record { place = 0; row = x; at = refl; tells = e ∙ h }
row_step f x xs y (suc k) (Some z) e rest h = row_later f x xs y (rest k h)

pub row_of : {X Y : Type 0} (f : X → Option Y) (xs : List X) (y : Y) (k : ℕ) → slice_get (filter_map f xs) k ≡ Some y → RowOf f xs y
row_of f [] y k h = absurd (let none : None ≡ Some y = h in cc)
row_of f (x ∷ xs) y k h = row_step f x xs y k (f x) refl (λ j g. row_of f xs y j g) h

---- the interface of a module

find_there : {X : Type 0} (test : X → Bool) (xs : List X) (i : ℕ) (x : X) → slice_get xs i ≡ Some x → test x ≡ true → (y : X) × (find test xs ≡ Some y)
find_there test [] i x e t = absurd (let none : None ≡ Some x = e in cc)
find_there test (z ∷ zs) zero x e t = let a : test z ≡ true = ap test (some_one z x e) ∙ t in (z, rw a refl)
find_there test (z ∷ zs) (suc i) x e t = elim (cases_Bool (test z)) [
  | inl a ↦ (z, rw a refl)
  | inr b ↦ (let r = find_there test zs i x e t in (r.0, rw b r.1))
]

module _ (bytes : List ℕ) (ts : List Token) (rows : Rows) (names : AreNames (text_at bytes ts) rows) where
  -- an identifier that is declared in the module's block has a valid name
  outer_name : (r : Declared) (i : ℕ) (by : DeclGroup) → slice_get rows.declared i ≡ Some r → module_level_by rows.decl_groups r.declared_by ≡ Some by → IsName (text_at bytes ts r.number)
  outer_name r i by at e =
      let f = found_there (is_module_level r.declared_by) rows.decl_groups by e in
      let parts = and_parts (by.block == 0) (by.first == r.declared_by) f.2 in
      let g = find_there (λ (x : DeclGroup). x.first == r.declared_by) rows.decl_groups f.0 by f.1 parts.1 in
      let h : decl_group_at rows.decl_groups r.declared_by ≡ Some g.0 = same_declarer rows.decl_groups r.declared_by ∙ g.1 in
      let told : declared_member r (decl_group_at rows.decl_groups r.declared_by) ≡ declared_member r (Some g.0) = ap (declared_member r) h in
      let m = told_there (λ (x : Declared). declared_member x (decl_group_at rows.decl_groups x.declared_by)) rows.declared i r _ at told in
      names.members _ (contains_slice (members_of rows) m.0 _ m.1)

  seen_by : (r : Declared) (i : ℕ) (d : Declaration) (o : Option DeclGroup) → slice_get rows.declared i ≡ Some r → module_level_by rows.decl_groups r.declared_by ≡ o → declaration_by bytes ts rows.parts r o ≡ Some d → IsName d.name
  seen_by r i d None at e f = absurd (let none : None ≡ Some d = f in cc)
  seen_by r i d (Some by) at e f = elim (cases_Bool (is_exportable by.decl_kind)) [
    | inl a ↦ (
        let same : declaration bytes ts rows.parts r by ≡ d = some_one (declaration bytes ts rows.parts r by) d (rw a at f) in
        subst IsName (ap (λ (x : Declaration). x.name) same) (outer_name r i by at e))
    | inr b ↦ absurd (let none : None ≡ Some d = rw b at f in cc)
  ]

  pub seen_named : HasNames (interface_of bytes ts rows)
  seen_named = record {
    own = names.own;
    declarations = λ d h.
        let at = slice_contains (interface_of bytes ts rows).declarations d h in
        let r = row_of (declaration_of bytes ts rows) rows.declared d at.0 at.1 in
        seen_by r.row r.place d (module_level_by rows.decl_groups r.row.declared_by) r.at refl r.tells;
  }
