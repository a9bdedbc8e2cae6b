-- A token with a syntactic position has an entry.
use Rattle.std.proofs.Common.{◌≡◌, ℕ, ◌<◌, ◌==◌, List, [], ◌∷◌, length, get_or, Bool, true, false, cond, Option, Some, None, refl, ap, eqb-true}
use Rattle.std.specs.Prelude.{slice_get, position}
use Rattle.std.specs.Option.{option_map_or}
use Rattle.std.proofs.lemmas.List.Quantifiers.{position-Some}
use Rattle.std.proofs.lemmas.Option.{slice_get_within, slice_get-get_or}
use Rattle.module_table.specs.declared.rows.Selector.{Selector}
use Rattle.module_table.specs.declared.rows.Step.{Step}
use Rattle.module_table.specs.declared.rows.Step.TheVariants as steps
use Rattle.module_table.specs.Tables.{module_name_token}
use Rattle.module_table.specs.Parts.{Rows}
use Rattle.ob_targets.specs.declared.syntax_position.SyntaxPosition.{SyntaxPosition}
use Rattle.ob_targets.specs.declared.syntax_position.SyntaxPosition.TheVariants as syntax_positions
use Rattle.ob_targets.specs.SyntaxPosition.{first, is_alias, is_imported_name, is_declared, is_end_name, is_use, is_selected, is_second, is_token, name_of, syntax_position}

-- a selector with this name is at this index
pub record SelectsAt (rows : Rows) (k at : ℕ) : Type 0 where
  pub selector : Selector
  pub there : slice_get rows.selectors at ≡ Some selector
  pub name : selector.step ≡ steps.Field k

abbrev pub IsPlaced : Rows → ℕ → SyntaxPosition → Type 0
IsPlaced rows k syntax_positions.OwnName = Unit {0}
IsPlaced rows k (syntax_positions.Item at) = at < length rows.imports
IsPlaced rows k (syntax_positions.Declaration at) = Unit {0}
IsPlaced rows k (syntax_positions.End at) = at < length rows.ends
IsPlaced rows k (syntax_positions.Use at) = Unit {0}
IsPlaced rows k (syntax_positions.Selected at) = SelectsAt rows k at
IsPlaced rows k (syntax_positions.QualidentMember at) = at < length rows.uses
IsPlaced rows k syntax_positions.Nowhere = Unit {0}

record HasRow {X : Type 0} (position_is : X → Bool) (rows : List X) (i : ℕ) : Type 0 where
  row : X
  there : slice_get rows i ≡ Some row
  is : position_is row ≡ true

has_row : {X : Type 0} (position_is : X → Bool) (rows : List X) (i : ℕ) → position position_is rows ≡ Some i → HasRow position_is rows i
has_row position_is [] i e = absurd (let f : None ≡ Some i = e in cc)
has_row position_is (x ∷ xs) i e =
    let h = position-Some position_is (x ∷ xs) i x e in
    record { row = get_or (x ∷ xs) i x; there = slice_get-get_or (x ∷ xs) i x h.0; is = h.1 }

module _ {X : Type 0} (P : SyntaxPosition → Type 0) (position_is : X → Bool) (at : ℕ → SyntaxPosition) (rows : List X) (otherwise : SyntaxPosition) where
  first_has : ((i : ℕ) (x : X) → slice_get rows i ≡ Some x → position_is x ≡ true → P (at i)) → P otherwise → P (first position_is at rows otherwise)
  first_has here rest = by (position position_is rows) refl
    where
      by : (o : Option ℕ) → position position_is rows ≡ o → P (option_map_or at o otherwise)
      by None e = rest
      by (Some i) e = let h : HasRow position_is rows i = has_row position_is rows i e in here i h.row h.there h.is

own_or : (P : SyntaxPosition → Type 0) (b : Bool) (s t : SyntaxPosition) → P s → P t → P (cond b s t)
own_or P true s t p q = p
own_or P false s t p q = q

token_is : (k : ℕ) (o : Option ℕ) → is_token k o ≡ true → o ≡ Some k
token_is k None e = absurd (let f : false ≡ true = e in cc)
token_is k (Some n) e = ap Some (eqb-true n k e)

field_is : (k : ℕ) (s : Step) → name_of s ≡ Some k → s ≡ steps.Field k
field_is k (steps.Field n) e = let f : Some n ≡ Some k = e in ap steps.Field (let g : n ≡ k = cc in g)
field_is k (steps.Elements n) e = absurd (let f : None ≡ Some k = e in cc)
field_is k steps.Target e = absurd (let f : None ≡ Some k = e in cc)
field_is k (steps.Arguments t) e = absurd (let f : None ≡ Some k = e in cc)

module _ (rows : Rows) (k : ℕ) where
  placed_second : IsPlaced rows k (first (is_second k) syntax_positions.QualidentMember rows.uses syntax_positions.Nowhere)
  placed_second = first_has (IsPlaced rows k) (is_second k) syntax_positions.QualidentMember rows.uses syntax_positions.Nowhere (λ i x there is. slice_get_within rows.uses i x there) tt

  placed_behind : (s : SyntaxPosition) → IsPlaced rows k s → IsPlaced rows k (first (is_selected k) syntax_positions.Selected rows.selectors s)
  placed_behind s p = first_has (IsPlaced rows k) (is_selected k) syntax_positions.Selected rows.selectors s
      (λ i x there is. record { selector = x; there = there; name = field_is k x.step (token_is k (name_of x.step) is) }) p

  placed_use : (s : SyntaxPosition) → IsPlaced rows k s → IsPlaced rows k (first (is_use k) syntax_positions.Use rows.uses s)
  placed_use s p = first_has (IsPlaced rows k) (is_use k) syntax_positions.Use rows.uses s (λ i x there is. tt) p

  placed_end : (s : SyntaxPosition) → IsPlaced rows k s → IsPlaced rows k (first (is_end_name k) syntax_positions.End rows.ends s)
  placed_end s p = first_has (IsPlaced rows k) (is_end_name k) syntax_positions.End rows.ends s (λ i x there is. slice_get_within rows.ends i x there) p

  placed_declaration : (s : SyntaxPosition) → IsPlaced rows k s → IsPlaced rows k (first (is_declared k) syntax_positions.Declaration rows.declared s)
  placed_declaration s p = first_has (IsPlaced rows k) (is_declared k) syntax_positions.Declaration rows.declared s (λ i x there is. tt) p

  placed_imported : (s : SyntaxPosition) → IsPlaced rows k s → IsPlaced rows k (first (is_imported_name k) syntax_positions.Item rows.imports s)
  placed_imported s p = first_has (IsPlaced rows k) (is_imported_name k) syntax_positions.Item rows.imports s (λ i x there is. slice_get_within rows.imports i x there) p

  placed_alias : (s : SyntaxPosition) → IsPlaced rows k s → IsPlaced rows k (first (is_alias k) syntax_positions.Item rows.imports s)
  placed_alias s p = first_has (IsPlaced rows k) (is_alias k) syntax_positions.Item rows.imports s (λ i x there is. slice_get_within rows.imports i x there) p

  pub placed : IsPlaced rows k (syntax_position rows k)
  placed = own_or (IsPlaced rows k) (k == module_name_token) syntax_positions.OwnName _ tt
      (placed_alias _ (placed_imported _ (placed_declaration _ (placed_end _ (placed_use _ (placed_behind _ placed_second))))))
