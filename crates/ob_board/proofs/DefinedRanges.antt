-- A declaration that has a symbol has the range of its construct.
use Rattle.std.proofs.Common.{◌≡◌, ℕ, ◌-◌, ◌==◌, List, [], ◌∷◌, length, Bool, true, false, cond, Option, Some, None, refl, sym, ap, ◌∙◌, subst, arith}
use Rattle.std.specs.Prelude.{ℤ, pos, slice_get, position, not, Contains}
use Rattle.std.specs.Option.{option_and_then, option_map_or}
use Rattle.std.proofs.lemmas.List.Elements.{All-contains}
use Rattle.module_table.specs.declared.rows.Declared.{Declared}
use Rattle.module_table.specs.declared.rows.DeclGroup.{DeclGroup}
use Rattle.module_table.specs.declared.rows.DeclKind.{DeclKind}
use Rattle.module_table.specs.Tables.{module_name_token}
use Rattle.ob_interface.proofs.Ranks.{find_first}
use Rattle.ob_scan.specs.Texts.{token_at}
use Rattle.ob_view.specs.declared.target.Reference.{Reference}
use Rattle.ob_view.specs.declared.target.Target.{Target}
use Rattle.ob_view.specs.declared.target.Target.TheVariants as targets
use Rattle.ob_targets.specs.Refers.{AreReferences, Refers, own_name as at_own_name, item, declaration, end, used, selected, second, nowhere}
use Rattle.ob_targets.specs.Targets.{holds_value, use_role, value_role}
use Rattle.ob_view.specs.World.{World, declared_at, decl_group_from, decl_group_of, decl_kind_of, imported_kind, text}
use Rattle.scip_symbol.specs.SymbolTexts.{SymbolModel}
use Rattle.ob_emit.specs.Documents.{column_of, declaration_range, enclosing_range, line_number, span_of}
use Rattle.scip_index.specs.Ranges.{range_between}
use Rattle.ob_emit.specs.Symbols.{PathStep, declared_symbol, declared_step, declared_steps, symbol_of}
use Rattle.ob_emit.proofs.OnePath.{has_step, HasStep}
use Rattle.ob_emit.proofs.OneSymbol.{SymbolBy, within, outside, HasSymbol, has_symbol}

-- ---- a range has numbers

by_lines : (b : Bool) (x y : ℤ) (xs ys : List ℤ) → cond b (x ∷ xs) (y ∷ ys) ≡ [] → ⊥
by_lines true x y xs ys e = let f : x ∷ xs ≡ [] = e in cc
by_lines false x y xs ys e = let f : y ∷ ys ≡ [] = e in cc

some_range : (line column last until : ℕ) → range_between line column last until ≡ [] → ⊥
some_range line column last until e = by_lines (line == last) (pos line) (pos line) (pos column ∷ pos until ∷ []) (pos column ∷ pos last ∷ pos until ∷ []) e

some_span : (w : World) (first last : ℕ) → span_of w first last ≡ [] → ⊥
some_span w first last e =
    let a = token_at w.tokens first in
    let b = token_at w.tokens last in
    some_range (line_number w.bytes a.start) (column_of w.bytes a.start) (line_number w.bytes b.end) (column_of w.bytes b.end) e

---- a declaration that has a symbol has a declaration group

record HasDeclarer (w : World) (k : ℕ) : Type 0 where
  by : DeclGroup
  is : decl_group_of w k ≡ Some by

module _ (w : World) where
  by_step : (k : ℕ) (o : Option DeclGroup) (s : PathStep) → decl_group_of w k ≡ o → option_and_then (declared_step w k) o ≡ Some s → HasDeclarer w k
  by_step k None s is e = absurd (let none : None ≡ Some s = e in cc)
  by_step k (Some by) s is e = record { by = by; is = is }

  from_local : (d : Declared) (o : Option DeclGroup) → decl_group_from w d.declared_by ≡ o → option_map_or (λ (by : DeclGroup). not (by.block == 0)) o false ≡ true → (by : DeclGroup) × (decl_group_from w d.declared_by ≡ Some by)
  from_local d None is e = absurd (let never : false ≡ true = e in cc)
  from_local d (Some by) is e = (by, is)

  by_row : (k at : ℕ) (d : Declared) → position (λ (x : Declared). x.number == k) w.rows.declared ≡ Some at → slice_get w.rows.declared at ≡ Some d → declared_at w k ≡ Some d
  unfolding declared_at
  by_row k at d placed there = find_first (λ (x : Declared). x.number == k) w.rows.declared ∙ ap (option_and_then (slice_get w.rows.declared)) placed ∙ there

  by_symbol : (p : List ℕ) (k at : ℕ) (d : Declared) (s : SymbolModel) → declared_at w k ≡ Some d → d.number ≡ k → SymbolBy w p at d s → HasDeclarer w k
  unfolding decl_group_of
  by_symbol p k at d s row number (within is_d is) =
      let from = from_local d (decl_group_from w d.declared_by) refl is_d in
      record { by = from.0; is = ap (option_and_then (λ (x : Declared). decl_group_from w x.declared_by)) row ∙ from.1 }
  by_symbol p k at d s row number (outside {ds = ds} path is) =
      let h : HasStep (text w module_name_token) (declared_steps w) d.number d.number ds = has_step (text w module_name_token) (declared_steps w) d.number d.number ds path in
      subst (HasDeclarer w) number (by_step d.number (decl_group_of w d.number) h.step refl h.there)

  has_declarer : (p : List ℕ) (k : ℕ) (s : SymbolModel) → declared_symbol w p k ≡ Some s → HasDeclarer w k
  has_declarer p k s e =
      let h : HasSymbol w p k s = has_symbol w p k s e in
      by_symbol p k h.at h.row s (by_row k h.at h.row h.placed h.there) h.number h.has

  ---- the declaration groups

  value_one : (s : Option DeclKind) (written : Bool) → value_role s written ≡ 1 → ⊥
  value_one None written e = absurd (omega (arith, e))
  value_one (Some s) written e = by_value (holds_value s) written e
    where
      by_value : (holds written : Bool) → ◌≡◌ {A = ℕ} (cond holds (cond written 4 8) 0) 1 → ⊥
      by_value true true e = absurd (omega (arith, e))
      by_value true false e = absurd (omega (arith, e))
      by_value false written e = absurd (omega (arith, e))

  use_one : (t : Target) (written : Bool) → use_role w t written ≡ 1 → ⊥
  use_one (targets.Declared k) written e = value_one (decl_kind_of w k) written e
  use_one (targets.Imported i d) written e = value_one (imported_kind w i d) written e
  use_one (targets.External at n) written e = absurd (omega (arith, e))
  use_one targets.Own written e = absurd (omega (arith, e))
  use_one (targets.«Module» at) written e = absurd (omega (arith, e))
  use_one targets.Predeclared written e = absurd (omega (arith, e))
  use_one targets.Unresolved written e = absurd (omega (arith, e))

  declared_range : (p : List ℕ) (k : ℕ) (s : SymbolModel) → declared_symbol w p k ≡ Some s → declaration_range w (targets.Declared k) ≡ [] → ⊥
  declared_range p k s has none =
      let h : HasDeclarer w k = has_declarer p k s has in
      some_span w h.by.first h.by.last (sym (ap (λ (o : Option DeclGroup). option_map_or (λ (by : DeclGroup). span_of w by.first by.last) o []) h.is) ∙ none)

  construct_there : (p : List ℕ) (k : ℕ) (t : Target) (role : ℕ) (s : SymbolModel) → Refers w k t role → role ≡ 1 → symbol_of w p t ≡ Some s → declaration_range w t ≡ [] → ⊥
  construct_there p k t role s (at_own_name is) one has none = some_span w 0 (length w.tokens - 1) none
  construct_there p k t role s (item is) one has none = absurd (omega (arith, one))
  construct_there p k t role s (declaration is) one has none = declared_range p k s has none
  construct_there p k t role s (end is at_e) one has none = absurd (omega (arith, one))
  construct_there p k t role s (used is) one has none = use_one t _ one
  construct_there p k t role s (selected is knows selects) one has none = use_one t _ one
  construct_there p k t role s (second is at_u) one has none = use_one t _ one
  construct_there p k t role s (nowhere is) one has none = absurd (omega (arith, one))

  pub defined_range : (p : List ℕ) (refs : List Reference) (r : Reference) (s : SymbolModel) → AreReferences w refs → Contains refs r → r.role ≡ 1 → symbol_of w p r.target ≡ Some s → enclosing_range w r ≡ [] → ⊥
  defined_range p refs r s are h one has none =
      let refers = All-contains (λ (x : Reference). Refers w x.number x.target x.role) refs r are.each h in
      let range : enclosing_range w r ≡ declaration_range w r.target = ap (λ (n : ℕ). cond (n == 1) (declaration_range w r.target) []) one in
      construct_there p r.number r.target r.role s refers one has (sym range ∙ none)
