-- An identifier denotes one target, in one role.
use Rattle.std.proofs.Common.{◌≡◌, ℕ, Some, false, refl, sym, ap, ◌∙◌, subst}
use Rattle.std.specs.Prelude.{slice_get}
use Rattle.module_table.specs.declared.rows.End.{End}
use Rattle.module_table.specs.declared.rows.Used.{Used}
use Rattle.ob_view.specs.World.{World}
use Rattle.ob_targets.specs.declared.designator_type.DesignatorType.{DesignatorType}
use Rattle.ob_targets.specs.declared.syntax_position.SyntaxPosition.{SyntaxPosition}
use Rattle.ob_targets.specs.declared.syntax_position.SyntaxPosition.TheVariants as syntax_positions
use Rattle.ob_view.specs.declared.target.Target.{Target}
use Rattle.ob_view.specs.declared.target.Target.TheVariants as targets
use Rattle.ob_targets.specs.SyntaxPosition.{syntax_position}
use Rattle.ob_targets.specs.Targets.{end_target, is_written, qualident_member_target, use_role, use_target}
use Rattle.ob_targets.specs.Steps.{IsTypeBefore, Selects}
use Rattle.ob_targets.specs.Refers.{Refers, own_name, item, declaration, end, used, selected, second, nowhere}
use Rattle.ob_targets.proofs.Followed.{knows_once, selects_once}

module _ (w : World) where
  record EndStands (at : ℕ) (t : Target) : Type 0 where
    row : End
    there : slice_get w.rows.ends at ≡ Some row
    is : t ≡ end_target row.of

  record SelectedStands (k at : ℕ) (t : Target) : Type 0 where
    before : DesignatorType
    knows : IsTypeBefore w at before
    selects : Selects w before k t

  record SecondStands (k at : ℕ) (t : Target) : Type 0 where
    row : Used
    there : slice_get w.rows.uses at ≡ Some row
    is : t ≡ qualident_member_target w k (use_target w row.number)

  -- the target of an identifier with this syntactic position
  Stands : ℕ → SyntaxPosition → Target → Type 0
  Stands k syntax_positions.OwnName t = t ≡ targets.Own
  Stands k (syntax_positions.Item at) t = t ≡ targets.«Module» at
  Stands k (syntax_positions.Declaration at) t = t ≡ targets.Declared k
  Stands k (syntax_positions.End at) t = EndStands at t
  Stands k (syntax_positions.Use at) t = t ≡ use_target w k
  Stands k (syntax_positions.Selected at) t = SelectedStands k at t
  Stands k (syntax_positions.QualidentMember at) t = SecondStands k at t
  Stands k syntax_positions.Nowhere t = t ≡ targets.Unresolved

  -- the role of an identifier with this syntactic position and this target
  role : ℕ → SyntaxPosition → Target → ℕ
  role k syntax_positions.OwnName t = 1
  role k (syntax_positions.Item at) t = 2
  role k (syntax_positions.Declaration at) t = 1
  role k (syntax_positions.End at) t = 0
  role k (syntax_positions.Use at) t = use_role w t (is_written w.rows k)
  role k (syntax_positions.Selected at) t = use_role w t (is_written w.rows k)
  role k (syntax_positions.QualidentMember at) t = use_role w t false
  role k syntax_positions.Nowhere t = 0

  stands : (k : ℕ) (t : Target) (r : ℕ) → Refers w k t r → Stands k (syntax_position w.rows k) t
  unfolding Stands
  stands k t r (own_name is) = subst (λ (s : SyntaxPosition). Stands k s t) (sym is) refl
  stands k t r (item is) = subst (λ (s : SyntaxPosition). Stands k s t) (sym is) refl
  stands k t r (declaration is) = subst (λ (s : SyntaxPosition). Stands k s t) (sym is) refl
  stands k t r (end {e = e} is at_e) = subst (λ (s : SyntaxPosition). Stands k s t) (sym is) (record { row = e; there = at_e; is = refl })
  stands k t r (used is) = subst (λ (s : SyntaxPosition). Stands k s t) (sym is) refl
  stands k t r (selected {o = o} is knows selects) = subst (λ (s : SyntaxPosition). Stands k s t) (sym is) (record { before = o; knows = knows; selects = selects })
  stands k t r (second {u = u} is at_u) = subst (λ (s : SyntaxPosition). Stands k s t) (sym is) (record { row = u; there = at_u; is = refl })
  stands k t r (nowhere is) = subst (λ (s : SyntaxPosition). Stands k s t) (sym is) refl

  has_role : (k : ℕ) (t : Target) (r : ℕ) → Refers w k t r → r ≡ role k (syntax_position w.rows k) t
  unfolding role
  has_role k t r (own_name is) = ap (λ (s : SyntaxPosition). role k s t) (sym is)
  has_role k t r (item is) = ap (λ (s : SyntaxPosition). role k s t) (sym is)
  has_role k t r (declaration is) = ap (λ (s : SyntaxPosition). role k s t) (sym is)
  has_role k t r (end is at_e) = ap (λ (s : SyntaxPosition). role k s t) (sym is)
  has_role k t r (used is) = ap (λ (s : SyntaxPosition). role k s t) (sym is)
  has_role k t r (selected is knows selects) = ap (λ (s : SyntaxPosition). role k s t) (sym is)
  has_role k t r (second is at_u) = ap (λ (s : SyntaxPosition). role k s t) (sym is)
  has_role k t r (nowhere is) = ap (λ (s : SyntaxPosition). role k s t) (sym is)

  end_once : (at : ℕ) (t u : Target) → EndStands at t → EndStands at u → t ≡ u
  end_once at t u a b =
      let e : Some a.row ≡ Some b.row = sym a.there ∙ b.there in
      let is : a.row ≡ b.row = cc in
      a.is ∙ ap (λ (v : End). end_target v.of) is ∙ sym b.is

  selected_once : (k at : ℕ) (t u : Target) → SelectedStands k at t → SelectedStands k at u → t ≡ u
  selected_once k at t u a b =
      let is : b.before ≡ a.before = knows_once w at b.before a.before b.knows a.knows in
      selects_once w a.before k t u a.selects (subst (λ (v : DesignatorType). Selects w v k u) is b.selects)

  second_once : (k at : ℕ) (t u : Target) → SecondStands k at t → SecondStands k at u → t ≡ u
  second_once k at t u a b =
      let e : Some a.row ≡ Some b.row = sym a.there ∙ b.there in
      let is : a.row ≡ b.row = cc in
      a.is ∙ ap (λ (v : Used). qualident_member_target w k (use_target w v.number)) is ∙ sym b.is

  stands_once : (k : ℕ) (s : SyntaxPosition) (t u : Target) → Stands k s t → Stands k s u → t ≡ u
  unfolding Stands
  stands_once k syntax_positions.OwnName t u a b = a ∙ sym b
  stands_once k (syntax_positions.Item at) t u a b = a ∙ sym b
  stands_once k (syntax_positions.Declaration at) t u a b = a ∙ sym b
  stands_once k (syntax_positions.End at) t u a b = end_once at t u a b
  stands_once k (syntax_positions.Use at) t u a b = a ∙ sym b
  stands_once k (syntax_positions.Selected at) t u a b = selected_once k at t u a b
  stands_once k (syntax_positions.QualidentMember at) t u a b = second_once k at t u a b
  stands_once k syntax_positions.Nowhere t u a b = a ∙ sym b

  pub target_once : (k : ℕ) (t u : Target) (r s : ℕ) → Refers w k t r → Refers w k u s → t ≡ u
  target_once k t u r s a b = stands_once k (syntax_position w.rows k) t u (stands k t r a) (stands k u s b)

  pub role_once : (k : ℕ) (t u : Target) (r s : ℕ) → Refers w k t r → Refers w k u s → r ≡ s
  role_once k t u r s a b = has_role k t r a ∙ ap (role k (syntax_position w.rows k)) (target_once k t u r s a b) ∙ sym (has_role k u s b)
