-- The target and the role of each identifier, by a relation with one constructor for each syntactic position.
use Rattle.std.specs.Prelude.{◌≡◌, ℕ, List, slice_get, Option, Some, None, Bool, true, false, if◌then◌else◌, map}
use Rattle.std.specs.List.{All, Contains, filter, filter_map, enumerate_from}
use Rattle.ob_scan.specs.declared.kind.Kind.{Kind}
use Rattle.ob_scan.specs.declared.kind.Kind.TheVariants as kinds
use Rattle.ob_scan.specs.declared.token.Token.{Token}
use Rattle.module_table.specs.declared.rows.End.{End}
use Rattle.module_table.specs.declared.rows.Used.{Used}
use Rattle.ob_view.specs.World.{World}
use Rattle.ob_view.specs.TargetKinds.{is_unresolved}
use Rattle.ob_targets.specs.declared.designator_type.DesignatorType.{DesignatorType}
use Rattle.ob_targets.specs.declared.syntax_position.SyntaxPosition.TheVariants as syntax_positions
use Rattle.ob_view.specs.declared.target.Target.{Target}
use Rattle.ob_view.specs.declared.target.Target.TheVariants as targets
use Rattle.ob_view.specs.declared.target.Reference.{Reference}
use Rattle.ob_targets.specs.SyntaxPosition.{syntax_position}
use Rattle.ob_targets.specs.Targets.{end_target, is_written, qualident_member_target, use_role, use_target}
use Rattle.ob_targets.specs.Steps.{IsTypeBefore, Selects}

module _ (w : World) where
  -- the identifier at token `k` of the module `w` denotes this target and has this role; the rule depends on its syntactic position
  pub data Refers (k : ℕ) : Target → ℕ → Type 0 where
    own_name : syntax_position w.rows k ≡ syntax_positions.OwnName → Refers k targets.Own 1
    item : {at : ℕ} → syntax_position w.rows k ≡ syntax_positions.Item at → Refers k (targets.«Module» at) 2
    declaration : {at : ℕ} → syntax_position w.rows k ≡ syntax_positions.Declaration at → Refers k (targets.Declared k) 1
    end : {at : ℕ} {e : End} → syntax_position w.rows k ≡ syntax_positions.End at → slice_get w.rows.ends at ≡ Some e → Refers k (end_target e.of) 0
    used : {at : ℕ} → syntax_position w.rows k ≡ syntax_positions.Use at → Refers k (use_target w k) (use_role w (use_target w k) (is_written w.rows k))
    selected : {at : ℕ} {o : DesignatorType} {t : Target} → syntax_position w.rows k ≡ syntax_positions.Selected at → IsTypeBefore w at o → Selects w o k t →
        Refers k t (use_role w t (is_written w.rows k))
    second : {at : ℕ} {u : Used} → syntax_position w.rows k ≡ syntax_positions.QualidentMember at → slice_get w.rows.uses at ≡ Some u →
        Refers k (qualident_member_target w k (use_target w u.number)) (use_role w (qualident_member_target w k (use_target w u.number)) false)
    nowhere : syntax_position w.rows k ≡ syntax_positions.Nowhere → Refers k targets.Unresolved 0

-- whether a token of this kind is an identifier
abbrev pub is_identifier : Kind → Bool
is_identifier kinds.Ident = true
is_identifier _ = false

-- the number in a pair of a number and a token, if the token is an identifier, and otherwise None
abbrev pub identifier_number : ℕ × Token → Option ℕ
identifier_number (k, t) = if is_identifier t.kind then Some k else None

-- the numbers of the tokens that are identifiers, in order
abbrev pub identifiers : List Token → List ℕ
identifiers ts = filter_map identifier_number (enumerate_from 0 ts)

-- the list has all identifiers of the module, in order, each with its target and its role
pub record AreReferences (w : World) (rs : List Reference) : Type 0 where
  pub numbers : map (λ (r : Reference). r.number) rs ≡ identifiers w.tokens
  pub each : All (λ (r : Reference). Refers w r.number r.target r.role) rs

-- the token numbers of the references whose target is Unresolved, in order
abbrev pub unresolved : List Reference → List ℕ
unresolved rs = map (λ (r : Reference). r.number) (filter (λ (r : Reference). is_unresolved r.target) rs)

-- token `k` of the module `w` is an identifier, and its target is Unresolved
pub record DenotesNothing (w : World) (k : ℕ) : Type 0 where
  pub is : Contains (identifiers w.tokens) k
  pub role : ℕ
  pub refers : Refers w k targets.Unresolved role
