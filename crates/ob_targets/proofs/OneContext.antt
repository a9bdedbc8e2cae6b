-- Each token has one context: that of its role in the event sequence of the tree.
use Rattle.std.proofs.Common.{◌≡◌, ℕ, ◌+◌, inl, inr, Some, refl, sym, ap, ◌∙◌, subst, arith}
use Rattle.ob_tree.specs.declared.declaration.Module.{Module}
use Rattle.ob_tree.specs.declared.role.Role.{Role}
use Rattle.ob_tree.specs.declared.role.Role.TheVariants.{Declares, Aliases, Imports, Uses, Completes, Selects, Names, Repeats}
use Rattle.ob_tree.specs.Declaring.{module_events}
use Rattle.table_rules.specs.Declaring.{rows_of}
use Rattle.table_rules.proofs.Roles.{HasRole, OfDeclared, OfEnd, OfImport, OfSelector, OfUse, each_one, role_at}
use Rattle.table_rules.proofs.NamedModules.{module_roles, own_role}
use Rattle.ob_targets.specs.SyntaxPositionKinds.{HasSyntaxPosition, SyntaxPositionKind}
use Rattle.ob_targets.specs.SyntaxPositionKinds as contexts

abbrev context_of : Role → SyntaxPositionKind
context_of (Declares is_exported) = contexts.Declaration
context_of Aliases = contexts.Declaration
context_of Imports = contexts.ImportedName
context_of Uses = contexts.Use
context_of Completes = contexts.Member
context_of Selects = contexts.Member
context_of Names = contexts.OwnName
context_of (Repeats n) = contexts.EndName

module _ (m : Module) (k : ℕ) where
  -- the token has a role of this context
  abbrev HasRoleOf : SyntaxPositionKind → Type 0
  HasRoleOf c = (r : Role) × (role_at (module_events m) k ≡ Some r) × (context_of r ≡ c)

  abbrev P : Role → ℕ → Type 0
  P = HasRole 0 (module_events m)

  at : (r : Role) (n : ℕ) → P r n → n ≡ k → HasRoleOf (context_of r)
  at r n h e = (r, subst (λ (i : ℕ). role_at (module_events m) i ≡ Some r) (let f : 0 + h.0 ≡ n = h.1 in omega (arith, e, f)) h.2, refl)

  role_of : (c : SyntaxPositionKind) → HasSyntaxPosition (rows_of m) k c → HasRoleOf c
  role_of c (contexts.own e) = (Names, subst (λ (i : ℕ). role_at (module_events m) i ≡ Some Names) (sym e) (own_role m), refl)
  role_of c (contexts.imported i h e differ) = elim (each_one (OfImport P) (rows_of m).imports i (module_roles m).0 h).1 [
    | inl same ↦ absurd (differ (same ∙ e))
    | inr role ↦ at Imports i.imported role e
  ]
  role_of c (contexts.aliased i h e) = at Aliases i.alias (each_one (OfImport P) (rows_of m).imports i (module_roles m).0 h).0 e
  role_of c (contexts.declared d h e) = at Aliases d.number (each_one (OfDeclared P) (rows_of m).declared d (module_roles m).1 h) e
  role_of c (contexts.ended x h e) = at (Repeats 0) x.number (each_one (OfEnd P) (rows_of m).ends x (module_roles m).2 h) e
  role_of c (contexts.used u h e) = at Uses u.number (each_one (OfUse P) (rows_of m).uses u (module_roles m).3 h).0 e
  role_of c (contexts.selected s h e) = at Selects k (each_one (OfSelector P) (rows_of m).selectors s (module_roles m).4 h k e) refl
  role_of c (contexts.second u h e) = at Selects k ((each_one (OfUse P) (rows_of m).uses u (module_roles m).3 h).1 k e) refl

pub syntax_position_is_unique : (m : Module) (k : ℕ) (c d : SyntaxPositionKind) → HasSyntaxPosition (rows_of m) k c → HasSyntaxPosition (rows_of m) k d → c ≡ d
syntax_position_is_unique m k c d h i =
    let a = role_of m k c h in
    let b = role_of m k d i in
    let both : Some a.0 ≡ Some b.0 = sym a.1 ∙ b.1 in
    let one : a.0 ≡ b.0 = cc in
    sym a.2 ∙ ap context_of one ∙ b.2
