-- The stored kinds of tokens' declarations.
use Rattle.std.specs.Prelude.{◌≡◌, ℕ, List, Option, Some, slice_get}
use Rattle.module_table.specs.declared.rows.DeclKind.{DeclKind}
use Rattle.ob_view.specs.World.{World, decl_kind_of}

-- each kind that is stored at an index is that of the declaration at the token with this number
pub record AreStoredKinds (w : World) (decl_kinds : List (Option DeclKind)) : Type 0 where
  pub kept : (k : ℕ) (s : DeclKind) → slice_get decl_kinds k ≡ Some (Some s) → decl_kind_of w k ≡ Some s
