-- The module that an alias denotes.
use Rattle.std.specs.Prelude.{◌≡◌, ℕ, List, Contains}
use Rattle.scopes.specs.Scoped.{AliasUses, ModuleScopes}

-- this token declares an alias of the module
pub record IsAliasFor (s : ModuleScopes) (alias : ℕ) (imported : List ℕ) : Type 0 where
  pub row : AliasUses
  pub is_row : Contains s.aliases row
  pub declared : row.alias ≡ alias
  pub of : row.imported ≡ imported
