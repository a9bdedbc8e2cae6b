-- The number of uses that cross to a module, summed over its aliases.
use Rattle.std.specs.Prelude.{ℕ, List, if◌then◌else◌, sum_by}
use Rattle.std.specs.Str.{bytes_eq}
use Rattle.scopes.specs.Scoped.{AliasUses}

-- the uses of an alias if it denotes this module, otherwise 0
abbrev pub uses_for : List ℕ → AliasUses → ℕ
uses_for imported a = if bytes_eq a.imported imported then a.uses else 0

-- the uses of all aliases of this module
abbrev pub uses_of_import : List AliasUses → List ℕ → ℕ
uses_of_import aliases imported = sum_by (uses_for imported) aliases

-- the uses of all aliases
abbrev pub uses_of_all : List AliasUses → ℕ
uses_of_all aliases = sum_by (λ a. a.uses) aliases
