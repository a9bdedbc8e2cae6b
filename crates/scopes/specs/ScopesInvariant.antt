-- The invariant of `Scopes`.
use Rattle.std.specs.Prelude.{◌≤◌}
use Rattle.std.specs.String.{string_bytes}
use Rattle.module_table.specs.Order.{IsIncreasingBy}
use Rattle.scopes.specs.declared.meaning.Resolution.{Resolution}
use Rattle.scopes.specs.declared.module_scopes.Alias.{Alias}
use Rattle.scopes.specs.Weights.{uses_of_all}
use Rattle.scopes.specs.Scoped.{Meaning, AliasUses, ModuleScopes}

-- the meaning that an entry represents
abbrev pub meaning_of : Resolution → Meaning
meaning_of row = record { used = row.used; declared = row.declared }

-- an alias in contracts: its token, the name of the imported module, and the number of uses that it qualifies
abbrev pub alias_of : Alias → AliasUses
alias_of a = record { alias = a.decl; imported = string_bytes a.«module»; uses = a.uses }

-- uses and aliases are sorted by token number, and at most 2^24 uses are qualified, as a file has at most 16 MiB
pub record AreValidScopes (s : ModuleScopes) : Type 0 where
  pub meanings_ascend : IsIncreasingBy (λ (m : Meaning). m.used) s.meanings
  pub aliases_ascend : IsIncreasingBy (λ (a : AliasUses). a.alias) s.aliases
  pub few : uses_of_all s.aliases ≤ 16777216
