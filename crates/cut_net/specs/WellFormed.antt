-- The invariant of networks.
use Rattle.std.specs.Prelude.{◌≡◌, ℕ, ◌^◌, ◌<◌, ◌≤◌, true, List, length, All, sum_by, Contains}
use Rattle.std.specs.List.Sorted.{IsStrictlySortedBy}
use Rattle.std.specs.Ordering.{nat_cmp}
use Rattle.std.specs.Cmp.Lexicographic.{slice_cmp}
use Rattle.digraph.specs.Chains as chains
use Rattle.cut_net.specs.declared.priced.Priced.{Priced}
use Rattle.cut_net.specs.Network.{Network}
use Rattle.texts.specs.Fields.{is_name}
use Rattle.cut_net.specs.Cuts.{Any, Imports}
use Rattle.cut_net.specs.Lines.{IsAscending}

-- the names are strictly sorted by their bytes
abbrev pub AreNamesInOrder : List (List ℕ) → Type 0
AreNamesInOrder names = IsStrictlySortedBy (slice_cmp nat_cmp) names

-- both modules of each import are below count
abbrev pub AreBetween : List Priced → ℕ → Type 0
AreBetween imports count = (i : Priced) → Contains imports i → (i.from < count) × (i.to < count)

-- no module reaches itself by one or more imports
abbrev pub IsAcyclic : List Priced → Type 0
IsAcyclic imports = chains.IsAcyclic (Imports imports Any)

-- the sum of all weights
abbrev pub total_weight : Network → ℕ
total_weight net = sum_by (λ i. i.amount) net.imports

-- names and imports are strictly sorted and within the limits, the total weight fits 64 bits, and the imports are acyclic
pub record IsNetwork (net : Network) : Type 0 where
  pub named : All (λ name. is_name name ≡ true) net.names
  pub names_ascend : AreNamesInOrder net.names
  pub few_names : length net.names ≤ 8192
  pub between : AreBetween net.imports (length net.names)
  pub imports_ascend : IsAscending net.imports
  pub few_imports : length net.imports ≤ 65536
  pub fits : total_weight net < 2 ^ 64
  pub acyclic : IsAcyclic net.imports
