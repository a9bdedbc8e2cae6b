-- The modules that a module reaches.
use Rattle.digraph.specs.Chains.{Chain}

-- a path of one or more edges leads from m to n, in the graph with the edge relation `Leads`
abbrev pub Reaches : {M : Type 0} → (M → M → Type 0) → M → M → Type 0
Reaches {M} Leads m n = (k : M) × Leads m k × Chain Leads k n
