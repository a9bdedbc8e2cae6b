-- Paths, and acyclic graphs. A graph is given by its edge relation.
use Rattle.std.specs.Prelude.{◌≡◌, List, [], ◌∷◌}

module _ {M : Type 0} (Leads : M → M → Type 0) where
  -- a path from m over the nodes of the list: each has an edge to the next, and the last one is b
  abbrev pub IsChain : M → List M → M → Type 0
  IsChain m [] b = m ≡ b
  IsChain m (n ∷ more) b = Leads m n × IsChain n more b

  -- a path leads from m to b; a node is a path to itself
  abbrev pub Chain : M → M → Type 0
  Chain m b = (more : List M) × IsChain m more b

  -- no node reaches itself by one or more edges
  abbrev pub IsAcyclic : Type 0
  IsAcyclic = (m n : M) → Leads m n → Chain n m → ⊥
