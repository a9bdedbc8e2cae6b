-- Modules by the indices of their names.
use Rattle.std.proofs.Common.{ℕ, List, [], ◌∷◌, length, ap, subst, inl, inr}
use Rattle.std.specs.Prelude.{Contains, ◌↔◌}
use Rattle.std.proofs.lemmas.Option.{slice_get_within}
use Rattle.digraph.specs.declared.edge.Edge.{Edge}
use Rattle.digraph.specs.Chains.{Chain, IsAcyclic, IsChain}
use Rattle.ob_imports.specs.Files.{File, Imports, IsNode}
use Rattle.ob_imports.specs.Names.{LeadsBy}
use Rattle.ob_imports.specs.Numbering.{index_or_len}
use Rattle.digraph.specs.Edges.{AreBetween, Leads}
use Rattle.digraph.proofs.Members.{in_map}
use Rattle.ob_imports.proofs.Places.{name_at}

-- a map of modules preserves relations and paths; so if there is no cycle in the image, there is none before
module _ {M N : Type 0} (G : M → M → Type 0) (H : N → N → Type 0) (to : M → N) (invariants : (m n : M) → G m n → H (to m) (to n)) where
  chain_over : (m : M) (more : List M) (b : M) → IsChain G m more b → Chain H (to m) (to b)
  chain_over m [] b e = ([], ap to e)
  chain_over m (n ∷ more) b c = let rest = chain_over n more b c.1 in (to n ∷ rest.0, (invariants m n c.0, rest.1))

  pub acyclic_over : IsAcyclic H → IsAcyclic G
  acyclic_over none m n leads (more, chain) = none (to m) (to n) (invariants m n leads) (chain_over n more m chain)

-- from names to their indices
pub acyclic_names : (files : List File) (names : List (List ℕ)) → ((n : List ℕ) → IsNode files n → Contains names n) → IsAcyclic (LeadsBy (Imports files) names) → IsAcyclic (Imports files)
acyclic_names files names known = acyclic_over (Imports files) (LeadsBy (Imports files) names) (index_or_len names) (λ m n (f, has, is, imports).
    let here : Contains names m = subst (Contains names) is (known f.name (inl (in_map (λ (g : File). g.name) files f has))) in
    let there : Contains names n = known n (inr (m, (f, has, is, imports))) in
    (m, n, name_at names m here, name_at names n there, (f, has, is, imports)))

-- edges between indices of names are between numbers below the number of names
pub between_names : (files : List File) (names : List (List ℕ)) (pairs : List Edge) → ((v w : ℕ) → Leads pairs v w ↔ LeadsBy (Imports files) names v w) → AreBetween pairs (length names)
between_names files names pairs leads p h =
    let (m, n, at_from, at_to, _) = (leads p.from p.to).0 h in
    (slice_get_within names p.from m at_from, slice_get_within names p.to n at_to)
