-- The imports between consecutive modules of a path, and the shortest path of imports.
use Rattle.std.proofs.Common.{◌≡◌, ℕ, true, List, [], ◌∷◌, Option, Some, None, refl, sym, subst, inl, inr}
use Rattle.std.specs.Prelude.{Contains, find, is_some, unwrap_or}
use Rattle.std.specs.List.{zip}
use Rattle.digraph.specs.Chains.{IsChain}
use Rattle.digraph.specs.ShortestPaths.{AreChain, IsLeastChain}
use Rattle.digraph.proofs.Members.{first_or_later, from_map, no_member}
use Rattle.digraph.proofs.SameGraphs.{chain_as, AreSame}
use Rattle.cut_net.specs.declared.priced.Priced.{Priced}
use Rattle.cut_net.specs.Cuts.{have_equal_ends, Any, Imports}
use Rattle.cut_net.specs.Network.{Network}
use Rattle.cut_net.proofs.Ends.{same_true}
use Rattle.cut_net.proofs.Noting.{find_some}
use Rattle.cut_net.proofs.PinChains.{one_found}
use Rattle.cut_report.specs.NetLines.{import_between, imports_along, free_import, AreImportChain}

-- what is found for an import's ends is an import, where there is one
found_in : (net : Network) (m n : ℕ) → Imports net.imports Any m n → Contains net.imports (import_between net m n)
found_in net m n (i, present, from, to, any) =
    by (find (have_equal_ends (free_import m n)) net.imports) refl (one_found (free_import m n) net.imports i present (same_true (free_import m n) i (record { from = sym from; to = sym to })))
  where
    by : (o : Option Priced) → find (have_equal_ends (free_import m n)) net.imports ≡ o → is_some o ≡ true → Contains net.imports (unwrap_or o (free_import m n))
    by None e some = absurd cc
    by (Some x) e some = (find_some (have_equal_ends (free_import m n)) net.imports x e).0

-- each two neighbours are the modules of an import
neighbours : (net : Network) (m : ℕ) (more : List ℕ) (b : ℕ) → IsChain (Imports net.imports Any) m more b → (ends : ℕ × ℕ) → Contains (zip (m ∷ more) more) ends → Imports net.imports Any ends.0 ends.1
neighbours net m [] b chain ends present = no_member ends present
neighbours net m (n ∷ more) b chain ends present = elim (first_or_later (m, n) (zip (n ∷ more) more) ends present) [
  | inl same ↦ subst (λ (p : ℕ × ℕ). Imports net.imports Any p.0 p.1) same chain.0
  | inr later ↦ neighbours net n more b chain.1 ends later
]

pub along_in : (net : Network) (modules : List ℕ) (i : Priced) → AreImportChain net modules → Contains (imports_along net modules) i → Contains net.imports i
along_in net [] i (a, b, none) present = absurd none
along_in net (m ∷ more) i (a, b, (begins, chain)) present =
    let (ends, listed, same) = from_map (λ (p : ℕ × ℕ). import_between net p.0 p.1) (zip (m ∷ more) more) i present in
    subst (λ (j : Priced). Contains net.imports j) same (found_in net ends.0 ends.1 (neighbours net m more b chain ends listed))

-- ---- the least path, in two graphs in which the same nodes lead to each other

module _ (G H : ℕ → ℕ → Type 0) (same : AreSame G H) (a b : ℕ) where
  back : AreSame H G
  back m n = ((same m n).1, (same m n).0)

  to_other : (chain : List ℕ) → AreChain G a b chain → AreChain H a b chain
  to_other [] none = none
  to_other (m ∷ more) (e, chain) = (e, chain_as H G back m more b chain)

  from_other : (chain : List ℕ) → AreChain H a b chain → AreChain G a b chain
  from_other [] none = none
  from_other (m ∷ more) (e, chain) = (e, chain_as G H same m more b chain)

  pub least_as : (chain : List ℕ) → IsLeastChain G a b chain → IsLeastChain H a b chain
  least_as chain is = record {
    is_chain = to_other chain is.is_chain;
    fewest = λ other other_is. is.fewest other (from_other other other_is);
    least = λ other other_is long. is.least other (from_other other other_is) long;
  }

-- the least path of imports is a path of them
pub least_is_chain : (net : Network) (a b : ℕ) (modules : List ℕ) → IsLeastChain (Imports net.imports Any) a b modules → AreImportChain net modules
least_is_chain net a b modules is = (a, b, is.is_chain)
