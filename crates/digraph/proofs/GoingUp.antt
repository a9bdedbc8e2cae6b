-- The shortest path, from its end up to its start.
use Rattle.std.proofs.Common.{◌≡◌, ℕ, ◌+◌, ◌-◌, ◌≤◌, ◌<◌, inl, inr, List, [], ◌∷◌, ◌++◌, length, reverse, refl, sym, ◌∙◌, ap, subst, arith, Bool, false, Option, Some, None, length-append, append_assoc}
use Rattle.std.specs.Prelude.{All, IfNone}
use Rattle.std.proofs.lemmas.List.{append-nil, length-reverse, reverse-append}
use Rattle.digraph.specs.declared.edge.Edge.{Edge}
use Rattle.digraph.specs.declared.search.Search.{Search}
use Rattle.digraph.specs.Chains.{IsChain}
use Rattle.digraph.specs.Edges.{Leads}
use Rattle.digraph.specs.Marks.{marked}
use Rattle.digraph.specs.Search.{parent_of, IsPredecessor, IsSearch}
use Rattle.digraph.specs.ShortestPaths.{AreChain, IsLeastChain, IsPathAround, IsShortestPath}
use Rattle.digraph.proofs.Members.{first_member, one_member}
use Rattle.digraph.proofs.Parents.{some_or_none}
use Rattle.digraph.proofs.Searching.{path_some}

-- how many nodes may still be appended, plus one for the last test
abbrev pub steps_left : List (Option ℕ) → List ℕ → Option ℕ → ℕ
steps_left parents path None = 0
steps_left parents path (Some at) = length parents - length path + 1

module _ (edges : List Edge) (starts : List ℕ) (barrier : List Bool) (search : Search) where
  abbrev IsShortest : ℕ → List ℕ → Type 0
  IsShortest v p = IsShortestPath (Leads edges) starts barrier v p

  -- the nodes so far follow each shortest path to the next node; without a next node they are the whole path
  abbrev pub GoesUp : ℕ → List ℕ → Option ℕ → Type 0
  GoesUp end path (Some at) = ((u : ℕ) × (parent_of search.parents.items at ≡ Some u)) × ((before : List ℕ) → IsShortest at before → IsShortest end (before ++ reverse path))
  GoesUp end path None = IsShortest end (reverse path)

  pub goes_up_first : (end u : ℕ) → parent_of search.parents.items end ≡ Some u → GoesUp end [] (Some end)
  goes_up_first end u is = ((u, is), λ before shortest. subst (IsShortest end) (sym (append-nil before)) shortest)

  module _ (is : IsSearch edges starts barrier search) (end : ℕ) (path : List ℕ) (at : ℕ) (up : GoesUp end path (Some at)) where
    pushed : reverse (path ++ at ∷ []) ≡ at ∷ reverse path
    pushed = reverse-append path (at ∷ [])

    pub goes_up_more : (o : Option ℕ) → IsPredecessor search.parents.items at o → GoesUp end (path ++ at ∷ []) o
    goes_up_more (Some u) (from, apart) = (
      is.parent at u from,
      λ before shortest. subst (λ (p : List ℕ). IsShortest end (before ++ p)) (sym pushed)
          (subst (IsShortest end) (append_assoc before (at ∷ []) (reverse path)) (up.1 (before ++ at ∷ []) (is.step at u before from apart shortest))),
    )
    goes_up_more None own =
        let (u, from) = up.0 in
        let e = own u from in
        subst (IsShortest end) (sym pushed) (up.1 (at ∷ []) (is.start at (from ∙ ap (λ (n : ℕ). Some n) (sym e))))

    -- a node is left, so the path has fewer nodes so far than the graph
    pub goes_up_within : length path < length search.parents.items
    goes_up_within =
        let (u, from) = up.0 in
        let (before, shortest, short) = is.shortest at u from in
        let some = path_some (Leads edges) starts barrier at before shortest.is_chain in
        let whole = up.1 before shortest in
        let size = length-append before (reverse path) in
        let rotated = length-reverse path in
        let within = long end (before ++ reverse path) whole in
        omega arith
      where
        long : (v : ℕ) (p : List ℕ) → IsShortest v p → length p ≤ length search.parents.items
        long v p shortest = elim (some_or_none (parent_of search.parents.items v)) [
          | inl (w, has) ↦ (let (q, least, short) = is.shortest v w has in let le = shortest.fewest q least.is_chain in omega arith)
          | inr none ↦ absurd (is.none v p none shortest.is_chain)
        ]

    pub steps_fewer : (o : Option ℕ) → steps_left search.parents.items (path ++ at ∷ []) o < steps_left search.parents.items path (Some at)
    steps_fewer (Some u) = (let low = goes_up_within in let size = length-append path (at ∷ []) in omega arith)
    steps_fewer None = omega arith

-- ---- from one start, without a barrier

none_marked : (more : List ℕ) → All (λ n. marked [] n ≡ false) more
none_marked more k d within = refl

pub path_of_chain : (leads : ℕ → ℕ → Type 0) (a : ℕ) (more : List ℕ) (b : ℕ) → IsChain leads a more b → IsPathAround leads (a ∷ []) [] b (a ∷ more)
path_of_chain leads a more b chain = (first_member a [] a refl, chain, none_marked more)

from_chain : (leads : ℕ → ℕ → Type 0) (a b : ℕ) (chain : List ℕ) → AreChain leads a b chain → IsPathAround leads (a ∷ []) [] b chain
from_chain leads a b [] is = absurd is
from_chain leads a b (m ∷ more) (first, chain) = (first_member a [] m (sym first), chain, none_marked more)

to_chain : (leads : ℕ → ℕ → Type 0) (a b : ℕ) (path : List ℕ) → IsPathAround leads (a ∷ []) [] b path → AreChain leads a b path
to_chain leads a b [] is = absurd is
to_chain leads a b (m ∷ more) (start, chain, unmarked) = (sym (one_member a m start), chain)

pub least_from_path : (leads : ℕ → ℕ → Type 0) (a b : ℕ) (path : List ℕ) → IsShortestPath leads (a ∷ []) [] b path → IsLeastChain leads a b path
least_from_path leads a b path shortest = record {
  is_chain = to_chain leads a b path shortest.is_chain;
  fewest = λ other is. shortest.fewest other (from_chain leads a b other is);
  least = λ other is size. shortest.least other (from_chain leads a b other is) size;
}

pub if_none : {X : Type 0} {P Q : Type 0} (o : Option X) → IfNone o P → (P → Q) → IfNone o Q
if_none (Some x) has then = tt
if_none None has then = then has
