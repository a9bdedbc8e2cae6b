-- Paths of pinned imports are paths of the pins' edges.
use Rattle.std.proofs.Common.{◌≡◌, ℕ, true, List, [], ◌∷◌, map, refl, sym, ◌∙◌, ap, subst, arith, inl, inr}
use Rattle.std.specs.Prelude.{Contains, find, is_some}
use Rattle.std.proofs.lemmas.Bool.{both_ways, cases_Bool}
use Rattle.std.proofs.lemmas.List.Elements.{All-contains}
use Rattle.digraph.specs.declared.edge.Edge.{Edge}
use Rattle.digraph.specs.Chains.{Chain}
use Rattle.digraph.specs.Edges as edges
use Rattle.digraph.specs.ShortestPaths.{AreChain, IsLeastChain}
use Rattle.digraph.proofs.Members.{first_or_later, first_member, from_map, in_map, later_member, no_member}
use Rattle.digraph.proofs.SameGraphs.{chain_as, AreSame}
use Rattle.cut_net.specs.declared.priced.Priced.{Priced}
use Rattle.cut_net.specs.Network.{Network}
use Rattle.cut_net.specs.WellFormed.{AreBetween}
use Rattle.cut_net.specs.Cuts.{have_equal_ends, Imports}
use Rattle.cut_net.specs.Lines.{edge_of, IsImport}
use Rattle.cut_net.specs.Pins.{ArePins, ByPin, IsLeastPinChain, IsPinChain, PinChain}
use Rattle.cut_net.proofs.Ends.{same_from, same_true}

-- a line with the import's ends is found exactly where there is one
pub found_one : (i : Priced) (lines : List Priced) → is_some (find (have_equal_ends i) lines) ≡ true → (l : Priced) × Contains lines l × (have_equal_ends i l ≡ true)
found_one i [] e = absurd cc
found_one i (l ∷ lines) e = elim (cases_Bool (have_equal_ends i l)) [
  | inl t ↦ (l, first_member l lines l refl, t)
  | inr f ↦ let rest = found_one i lines (rw f at e) in (rest.0, later_member l lines rest.0 rest.1, rest.2)
]

pub one_found : (i : Priced) (lines : List Priced) (l : Priced) → Contains lines l → have_equal_ends i l ≡ true → is_some (find (have_equal_ends i) lines) ≡ true
one_found i [] l has t = no_member l has
one_found i (m ∷ lines) l has t = elim (cases_Bool (have_equal_ends i m)) [
  | inl here ↦ rw here refl
  | inr not_here ↦ rw not_here (elim (first_or_later m lines l has) [
    | inl e ↦ absurd (both_ways (have_equal_ends i m) not_here (subst (λ (n : Priced). have_equal_ends i n ≡ true) (sym e) t))
    | inr later ↦ one_found i lines l later t
  ])
]

-- pins lead between the modules, since imports do
pub pins_between : (net : Network) (n : ℕ) → AreBetween net.imports n → ArePins net → AreBetween net.pins n
pins_between net n between pins p c =
    let import = All-contains (IsImport net) net.pins p pins.in_order.known c in
    let ends = between import.0 import.1 in
    let from = import.2 in
    let to = import.3 in
    let low = ends.0 in
    let high = ends.1 in
    (omega arith, omega arith)

module _ (net : Network) (pins : ArePins net) where
  -- the edges of the pins lead where pinned imports do
  pub same_pins : AreSame (edges.Leads (map edge_of net.pins)) (Imports net.imports (ByPin net))
  same_pins m n = (
    λ leads.
        let (p, present, e) = from_map edge_of net.pins (record { from = m; to = n }) leads in
        let (i, known, from, to, any) = All-contains (IsImport net) net.pins p pins.in_order.known present in
        let from_is : i.from ≡ m = from ∙ ap (λ (q : Edge). q.from) e in
        let to_is : i.to ≡ n = to ∙ ap (λ (q : Edge). q.to) e in
        (i, known, from_is, to_is, one_found i net.pins p present (same_true i p (record { from = from; to = to }))),
    λ (i, known, from, to, pinned).
        let (p, present, t) = found_one i net.pins pinned in
        let ends = same_from i p t in
        let from_is : p.from ≡ m = sym ends.from ∙ from in
        let to_is : p.to ≡ n = sym ends.to ∙ to in
        let e : edge_of p ≡ record { from = m; to = n } = ap (λ (x : ℕ). record { from = x; to = p.to }) from_is ∙ ap (λ (x : ℕ). record { from = m; to = x }) to_is in
        subst (λ (q : Edge). Contains (map edge_of net.pins) q) e (in_map edge_of net.pins p present),
  )

  same_back : AreSame (Imports net.imports (ByPin net)) (edges.Leads (map edge_of net.pins))
  same_back m n = ((same_pins m n).1, (same_pins m n).0)

  module _ (a b : ℕ) where
    chain_of_pins : (chain : List ℕ) → AreChain (edges.Leads (map edge_of net.pins)) a b chain → IsPinChain net a b chain
    chain_of_pins [] none = none
    chain_of_pins (m ∷ more) (e, chain) = (e, chain_as (Imports net.imports (ByPin net)) (edges.Leads (map edge_of net.pins)) same_back m more b chain)

    chain_of_edges : (chain : List ℕ) → IsPinChain net a b chain → AreChain (edges.Leads (map edge_of net.pins)) a b chain
    chain_of_edges [] none = none
    chain_of_edges (m ∷ more) (e, chain) = (e, chain_as (edges.Leads (map edge_of net.pins)) (Imports net.imports (ByPin net)) same_pins m more b chain)

    -- the least path of the edges is the least path of pins
    pub least_of_pins : (chain : List ℕ) → IsLeastChain (edges.Leads (map edge_of net.pins)) a b chain → IsLeastPinChain net a b chain
    least_of_pins chain is = record {
      is_chain = chain_of_pins chain is.is_chain;
      fewest = λ other pinned. is.fewest other (chain_of_edges other pinned);
      least = λ other pinned long. is.least other (chain_of_edges other pinned) long;
    }

    pub no_pin_chain : (Chain (edges.Leads (map edge_of net.pins)) a b → ⊥) → PinChain net a b → ⊥
    no_pin_chain none (more, chain) = none (more, chain_as (edges.Leads (map edge_of net.pins)) (Imports net.imports (ByPin net)) same_pins a more b chain)
