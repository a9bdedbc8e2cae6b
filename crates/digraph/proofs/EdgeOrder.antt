-- Sorted edges, each once.
use Rattle.std.proofs.Common.{◌≡◌, ℕ, ◌&&◌, ◌||◌, eqb, ltb, Bool, true, List, get_or, refl, ap, ◌∙◌, arith, Ordering}
use Rattle.std.specs.Prelude.{Contains, IsPermutation, ◌↔◌}
use Rattle.std.specs.List.{dedup}
use Rattle.std.specs.List.Sorted.{IsSorted}
use Rattle.std.specs.Ordering.{nat_cmp, ordering_then, eq_by_cmp}
use Rattle.std.specs.Cmp.{IsTotalOrder, IsEquivalence, nat_cmp_total, nat_eq_equiv, on_total, then_total}
use Rattle.std.specs.declared.cmp.Ordering.TheVariants.{Less}
use Rattle.std.proofs.lemmas.Bool.{and_parts, and_from, eqb-true}
use Rattle.std.proofs.lemmas.Bool.Decides.{nat_tests}
use Rattle.std.proofs.lemmas.List.Sorted.{IsPermutation-sym, Contains-permutation}
use Rattle.std.proofs.lemmas.List.Kept.{IsStrictlySortedBy-dedup, Contains-dedup, Contains-from_dedup}
use Rattle.std.proofs.lemmas.Map.Keys.{Less-from_sorted}
use Rattle.digraph.specs.declared.edge.Edge.{Edge}
use Rattle.digraph.specs.Edges.{IsAscending}

abbrev pub ends_of : Edge → ℕ × ℕ
ends_of p = (p.from, p.to)

abbrev pub ends_cmp : ℕ × ℕ → ℕ × ℕ → Ordering
ends_cmp x y = ordering_then (nat_cmp x.0 y.0) (nat_cmp x.1 y.1)

abbrev edge_cmp : Edge → Edge → Ordering
edge_cmp p q = ends_cmp (ends_of p) (ends_of q)

abbrev pub same_edge : Edge → Edge → Bool
same_edge p q = eqb p.from q.from && eqb p.to q.to

total : IsTotalOrder edge_cmp
total = then_total (on_total (λ (p : Edge). p.from) nat_cmp_total) (on_total (λ (p : Edge). p.to) nat_cmp_total)

tie : (a b c d : ℕ) → (eqb a c && eqb b d) ≡ Rattle.std.specs.Ordering.is_eq (ordering_then (nat_cmp a c) (nat_cmp b d))
tie a b c d = grind (arith, nat_tests)

exact : (p q : Edge) → same_edge p q ≡ true → p ≡ q
exact p q e =
    let parts = and_parts _ _ e in
    let first : p.from ≡ q.from = eqb-true _ _ parts.0 in
    let second : p.to ≡ q.to = eqb-true _ _ parts.1 in
    ap (λ (x : ℕ). record { from = x; to = p.to }) first ∙ ap (λ (x : ℕ). record { from = q.from; to = x }) second

laws : IsEquivalence same_edge
laws = record {
  refl = λ x. and_from _ _ (nat_eq_equiv.refl x.from) (nat_eq_equiv.refl x.to);
  symm = λ x y. rw (nat_eq_equiv.symm x.from y.from, nat_eq_equiv.symm x.to y.to) refl;
  congr = λ x y z e. ap (λ (p : Edge). same_edge p z) (exact x y e);
}

less_before : (a b c d : ℕ) → ordering_then (nat_cmp a c) (nat_cmp b d) ≡ Less → (ltb a c || (eqb a c && ltb b d)) ≡ true
less_before a b c d e = grind (arith, nat_tests)

pub edges_ascend : (sorted new : List Edge) → new ≡ dedup same_edge sorted → IsSorted edge_cmp sorted → IsAscending new
edges_ascend sorted new e h i j d lt l =
    let strict = IsStrictlySortedBy-dedup total (λ p q. tie p.from p.to q.from q.to) sorted h in
    let less : edge_cmp (get_or new i d) (get_or new j d) ≡ Less = rw e (Less-from_sorted edge_cmp (dedup same_edge sorted) i j d strict lt (rw e at l)) in
    less_before (get_or new i d).from (get_or new i d).to (get_or new j d).from (get_or new j d).to less

pub edges_same : (old sorted new : List Edge) → new ≡ dedup same_edge sorted → IsPermutation old sorted → (p : Edge) → Contains new p ↔ Contains old p
edges_same old sorted new e moved p = rw e (
  λ h. Contains-permutation sorted old p (IsPermutation-sym old sorted moved) (Contains-from_dedup same_edge sorted p h),
  λ h. Contains-dedup laws exact sorted p (Contains-permutation old sorted p moved h),
)
