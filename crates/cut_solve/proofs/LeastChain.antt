-- If there is a path from one node to another, there is a lexicographically smallest shortest one.
use Rattle.std.proofs.Common.{◌≡◌, ◌≢◌, ℕ, zero, suc, ◌≤◌, ◌<◌, ◌⊎◌, inl, inr, List, [], ◌∷◌, length, refl, sym, ap, ◌∙◌, subst, arith, Ordering}
use Rattle.std.specs.Prelude.{Contains}
use Rattle.std.specs.Cmp.{nat_cmp_is}
use Rattle.std.specs.Cmp.Lexicographic.{slice_cmp}
use Rattle.std.specs.Ordering.{nat_cmp, ordering_then}
use Rattle.std.specs.declared.cmp.Ordering.TheVariants.{Less, Equal, Greater}
use Rattle.std.proofs.lemmas.Bool.{cases_eq, cases_lt}
use Rattle.digraph.specs.declared.edge.Edge.{Edge}
use Rattle.digraph.specs.Chains.{Chain, IsChain}
use Rattle.digraph.specs.Edges.{Leads}
use Rattle.digraph.specs.ShortestPaths.{AreChain, HasChain, IsLeastChain}
use Rattle.digraph.proofs.Members.{first_member, first_or_later, later_member, no_member}

abbrev Decided : Type 0 → Type 0
Decided P = P ⊎ (P → ⊥)

-- a property that some number has is had by a smallest one
module _ (P : ℕ → Type 0) (decide : (k : ℕ) → Decided (P k)) where
  abbrev Least : Type 0
  Least = (k : ℕ) × P k × ((j : ℕ) → P j → k ≤ j)

  below : (n : ℕ) → Least ⊎ ((j : ℕ) → j < n → P j → ⊥)
  below zero = inr (λ j lt p. omega arith)
  below (suc n) = elim (below n) [
    | inl found ↦ inl found
    | inr none ↦ elim (decide n) [
      | inl p ↦ inl (n, p, λ j q. elim (cases_lt j n) [ inl lt ↦ absurd (none j lt q) | inr le ↦ le ])
      | inr fails ↦ inr (λ j lt q. elim (cases_eq j n) [ inl e ↦ fails (subst P e q) | inr ne ↦ none j (omega arith) q ])
    ]
  ]

  least_number : (n : ℕ) → P n → Least
  least_number n p = elim (below (suc n)) [ inl found ↦ found | inr none ↦ absurd (none n (omega arith) p) ]

-- a node that v leads to, of which this holds
module _ (Q : ℕ → Type 0) (decide : (w : ℕ) → Decided (Q w)) (v : ℕ) where
  abbrev Next : List Edge → Type 0
  Next edges = (w : ℕ) × Contains edges (record { from = v; to = w }) × Q w

  next : (edges : List Edge) → Decided (Next edges)
  next [] = inr (λ has. no_member _ has.1)
  next (p ∷ edges) = elim (next edges) [
    | inl found ↦ inl (found.0, later_member p edges _ found.1, found.2)
    | inr none ↦ elim (cases_eq p.from v) [
      | inr other ↦ inr (λ has. elim (first_or_later p edges _ has.1) [
        | inl same ↦ other (ap (λ (q : Edge). q.from) same)
        | inr later ↦ none (has.0, later, has.2)
      ])
      | inl e ↦ elim (decide p.to) [
        | inl q ↦ inl (p.to, first_member p edges _ (ap (λ (m : ℕ). record { from = m; to = p.to }) e), q)
        | inr fails ↦ inr (λ has. elim (first_or_later p edges _ has.1) [
          | inl same ↦ fails (subst Q (sym (ap (λ (q : Edge). q.to) same)) has.2)
          | inr later ↦ none (has.0, later, has.2)
        ])
      ]
    ]
  ]

module _ (edges : List Edge) (end : ℕ) where
  at_end : (v : ℕ) → HasChain edges v end 0 → v ≡ end
  at_end v ([], chain, long) = chain
  at_end v (w ∷ more, chain, long) = absurd (omega arith)

  -- whether a path of so many edges leads to the end
  has_chain : (k v : ℕ) → Decided (HasChain edges v end k)
  has_chain zero v = elim (cases_eq v end) [ inl e ↦ inl ([], e, refl) | inr ne ↦ inr (λ has. ne (at_end v has)) ]
  has_chain (suc k) v = elim (next (λ w. HasChain edges w end k) (has_chain k) v edges) [
    | inl (w, leads, (more, chain, long)) ↦ inl (w ∷ more, (leads, chain), omega arith)
    | inr none ↦ inr (λ has. none (onwards v k has))
  ]
    where
      onwards : (v k : ℕ) → HasChain edges v end (suc k) → (w : ℕ) × Leads edges v w × HasChain edges w end k
      onwards v k ([], chain, long) = absurd (omega arith)
      onwards v k (w ∷ more, (leads, rest), long) = (w, leads, (more, rest, omega arith))

  -- the node leads to this one, and from there a path of so many edges to the end
  abbrev GoesOn : ℕ → ℕ → ℕ → Type 0
  GoesOn v k w = Leads edges v w × HasChain edges w end k

  goes_on : (v k w : ℕ) → Decided (GoesOn v k w)
  goes_on v k w = elim (next (λ u. (u ≡ w) × HasChain edges u end k) (both w k) v edges) [
    | inl (u, leads, (same, has)) ↦ inl (subst (GoesOn v k) same (leads, has))
    | inr none ↦ inr (λ on. none (w, on.0, (refl, on.1)))
  ]
    where
      both : (w k u : ℕ) → Decided ((u ≡ w) × HasChain edges u end k)
      both w k u = elim (cases_eq u w) [
        | inr ne ↦ inr (λ h. ne h.0)
        | inl e ↦ elim (has_chain k u) [ inl has ↦ inl (e, has) | inr none ↦ inr (λ h. none h.1) ]
      ]

  -- of the paths with so many edges the least
  record IsLeastLong (v k : ℕ) (more : List ℕ) : Type 0 where
    is_chain : IsChain (Leads edges) v more end
    long : length more ≡ k
    least : (other : List ℕ) → IsChain (Leads edges) v other end → length other ≡ k → slice_cmp nat_cmp more other ≢ Greater

  tied : (v : ℕ) (more other : List ℕ) → slice_cmp nat_cmp more other ≢ Greater → slice_cmp nat_cmp (v ∷ more) (v ∷ other) ≢ Greater
  tied v more other least greater = least (sym (ap (λ (o : Ordering). ordering_then o (slice_cmp nat_cmp more other)) (sym (nat_cmp_is v v Equal refl))) ∙ greater)

  lower : (v w : ℕ) (more other : List ℕ) → v < w → slice_cmp nat_cmp (v ∷ more) (w ∷ other) ≢ Greater
  lower v w more other lt greater =
      let no : Less ≡ Greater = sym (ap (λ (o : Ordering). ordering_then o (slice_cmp nat_cmp more other)) (sym (nat_cmp_is v w Less lt))) ∙ greater in
      cc

  least_of_long : (k v : ℕ) → HasChain edges v end k → (more : List ℕ) × IsLeastLong v k more
  least_of_long zero v has = ([], record { is_chain = at_end v has; long = refl; least = none_lower })
    where
      none_lower : (other : List ℕ) → IsChain (Leads edges) v other end → length other ≡ 0 → slice_cmp nat_cmp [] other ≢ Greater
      none_lower [] chain long e = cc
      none_lower (w ∷ other) chain long e = cc
  least_of_long (suc k) v has = go (λ w on. least_of_long k w on) (least_number (GoesOn v k) (goes_on v k) (first has).0 (first has).1)
    where
      first : HasChain edges v end (suc k) → (w : ℕ) × GoesOn v k w
      first ([], chain, long) = absurd (omega arith)
      first (w ∷ more, (leads, rest), long) = (w, (leads, (more, rest, omega arith)))

      go : ((w : ℕ) → HasChain edges w end k → (more : List ℕ) × IsLeastLong w k more) → Least (GoesOn v k) (goes_on v k) → (more : List ℕ) × IsLeastLong v (suc k) more
      go below (w, (leads, on), least) = onwards (below w on)
        where
          onwards : (more : List ℕ) × IsLeastLong w k more → (more : List ℕ) × IsLeastLong v (suc k) more
          onwards (more, rest) = (w ∷ more, record { is_chain = (leads, rest.is_chain); long = let l = rest.long in omega arith; least = none_lower })
            where
              none_lower : (other : List ℕ) → IsChain (Leads edges) v other end → length other ≡ suc k → slice_cmp nat_cmp (w ∷ more) other ≢ Greater
              none_lower [] chain long = absurd (omega arith)
              none_lower (u ∷ other) (leads_u, chain) long =
                  let le = least u (leads_u, (other, chain, omega arith)) in
                  elim (cases_eq w u) [
                    | inl e ↦ subst (λ (n : ℕ). slice_cmp nat_cmp (w ∷ more) (n ∷ other) ≢ Greater) e
                        (tied w more other (rest.least other (subst (λ (n : ℕ). IsChain (Leads edges) n other end) (sym e) chain) (omega arith)))
                    | inr ne ↦ lower w u more other (omega arith)
                  ]

  pub some_least_chain : (a : ℕ) → Chain (Leads edges) a end → (chain : List ℕ) × IsLeastChain (Leads edges) a end chain
  some_least_chain a (any, any_chain) =
      let few = least_number (HasChain edges a end) (λ k. has_chain k a) (length any) (any, any_chain, refl) in
      go few (least_of_long few.0 a few.1)
    where
      go : (few : Least (HasChain edges a end) (λ k. has_chain k a)) → (more : List ℕ) × IsLeastLong a few.0 more → (chain : List ℕ) × IsLeastChain (Leads edges) a end chain
      go few (more, is) = (a ∷ more, record { is_chain = (refl, is.is_chain); fewest = fewest; least = least })
        where
          fewest : (other : List ℕ) → AreChain (Leads edges) a end other → length (a ∷ more) ≤ length other
          fewest [] none = absurd none
          fewest (m ∷ other) (e, chain) =
              let le = few.2 (length other) (other, subst (λ (n : ℕ). IsChain (Leads edges) n other end) e chain, refl) in
              let long = is.long in
              omega arith

          least : (other : List ℕ) → AreChain (Leads edges) a end other → length other ≡ length (a ∷ more) → slice_cmp nat_cmp (a ∷ more) other ≢ Greater
          least [] none long = absurd none
          least (m ∷ other) (e, chain) long =
              let own = is.long in
              subst (λ (n : ℕ). slice_cmp nat_cmp (a ∷ more) (n ∷ other) ≢ Greater) (sym e)
              (tied a more other (is.least other (subst (λ (n : ℕ). IsChain (Leads edges) n other end) e chain) (omega arith)))
