-- The reported imports of the subnetwork between two modules are those of the whole network.
use Rattle.std.proofs.Common.{◌≡◌, ℕ, ◌≤◌, Bool, true, false, cond, not, ◌&&◌, List, [], ◌∷◌, sym, ◌∙◌, refl, ap, arith, sum_by, inl, inr}
use Rattle.std.specs.Prelude.{Contains}
use Rattle.std.proofs.lemmas.Bool.{cases_Bool, both_ways, and_parts, and_from, not-true, not_from_false}
use Rattle.digraph.proofs.Members.{in_filter, of_filter}
use Rattle.cut_net.specs.declared.priced.Priced.{Priced}
use Rattle.cut_net.specs.Network.{Network}
use Rattle.cut_net.specs.Cuts.{Any, Chain, IsChain, IsSetOf, AreReported, IsMinimumSide, IsReported, IsSide, LeavesSourceSide, InSourceSide, leaves, weight}
use Rattle.cut_net.proofs.Certificate.{weight-mono}
use Rattle.cut_net.proofs.Chains.{chain_or_none, step, widened}
use Rattle.cut_net.proofs.ListSums.{sum_by-same, sum_by-mono}
use Rattle.cut_part.specs.Subnetworks.{IsBetween, are_ends_in, part_of}
use Rattle.cut_part.proofs.Subnetworks.{cond_le, has_chain, has_chain-true, has_chain-false, chain_there, onward, sum_by-filter}

-- of the modules that have no flag those that have no path to b
module _ (net : Network) (kept : ℕ → Bool) (a b : ℕ) (those : IsSetOf kept (IsBetween net a b)) where
  widen : (ℕ → Bool) → ℕ → Bool
  widen side m = cond (kept m) (side m) (not (has_chain net.imports m b))

  widen_kept : (side : ℕ → Bool) (m : ℕ) → kept m ≡ true → widen side m ≡ side m
  unfolding widen
  widen_kept side m t = rw t refl

  widen_other : (side : ℕ → Bool) (m : ℕ) → kept m ≡ false → widen side m ≡ not (has_chain net.imports m b)
  unfolding widen
  widen_other side m f = rw f refl

  -- an import out of the modules with a path to b ends where there is none
  no_way : (side : ℕ → Bool) (m : ℕ) → (Chain net.imports Any m b → ⊥) → widen side m ≡ true
  no_way side m none =
      elim (cases_Bool (kept m)) [
        | inl t ↦ absurd (none ((those m).0 t).1)
        | inr f ↦ widen_other side m f ∙ rw (has_chain-false net.imports m b none) refl
      ]

  leaves_widened : (side : ℕ → Bool) (i : Priced) → Contains net.imports i → leaves (widen side) i ≡ (are_ends_in kept i && leaves side i)
  leaves_widened side i c =
      elim (cases_Bool (kept i.from)) [
        | inl t ↦ elim (cases_Bool (kept i.to)) [
          | inl u ↦ rw (widen_kept side i.from t, widen_kept side i.to u, t, u) refl
          | inr g ↦
              let before = onward net.imports a i c ((those i.from).0 t).0 in
              let none = no_way side i.to (λ after. both_ways (kept i.to) g ((those i.to).1 (before, after))) in
              rw (none, t, g) (elim (widen side i.from) as (λ v. (v && false) ≡ false) [ true ↦ refl | false ↦ refl ])
        ]
        | inr f ↦ elim (chain_or_none net.imports Any (λ j. inl tt) i.from b) [
          | inl way ↦
              let out : widen side i.from ≡ false = widen_other side i.from f ∙ rw (has_chain-true net.imports i.from b way) refl in
              rw (out, f) refl
          | inr none ↦
              let over = no_way side i.to (λ after. none (step net.imports Any b i c tt after)) in
              rw (over, f) (elim (widen side i.from) as (λ v. (v && false) ≡ false) [ true ↦ refl | false ↦ refl ])
        ]
      ]

  both_conds : (t u : Bool) (n : ℕ) → cond (t && u) n 0 ≡ cond t (cond u n 0) 0
  both_conds true u n = refl
  both_conds false u n = refl

  weight_part : (side : ℕ → Bool) → weight (part_of net kept).imports (leaves side) ≡ sum_by (λ i. cond (are_ends_in kept i) (cond (leaves side i) i.amount 0) 0) net.imports
  weight_part side = sum_by-filter (λ i. cond (leaves side i) i.amount 0) (are_ends_in kept) net.imports

  weight_widened : (side : ℕ → Bool) → weight net.imports (leaves (widen side)) ≡ weight (part_of net kept).imports (leaves side)
  weight_widened side =
      sum_by-same (λ i. cond (leaves (widen side) i) i.amount 0) (λ i. cond (are_ends_in kept i) (cond (leaves side i) i.amount 0) 0) net.imports
      (λ i c. ap (λ t. cond t i.amount 0) (leaves_widened side i c) ∙ both_conds (are_ends_in kept i) (leaves side i) i.amount)
      ∙ sym (weight_part side)

  weight_inside : (side : ℕ → Bool) → weight (part_of net kept).imports (leaves side) ≤ weight net.imports (leaves side)
  weight_inside side =
      let e = weight_part side in
      let le = sum_by-mono (λ (i : Priced). cond (are_ends_in kept i) (cond (leaves side i) i.amount 0) 0) (λ i. cond (leaves side i) i.amount 0) net.imports
      (λ i c. cond_le (are_ends_in kept i) (cond (leaves side i) i.amount 0) (cond (leaves side i) i.amount 0) (λ _. omega arith)) in
      omega arith

  side_widened : (side : ℕ → Bool) → IsSide (part_of net kept) a b side → IsSide net a b (widen side)
  side_widened side is_side = record {
    start = elim (cases_Bool (kept a)) [
      | inl t ↦ widen_kept side a t ∙ is_side.start
      | inr f ↦ no_way side a (λ way. both_ways (kept a) f ((those a).1 (([], refl), way)))
    ];
    end = elim (cases_Bool (kept b)) [
      | inl t ↦ widen_kept side b t ∙ is_side.end
      | inr f ↦ widen_other side b f ∙ rw (has_chain-true net.imports b b ([], refl)) refl
    ];
  }

  least_in_net : (side : ℕ → Bool) → IsMinimumSide (part_of net kept) a b side → IsMinimumSide net a b (widen side)
  least_in_net side least = record {
    is_side = side_widened side least.is_side;
    least = λ other is_side.
        let e = weight_widened side in
        let le = least.least other (record { start = is_side.start; end = is_side.end }) in
        let in_net = weight_inside other in
        omega arith;
  }

  least_in_part : (side : ℕ → Bool) → IsMinimumSide net a b side → IsMinimumSide (part_of net kept) a b side
  least_in_part side least = record {
    is_side = record { start = least.is_side.start; end = least.is_side.end };
    least = λ other is_side.
        let le = least.least (widen other) (side_widened other is_side) in
        let e = weight_widened other in
        let in_net = weight_inside side in
        omega arith;
  }

  -- the modules that are kept are near in the one where they are near in the other
  to_part : (m : ℕ) → kept m ≡ true → InSourceSide net a b m → InSourceSide (part_of net kept) a b m
  to_part m t near side least = sym (widen_kept side m t) ∙ near (widen side) (least_in_net side least)

  to_net : (m : ℕ) → InSourceSide (part_of net kept) a b m → InSourceSide net a b m
  to_net m near side least = near side (least_in_part side least)

  -- the modules of a side that a reaches
  only_reached : (ℕ → Bool) → ℕ → Bool
  only_reached side m = side m && has_chain net.imports a m

  least_reached : (side : ℕ → Bool) → IsMinimumSide net a b side → IsMinimumSide net a b (only_reached side)
  unfolding only_reached
  least_reached side least = record {
    is_side = record {
      start = and_from _ _ least.is_side.start (has_chain-true net.imports a a ([], refl));
      end = rw least.is_side.end refl;
    };
    least = λ other is_side.
        let le = least.least other is_side in
        let fewer = weight-mono net.imports (leaves (λ m. side m && has_chain net.imports a m)) (leaves side) (λ i c t.
        let parts = and_parts (side i.from && has_chain net.imports a i.from) (not (side i.to && has_chain net.imports a i.to)) t in
        let from = and_parts (side i.from) (has_chain net.imports a i.from) parts.0 in
        let reached = has_chain-true net.imports a i.to (onward net.imports a i c (chain_there net.imports a i.from from.1)) in
        elim (cases_Bool (side i.to)) [
          | inr f ↦ and_from _ _ from.0 (not_from_false _ f)
          | inl u ↦ absurd (both_ways (side i.to && has_chain net.imports a i.to) (not-true _ parts.1) (and_from _ _ u reached))
        ]) in
        omega arith;
  }

  -- an import that leaves the minimal source side leaves one that a reaches
  from_reached : (i : Priced) → LeavesSourceSide net a b i → Chain net.imports Any a i.from
  unfolding only_reached
  from_reached i l =
      elim (chain_or_none net.imports Any (λ j. inl tt) a i.from) [
        | inl way ↦ way
        | inr none ↦ absurd (l.1 (λ side least.
            let here = l.0 (only_reached side) (least_reached side least) in
            absurd (both_ways (has_chain net.imports a i.from) (has_chain-false net.imports a i.from none) (and_parts (side i.from) (has_chain net.imports a i.from) here).1)))
      ]

  leaves_in_part : (i : Priced) → are_ends_in kept i ≡ true → LeavesSourceSide net a b i → LeavesSourceSide (part_of net kept) a b i
  leaves_in_part i t l =
      let parts = and_parts (kept i.from) (kept i.to) t in
      (to_part i.from parts.0 l.0, λ near. l.1 (to_net i.to near))

  leaves_in_net : (i : Priced) → are_ends_in kept i ≡ true → LeavesSourceSide (part_of net kept) a b i → LeavesSourceSide net a b i
  leaves_in_net i t l =
      let parts = and_parts (kept i.from) (kept i.to) t in
      (to_net i.from l.0, λ near. l.1 (to_part i.to parts.1 near))

  -- a path to b from a module that a reaches stays inside
  chain_in_part : (m : ℕ) → Chain net.imports Any a m → (more : List ℕ) → IsChain net.imports (λ j. LeavesSourceSide net a b j → ⊥) m more b → IsChain (part_of net kept).imports (λ j. LeavesSourceSide (part_of net kept) a b j → ⊥) m more b
  chain_in_part m before [] e = e
  chain_in_part m before (n ∷ more) ((i, c, from, to, not_leaves), rest) =
      let before_i : Chain net.imports Any a i.from = rw from before in
      let before_n : Chain net.imports Any a n = rw to at (onward net.imports a i c before_i) in
      let after_n : Chain net.imports Any n b = (more, widened net.imports net.imports (λ j. LeavesSourceSide net a b j → ⊥) Any (λ j d _. (d, tt)) n more b rest) in
      let after_i : Chain net.imports Any i.to b = rw to after_n in
      let in_part : are_ends_in kept i ≡ true = and_from _ _ ((those i.from).1 (before_i, step net.imports Any b i c tt after_i)) ((those i.to).1 (onward net.imports a i c before_i, after_i)) in
      ((i, in_filter (are_ends_in kept) net.imports i in_part c, from, to, λ l. not_leaves (leaves_in_net i in_part l)), chain_in_part n before_n more rest)

  printed_inside : (i : Priced) → Contains net.imports i → IsReported net a b i → are_ends_in kept i ≡ true
  printed_inside i c (leaves, chain) =
      let before = from_reached i leaves in
      let after : Chain net.imports Any i.to b = (chain.0, widened net.imports net.imports (λ j. LeavesSourceSide net a b j → ⊥) Any (λ j d _. (d, tt)) i.to chain.0 b chain.1) in
      and_from _ _ ((those i.from).1 (before, step net.imports Any b i c tt after)) ((those i.to).1 (onward net.imports a i c before, after))

  printed_in_part : (i : Priced) → Contains net.imports i → IsReported net a b i → IsReported (part_of net kept) a b i
  printed_in_part i c p =
      let in_part = printed_inside i c p in
      let parts = and_parts (kept i.from) (kept i.to) in_part in
      (leaves_in_part i in_part p.0, (p.1.0, chain_in_part i.to ((those i.to).0 parts.1).0 p.1.0 p.1.1))

  printed_in_net : (i : Priced) → are_ends_in kept i ≡ true → IsReported (part_of net kept) a b i → IsReported net a b i
  printed_in_net i t p = (
    leaves_in_net i t p.0,
    (
      p.1.0,
      widened (part_of net kept).imports net.imports (λ j. LeavesSourceSide (part_of net kept) a b j → ⊥) (λ j. LeavesSourceSide net a b j → ⊥)
          (λ j c no_leave. let was = of_filter (are_ends_in kept) net.imports j c in (was.0, λ l. no_leave (leaves_in_part j was.1 l))) i.to p.1.0 b p.1.1,
    ),
  )

  -- the same imports are reported
  pub same_printed : (x : Priced → Bool) → AreReported (part_of net kept) a b x → AreReported net a b (λ i. are_ends_in kept i && x i)
  same_printed x printed i c = (
    λ t. let parts = and_parts (are_ends_in kept i) (x i) t in
        printed_in_net i parts.0 ((printed i (in_filter (are_ends_in kept) net.imports i parts.0 c)).0 parts.1),
    λ p. let in_part = printed_inside i c p in
        and_from _ _ in_part ((printed i (in_filter (are_ends_in kept) net.imports i in_part c)).1 (printed_in_part i c p)),
  )
