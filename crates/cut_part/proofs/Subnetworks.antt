-- A network has exactly the flows between two modules of the subnetwork of the modules on paths between them.
use Rattle.std.proofs.Common.{◌≡◌, ℕ, ◌+◌, ◌≤◌, ◌<◌, ◌==◌, Bool, true, false, cond, not, List, [], ◌∷◌, length, filter, refl, sym, ap, ◌∙◌, arith, sum_by, inl, inr}
use Rattle.std.specs.Prelude.{Contains}
use Rattle.std.proofs.lemmas.Bool.{cases_Bool, both_ways, and_parts, and_from}
use Rattle.std.proofs.lemmas.List.Sums.{sum_by-cons}
use Rattle.cut_net.specs.declared.priced.Priced.{Priced}
use Rattle.cut_net.specs.Network.{Network}
use Rattle.cut_net.specs.WellFormed.{AreBetween, IsAcyclic}
use Rattle.cut_net.specs.Cuts.{Any, Chain, IsFlow, IsSetOf, entering, leaving, leaves}
use Rattle.cut_net.proofs.Chains.{chain_or_none, joined, step}
use Rattle.digraph.proofs.Members.{in_filter, of_filter}
use Rattle.cut_net.proofs.ListSums.{here, present, sum_by-same}
use Rattle.cut_net.proofs.Duality.{across, enters}
use Rattle.cut_part.specs.CapacityReduction.{IsResidualBarrier, IsMaxFlow}
use Rattle.cut_part.proofs.Conserved.{conserved}
use Rattle.cut_part.proofs.Sums.{sum_one}
use Rattle.cut_part.specs.Subnetworks.{IsBetween, are_ends_in, part_of, internal_flow}

filter_one : {X : Type 0} (f : X → ℕ) (x : X) (t : Bool) (ys : List X) → sum_by f (cond t (x ∷ ys) ys) ≡ cond t (f x) 0 + sum_by f ys
filter_one f x true ys = sum_by-cons f x ys
filter_one f x false ys = omega arith

-- a sum over the members that pass
pub sum_by-filter : {X : Type 0} (f : X → ℕ) (p : X → Bool) (xs : List X) → sum_by f (filter p xs) ≡ sum_by (λ x. cond (p x) (f x) 0) xs
sum_by-filter f p [] = refl
sum_by-filter f p (x ∷ xs) =
    let rest = sum_by-filter f p xs in
    let first = filter_one f x (p x) (filter p xs) in
    first ∙ omega (arith, sum_by-cons (λ y. cond (p y) (f y) 0) x xs)

-- whether a path leads from the one module to the other
module _ (imports : List Priced) (m n : ℕ) where
  pub has_chain : Bool
  has_chain = elim (chain_or_none imports Any (λ i. inl tt) m n) [ inl _ ↦ true | inr _ ↦ false ]

  pub has_chain-true : Chain imports Any m n → has_chain ≡ true
  unfolding has_chain
  has_chain-true c =
      elim (chain_or_none imports Any (λ i. inl tt) m n) as (λ v. elim v as (λ _. Bool) [ inl _ ↦ true | inr _ ↦ false ] ≡ true) [ inl _ ↦ refl | inr none ↦ absurd (none c) ]

  pub has_chain-false : (Chain imports Any m n → ⊥) → has_chain ≡ false
  unfolding has_chain
  has_chain-false none =
      elim (chain_or_none imports Any (λ i. inl tt) m n) as (λ v. elim v as (λ _. Bool) [ inl _ ↦ true | inr _ ↦ false ] ≡ false) [ inl c ↦ absurd (none c) | inr _ ↦ refl ]

  pub chain_there : has_chain ≡ true → Chain imports Any m n
  chain_there t = elim (chain_or_none imports Any (λ i. inl tt) m n) [ inl c ↦ c | inr none ↦ absurd (both_ways has_chain (has_chain-false none) t) ]

-- an import at the end of a path
pub onward : (imports : List Priced) (a : ℕ) (i : Priced) → Contains imports i → Chain imports Any a i.from → Chain imports Any a i.to
onward imports a i c chain = joined imports Any a i.from i.to chain (i.to ∷ [], ((i, c, refl, refl, tt), refl))

pub none_counts : (imports : List Priced) (flow : Priced → ℕ) (t : Priced → Bool) → ((i : Priced) → Contains imports i → t i ≡ false) → sum_by (λ i. cond (t i) (flow i) 0) imports ≡ 0
none_counts [] flow t no_i = refl
none_counts (i ∷ more) flow t no_i =
    let rest = none_counts more flow t (λ j c. no_i j (present i more j c)) in
    let first : cond (t i) (flow i) 0 ≡ 0 = rw (no_i i (here i more)) refl in
    omega (arith, sum_by-cons (λ j. cond (t j) (flow j) 0) i more)

is_none : (imports : List Priced) (flow : Priced → ℕ) (t : Priced → Bool) (i : Priced) → Contains imports i → t i ≡ true → sum_by (λ j. cond (t j) (flow j) 0) imports ≡ 0 → flow i ≡ 0
is_none imports flow t i (k, h, e) yes_i none =
    let one = sum_one (λ j. cond (t j) (flow j) 0) imports k i h in
    let here : cond (t i) (flow i) 0 ≤ sum_by (λ j. cond (t j) (flow j) 0) imports = rw e at one in
    let same : cond (t i) (flow i) 0 ≡ flow i = rw yes_i refl in
    omega arith

module _ (net : Network) (a b : ℕ) (flow : Priced → ℕ) (value : ℕ) (between : AreBetween net.imports (length net.names)) (a_in : a < length net.names) (acyclic : IsAcyclic net.imports) (is_flow : IsFlow net a b flow value) where
  -- an import whose importer isn't reached from a carries nothing
  none_before : (i : Priced) → Contains net.imports i → (Chain net.imports Any a i.from → ⊥) → flow i ≡ 0
  none_before i c unreached =
      let set : ℕ → Bool = λ m. has_chain net.imports m i.from in
      let from_in : set i.from ≡ true = has_chain-true net.imports i.from i.from ([], refl) in
      let to_out : set i.to ≡ false = has_chain-false net.imports i.to i.from (acyclic i.from i.to (i, c, refl, refl, tt)) in
      let no_start : set a ≡ false = has_chain-false net.imports a i.from unreached in
      let no_entry : (j : Priced) → Contains net.imports j → enters set j ≡ false = λ j in_j. elim (cases_Bool (set j.to)) [
        | inr f ↦ rw f (elim (cases_Bool (not (set j.from))) [ inl t ↦ rw t refl | inr g ↦ rw g refl ])
        | inl t ↦
            let from_too : set j.from ≡ true = has_chain-true net.imports j.from i.from (step net.imports Any i.from j in_j tt (chain_there net.imports j.to i.from t)) in
            rw (t, from_too) refl
      ] in
      elim (cases_Bool (set b)) [
        | inl has_b ↦
            let side : ℕ → Bool = λ m. not (set m) in
            let over = across net a b flow value side between a_in is_flow (record { start = rw no_start refl; end = rw has_b refl }) in
            let none = none_counts net.imports flow (leaves side) (λ j in_j. elim (cases_Bool (set j.to)) [
              | inl t ↦
                  let from_too : set j.from ≡ true = has_chain-true net.imports j.from i.from (step net.imports Any i.from j in_j tt (chain_there net.imports j.to i.from t)) in
                  rw (t, from_too) refl
              | inr f ↦ rw f (elim (cases_Bool (not (set j.from))) [ inl t ↦ rw t refl | inr g ↦ rw g refl ])
            ]) in
            is_none net.imports flow (enters side) i c (rw (from_in, to_out) refl) (omega arith)
        | inr no_b ↦
            let over = conserved net a b flow value is_flow set no_start no_b between in
            let none = none_counts net.imports flow (enters set) no_entry in
            is_none net.imports flow (leaves set) i c (rw (from_in, to_out) refl) (omega arith)
      ]

  -- an import whose imported module doesn't reach b carries nothing
  none_after : (i : Priced) → Contains net.imports i → (Chain net.imports Any i.to b → ⊥) → flow i ≡ 0
  none_after i c unreached =
      let set : ℕ → Bool = λ m. has_chain net.imports i.to m in
      let to_in : set i.to ≡ true = has_chain-true net.imports i.to i.to ([], refl) in
      let from_out : set i.from ≡ false = has_chain-false net.imports i.to i.from (acyclic i.from i.to (i, c, refl, refl, tt)) in
      let no_b : set b ≡ false = has_chain-false net.imports i.to b unreached in
      let none = none_counts net.imports flow (leaves set) (λ j in_j. elim (cases_Bool (set j.from)) [
        | inr f ↦ rw f refl
        | inl t ↦
            let to_too : set j.to ≡ true = has_chain-true net.imports i.to j.to (onward net.imports i.to j in_j (chain_there net.imports i.to j.from t)) in
            rw (t, to_too) refl
      ]) in
      elim (cases_Bool (set a)) [
        | inl has_a ↦
            let over = across net a b flow value set between a_in is_flow (record { start = has_a; end = no_b }) in
            is_none net.imports flow (enters set) i c (rw (from_out, to_in) refl) (omega arith)
        | inr no_a ↦
            let over = conserved net a b flow value is_flow set no_a no_b between in
            is_none net.imports flow (enters set) i c (rw (from_out, to_in) refl) (omega arith)
      ]

  -- so a flow carries nothing but on imports between modules that are on a path from a to b
  pub none_outside : (kept : ℕ → Bool) → IsSetOf kept (IsBetween net a b) → (i : Priced) → Contains net.imports i → are_ends_in kept i ≡ false → flow i ≡ 0
  none_outside kept those i c out =
      elim (chain_or_none net.imports Any (λ i. inl tt) a i.from) [
        | inr none ↦ none_before i c none
        | inl before ↦ elim (chain_or_none net.imports Any (λ i. inl tt) i.to b) [
          | inr none ↦ none_after i c none
          | inl after ↦
              let from_in = (those i.from).1 (before, step net.imports Any b i c tt after) in
              let to_in = (those i.to).1 (onward net.imports a i c before, after) in
              absurd (both_ways (are_ends_in kept i) out (and_from _ _ from_in to_in))
        ]
      ]

swapped : (t u : Bool) (n : ℕ) → cond t (cond u n 0) 0 ≡ cond u (cond t n 0) 0
swapped true true n = refl
swapped true false n = refl
swapped false true n = refl
swapped false false n = refl

-- inflow and outflow count only imports inside the subnetwork
entering_part : (net : Network) (kept : ℕ → Bool) (flow : Priced → ℕ) (m : ℕ) → entering (part_of net kept).imports flow m ≡ entering net.imports (internal_flow kept flow) m
entering_part net kept flow m =
    sum_by-filter (λ i. cond (i.to == m) (flow i) 0) (are_ends_in kept) net.imports
    ∙ sum_by-same _ _ net.imports (λ i c. swapped (are_ends_in kept i) (i.to == m) (flow i))

leaving_part : (net : Network) (kept : ℕ → Bool) (flow : Priced → ℕ) (m : ℕ) → leaving (part_of net kept).imports flow m ≡ leaving net.imports (internal_flow kept flow) m
leaving_part net kept flow m =
    sum_by-filter (λ i. cond (i.from == m) (flow i) 0) (are_ends_in kept) net.imports
    ∙ sum_by-same _ _ net.imports (λ i c. swapped (are_ends_in kept i) (i.from == m) (flow i))

pub cond_le : (t : Bool) (x y : ℕ) → (t ≡ true → x ≤ y) → cond t x 0 ≤ y
cond_le true x y h = h refl
cond_le false x y h = omega arith

-- a flow of the subnetwork, with 0 on all other imports, is a flow of the whole, whatever modules were kept
pub flow_of_part : (net : Network) (kept : ℕ → Bool) (a b : ℕ) (flow : Priced → ℕ) (value : ℕ) → IsFlow (part_of net kept) a b flow value → IsFlow net a b (internal_flow kept flow) value
flow_of_part net kept a b flow value is_flow =
    let into = entering_part net kept flow in
    let out = leaving_part net kept flow in
    record {
      within = λ i c. cond_le (are_ends_in kept i) (flow i) i.amount (λ t. is_flow.within i (in_filter (are_ends_in kept) net.imports i t c));
      kept = λ m not_a not_b. sym (into m) ∙ is_flow.kept m not_a not_b ∙ out m;
      at_start = let i = into a in let o = out a in let s = is_flow.at_start in omega arith;
    }

-- a flow that carries nothing outside is a flow of the subnetwork
pub flow_in_part : (net : Network) (kept : ℕ → Bool) (a b : ℕ) (flow : Priced → ℕ) (value : ℕ) → ((i : Priced) → Contains net.imports i → are_ends_in kept i ≡ false → flow i ≡ 0) →
    IsFlow net a b flow value → IsFlow (part_of net kept) a b flow value
flow_in_part net kept a b flow value none is_flow =
    let same : (i : Priced) → Contains net.imports i → internal_flow kept flow i ≡ flow i = λ i c. elim (cases_Bool (are_ends_in kept i)) [
      | inl t ↦ rw t refl
      | inr f ↦ rw f (sym (none i c f))
    ] in
    let into = λ (m : ℕ). entering_part net kept flow m ∙ sum_by-same (λ (i : Priced). cond (i.to == m) (internal_flow kept flow i) 0) (λ i. cond (i.to == m) (flow i) 0) net.imports (λ i c. ap (λ n. cond (i.to == m) n 0) (same i c)) in
    let out = λ (m : ℕ). leaving_part net kept flow m ∙ sum_by-same (λ (i : Priced). cond (i.from == m) (internal_flow kept flow i) 0) (λ i. cond (i.from == m) (flow i) 0) net.imports (λ i c. ap (λ n. cond (i.from == m) n 0) (same i c)) in
    record {
      within = λ i c. is_flow.within i (of_filter (are_ends_in kept) net.imports i c).0;
      kept = λ m not_a not_b. into m ∙ is_flow.kept m not_a not_b ∙ sym (out m);
      at_start = let i = into a in let o = out a in let s = is_flow.at_start in omega arith;
    }

-- the modules of the subnetwork that are there, and of the others those that a reaches
module _ (net : Network) (kept : ℕ → Bool) (a b : ℕ) (those : IsSetOf kept (IsBetween net a b)) (flow : Priced → ℕ) (modules : ℕ → Bool) (barrier : IsResidualBarrier (part_of net kept) flow a b modules) where
  pub spread : ℕ → Bool
  spread m = cond (kept m) (modules m) (has_chain net.imports a m)

  pub spread_kept : (m : ℕ) → kept m ≡ true → spread m ≡ modules m
  unfolding spread
  spread_kept m t = rw t refl

  spread_other : (m : ℕ) → kept m ≡ false → spread m ≡ has_chain net.imports a m
  unfolding spread
  spread_other m f = rw f refl

  -- each of them is reached from a by a path
  pub spread_reached : (m : ℕ) → spread m ≡ true → Chain net.imports Any a m
  spread_reached m t =
      elim (cases_Bool (kept m)) [
        | inl k ↦ ((those m).0 k).0
        | inr f ↦ chain_there net.imports a m (sym (spread_other m f) ∙ t)
      ]

  pub spread_barrier : IsResidualBarrier net (internal_flow kept flow) a b spread
  spread_barrier = record {
    start = elim (cases_Bool (kept a)) [
      | inl k ↦ spread_kept a k ∙ barrier.start
      | inr f ↦ spread_other a f ∙ has_chain-true net.imports a a ([], refl)
    ];
    end = elim (cases_Bool (kept b)) [
      | inl k ↦ spread_kept b k ∙ barrier.end
      | inr f ↦ spread_other b f ∙ has_chain-false net.imports a b (λ chain. both_ways (kept b) f ((those b).1 (chain, ([], refl))))
    ];
    closed = record {
      forward = λ i c room t.
          let to_reached = onward net.imports a i c (spread_reached i.from t) in
          elim (cases_Bool (kept i.to)) [
            | inr f ↦ spread_other i.to f ∙ has_chain-true net.imports a i.to to_reached
            | inl k ↦
                let from_kept = (those i.from).1 (spread_reached i.from t, step net.imports Any b i c tt ((those i.to).0 k).1) in
                let in_part : are_ends_in kept i ≡ true = and_from _ _ from_kept k in
                let room_here : flow i < i.amount = rw in_part at room in
                spread_kept i.to k ∙ barrier.closed.forward i (in_filter (are_ends_in kept) net.imports i in_part c) room_here (sym (spread_kept i.from from_kept) ∙ t)
          ];
      backward = λ i c some t.
          elim (cases_Bool (are_ends_in kept i)) [
            | inr f ↦ let none : 0 < 0 = rw f at some in absurd (omega arith)
            | inl in_part ↦
                let some_here : 0 < flow i = rw in_part at some in
                let parts = and_parts (kept i.from) (kept i.to) in_part in
                spread_kept i.from parts.0 ∙ barrier.closed.backward i (in_filter (are_ends_in kept) net.imports i in_part c) some_here (sym (spread_kept i.to parts.1) ∙ t)
          ];
    };
  }

pub greatest_of_part : (net : Network) (kept : ℕ → Bool) (a b : ℕ) → IsSetOf kept (IsBetween net a b) → (flow : Priced → ℕ) (value : ℕ) →
    IsMaxFlow (part_of net kept) a b flow value → IsMaxFlow net a b (internal_flow kept flow) value
greatest_of_part net kept a b those flow value greatest = record {
  is_flow = flow_of_part net kept a b flow value greatest.is_flow;
  barred = (spread net kept a b those flow greatest.barred.0 greatest.barred.1, spread_barrier net kept a b those flow greatest.barred.0 greatest.barred.1);
}
