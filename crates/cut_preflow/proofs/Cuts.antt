-- Flows and source sides, stated over functions: n nodes, m imports, each with its ends, its capacity and its flow.
use Rattle.std.proofs.Common.{◌≡◌, ◌≢◌, ℕ, ◌+◌, ◌<◌, ◌≤◌, inl, inr, Bool, true, false, not, ◌&&◌, ◌==◌, if◌then◌else◌, nat_lt, refl, sym, ap, ◌∙◌, arith}
use Rattle.std.proofs.lemmas.Bool.{cases_lt, cases_eq}
use Rattle.std.proofs.lemmas.Bool.Decides.{nat_tests}
use Rattle.cut_preflow.specs.Total.{total}
use Rattle.cut_preflow.proofs.Choices.{choice_same, choice_other, pick_true, true_or_false, either_way, same_either_way}
use Rattle.cut_preflow.proofs.Totals.{total-same, total-add, total-zero, total-change, total-one, total-swap, total-tight}

-- a choice before a sum and after it
choice_of_total : (b : Bool) (m : ℕ) (g : ℕ → ℕ) → (if b then total m g else 0) ≡ total m (λ i. if b then g i else 0)
choice_of_total true m g = refl
choice_of_total false m g = sym (total-zero m (λ i. 0) (λ _ _. refl))

-- the sum over the nodes of a side of what has its key there is the sum of what has its key in the side
pub by_keys : (n m : ℕ) (key f : ℕ → ℕ) (side : ℕ → Bool) → ((i : ℕ) → i < m → key i < n) → total n (λ v. if side v then total m (λ i. if key i == v then f i else 0) else 0) ≡ total m (λ i. if side (key i) then f i else 0)
by_keys n m key f side low =
    total-same n (λ v. if side v then total m (λ i. if key i == v then f i else 0) else 0) (λ v. total m (λ i. if side v then (if key i == v then f i else 0) else 0))
    (λ v _. choice_of_total (side v) m (λ i. if key i == v then f i else 0))
    ∙ total-swap n m (λ v i. if side v then (if key i == v then f i else 0) else 0)
    ∙ total-same m (λ i. total n (λ v. if side v then (if key i == v then f i else 0) else 0)) (λ i. if side (key i) then f i else 0) at_key
  where
    at_key : (i : ℕ) → i < m → total n (λ v. if side v then (if key i == v then f i else 0) else 0) ≡ (if side (key i) then f i else 0)
    at_key i l =
        total-one n (λ v. if side v then (if key i == v then f i else 0) else 0) (key i) (low i l) (elsewhere i)
        ∙ rw (choice_same (key i) (key i) (f i) 0 refl) refl
      where
        elsewhere : (i j : ℕ) → j < n → j ≢ key i → (if side j then (if key i == j then f i else 0) else 0) ≡ 0
        elsewhere i j lj ne = rw (choice_other (key i) j (f i) 0 (λ e. ne (sym e))) (same_either_way (side j) 0)

-- no arc with residual leaves the side
abbrev pub Closed : (m : ℕ) (from to capacity flow : ℕ → ℕ) → (ℕ → Bool) → Type 0
Closed m from to capacity flow side =
    (i : ℕ) → i < m → (flow i < capacity i → side (from i) ≡ true → side (to i) ≡ true) × (0 < flow i → side (to i) ≡ true → side (from i) ≡ true)

abbrev pub leaving : (m : ℕ) (from to flow : ℕ → ℕ) → (ℕ → Bool) → ℕ
leaving m from to flow side = total m (λ i. if side (from i) && not (side (to i)) then flow i else 0)

module _ (n m : ℕ) (from to capacity flow : ℕ → ℕ) (from_low : (i : ℕ) → i < m → from i < n) (to_low : (i : ℕ) → i < m → to i < n) where
  -- over the nodes of a side, what leaves them and what enters the side is what enters them and what leaves the side
  pub balance : (side : ℕ → Bool) → total n (λ v. if side v then total m (λ i. if from i == v then flow i else 0) else 0) + leaving m to from flow side ≡ total n (λ v. if side v then total m (λ i. if to i == v then flow i else 0) else 0) + leaving m from to flow side
  balance side =
      let out = by_keys n m from flow side from_low in
      let in' = by_keys n m to flow side to_low in
      let left = total-add m (λ i. if side (from i) then flow i else 0) (λ i. if side (to i) && not (side (from i)) then flow i else 0) in
      let right = total-add m (λ i. if side (to i) then flow i else 0) (λ i. if side (from i) && not (side (to i)) then flow i else 0) in
      let each = total-same m (λ i. (if side (from i) then flow i else 0) + (if side (to i) && not (side (from i)) then flow i else 0)) (λ i. (if side (to i) then flow i else 0) + (if side (from i) && not (side (to i)) then flow i else 0)) (λ i _. either_way (side (from i)) (side (to i)) (flow i)) in
      omega (arith, out, in', left, right, each)

  -- nothing enters a closed side
  pub nothing_enters : (side : ℕ → Bool) → Closed m from to capacity flow side → leaving m to from flow side ≡ 0
  nothing_enters side closed = total-zero m (λ i. if side (to i) && not (side (from i)) then flow i else 0) each
    where
      each : (i : ℕ) → i < m → (if side (to i) && not (side (from i)) then flow i else 0) ≡ 0
      each i l = go (side (to i)) (side (from i)) (flow i) (closed i l).1
        where
          go : (a b : Bool) (x : ℕ) → (0 < x → a ≡ true → b ≡ true) → (if a && not b then x else 0) ≡ 0
          go true true x h = refl
          go true false x h = elim (cases_eq x 0) [ inl z ↦ z | inr ne ↦ cc (h (omega arith) refl) ]
          go false b x h = refl

  -- where no node of a closed side sends out more than it gets, each gets what it sends out
  pub closed_keeps : (side : ℕ → Bool) → Closed m from to capacity flow side → ((v : ℕ) → v < n → side v ≡ true → total m (λ i. if from i == v then flow i else 0) ≤ total m (λ i. if to i == v then flow i else 0)) → (v : ℕ) → v < n → side v ≡ true → total m (λ i. if from i == v then flow i else 0) ≡ total m (λ i. if to i == v then flow i else 0)
  closed_keeps side closed none v l e =
      sym (pick_true (side v) _ 0 e)
      ∙ total-tight n (λ v. if side v then total m (λ i. if from i == v then flow i else 0) else 0) (λ v. if side v then total m (λ i. if to i == v then flow i else 0) else 0) at_each
      (omega (arith, balance side, nothing_enters side closed)) v l
      ∙ pick_true (side v) _ 0 e
    where
      at_each : (v : ℕ) → v < n → (if side v then total m (λ i. if from i == v then flow i else 0) else 0) ≤ (if side v then total m (λ i. if to i == v then flow i else 0) else 0)
      at_each v l = elim (true_or_false (side v)) [
        | inl e ↦ rw (e) (none v l e)
        | inr e ↦ rw (e) (omega arith)
      ]

  module _ (fits : (i : ℕ) → i < m → flow i ≤ capacity i) where
    -- the flow out of a closed side is its weight
    pub closed_full : (side : ℕ → Bool) → Closed m from to capacity flow side → leaving m from to flow side ≡ leaving m from to capacity side
    closed_full side closed =
        total-same m (λ i. if side (from i) && not (side (to i)) then flow i else 0) (λ i. if side (from i) && not (side (to i)) then capacity i else 0)
        (λ i l. go i l (side (from i)) (side (to i)) (closed i l).0)
      where
        go : (i : ℕ) → i < m → (a b : Bool) → (flow i < capacity i → a ≡ true → b ≡ true) → (if a && not b then flow i else 0) ≡ (if a && not b then capacity i else 0)
        go i l true true h = refl
        go i l true false h =
            let within : flow i ≤ capacity i = fits i l in
            elim (cases_lt (flow i) (capacity i)) [ inl lt ↦ cc (h lt refl) | inr le ↦ omega arith ]
        go i l false b h = refl

    module _ (source sink : ℕ) (source_low : source < n) (kept : (v : ℕ) → v < n → v ≢ source → v ≢ sink → total m (λ i. if from i == v then flow i else 0) ≡ total m (λ i. if to i == v then flow i else 0)) where
      -- the value of a flow is what leaves any side less what enters it
      pub value_over : (side : ℕ → Bool) → side source ≡ true → side sink ≡ false → total m (λ i. if from i == source then flow i else 0) + leaving m to from flow side ≡ total m (λ i. if to i == source then flow i else 0) + leaving m from to flow side
      value_over side in_side out_side =
          let changed = total-change n (λ v. if side v then total m (λ i. if from i == v then flow i else 0) else 0) (λ v. if side v then total m (λ i. if to i == v then flow i else 0) else 0) source source_low others in
          let a = pick_true (side source) (total m (λ i. if from i == source then flow i else 0)) 0 in_side in
          let b = pick_true (side source) (total m (λ i. if to i == source then flow i else 0)) 0 in_side in
          omega (arith, balance side, changed, a, b)
        where
          others : (v : ℕ) → v < n → v ≢ source → (if side v then total m (λ i. if from i == v then flow i else 0) else 0) ≡ (if side v then total m (λ i. if to i == v then flow i else 0) else 0)
          others v l ne =
              elim (cases_eq v sink) [
                | inl e ↦
                    (let off : side v ≡ false = ap side e ∙ out_side in
                    rw (off) refl)
                | inr other ↦ rw (kept v l ne other) refl
              ]

      -- the weight of a closed side is the value of the flow
      pub value_of_closed : (side : ℕ → Bool) → side source ≡ true → side sink ≡ false → Closed m from to capacity flow side → total m (λ i. if from i == source then flow i else 0) ≡ total m (λ i. if to i == source then flow i else 0) + leaving m from to capacity side
      value_of_closed side a b closed = omega (arith, value_over side a b, closed_full side closed, nothing_enters side closed)

-- where the labelling is valid and no label is k, the nodes labelled above k are a closed side
pub gap_closed : (n m : ℕ) (from to capacity flow label : ℕ → ℕ) → ((i : ℕ) → i < m → from i < n) → ((i : ℕ) → i < m → to i < n) → ((i : ℕ) → i < m → (flow i < capacity i → label (from i) ≤ label (to i) + 1) × (0 < flow i → label (to i) ≤ label (from i) + 1)) → (k : ℕ) → ((v : ℕ) → v < n → label v ≢ k) → Closed m from to capacity flow (λ v. nat_lt k (label v))
gap_closed n m from to capacity flow label from_low to_low valid k missed i l = (
  λ has above. over (label (from i)) (label (to i)) (missed (to i) (to_low i l)) above ((valid i l).0 has),
  λ has above. over (label (to i)) (label (from i)) (missed (from i) (from_low i l)) above ((valid i l).1 has),
)
  where
    over : (a b : ℕ) → b ≢ k → nat_lt k a ≡ true → a ≤ b + 1 → nat_lt k b ≡ true
    over a b ne above near = grind (arith, nat_tests)
