-- A push and a relabel preserve the invariant, stated over functions.
use Rattle.std.proofs.Common.{◌≡◌, ◌≢◌, ℕ, ◌+◌, ◌*◌, ◌<◌, ◌≤◌, inl, inr, true, ◌==◌, if◌then◌else◌, nat_lt, refl, sym, ap, ◌∙◌, subst, arith}
use Rattle.std.proofs.lemmas.Bool.{cases_lt, cases_eq}
use Rattle.std.proofs.lemmas.Bool.Decides.{nat_tests}
use Rattle.cut_preflow.specs.Total.{total}
use Rattle.cut_preflow.proofs.Choices.{choice_same, choice_other}
use Rattle.cut_preflow.proofs.Totals.{total-change, total-gap}
use Rattle.cut_preflow.proofs.Cuts.{closed_keeps, gap_closed}

-- what the flow on one import, raised by an amount, is to a sum by key
pub by_key_raised : (m : ℕ) (key flow raised : ℕ → ℕ) (i amount : ℕ) → i < m → raised i ≡ flow i + amount → ((j : ℕ) → j < m → j ≢ i → raised j ≡ flow j) → (v : ℕ) → total m (λ j. if key j == v then raised j else 0) ≡ total m (λ j. if key j == v then flow j else 0) + (if key i == v then amount else 0)
by_key_raised m key flow raised i amount l here others v =
    let changed = total-change m (λ j. if key j == v then raised j else 0) (λ j. if key j == v then flow j else 0) i l (λ j lj ne. rw (others j lj ne) refl) in
    elim (cases_eq (key i) v) [
      | inl e ↦ omega (arith, changed, choice_same (key i) v (raised i) 0 e, choice_same (key i) v (flow i) 0 e, choice_same (key i) v amount 0 e)
      | inr ne ↦ omega (arith, changed, choice_other (key i) v (raised i) 0 ne, choice_other (key i) v (flow i) 0 ne, choice_other (key i) v amount 0 ne)
    ]

abbrev pub entered : (m : ℕ) (to flow : ℕ → ℕ) → ℕ → ℕ
entered m to flow v = total m (λ i. if to i == v then flow i else 0)

-- no arc with residual leads down by more than one
abbrev pub Valid : (m : ℕ) (from to capacity flow label : ℕ → ℕ) → Type 0
Valid m from to capacity flow label =
    (i : ℕ) → i < m → (flow i < capacity i → label (from i) ≤ label (to i) + 1) × (0 < flow i → label (to i) ≤ label (from i) + 1)

-- no node but the source sends out more than enters it
abbrev pub NoDebt : (n m : ℕ) (from to flow : ℕ → ℕ) (source : ℕ) → Type 0
NoDebt n m from to flow source = (v : ℕ) → v < n → v ≢ source → entered m from flow v ≤ entered m to flow v

module _ (n m : ℕ) (from to capacity low high : ℕ → ℕ) (i amount : ℕ) (il : i < m) (raised : high i ≡ low i + amount) (others : (j : ℕ) → j < m → j ≢ i → high j ≡ low j) (source : ℕ) where
  -- a push along an import, from the lower flow to the higher
  pub along_no_debt : NoDebt n m from to low source → entered m from low (from i) + amount ≤ entered m to low (from i) → NoDebt n m from to high source
  along_no_debt kept room v l ne =
      let out = by_key_raised m from low high i amount il raised others v in
      let in' = by_key_raised m to low high i amount il raised others v in
      let before : entered m from low v ≤ entered m to low v = kept v l ne in
      elim (cases_eq (from i) v) [
        | inl e ↦
            (let here : entered m from low v + amount ≤ entered m to low v = subst (λ x. entered m from low x + amount ≤ entered m to low x) e room in
            omega (arith, out, in', choice_same (from i) v amount 0 e))
        | inr other ↦ omega (arith, out, in', choice_other (from i) v amount 0 other)
      ]

  -- a push back along an import, from the higher flow to the lower
  pub back_no_debt : NoDebt n m from to high source → entered m from high (to i) + amount ≤ entered m to high (to i) → NoDebt n m from to low source
  back_no_debt kept room v l ne =
      let out = by_key_raised m from low high i amount il raised others v in
      let in' = by_key_raised m to low high i amount il raised others v in
      let before : entered m from high v ≤ entered m to high v = kept v l ne in
      elim (cases_eq (to i) v) [
        | inl e ↦
            (let here : entered m from high v + amount ≤ entered m to high v = subst (λ x. entered m from high x + amount ≤ entered m to high x) e room in
            omega (arith, out, in', choice_same (to i) v amount 0 e))
        | inr other ↦ omega (arith, out, in', choice_other (to i) v amount 0 other)
      ]

  pub along_fits : ((j : ℕ) → j < m → low j ≤ capacity j) → low i + amount ≤ capacity i → (j : ℕ) → j < m → high j ≤ capacity j
  along_fits fits room j l = elim (cases_eq j i) [
    | inl e ↦ subst (λ x. high x ≤ capacity x) (sym e) (omega arith)
    | inr ne ↦ (let same : high j ≡ low j = others j l ne in let was : low j ≤ capacity j = fits j l in omega arith)
  ]

  pub back_fits : ((j : ℕ) → j < m → high j ≤ capacity j) → (j : ℕ) → j < m → low j ≤ capacity j
  back_fits fits j l = elim (cases_eq j i) [
    | inl e ↦ subst (λ x. low x ≤ capacity x) (sym e) (let was : high i ≤ capacity i = fits i il in omega arith)
    | inr ne ↦ (let same : high j ≡ low j = others j l ne in let was : high j ≤ capacity j = fits j l in omega arith)
  ]

  pub along_valid : (label : ℕ → ℕ) → Valid m from to capacity low label → low i < capacity i → label (from i) ≡ label (to i) + 1 → Valid m from to capacity high label
  along_valid label valid room step j l = elim (cases_eq j i) [
    | inl e ↦ subst (λ x. (high x < capacity x → label (from x) ≤ label (to x) + 1) × (0 < high x → label (to x) ≤ label (from x) + 1)) (sym e) ((λ _. omega arith), (λ _. omega arith))
    | inr ne ↦
        (let same : high j ≡ low j = others j l ne in
        ((λ has. (valid j l).0 (omega arith)), (λ has. (valid j l).1 (omega arith))))
  ]

  pub back_valid : (label : ℕ → ℕ) → Valid m from to capacity high label → label (to i) ≡ label (from i) + 1 → Valid m from to capacity low label
  back_valid label valid step j l = elim (cases_eq j i) [
    | inl e ↦ subst (λ x. (low x < capacity x → label (from x) ≤ label (to x) + 1) × (0 < low x → label (to x) ≤ label (from x) + 1)) (sym e) ((λ _. omega arith), (λ _. omega arith))
    | inr ne ↦
        (let same : high j ≡ low j = others j l ne in
        ((λ has. (valid j l).0 (omega arith)), (λ has. (valid j l).1 (omega arith))))
  ]

-- a node raised to one more than the least label that its arcs with residual lead to
pub relabel_valid : (m : ℕ) (from to capacity flow label raised : ℕ → ℕ) (v least : ℕ) → Valid m from to capacity flow label → label v ≤ least → raised v ≡ least + 1 → ((w : ℕ) → w ≢ v → raised w ≡ label w) → ((i : ℕ) → i < m → (from i ≡ v → flow i < capacity i → least ≤ label (to i)) × (to i ≡ v → 0 < flow i → least ≤ label (from i))) → Valid m from to capacity flow raised
relabel_valid m from to capacity flow label raised v least valid up here others lowest i l =
    ((λ has. go (from i) (to i) ((valid i l).0 has) (λ e. (lowest i l).0 e has)), (λ has. go (to i) (from i) ((valid i l).1 has) (λ e. (lowest i l).1 e has)))
  where
    risen : (x : ℕ) → label x ≤ raised x
    risen x = elim (cases_eq x v) [
      | inl e ↦ subst (λ y. label y ≤ raised y) (sym e) (omega arith)
      | inr ne ↦ omega (arith, others x ne)
    ]

    go : (a b : ℕ) → label a ≤ label b + 1 → (a ≡ v → least ≤ label b) → raised a ≤ raised b + 1
    go a b near down = elim (cases_eq a v) [
      | inl e ↦
          (let at_v : raised a ≡ least + 1 = ap raised e ∙ here in
          omega (arith, down e, risen b))
      | inr ne ↦ omega (arith, others a ne, risen b)
    ]

-- in a state with a valid labelling no node with excess has a label of twice the number of nodes
pub active_low : (n m : ℕ) (from to capacity flow label : ℕ → ℕ) → ((i : ℕ) → i < m → from i < n) → ((i : ℕ) → i < m → to i < n) → Valid m from to capacity flow label → (source : ℕ) → source < n → NoDebt n m from to flow source → label source ≡ n → (v : ℕ) → v < n → entered m from flow v < entered m to flow v → label v < 2 * n
active_low n m from to capacity flow label from_low to_low valid source sl no_debt top v l more =
    elim (cases_lt (label v) (2 * n)) [ inl lt ↦ lt | inr le ↦ absurd (impossible le (total-gap n label n)) ]
  where
    impossible : 2 * n ≤ label v → (k : ℕ) × (n ≤ k) × (k ≤ n + n) × ((x : ℕ) → x < n → label x ≢ k) → ⊥
    impossible le w =
        let here : label v ≢ w.0 = w.3 v l in
        let above : nat_lt w.0 (label v) ≡ true = lt_true w.0 (label v) (omega (arith, w.2)) in
        let closed = gap_closed n m from to capacity flow label from_low to_low valid w.0 w.3 in
        let even : entered m from flow v ≡ entered m to flow v =
        closed_keeps n m from to capacity flow from_low to_low (λ x. nat_lt w.0 (label x)) closed (λ x lx e. no_debt x lx (not_source x e)) v l above in
        omega arith
      where
        lt_true : (a b : ℕ) → a < b → nat_lt a b ≡ true
        lt_true a b h = grind (arith, nat_tests)

        lt_from : (a b : ℕ) → nat_lt a b ≡ true → a < b
        lt_from a b h = grind (arith, nat_tests)

        not_source : (x : ℕ) → nat_lt w.0 (label x) ≡ true → x ≢ source
        not_source x e q =
            let lt : w.0 < label x = lt_from w.0 (label x) e in
            let is : label x ≡ label source = ap label q in
            omega (arith, w.1)
