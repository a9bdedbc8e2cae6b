-- A verdict holds: the causes are decidable, in order.
use Rattle.std.proofs.Common.{◌≡◌, ℕ, zero, suc, ◌+◌, ◌≤◌, ◌<◌, List, [], ◌∷◌, ◌++◌, cond, true, false, length, get_or, take, refl, sym, ap, ◌∙◌, subst, arith, ◌⊎◌, inl, inr, Option, Some, None}
use Rattle.std.specs.Prelude.{IfSome, find, is_some}
use Rattle.std.proofs.lemmas.Bool.{both_ways, cases_Bool, cases_eq, cases_lt}
use Rattle.std.proofs.lemmas.List.{get_or_default, get_or-take, length-take-le}
use Rattle.std.proofs.lemmas.Option.{slice_get-get_or}
use Rattle.cut_net.specs.declared.priced.Priced.{Priced}
use Rattle.cut_net.specs.Network.{Network}
use Rattle.cut_net.specs.AnswerClaim.{CutOf}
use Rattle.cut_net.specs.Cuts.{Outside, entering, leaving, have_equal_ends, weight}
use Rattle.cut_net.specs.Lines.{AreImportsInOrder, IsAscending, removed_by, flow_by}
use Rattle.cut_net.specs.Pins.{is_pinned, AreWeightsWithPins, IsRemovable}
use Rattle.cut_net.specs.WellFormed.{IsNetwork}
use Rattle.cut_net.proofs.Chains.{chain_or_none, outside_or_in}
use Rattle.cut_check.specs.Reaching.{any}
use Rattle.cut_check.specs.MatchedLines.{IsLineAt}
use Rattle.cut_check.specs.Verdicts.{AreConserved, AreImportLines, AreWithinWeights, HasCut, HasVerdict, IsFirstInvalidIn, IsUnbalanced}
use Rattle.cut_check.specs.declared.verdict.Verdict.TheVariants.{Yes, NoSuchImport, StillChain, WrongWeight, OverWeight, NotKept, WrongValue}
use Rattle.cut_check.proofs.Flows.{beyond}
use Rattle.cut_check.proofs.Matching.{Matching, matching_start, matching_more, matching_end}
use Rattle.cut_check.proofs.Parts.{read_modules, stray_at}

-- a fact that holds below n, or the first index where it doesn't
pub data Below (P : ℕ → Type 0) (n : ℕ) : Type 0 where
  everywhere : ((k : ℕ) → k < n → P k) → Below P n
  first_not : (k : ℕ) → k < n → (P k → ⊥) → ((j : ℕ) → j < k → P j) → Below P n

pub below : (P : ℕ → Type 0) → ((k : ℕ) → P k ⊎ (P k → ⊥)) → (n : ℕ) → Below P n
below P decide zero = everywhere (λ k h. absurd (omega arith))
below P decide (suc n) = elim (below P decide n) [
  | first_not k lt fails before ↦ first_not k (omega arith) fails before
  | everywhere all ↦ elim (decide n) [
    | inr fails ↦ first_not n (omega arith) fails all
    | inl holds ↦ everywhere (λ k lt. elim (cases_eq k n) [ inl e ↦ subst P (sym e) holds | inr ne ↦ all k (omega arith) ])
  ]
]

line_at : (i : Priced) (lines : List Priced) (next : ℕ) → (o : Option ℕ) × IsLineAt i lines next o
line_at i lines next = elim (cases_lt next (length lines)) [
  | inr le ↦ (None, λ d lt. absurd (omega arith))
  | inl lt ↦ elim (cases_Bool (have_equal_ends i (get_or lines next any))) [
    | inr differs ↦ (None, λ d _. ap (have_equal_ends i) (get_or_default lines next d any lt) ∙ differs)
    | inl same ↦ (
      Some (get_or lines next any).amount,
      (lt, λ d. (ap (have_equal_ends i) (get_or_default lines next d any lt) ∙ same, ap (λ (l : Priced). l.amount) (get_or_default lines next any d lt))),
    )
  ]
]

-- the first imports have gone by
record Passed (imports lines : List Priced) (k : ℕ) : Type 0 where
  next : ℕ
  found : List (Option ℕ)
  done : Matching imports lines k next found

passed : (imports lines : List Priced) → IsAscending imports → (k : ℕ) → k ≤ length imports → Passed imports lines k
passed imports lines ascending zero le = record { next = 0; found = []; done = matching_start imports lines }
passed imports lines ascending (suc k) le =
    let p = passed imports lines ascending k (omega arith) in
    let at = line_at (get_or imports k any) lines p.next in
    let more : k + 1 ≡ suc k = omega arith in
    record {
      next = p.next + cond (is_some at.0) 1 0;
      found = p.found ++ at.0 ∷ [];
      done = subst (λ n. Matching imports lines n (p.next + cond (is_some at.0) 1 0) (p.found ++ at.0 ∷ [])) more
          (matching_more imports lines k p.next p.found ascending p.done (omega arith) any at.0 at.1 _ refl _ refl);
    }

-- the lines are in order, or the first stray one
in_order_or_stray : (net : Network) (lines : List Priced) → IsAscending net.imports → (AreImportsInOrder net lines) ⊎ ((from : ℕ) × (to : ℕ) × IsFirstInvalidIn net lines from to)
in_order_or_stray net lines ascending =
    let p = passed net.imports lines ascending (length net.imports) (omega arith) in
    let matched = matching_end net lines p.next p.found p.done in
    elim (cases_lt p.next (length lines)) [
      | inr le ↦ inl (read_modules net lines p.next p.found matched le).in_order
      | inl lt ↦
          let line = get_or lines p.next any in
          inr (line.from, line.to, stray_at net lines p.next p.found matched line lt (get_or_default lines p.next any line lt))
    ]

module _ (net : Network) (a b : ℕ) (printed : List Priced) (total : ℕ) (flow : List Priced) (is_net : IsNetwork net) where
  at_end : AreConserved net a b (flow_by flow) → AreWithinWeights net (flow_by flow) → AreWeightsWithPins net printed total → HasCut net a b printed flow → HasVerdict net a b (CutOf total printed flow)
  at_end kept under weigh cut = elim (cases_eq (entering net.imports (flow_by flow) a + total) (leaving net.imports (flow_by flow) a)) [
    | inr wrong ↦ (WrongValue, (cut, weigh, under, kept, wrong))
    | inl value ↦ (
      Yes,
      record {
        printed_in_order = cut.read.printed_in_order;
        flow_in_order = cut.read.flow_in_order;
        cut = cut.no_chain;
        weights = weigh;
        is_flow = record {
          within = λ i c free. elim (cases_lt i.amount (flow_by flow i)) [ inl over ↦ absurd (under i c free over) | inr le ↦ le ];
          kept = λ m not_a not_b. elim (cases_eq (entering net.imports (flow_by flow) m) (leaving net.imports (flow_by flow) m)) [ inl e ↦ e | inr ne ↦ absurd (kept m (not_a, not_b, ne)) ];
          at_start = value;
        };
      },
    )
  ]

  -- a module is kept, or off
  KeptAt : ℕ → Type 0
  KeptAt m = IsUnbalanced net a b (flow_by flow) m → ⊥

  kept_or_off : (m : ℕ) → KeptAt m ⊎ (KeptAt m → ⊥)
  unfolding KeptAt
  kept_or_off m = elim (cases_eq m a) [
    | inl e ↦ inl (λ off. off.0 e)
    | inr not_a ↦ elim (cases_eq m b) [
      | inl e ↦ inl (λ off. off.1 e)
      | inr not_b ↦ elim (cases_eq (entering net.imports (flow_by flow) m) (leaving net.imports (flow_by flow) m)) [
        | inl e ↦ inl (λ off. off.2 e)
        | inr ne ↦ inr (λ kept. kept (not_a, not_b, ne))
      ]
    ]
  ]

  is_off : (m : ℕ) → (KeptAt m → ⊥) → IsUnbalanced net a b (flow_by flow) m
  unfolding KeptAt
  is_off m fails = (
    λ e. fails (λ off. off.0 e),
    λ e. fails (λ off. off.1 e),
    λ e. fails (λ off. off.2 e),
  )

  after_under : AreWithinWeights net (flow_by flow) → AreWeightsWithPins net printed total → HasCut net a b printed flow → HasVerdict net a b (CutOf total printed flow)
  unfolding KeptAt
  after_under under weigh cut = elim (below KeptAt kept_or_off (length net.names)) [
    | first_not m lt fails before ↦ (NotKept m, (cut, weigh, under, record { off = is_off m fails; least = before }))
    | everywhere all ↦ at_end (λ m off. elim (cases_lt m (length net.names)) [
      | inl lt ↦ all m lt off
      | inr le ↦ off.2 (beyond net (length net.names) (flow_by flow) is_net.between m le)
    ]) under weigh cut
  ]

  -- the import at an index has a flow within its weight, unless it is pinned
  UnderAt : ℕ → Type 0
  UnderAt k = is_pinned net (get_or net.imports k any) ≡ false → flow_by flow (get_or net.imports k any) ≤ (get_or net.imports k any).amount

  under_or_over : (k : ℕ) → UnderAt k ⊎ (UnderAt k → ⊥)
  unfolding UnderAt
  under_or_over k = elim (cases_Bool (is_pinned net (get_or net.imports k any))) [
    | inl pinned ↦ inl (λ free. absurd (both_ways _ free pinned))
    | inr free ↦ elim (cases_lt (get_or net.imports k any).amount (flow_by flow (get_or net.imports k any))) [ inl over ↦ inr (λ under. let le = under free in absurd (omega arith)) | inr le ↦ inl (λ _. le) ]
  ]

  under_here : (i : Priced) (k : ℕ) → get_or net.imports k any ≡ i → UnderAt k → is_pinned net i ≡ false → i.amount < flow_by flow i → ⊥
  unfolding UnderAt
  under_here i k e under free over = let le : flow_by flow i ≤ i.amount = subst (λ v. flow_by flow v ≤ v.amount) e (under (ap (is_pinned net) e ∙ free)) in absurd (omega arith)

  free_of : (k : ℕ) → (UnderAt k → ⊥) → is_pinned net (get_or net.imports k any) ≡ false
  unfolding UnderAt
  free_of k fails = elim (cases_Bool (is_pinned net (get_or net.imports k any))) [ inl pinned ↦ absurd (fails (λ free. absurd (both_ways _ free pinned))) | inr free ↦ free ]

  over_of : (k : ℕ) → (UnderAt k → ⊥) → (get_or net.imports k any).amount < flow_by flow (get_or net.imports k any)
  unfolding UnderAt
  over_of k fails = elim (cases_lt (get_or net.imports k any).amount (flow_by flow (get_or net.imports k any))) [ inl over ↦ over | inr le ↦ absurd (fails (λ _. le)) ]

  after_weights : AreWeightsWithPins net printed total → HasCut net a b printed flow → HasVerdict net a b (CutOf total printed flow)
  after_weights weigh cut = elim (below UnderAt under_or_over (length net.imports)) [
    | everywhere all ↦ after_under (λ i c. under_here i c.0 (get_or_default net.imports c.0 any i c.1 ∙ c.2) (all c.0 c.1)) weigh cut
    | first_not k lt fails before ↦
        let i = get_or net.imports k any in (
          OverWeight i.from i.to,
          (
            cut,
            weigh,
            record {
              index = k;
              import = i;
              at_index = slice_get-get_or net.imports k any lt;
              ends = (refl, refl);
              free = free_of k fails;
              over = over_of k fails;
              before = λ j c.
                  let len : length (take k net.imports) ≡ k = length-take-le k net.imports (omega arith) in
                  let in_take = c.1 in
                  let in_k : c.0 < k = omega arith in
                  under_here j c.0 (get_or_default net.imports c.0 any j (omega arith) ∙ sym (get_or-take k net.imports c.0 j in_k) ∙ c.2) (before c.0 in_k);
            },
          ),
        )
  ]

  -- the line of the import at an index, if it has one, has its weight
  WeightAt : ℕ → Type 0
  WeightAt k = IfSome (find (have_equal_ends (get_or net.imports k any)) printed) (λ line. line.amount ≡ (get_or net.imports k any).amount)

  if_some_or_not : (o : Option Priced) (w : ℕ) → (IfSome o (λ line. line.amount ≡ w)) ⊎ (IfSome o (λ line. line.amount ≡ w) → ⊥)
  if_some_or_not None w = inl tt
  if_some_or_not (Some line) w = elim (cases_eq line.amount w) [ inl e ↦ inl e | inr ne ↦ inr ne ]

  weight_or_not : (k : ℕ) → WeightAt k ⊎ (WeightAt k → ⊥)
  unfolding WeightAt
  weight_or_not k = if_some_or_not (find (have_equal_ends (get_or net.imports k any)) printed) (get_or net.imports k any).amount

  weight_here : (i : Priced) (k : ℕ) → get_or net.imports k any ≡ i → WeightAt k → IfSome (find (have_equal_ends i) printed) (λ line. line.amount ≡ i.amount)
  unfolding WeightAt
  weight_here i k e h = subst (λ v. IfSome (find (have_equal_ends v) printed) (λ line. line.amount ≡ v.amount)) e h

  -- the import at an index isn't both reported and pinned
  FreeAt : ℕ → Type 0
  FreeAt k = removed_by printed (get_or net.imports k any) ≡ true → is_pinned net (get_or net.imports k any) ≡ false

  free_or_not : (k : ℕ) → FreeAt k ⊎ (FreeAt k → ⊥)
  unfolding FreeAt
  free_or_not k = elim (cases_Bool (is_pinned net (get_or net.imports k any))) [
    | inr free ↦ inl (λ _. free)
    | inl pinned ↦ elim (cases_Bool (removed_by printed (get_or net.imports k any))) [
      | inr stays ↦ inl (λ has. absurd (both_ways _ stays has))
      | inl has ↦ inr (λ free. both_ways _ (free has) pinned)
    ]
  ]

  free_here : (i : Priced) (k : ℕ) → get_or net.imports k any ≡ i → FreeAt k → removed_by printed i ≡ true → is_pinned net i ≡ false
  unfolding FreeAt
  free_here i k e = subst (λ v. removed_by printed v ≡ true → is_pinned net v ≡ false) e

  not_free : (k : ℕ) → k < length net.imports → (FreeAt k → ⊥) → AreWeightsWithPins net printed total → ⊥
  unfolding FreeAt
  not_free k lt fails weigh = fails (weigh.removable (get_or net.imports k any) (k, lt, get_or_default net.imports k (get_or net.imports k any) any lt))

  after_removable : IsRemovable net (removed_by printed) → HasCut net a b printed flow → HasVerdict net a b (CutOf total printed flow)
  unfolding WeightAt
  after_removable free cut = elim (below WeightAt weight_or_not (length net.imports)) [
    | first_not k lt fails _ ↦ (WrongWeight, (cut, λ weigh. fails (weigh.each (get_or net.imports k any) (k, lt, get_or_default net.imports k (get_or net.imports k any) any lt))))
    | everywhere all ↦ elim (cases_eq total (weight net.imports (removed_by printed))) [
      | inr ne ↦ (WrongWeight, (cut, λ weigh. ne weigh.sum))
      | inl e ↦ after_weights (record { removable = free; each = λ i c. weight_here i c.0 (get_or_default net.imports c.0 any i c.1 ∙ c.2) (all c.0 c.1); sum = e }) cut
    ]
  ]

  after_cut : HasCut net a b printed flow → HasVerdict net a b (CutOf total printed flow)
  after_cut cut = elim (below FreeAt free_or_not (length net.imports)) [
    | first_not k lt fails _ ↦ (WrongWeight, (cut, not_free k lt fails))
    | everywhere all ↦ after_removable (λ i c. free_here i c.0 (get_or_default net.imports c.0 any i c.1 ∙ c.2) (all c.0 c.1)) cut
  ]

  pub some_verdict : HasVerdict net a b (CutOf total printed flow)
  some_verdict = elim (in_order_or_stray net printed is_net.imports_ascend) [
    | inr (from, to, stray) ↦ (NoSuchImport from to, inl stray)
    | inl printed_in_order ↦ elim (in_order_or_stray net flow is_net.imports_ascend) [
      | inr (from, to, stray) ↦ (NoSuchImport from to, inr (printed_in_order, stray))
      | inl flow_in_order ↦
          let read : AreImportLines net printed flow = record { printed_in_order = printed_in_order; flow_in_order = flow_in_order } in
          elim (chain_or_none net.imports (Outside (removed_by printed)) (outside_or_in (removed_by printed)) a b) [
            | inl chain ↦ (StillChain, (read, chain))
            | inr none ↦ after_cut (record { read = read; no_chain = none })
          ]
    ]
  ]
