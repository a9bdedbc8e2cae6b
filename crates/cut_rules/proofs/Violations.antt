-- Violations of some rules, one list after the other.
use Rattle.std.proofs.Common.{◌≡◌, ◌≢◌, ◌∙◌, ◌+◌, ◌-◌, ◌<◌, ◌≤◌, ◌||◌, ◌⊎◌, ℕ, Bool, inl, inr, List, [], ◌∷◌, ◌++◌, Ordering, length, get_or, refl, sym, ap, subst, arith, length-append}
use Rattle.std.specs.Prelude.{AllPairs, Contains, not}
use Rattle.std.specs.Cmp.Lexicographic.{slice_cmp, nat_list_cmp_total}
use Rattle.std.specs.Ordering.{nat_cmp, ordering_reverse}
use Rattle.std.specs.declared.cmp.Ordering.TheVariants.{Less, Equal, Greater}
use Rattle.std.proofs.Math.Seq.{get_or-append_right}
use Rattle.std.proofs.lemmas.Bool.{cases_eq, cases_lt}
use Rattle.std.proofs.lemmas.List.{get_or_append_left}
use Rattle.std.proofs.lemmas.List.Elements.{Contains-append_cases, Contains-append_left, Contains-append_right, Contains-get_or}
use Rattle.std.proofs.lemmas.Map.Lookups.{exact_bytes}
use Rattle.digraph.proofs.Members.{first_member, no_member, one_member}
use Rattle.digraph.specs.ShortestPaths.{IsLeastOf}
use Rattle.cut_net.specs.Network.{Network}
use Rattle.cut_rules.specs.declared.file.File.{File}
use Rattle.cut_rules.specs.Judged.{AreViolationsBelow, AreRuleViolations}
use Rattle.cut_rules.specs.Verdicts.{is_none, AreViolations, Breaks, ComesBefore, IsViolation, Violation}
use Rattle.cut_rules.proofs.Fronts.{front_of, one_list}

-- ---- one path

neither : (o p : Ordering) → o ≡ ordering_reverse p → o ≢ Greater → p ≢ Greater → o ≡ Equal
neither o Less e first second = absurd (first e)
neither o Equal e first second = e
neither o Greater e first second = absurd (second refl)

pub one_least : (Are : List ℕ → Type 0) (a b : List ℕ) → IsLeastOf Are a → IsLeastOf Are b → a ≡ b
one_least Are a b first second =
    let low = first.fewest b second.is_chain in
    let high = second.fewest a first.is_chain in
    let before = first.least b second.is_chain (omega arith) in
    let after = second.least a first.is_chain (omega arith) in
    exact_bytes a b (neither (slice_cmp nat_cmp a b) (slice_cmp nat_cmp b a) (nat_list_cmp_total.antisymm a b) before after)

-- what is the least of some lists is that of the same ones
pub least_as : (Are Those : List ℕ → Type 0) → ((path : List ℕ) → Are path → Those path) → ((path : List ℕ) → Those path → Are path) → (path : List ℕ) → IsLeastOf Are path → IsLeastOf Those path
least_as Are Those to back path is = record {
  is_chain = to path is.is_chain;
  fewest = λ other other_is. is.fewest other (back other other_is);
  least = λ other other_is long. is.least other (back other other_is) long;
}

-- ---- lists

pub all_pairs_append : {X : Type 0} (R : X → X → Type 0) (xs ys : List X) → AllPairs R xs → AllPairs R ys → ((x y : X) → Contains xs x → Contains ys y → R x y) → AllPairs R (xs ++ ys)
all_pairs_append {X} R xs ys first second both i j d lt l =
    let long = length-append xs ys in
    elim (cases_lt j (length xs)) [
      | inl low ↦ rw (get_or_append_left xs ys d i (omega arith), get_or_append_left xs ys d j low) (first i j d lt low)
      | inr high ↦ elim (cases_lt i (length xs)) [
        | inl low ↦ rw (get_or_append_left xs ys d i low, get_or-append_right xs ys j d high) (both (get_or xs i d) (get_or ys (j - length xs) d) (Contains-get_or xs i d low) (Contains-get_or ys (j - length xs) d (omega arith)))
        | inr late ↦ rw (get_or-append_right xs ys i d late, get_or-append_right xs ys j d high) (second (i - length xs) (j - length xs) d (omega arith) (omega arith))
      ]
    ]

pub any_more : {X : Type 0} (first more : List X) (a b : Bool) → a ≡ not (is_none first) → b ≡ not (is_none more) → (a || b) ≡ not (is_none (first ++ more))
any_more [] more a b e f = rw e f
any_more (x ∷ first) more a b e f = rw e refl

pub before_apart : (v w : Violation) → ComesBefore v w → ComesBefore w v → ⊥
before_apart v w first second = elim first [
  | inl l ↦ elim second [ inl m ↦ omega arith | inr e ↦ (let f = e.0 in omega arith) ]
  | inr d ↦ (let f = d.0 in let g = d.1 in elim second [ inl m ↦ omega arith | inr e ↦ (let h = e.1 in omega arith) ])
]

module _ (net : Network) (files : List File) (pieces : List (List ℕ)) where
  -- ---- the violations of one rule

  pub none_between : (line low : ℕ) → AreRuleViolations net files pieces line low low []
  none_between line low = record {
    each = λ v has. no_member v has;
    all = λ k path above below breaks. absurd (omega arith);
    least = λ v has. no_member v has;
    ascending = λ i j d lt l. absurd (omega arith);
  }

  pub none_here : (line k : ℕ) → ((path : List ℕ) → Breaks net files pieces line k path → ⊥) → AreRuleViolations net files pieces line k (k + 1) []
  none_here line k none = record {
    each = λ v has. no_member v has;
    all = λ j path above below breaks. absurd (none path (subst (λ (n : ℕ). Breaks net files pieces line n path) (omega arith) breaks));
    least = λ v has. no_member v has;
    ascending = λ i j d lt l. absurd (omega arith);
  }

  pub one_here : (v : Violation) → IsViolation net files pieces v → AreRuleViolations net files pieces v.line v.import_number (v.import_number + 1) (v ∷ [])
  one_here v is = record {
    each = λ w has.
        let same = one_member v w has in
        subst (λ (u : Violation). IsViolation net files pieces u × (u.line ≡ v.line) × (u.import_number < v.import_number + 1)) same (is, refl, omega arith);
    all = λ j path above below breaks. (v, first_member v [] v refl, omega arith);
    least = λ w has. let same = ap (λ (u : Violation). u.import_number) (one_member v w has) in omega arith;
    ascending = λ i j d lt l. absurd (omega arith);
  }

  pub of_rule_joined : (line low mid high : ℕ) (first more : List Violation) → low ≤ mid → mid ≤ high → AreRuleViolations net files pieces line low mid first → AreRuleViolations net files pieces line mid high more → AreRuleViolations net files pieces line low high (first ++ more)
  of_rule_joined line low mid high first more above below a b = record {
    each = λ v has. elim (Contains-append_cases first more v has) [
      | inl old ↦ let (is, at, less) = a.each v old in (is, at, omega arith)
      | inr new ↦ b.each v new
    ];
    all = λ k path least less breaks. elim (cases_lt k mid) [
      | inl early ↦ let (v, old, e) = a.all k path least early breaks in (v, Contains-append_left first more v old, e)
      | inr late ↦ let (v, new, e) = b.all k path late less breaks in (v, Contains-append_right first more v new, e)
    ];
    least = λ v has. elim (Contains-append_cases first more v has) [
      | inl old ↦ a.least v old
      | inr new ↦ let least = b.least v new in omega arith
    ];
    ascending = all_pairs_append ComesBefore first more a.ascending b.ascending (λ v w old new.
        let (is, at, less) = a.each v old in
        let (is2, at2, less2) = b.each w new in
        let least = b.least w new in
        inr (at ∙ sym at2, omega arith));
  }

  -- ---- the violations of the rules before a line

  pub none_below : AreViolationsBelow net files pieces 0 []
  none_below = record {
    each = λ v has. no_member v has;
    all = λ line k path less breaks. absurd (omega arith);
    ascending = λ i j d lt l. absurd (omega arith);
  }

  -- no rule is between these lines
  abbrev pub IsGap : ℕ → ℕ → Type 0
  IsGap bound line = (l k : ℕ) (path : List ℕ) → bound ≤ l → l < line → Breaks net files pieces l k path → ⊥

  -- with those of the first imports of the next rule
  module _ (bound line high : ℕ) (first more : List Violation) (gap : IsGap bound line) (above : bound ≤ line) (a : AreViolationsBelow net files pieces bound first) (b : AreRuleViolations net files pieces line 0 high more) where
    pub ascend : AllPairs ComesBefore (first ++ more)
    ascend = all_pairs_append ComesBefore first more a.ascending b.ascending (λ v w old new.
        let (is, less) = a.each v old in
        let (is2, at, less2) = b.each w new in
        inl (omega arith))

    pub each_is : (v : Violation) → Contains (first ++ more) v → IsViolation net files pieces v × (v.line < line + 1)
    each_is v has = elim (Contains-append_cases first more v has) [
      | inl old ↦ let (is, less) = a.each v old in (is, omega arith)
      | inr new ↦ let (is, at, less) = b.each v new in (is, omega arith)
    ]

    -- a violation is among them, if it is of an earlier line or of one of these imports
    pub present : (l k : ℕ) (path : List ℕ) → (l < line) ⊎ ((l ≡ line) × (k < high)) → Breaks net files pieces l k path → (v : Violation) × Contains (first ++ more) v × (v.line ≡ l) × (v.import_number ≡ k)
    present l k path (inl less) breaks = elim (cases_lt l bound) [
      | inl low ↦ let (v, old, at, e) = a.all l k path low breaks in (v, Contains-append_left first more v old, at, e)
      | inr late ↦ absurd (gap l k path late less breaks)
    ]
    present l k path (inr (same, less)) breaks =
        let (v, new, e) = b.all k path (omega arith) less (subst (λ (n : ℕ). Breaks net files pieces n k path) same breaks) in
        (v, Contains-append_right first more v new, (b.each v new).1 ∙ sym same, e)

  pub below_more : (bound line : ℕ) (first more : List Violation) → IsGap bound line → bound ≤ line → AreViolationsBelow net files pieces bound first → AreRuleViolations net files pieces line 0 (length net.imports) more → AreViolationsBelow net files pieces (line + 1) (first ++ more)
  below_more bound line first more gap above a b = record {
    each = each_is bound line (length net.imports) first more gap above a b;
    all = λ l k path less breaks. present bound line (length net.imports) first more gap above a b l k path (elim (cases_eq l line) [ inl e ↦ inr (e, breaks.within) | inr ne ↦ inl (omega (arith, ne)) ]) breaks;
    ascending = ascend bound line (length net.imports) first more gap above a b;
  }

  -- no rule has a later line
  pub all_below : (bound : ℕ) (vs : List Violation) → ((l k : ℕ) (path : List ℕ) → Breaks net files pieces l k path → l < bound) → AreViolationsBelow net files pieces bound vs → AreViolations net files pieces vs
  all_below bound vs none a = record {
    each = λ v has. (a.each v has).0;
    all = λ line k path breaks. a.all line k path (none line k path breaks) breaks;
    ascending = a.ascending;
  }

  -- ---- one list

  -- of a rule and an import there is one violation
  pub one_violation : (v w : Violation) → IsViolation net files pieces v → IsViolation net files pieces w → v.line ≡ w.line → v.import_number ≡ w.import_number → v ≡ w
  one_violation v w first second line number =
      let own : IsLeastOf (Breaks net files pieces w.line w.import_number) v.path =
      subst (λ (l : ℕ). IsLeastOf (Breaks net files pieces l w.import_number) v.path) line (subst (λ (k : ℕ). IsLeastOf (Breaks net files pieces v.line k) v.path) number first) in
      let path = one_least (Breaks net files pieces w.line w.import_number) v.path w.path own second in
      λ i. record { line = line i; import_number = number i; path = path i }

  -- what breaks a rule is in the list
  pub in_violations : (vs : List Violation) → AreViolations net files pieces vs → (v : Violation) → IsViolation net files pieces v → Contains vs v
  in_violations vs elements v is =
      let (w, has, line, number) = elements.all v.line v.import_number v.path is.is_chain in
      subst (Contains vs) (one_violation w v (elements.each w has) is line number) has

  pub violations_are_unique : (vs ws : List Violation) → AreViolations net files pieces vs → AreViolations net files pieces ws → vs ≡ ws
  violations_are_unique vs ws first second =
      one_list ComesBefore before_apart vs ws first.ascending second.ascending (λ v has. in_violations ws second v (first.each v has)) (λ w has. in_violations vs first w (second.each w has))

  -- those of the earlier rules and of the first imports of the next are the first of all
  pub first_of_all : (bound line high : ℕ) (first more whole : List Violation) → IsGap bound line → bound ≤ line → AreViolationsBelow net files pieces bound first → AreRuleViolations net files pieces line 0 high more → AreViolations net files pieces whole
      → (rest : List Violation) × (whole ≡ (first ++ more) ++ rest)
  first_of_all bound line high first more whole gap above a b elements =
      front_of ComesBefore before_apart (first ++ more) whole (ascend bound line high first more gap above a b) elements.ascending
      (λ v has. in_violations whole elements v (each_is bound line high first more gap above a b v has).0)
      (λ v w has in_whole before.
      let (own, low) = each_is bound line high first more gap above a b v has in
      let is = elements.each w in_whole in
      let (u, found, at, e) = present bound line high first more gap above a b w.line w.import_number w.path (reach v w has before) is.is_chain in
      subst (Contains (first ++ more)) (one_violation u w (each_is bound line high first more gap above a b u found).0 is at e) found)
    where
      reach : (v w : Violation) → Contains (first ++ more) v → ComesBefore w v → (w.line < line) ⊎ ((w.line ≡ line) × (w.import_number < high))
      reach v w has before = elim (Contains-append_cases first more v has) [
        | inl old ↦ let (is, less) = a.each v old in inl (elim before [ inl l ↦ omega arith | inr e ↦ (let f = e.0 in omega arith) ])
        | inr new ↦ let (is, at, less) = b.each v new in elim before [
          | inl l ↦ inl (omega arith)
          | inr e ↦ let f = e.0 in let g = e.1 in inr (omega arith, omega arith)
        ]
      ]
