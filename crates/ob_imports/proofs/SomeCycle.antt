-- Finitely many edges are acyclic or have a canonical cycle.
use Rattle.std.proofs.Common.{◌≡◌, ℕ, zero, suc, ◌+◌, ◌<◌, ◌≤◌, ◌⊎◌, inl, inr, List, [], ◌∷◌, ◌++◌, length, refl, sym, ◌∙◌, ap, subst, arith, Bool, true, false, not, ◌&&◌, Option, Some, None, length-append, take, drop}
use Rattle.std.specs.Prelude.{slice_index, slice_set, nat_eq, nat_lt, replicate, Contains}
use Rattle.std.specs.List.{list_any}
use Rattle.std.proofs.lemmas.Bool.{and_from, and_parts, cases_Bool, cases_lt, false≢true, ltb-true, lt-ltb}
use Rattle.std.proofs.lemmas.List.{length-set, length-drop}
use Rattle.std.proofs.lemmas.Map.Views.{exact_unsigned_eq, Contains-from_any, list_any-from_Contains}
use Rattle.std.proofs.lemmas.Cmp.{nat_eq_equiv}
use Rattle.digraph.specs.declared.edge.Edge.{Edge}
use Rattle.digraph.specs.Chains.{IsAcyclic}
use Rattle.digraph.specs.Cycle.{ClosesAt, EachLeadsToMember, IsCycleCore, IsLeast, IsSmallestSuccessor, IsRotated, IsCanonicalCycle}
use Rattle.digraph.specs.Edges.{successors, AreBetween, Leads}
use Rattle.digraph.specs.Marks.{marked}
use Rattle.digraph.proofs.Successors.{successor}
use Rattle.digraph.proofs.Loops.{acyclic_without_endless}
use Rattle.digraph.proofs.Members.{first_or_later}
use Rattle.digraph.proofs.Parents.{some_or_none}
use Rattle.digraph.proofs.Walks.{index_in, turned_at, walking_back, walking_first, walking_length, walking_more, Walking}

-- ---- searches

-- the smallest number below the bound that passes, or none
pub record IsFirst (p : ℕ → Bool) (m v : ℕ) : Type 0 where
  pub within : v < m
  pub passes : p v ≡ true
  pub first : (u : ℕ) → u < v → p u ≡ false

pub found : (p : ℕ → Bool) (m : ℕ) → ((v : ℕ) × IsFirst p m v) ⊎ ((v : ℕ) → v < m → p v ≡ false)
found p zero = inr (λ v l. absurd (omega arith))
found p (suc m) = elim (found p m) [
  | inl (v, h) ↦ inl (v, record { within = (let l = h.within in omega arith); passes = h.passes; first = h.first })
  | inr none ↦ elim (cases_Bool (p m)) [
    | inl t ↦ inl (m, record { within = omega arith; passes = t; first = none })
    | inr f ↦ inr (λ v l. elim (cases_lt v m) [
      | inl less ↦ none v less
      | inr le ↦ let e : m ≡ v = omega arith in subst (λ (u : ℕ). p u ≡ false) e f
    ])
  ]
]

passing : (s : ℕ → Bool) (xs : List ℕ) → list_any s xs ≡ true → (x : ℕ) × Contains xs x × (s x ≡ true)
passing s [] t = absurd (false≢true t)
passing s (x ∷ xs) t = elim (cases_Bool (s x)) [
  | inl here ↦ (x, (0, omega arith, refl), here)
  | inr f ↦ let (y, (k, l, is), h) = passing s xs (rw f at t) in (y, (suc k, omega arith, is), h)
]

passes : (s : ℕ → Bool) (xs : List ℕ) (x : ℕ) → Contains xs x → s x ≡ true → list_any s xs ≡ true
passes s [] x (k, l, is) t = absurd (omega arith)
passes s (y ∷ xs) x has t = elim (cases_Bool (s y)) [
  | inl here ↦ rw here refl
  | inr f ↦ elim (first_or_later y xs x has) [
    | inl same ↦ absurd (false≢true (sym f ∙ ap s same ∙ t))
    | inr later ↦ rw f (passes s xs x later t)
  ]
]

-- ---- how many members are below a bound

one_if : Bool → ℕ
one_if true = 1
one_if false = 0

count : (ℕ → Bool) → ℕ → ℕ
count s zero = 0
count s (suc m) = count s m + one_if (s m)

one_less : (a b : Bool) → (a ≡ true → b ≡ true) → one_if a ≤ one_if b
unfolding one_if
one_less true b h = rw (h refl) (omega arith)
one_less false true h = omega arith
one_less false false h = omega arith

one_more : (a b : Bool) → a ≡ false → b ≡ true → one_if a < one_if b
unfolding one_if
one_more false true e h = omega arith
one_more false false e h = absurd (false≢true h)
one_more true b e h = absurd (false≢true (sym e))

fewer : (s t : ℕ → Bool) (m : ℕ) → ((u : ℕ) → t u ≡ true → s u ≡ true) → count t m ≤ count s m
unfolding count
fewer s t zero under = omega arith
fewer s t (suc m) under = let rest = fewer s t m under in let bit = one_less (t m) (s m) (under m) in omega arith

less : (s t : ℕ → Bool) (m v : ℕ) → ((u : ℕ) → t u ≡ true → s u ≡ true) → v < m → s v ≡ true → t v ≡ false → count t m < count s m
unfolding count
less s t zero v under l in_s out_t = absurd (omega arith)
less s t (suc m) v under l in_s out_t = elim (cases_lt v m) [
  | inl below ↦ let rest = less s t m v under below in_s out_t in let bit = one_less (t m) (s m) (under m) in omega arith
  | inr le ↦
      let e : v ≡ m = omega arith in
      let rest = fewer s t m under in
      let bit = one_more (t m) (s m) (subst (λ (u : ℕ). t u ≡ false) e out_t) (subst (λ (u : ℕ). s u ≡ true) e in_s) in
      omega arith
]

---- the index of the smallest element of a list

cons_least : (x m : ℕ) (xs : List ℕ) → m ≤ x → ((k : ℕ) → k < length xs → m ≤ slice_index xs k) → (k : ℕ) → k < length (x ∷ xs) → m ≤ slice_index (x ∷ xs) k
cons_least x m xs le rest zero l = le
cons_least x m xs le rest (suc k) l = rest k (omega arith)

least_place : (xs : List ℕ) → 0 < length xs → (p : ℕ) × (p < length xs) × ((k : ℕ) → k < length xs → slice_index xs p ≤ slice_index xs k)
least_place [] l = absurd (omega arith)
least_place (x ∷ []) l = (0, l, cons_least x x [] (omega arith) (λ k h. absurd (omega arith)))
least_place (x ∷ y ∷ ys) l =
    let (p, within, least) = least_place (y ∷ ys) (omega arith) in
    elim (cases_lt (slice_index (y ∷ ys) p) x) [
      | inl under ↦ (suc p, omega arith, cons_least x (slice_index (y ∷ ys) p) (y ∷ ys) (omega arith) least)
      | inr le ↦ (0, l, cons_least x x (y ∷ ys) (omega arith) (λ k h. let m = least k h in omega arith))
    ]

-- a list that is rotated to begin at its smallest number
rotated : (loop : List ℕ) → 0 < length loop → (cycle : List ℕ) × IsRotated loop cycle
rotated loop some =
    let (p, within, least) = least_place loop some in
    (drop p loop ++ take p loop, turned_at loop (drop p loop ++ take p loop) p within least refl)

---- the nodes from which paths are infinite, and a walk among them

all_marked : (n v : ℕ) → v < n → marked (replicate n true) v ≡ true
all_marked zero v l = absurd (omega arith)
all_marked (suc n) zero l = refl
all_marked (suc n) (suc v) l = all_marked n v (omega arith)

replicated : {X : Type 0} (n : ℕ) (x : X) → length (replicate n x) ≡ n
replicated zero x = refl
replicated (suc n) x = ap suc (replicated n x)

module _ (edges : List Edge) (n : ℕ) (between : AreBetween edges n) where
  on : (ℕ → Bool) → ℕ → Bool
  on s v = list_any s (successors edges v)

  goes_on : (s : ℕ → Bool) (v : ℕ) → on s v ≡ true → (w : ℕ) × Leads edges v w × (s w ≡ true)
  unfolding on
  goes_on s v t = let (w, has, member) = passing s (successors edges v) t in (w, (successor edges v w).0 has, member)

  is_on : (s : ℕ → Bool) (v w : ℕ) → Leads edges v w → s w ≡ true → on s v ≡ true
  unfolding on
  is_on s v w leads member = passes s (successors edges v) w ((successor edges v w).1 leads) member

  stays : (a b : Bool) → a ≡ true → (a && not b) ≡ false → b ≡ true
  stays true true e f = refl
  stays true false e f = absurd (false≢true (sym f))
  stays false b e f = absurd (false≢true e)

  parts : (a b : Bool) → (a && not b) ≡ true → (a ≡ true) × (b ≡ false)
  parts true true e = absurd (false≢true e)
  parts true false e = (refl, refl)
  parts false b e = absurd (false≢true e)

  both_false : (a b : Bool) → b ≡ false → (a && b) ≡ false
  both_false true b e = e
  both_false false b e = refl

  record CycleCore : Type 0 where
    set : ℕ → Bool
    is : IsCycleCore (Leads edges) set
    within : (v : ℕ) → set v ≡ true → v < n

  abbrev Holds : (ℕ → Bool) → Type 0
  Holds s = (t : ℕ → Bool) → EachLeadsToMember (Leads edges) t → (v : ℕ) → t v ≡ true → s v ≡ true

  -- the members that lead to a member
  left : (ℕ → Bool) → ℕ → Bool
  left s v = s v && on s v

  done : (s : ℕ → Bool) → ((v : ℕ) → s v ≡ true → v < n) → Holds s → ((v : ℕ) → v < n → (s v && not (on s v)) ≡ false) → CycleCore
  done s within all none = record {
    set = s;
    is = record { each = λ v member. goes_on s v (stays (s v) (on s v) member (none v (within v member))); greatest = all };
    within = within;
  }

  left_holds : (s : ℕ → Bool) → Holds s → Holds (left s)
  unfolding left
  left_holds s all t each u member =
      let (w, leads, is) = each u member in
      and_from (s u) (on s u) (all t each u member) (is_on s u w leads (all t each w is))

  left_under : (s : ℕ → Bool) (u : ℕ) → left s u ≡ true → s u ≡ true
  unfolding left
  left_under s u t = (and_parts (s u) (on s u) t).0

  left_without : (s : ℕ → Bool) (v : ℕ) → on s v ≡ false → left s v ≡ false
  unfolding left
  left_without s v out = both_false (s v) (on s v) out

  -- nodes that lead to no member are removed until none is left
  settled : (fuel : ℕ) (s : ℕ → Bool) → count s n ≤ fuel → ((v : ℕ) → s v ≡ true → v < n) → Holds s → CycleCore
  settled zero s few within all = elim (found (λ v. s v && not (on s v)) n) [
    | inr none ↦ done s within all none
    | inl (v, h) ↦
        let (in_s, out) = parts (s v) (on s v) h.passes in
        let some = less s (left s) n v (left_under s) h.within in_s (left_without s v out) in
        absurd (omega arith)
  ]
  settled (suc fuel) s few within all = elim (found (λ v. s v && not (on s v)) n) [
    | inr none ↦ done s within all none
    | inl (v, h) ↦
        let (in_s, out) = parts (s v) (on s v) h.passes in
        let some = less s (left s) n v (left_under s) h.within in_s (left_without s v out) in
        settled fuel (left s) (omega arith) (λ u t. within u (left_under s u t)) (left_holds s all)
  ]

  core_nodes : CycleCore
  core_nodes = settled (count first n) first (omega arith) (λ v t. ltb-true v n t) (λ t each v member. let (w, leads, is) = each v member in lt-ltb v n (between (record { from = v; to = w }) leads).0)
    where
      first : ℕ → Bool
      first v = nat_lt v n

  module _ (e : CycleCore) where
    next : (v : ℕ) → e.set v ≡ true → (w : ℕ) × IsSmallestSuccessor (Leads edges) e.set v w
    next v member = elim (found (λ w. e.set w && list_any (nat_eq w) (successors edges v)) n) [
      | inl (w, h) ↦
          let both = and_parts (e.set w) (list_any (nat_eq w) (successors edges v)) h.passes in (
            w,
            record {
              leads = (successor edges v w).0 (Contains-from_any exact_unsigned_eq w (successors edges v) both.1);
              member = both.0;
              least = λ u leads is. elim (cases_lt u w) [
                | inl under ↦ absurd (false≢true (sym (h.first u under) ∙ and_from (e.set u) (list_any (nat_eq u) (successors edges v)) is (list_any-from_Contains nat_eq_equiv u (successors edges v) ((successor edges v u).1 leads))))
                | inr le ↦ le
              ];
            },
          )
      | inr none ↦
          let (w, leads, is) = e.is.each v member in
          absurd (false≢true (sym (none w (e.within w is)) ∙ and_from (e.set w) (list_any (nat_eq w) (successors edges v)) is (list_any-from_Contains nat_eq_equiv w (successors edges v) ((successor edges v w).1 leads))))
    ]

    record Returns : Type 0 where
      walk : List ℕ
      place : ℕ
      back : ClosesAt (Leads edges) e.set walk place

    walked : (fuel : ℕ) (walk : List ℕ) (table : List (Option ℕ)) (at : ℕ) → Walking (Leads edges) e.set walk table at → length table ≡ n → n < length walk + fuel → Returns
    walked zero walk table at w size room =
        let long : length walk ≤ length (replicate n true) = walking_length (replicate n true) walk w.walked.once (λ k l. all_marked n (slice_index walk k) (e.within (slice_index walk k) (w.members k l))) in
        let same = replicated n true in
        absurd (omega arith)
    walked (suc fuel) walk table at w size room =
        let here : at < length table = (let l = e.within at w.member in omega arith) in
        let (y, is_next) = next at w.member in
        elim (some_or_none (index_in (slice_set table at (Some (length walk))) y)) [
          | inl (k, met) ↦ record { walk = walk ++ at ∷ []; place = k; back = walking_back (Leads edges) e.set walk table at w y k here is_next met }
          | inr unmet ↦
              let long : length (walk ++ at ∷ []) ≡ length walk + 1 = length-append walk (at ∷ []) in
              let kept = length-set table at (Some (length walk)) in
              walked fuel (walk ++ at ∷ []) (slice_set table at (Some (length walk))) y (walking_more (Leads edges) e.set walk table at w y here is_next unmet) (omega arith) (omega arith)
        ]

    named : (v : ℕ) → IsLeast e.set v → (cycle : List ℕ) × IsCanonicalCycle (Leads edges) cycle
    named v least =
        let r = walked (suc n) [] (replicate n None) v (walking_first (Leads edges) e.set (replicate n None) n v refl least) (replicated n None) (omega arith) in
        let loop = drop r.place r.walk in
        let within : r.place < length r.walk = r.back.place in
        let some : 0 < length loop = (let l = length-drop r.place r.walk in omega arith) in
        let (cycle, turn) = rotated loop some in
        (cycle, record { core_nodes = e.set; is_core = e.is; walk = r.walk; place = r.place; closes_at = r.back; rotated = turn })

    decided : IsAcyclic (Leads edges) ⊎ ((cycle : List ℕ) × IsCanonicalCycle (Leads edges) cycle)
    decided = elim (found e.set n) [
      | inl (v, h) ↦ inr (named v (record {
        member = h.passes;
        least = λ u is. elim (cases_lt u v) [
          | inl under ↦ absurd (false≢true (sym (h.first u under) ∙ is))
          | inr le ↦ le
        ];
      }))
      | inr none ↦ inl (acyclic_without_endless (Leads edges) e.set e.is (λ v is. false≢true (sym (none v (e.within v is)) ∙ is)))
    ]

  pub acyclic_or_has_cycle : IsAcyclic (Leads edges) ⊎ ((cycle : List ℕ) × IsCanonicalCycle (Leads edges) cycle)
  acyclic_or_has_cycle = decided core_nodes
