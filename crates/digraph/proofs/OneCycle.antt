-- The canonical cycle is unique, and an acyclic graph has none.
use Rattle.std.proofs.Common.{◌≡◌, ℕ, zero, suc, ◌+◌, ◌-◌, ◌<◌, ◌≤◌, inl, inr, List, [], ◌∷◌, ◌++◌, length, refl, sym, ◌∙◌, ap, subst, arith, Bool, length-append, length-drop, take, drop}
use Rattle.std.specs.Prelude.{slice_index, nat_eq, All}
use Rattle.std.specs.List.{IsDistinct}
use Rattle.std.proofs.lemmas.Bool.{cases_Bool, cases_order, eq-eqb, false_from_ne_true, false≢true}
use Rattle.std.proofs.lemmas.Grind.{same_number_lists}
use Rattle.std.proofs.lemmas.List.{append-nil, get_or_append_left, get_or-drop, take-append-drop}
use Rattle.std.proofs.lemmas.List.Elements.{All-append, All-from_get_or}
use Rattle.std.proofs.lemmas.Map.Keys.{apart_from_distinct, IsDistinct-from_apart}
use Rattle.std.proofs.Math.Seq.{drop-append_seam, take-append_seam}
use Rattle.digraph.specs.Chains.{Chain, IsAcyclic}
use Rattle.digraph.specs.Cycle.{ClosesAt, IsCycleCore, IsLeast, IsSmallestSuccessor, IsRotated, IsWalk, IsCanonicalCycle}
use Rattle.digraph.proofs.Walks.{All-prefix, All-back}

-- two cycle cores have the same members
abbrev AreSame : (ℕ → Bool) → (ℕ → Bool) → Type 0
AreSame s t = (v : ℕ) → s v ≡ t v

transpose : (s t : ℕ → Bool) → AreSame s t → AreSame t s
transpose s t e v = sym (e v)

same_endlesss : (G : ℕ → ℕ → Type 0) (s t : ℕ → Bool) → IsCycleCore G s → IsCycleCore G t → AreSame s t
same_endlesss G s t a b v = elim (cases_Bool (s v)) [
  | inl e ↦ e ∙ sym (b.greatest s a.each v e)
  | inr e ↦ e ∙ sym (false_from_ne_true (t v) (λ h. false≢true (sym e ∙ a.greatest t b.each v h)))
]

same_least : (s t : ℕ → Bool) → AreSame s t → (v w : ℕ) → IsLeast s v → IsLeast t w → v ≡ w
same_least s t e v w a b =
    let up : v ≤ w = a.least w (e w ∙ b.member) in
    let down : w ≤ v = b.least v (sym (e v) ∙ a.member) in
    omega arith

same_next : (G : ℕ → ℕ → Type 0) (s t : ℕ → Bool) → AreSame s t → (v w x y : ℕ) → v ≡ x → IsSmallestSuccessor G s v w → IsSmallestSuccessor G t x y → w ≡ y
same_next G s t e v w x y same a b =
    let up : w ≤ y = a.least y (subst (λ (u : ℕ). G u y) (sym same) b.leads) (e y ∙ b.member) in
    let down : y ≤ w = b.least w (subst (λ (u : ℕ). G u w) same a.leads) (sym (e w) ∙ a.member) in
    omega arith

-- two walks agree as far as both go
together : (G : ℕ → ℕ → Type 0) (s t : ℕ → Bool) → AreSame s t → (xs ys : List ℕ) → IsWalk G s xs → IsWalk G t ys → (k : ℕ) → k < length xs → k < length ys
    → slice_index xs k ≡ slice_index ys k
together G s t e xs ys a b zero l m = same_least s t e (slice_index xs 0) (slice_index ys 0) (a.begins l) (b.begins m)
together G s t e xs ys a b (suc k) l m =
    let one : k + 1 ≡ suc k = omega arith in
    let before : slice_index xs k ≡ slice_index ys k = together G s t e xs ys a b k (omega arith) (omega arith) in
    subst (λ (n : ℕ). slice_index xs n ≡ slice_index ys n) one
    (same_next G s t e (slice_index xs k) (slice_index xs (k + 1)) (slice_index ys k) (slice_index ys (k + 1)) before (a.goes_on k (omega arith)) (b.goes_on k (omega arith)))

-- numbers at two different indices of a list without repeats differ
two_places : (xs : List ℕ) → IsDistinct nat_eq xs → (i j : ℕ) → i < j → j < length xs → slice_index xs i ≡ slice_index xs j → ⊥
two_places xs once i j lt l same = false≢true (sym (apart_from_distinct nat_eq xs i j 0 once lt l) ∙ eq-eqb (slice_index xs i) (slice_index xs j) same)

one_place : (xs : List ℕ) → IsDistinct nat_eq xs → (i j : ℕ) → i < length xs → j < length xs → slice_index xs i ≡ slice_index xs j → i ≡ j
one_place xs once i j l m same = elim (cases_order i j) [
  | inl e ↦ e
  | inr differs ↦ elim differs [
    | inl lt ↦ absurd (two_places xs once i j lt m same)
    | inr gt ↦ absurd (two_places xs once j i gt l (sym same))
  ]
]

-- a walk whose next node repeats doesn't continue
not_shorter : (G : ℕ → ℕ → Type 0) (s t : ℕ → Bool) → AreSame s t → (xs ys : List ℕ) (p : ℕ) → ClosesAt G s xs p → IsWalk G t ys → length xs < length ys → ⊥
not_shorter G s t e xs ys p a b lt =
    let n = length xs - 1 in
    let within : p < length xs = a.place in
    let last : n + 1 ≡ length xs = omega arith in
    let on : n + 1 < length ys = omega arith in
    let here : slice_index xs n ≡ slice_index ys n = together G s t e xs ys a.walked b n (omega arith) (omega arith) in
    let there : slice_index xs p ≡ slice_index ys p = together G s t e xs ys a.walked b p within (omega arith) in
    let next : slice_index xs p ≡ slice_index ys (n + 1) = same_next G s t e (slice_index xs n) (slice_index xs p) (slice_index ys n) (slice_index ys (n + 1)) here (a.back n last) (b.goes_on n on) in
    two_places ys b.once p (n + 1) (omega arith) on (sym there ∙ next)

same_length : (G : ℕ → ℕ → Type 0) (s t : ℕ → Bool) → AreSame s t → (xs ys : List ℕ) (p q : ℕ) → ClosesAt G s xs p → ClosesAt G t ys q → length xs ≡ length ys
same_length G s t e xs ys p q a b = elim (cases_order (length xs) (length ys)) [
  | inl same ↦ same
  | inr differs ↦ elim differs [
    | inl lt ↦ absurd (not_shorter G s t e xs ys p a b.walked lt)
    | inr gt ↦ absurd (not_shorter G t s (transpose s t e) ys xs q b a.walked gt)
  ]
]

same_walks : (G : ℕ → ℕ → Type 0) (s t : ℕ → Bool) → AreSame s t → (xs ys : List ℕ) (p q : ℕ) → ClosesAt G s xs p → ClosesAt G t ys q → xs ≡ ys
same_walks G s t e xs ys p q a b =
    let len : length xs ≡ length ys = same_length G s t e xs ys p q a b in
    same_number_lists xs ys len (λ k l. together G s t e xs ys a.walked b.walked k l (omega arith))

same_places : (G : ℕ → ℕ → Type 0) (s t : ℕ → Bool) → AreSame s t → (xs ys : List ℕ) (p q : ℕ) → ClosesAt G s xs p → ClosesAt G t ys q → p ≡ q
same_places G s t e xs ys p q a b =
    let len : length xs ≡ length ys = same_length G s t e xs ys p q a b in
    let lists : xs ≡ ys = same_walks G s t e xs ys p q a b in
    let n = length xs - 1 in
    let within : p < length xs = a.place in
    let within' : q < length ys = b.place in
    let last : n + 1 ≡ length xs = omega arith in
    let last' : n + 1 ≡ length ys = omega arith in
    let here : slice_index xs n ≡ slice_index ys n = ap (λ (l : List ℕ). slice_index l n) lists in
    let back : slice_index xs p ≡ slice_index ys q = same_next G s t e (slice_index xs n) (slice_index xs p) (slice_index ys n) (slice_index ys q) here (a.back n last) (b.back n last') in
    one_place xs a.walked.once p q within (omega arith) (back ∙ ap (λ (l : List ℕ). slice_index l q) (sym lists))

-- the index at which a list was rotated
record TurnedAt (loop rotated : List ℕ) (place : ℕ) : Type 0 where
  pub within : place < length loop
  pub is : rotated ≡ drop place loop ++ take place loop

turned_by : (loop rotated prefix rest : List ℕ) → 0 < length loop → loop ≡ prefix ++ rest → rotated ≡ rest ++ prefix → (place : ℕ) × TurnedAt loop rotated place
turned_by loop rotated prefix [] some whole rotate_to_min =
    let all : loop ≡ prefix = whole ∙ append-nil prefix in
    (0, record { within = some; is = rotate_to_min ∙ sym all ∙ sym (append-nil loop) })
turned_by loop rotated prefix (y ∷ ys) some whole rotate_to_min =
    let long : length loop ≡ length prefix + length (y ∷ ys) = ap length whole ∙ length-append prefix (y ∷ ys) in
    let back : drop (length prefix) loop ≡ y ∷ ys = ap (drop (length prefix)) whole ∙ drop-append_seam prefix (y ∷ ys) in
    let fore : take (length prefix) loop ≡ prefix = ap (take (length prefix)) whole ∙ take-append_seam prefix (y ∷ ys) in
    (length prefix, record { within = omega arith; is = rotate_to_min ∙ rw (back, fore) refl })

-- the rotated list begins with the element at that index
begins_at : (loop rotated : List ℕ) (place : ℕ) → TurnedAt loop rotated place → slice_index rotated 0 ≡ slice_index loop place
begins_at loop rotated place t =
    let within : place < length loop = t.within in
    let some : 0 < length (drop place loop) = (let e = length-drop place loop in omega arith) in
    ap (λ (l : List ℕ). slice_index l 0) t.is ∙ get_or_append_left (drop place loop) (take place loop) 0 0 some ∙ get_or-drop place loop 0 0 ∙ ap (slice_index loop) (omega arith)

-- a property of all elements of the rotated list holds for the list
loop_has : (P : ℕ → Type 0) (loop rotated : List ℕ) (place : ℕ) → TurnedAt loop rotated place → All P rotated → All P loop
loop_has P loop rotated place t all =
    let parts : All P (drop place loop ++ take place loop) = subst (All P) t.is all in
    let whole : All P (take place loop ++ drop place loop) = All-append P (take place loop) (drop place loop) (All-back P (drop place loop) (take place loop) parts) (All-prefix P (drop place loop) (take place loop) parts) in
    subst (All P) (take-append-drop place loop) whole

least_in_loop : (loop rotated : List ℕ) (place k : ℕ) → TurnedAt loop rotated place → ((j : ℕ) → j < length rotated → slice_index rotated 0 ≤ slice_index rotated j) → k < length loop
    → slice_index rotated 0 ≤ slice_index loop k
least_in_loop loop rotated place k t least l = loop_has (λ x. slice_index rotated 0 ≤ x) loop rotated place t (All-from_get_or (λ x. slice_index rotated 0 ≤ x) rotated 0 least) k 0 l

same_turns : (loop a b : List ℕ) → 0 < length loop → IsDistinct nat_eq loop → IsRotated loop a → IsRotated loop b → a ≡ b
same_turns loop a b some once s t = by (turned_by loop a s.prefix s.rest some s.whole s.rotate_to_min) (turned_by loop b t.prefix t.rest some t.whole t.rotate_to_min)
  where
    by : (p : ℕ) × TurnedAt loop a p → (q : ℕ) × TurnedAt loop b q → a ≡ b
    by (p, at) (q, bt) =
        let first : slice_index a 0 ≡ slice_index loop p = begins_at loop a p at in
        let other : slice_index b 0 ≡ slice_index loop q = begins_at loop b q bt in
        let up : slice_index a 0 ≤ slice_index loop q = least_in_loop loop a p q at s.least bt.within in
        let down : slice_index b 0 ≤ slice_index loop p = least_in_loop loop b q p bt t.least at.within in
        let same : slice_index loop p ≡ slice_index loop q = omega arith in
        let place : p ≡ q = one_place loop once p q at.within bt.within same in
        at.is ∙ ap (λ (k : ℕ). drop k loop ++ take k loop) place ∙ sym bt.is

rest_distinct : (xs : List ℕ) (p : ℕ) → IsDistinct nat_eq xs → IsDistinct nat_eq (drop p xs)
rest_distinct xs p once = IsDistinct-from_apart nat_eq (drop p xs) (λ i j d lt l.
    let inside : p + j < length xs = (let e = length-drop p xs in omega arith) in
    rw (get_or-drop p xs i d, get_or-drop p xs j d) (apart_from_distinct nat_eq xs (p + i) (p + j) d once (omega arith) inside))

-- the canonical cycle is unique
pub cycle_is_unique : (G : ℕ → ℕ → Type 0) (a b : List ℕ) → IsCanonicalCycle G a → IsCanonicalCycle G b → a ≡ b
cycle_is_unique G a b s t =
    let e : AreSame s.core_nodes t.core_nodes = same_endlesss G s.core_nodes t.core_nodes s.is_core t.is_core in
    let walks : s.walk ≡ t.walk = same_walks G s.core_nodes t.core_nodes e s.walk t.walk s.place t.place s.closes_at t.closes_at in
    let places : s.place ≡ t.place = same_places G s.core_nodes t.core_nodes e s.walk t.walk s.place t.place s.closes_at t.closes_at in
    let loops : drop t.place t.walk ≡ drop s.place s.walk = ap (λ (l : List ℕ). drop t.place l) (sym walks) ∙ ap (λ (k : ℕ). drop k s.walk) (sym places) in
    let within : s.place < length s.walk = s.closes_at.place in
    let some : 0 < length (drop s.place s.walk) = (let l = length-drop s.place s.walk in omega arith) in
    same_turns (drop s.place s.walk) a b some (rest_distinct s.walk s.place s.closes_at.walked.once) s.rotated (subst (λ (l : List ℕ). IsRotated l b) loops t.rotated)

-- a walk is a path
walk_chain : (G : ℕ → ℕ → Type 0) (s : ℕ → Bool) (walk : List ℕ) → IsWalk G s walk → (d k : ℕ) → k + d < length walk
    → Chain G (slice_index walk k) (slice_index walk (k + d))
walk_chain G s walk w zero k l = ([], ap (slice_index walk) (let e : k ≡ k + 0 = omega arith in e))
walk_chain G s walk w (suc d) k l =
    let rest = walk_chain G s walk w d (k + 1) (omega arith) in
    let next = w.goes_on k (omega arith) in
    let end : k + 1 + d ≡ k + suc d = omega arith in
    subst (λ (n : ℕ). Chain G (slice_index walk k) (slice_index walk n)) end (slice_index walk (k + 1) ∷ rest.0, (next.leads, rest.1))

-- a canonical cycle is a cycle of the graph
pub cyclic : (G : ℕ → ℕ → Type 0) (cycle : List ℕ) → IsCanonicalCycle G cycle → IsAcyclic G → ⊥
cyclic G cycle c acyclic =
    let n = length c.walk - 1 in
    let p = c.place in
    let within : p < length c.walk = c.closes_at.place in
    let last : n + 1 ≡ length c.walk = omega arith in
    let end : p + (n - p) ≡ n = omega arith in
    acyclic (slice_index c.walk n) (slice_index c.walk p) (c.closes_at.back n last).leads
    (subst (λ (m : ℕ). Chain G (slice_index c.walk p) (slice_index c.walk m)) end (walk_chain G c.core_nodes c.walk c.closes_at.walked (n - p) p (omega arith)))
