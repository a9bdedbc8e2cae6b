-- Look-up in an index whose entries are sorted by key and then by index.
use Rattle.std.proofs.Common.{◌≡◌, ℕ, zero, suc, ◌+◌, ◌<◌, ◌≤◌, List, [], ◌∷◌, ◌++◌, length, map, get_or, Bool, true, false, Option, Some, None, refl, sym, ap, ◌∙◌, subst, arith, ◌⊎◌, inl, inr, Ordering, append_assoc, append-nil, take}
use Rattle.std.specs.Prelude.{min, Contains, IfSome, IfNone, position, slice_get, IsPermutation, find, nat_lt}
use Rattle.std.specs.List.{position_or_len}
use Rattle.std.specs.Option.{option_and_then, option_map, option_to_list}
use Rattle.std.proofs.lemmas.List.Elements.{Contains-append_cases, Contains-append_left, Contains-append_right}
use Rattle.std.specs.List.Sorted.{IsPartitionPoint, IsPartitionedBy, IsNonDecreasingBy}
use Rattle.std.specs.Ordering.{nat_cmp, ordering_then, ordering_index, is_lt, is_eq, on, then_cmp}
use Rattle.std.specs.declared.cmp.Ordering.TheVariants.{Less, Equal, Greater}
use Rattle.std.specs.Cmp.{IsTotalOrder}
use Rattle.std.proofs.lemmas.Bool.{cases_lt}
use Rattle.std.proofs.lemmas.Bool.Decides.{nat_tests}
use Rattle.std.proofs.lemmas.Cmp.{nat_cmp_total, on_total, then_total, tied_itself}
use Rattle.std.proofs.lemmas.List.Sorted.{searchable_from_sorted, Contains-permutation, IsPermutation-sym}
use Rattle.std.proofs.lemmas.List.Sums.{position_or_len_is}
use Rattle.std.proofs.lemmas.List.Folds.{find_at}
use Rattle.std.proofs.lemmas.Map.Lookups.{CmpEqualImpliesEq}
use Rattle.std.proofs.lemmas.Option.{slice_get_within, slice_get-get_or, get_or_from_slice_get, slice_get-map, slice_get_past}
use Rattle.std.proofs.lemmas.List.{length-take, take_more}
use Rattle.ob_interface.specs.IndexEntries.{AreRanked, IsSmallestIndex, Fits, HasEntry, Indexes, entries_from}

not_true : (b : Bool) → (b ≡ true → ⊥) → b ≡ false
not_true true h = absurd (h refl)
not_true false h = refl

less_index : (o : Ordering) (n : ℕ) → ordering_index (ordering_then o (nat_cmp n 0)) ≤ 0 → is_lt o ≡ true
less_index Less n h = refl
less_index Equal n h = grind (arith, nat_tests)
less_index Greater n h = absurd (omega (arith, h))

less_first : (o q : Ordering) → is_lt o ≡ true → ordering_index (ordering_then o q) ≤ 0
less_first Less q h = omega arith
less_first Equal q h = cc
less_first Greater q h = cc

equal_index : (o : Ordering) → o ≡ Equal → ordering_index o ≤ 1
equal_index o e = rw e (omega arith)

rank_le : (o : Ordering) (m n : ℕ) → is_lt o ≡ false → ordering_index (ordering_then o (nat_cmp m n)) ≤ 1 → (o ≡ Equal) × (m ≤ n)
rank_le Less m n h l = cc
rank_le Equal m n h l = (refl, grind (arith, nat_tests))
rank_le Greater m n h l = absurd (omega (arith, l))

-- the entries of smaller keys end here
abbrev pub IsEndOfSmaller : {E K : Type 0} → (K → K → Ordering) → (E → K) → List E → K → ℕ → Type 0
IsEndOfSmaller R key es k i = IsPartitionPoint (λ e. is_lt (R (key e) k) ≡ true) (λ e. is_lt (R (key e) k) ≡ false) es i

module _ {E K : Type 0} {R : K → K → Ordering} (total : IsTotalOrder R) (exact : CmpEqualImpliesEq R) (key : E → K) (index : E → ℕ) where
  abbrev pub Ranked : Type 0
  Ranked = K × ℕ

  abbrev pub both : E → Ranked
  both e = (key e, index e)

  abbrev pub rank : Ranked → Ranked → Ordering
  rank = then_cmp (on (λ (p : Ranked). p.0) R) (on (λ (p : Ranked). p.1) nat_cmp)

  pub rank_total : IsTotalOrder rank
  rank_total = then_total (on_total (λ (p : Ranked). p.0) total) (on_total (λ (p : Ranked). p.1) nat_cmp_total)

  rises : (es : List E) (x : Ranked) → AreRanked R key index es → IsNonDecreasingBy (λ e. ordering_index (rank (both e) x)) es
  rises es x s = searchable_from_sorted rank_total both es x s

  -- the entries with smaller keys form a prefix
  pub partitioned : (es : List E) (k : K) → AreRanked R key index es → IsPartitionedBy (λ e. is_lt (R (key e) k)) es
  partitioned es k s i j d le l h =
      let up : ordering_index (rank (both (get_or es i d)) (k, 0)) ≤ ordering_index (rank (both (get_or es j d)) (k, 0)) = rises es (k, 0) s i j d le l in
      let low : ordering_index (rank (both (get_or es j d)) (k, 0)) ≤ 0 = less_first (R (key (get_or es j d)) k) _ h in
      less_index (R (key (get_or es i d)) k) (index (get_or es i d)) (omega arith)

  -- after the smaller keys comes the entry of the key with the smallest index
  pub record StandsAt (es : List E) (k : K) (i n : ℕ) : Type 0 where
    pub within : i < length es
    pub has : (d : E) → key (get_or es i d) ≡ k
    pub least : (d : E) → index (get_or es i d) ≤ n

  pub stands : (es : List E) (k : K) (i : ℕ) → AreRanked R key index es → IsEndOfSmaller R key es k i → (e : E) → Contains es e → key e ≡ k → StandsAt es k i (index e)
  stands es k i s point e (j, l, is) same = record { within = omega (arith, before, l); has = λ d. exact _ _ (here d).0; least = λ d. (here d).1 }
    where
      equal : R (key e) k ≡ Equal
      equal = ap (λ (y : K). R y k) same ∙ tied_itself total k

      equal_at : (d : E) → R (key (get_or es j d)) k ≡ Equal
      equal_at d = ap (λ (y : E). R (key y) k) (get_or_from_slice_get es j e d (slice_get-get_or es j e l ∙ ap (λ (y : E). Some y) is)) ∙ equal

      behind : (j < i) ⊎ (i ≤ j) → i ≤ j
      behind (inr h) = h
      behind (inl h) = absurd (let f : is_lt (R (key (get_or es j e)) k) ≡ true = point.0 j e (omega arith) h in let g : is_lt Equal ≡ true = sym (ap is_lt (equal_at e)) ∙ f in cc)

      before : i ≤ j
      before = behind (cases_lt j i)

      here : (d : E) → (R (key (get_or es i d)) k ≡ Equal) × (index (get_or es i d) ≤ index e)
      here d =
          let x : Ranked = (k, index e) in
          let up : ordering_index (rank (both (get_or es i d)) x) ≤ ordering_index (rank (both (get_or es j d)) x) = rises es x s i j d before l in
          let eq : get_or es j d ≡ e = get_or_from_slice_get es j e d (slice_get-get_or es j e l ∙ ap (λ (y : E). Some y) is) in
          let tie : rank (both (get_or es j d)) x ≡ Equal = ap (λ (y : E). rank (both y) x) eq ∙ ap (λ (y : K). rank (y, index e) x) same ∙ tied_itself rank_total x in
          let one : ordering_index (rank (both (get_or es j d)) x) ≤ 1 = equal_index _ tie in
          rank_le (R (key (get_or es i d)) k) (index (get_or es i d)) (index e) (point.1 i d (omega arith) (omega (arith, before, l))) (omega arith)

  -- so a look-up there finds the smallest index
  pub found : (es : List E) (k : K) (i : ℕ) (d : E) → AreRanked R key index es → IsEndOfSmaller R key es k i → i < length es → is_eq (R (key (get_or es i d)) k) ≡ true
      → IsSmallestIndex key index es k (index (get_or es i d))
  found es k i d s point l e = record {
    entry = get_or es i d;
    among = (i, l, refl_at);
    has = exact _ _ (is_equal _ e);
    at = refl;
    least = λ f c same. (stands es k i s point f c same).least d;
  }
    where
      is_equal : (o : Ordering) → is_eq o ≡ true → o ≡ Equal
      is_equal Less h = cc
      is_equal Equal h = refl
      is_equal Greater h = cc

      refl_at : get_or es i (get_or es i d) ≡ get_or es i d
      refl_at = get_or_from_slice_get es i (get_or es i d) (get_or es i d) (slice_get-get_or es i d l)

  pub none_beyond : (es : List E) (k : K) (i : ℕ) → AreRanked R key index es → IsEndOfSmaller R key es k i → length es ≤ i → (e : E) → Contains es e → key e ≡ k → ⊥
  none_beyond es k i s point l e c same = let h = (stands es k i s point e c same).within in omega (arith, h, l)

  pub none_there : (es : List E) (k : K) (i : ℕ) (d : E) → AreRanked R key index es → IsEndOfSmaller R key es k i → is_eq (R (key (get_or es i d)) k) ≡ false
      → (e : E) → Contains es e → key e ≡ k → ⊥
  none_there es k i d s point differs e c same =
      let h : key (get_or es i d) ≡ k = (stands es k i s point e c same).has d in
      let f : R (key (get_or es i d)) k ≡ Equal = ap (λ (y : K). R y k) h ∙ tied_itself total k in
      let g : true ≡ false = sym (ap is_eq f) ∙ differs in
      cc

-- ---- from the entries to the list

position_is : {X : Type 0} (p : X → Bool) (xs : List X) (i : ℕ) (x : X) → slice_get xs i ≡ Some x → p x ≡ true → ((j : ℕ) (y : X) → j < i → slice_get xs j ≡ Some y → p y ≡ true → ⊥) → position p xs ≡ Some i
position_is {X} p xs i x there is none =
    let l : i < length xs = slice_get_within xs i x there in
    let same : get_or xs i x ≡ x = get_or_from_slice_get xs i x x there in
    let so : position_or_len p xs ≡ i = position_or_len_is p xs i x (omega (arith, l)) (λ j h. not_true _ (none j (get_or xs j x) h (slice_get-get_or xs j x (omega (arith, l, h))))) (λ _. ap p same ∙ is) in
    rw so (grind (arith, nat_tests))

position_not : {X : Type 0} (p : X → Bool) (xs : List X) → ((j : ℕ) (y : X) → slice_get xs j ≡ Some y → p y ≡ true → ⊥) → position p xs ≡ None
position_not {X} p [] none = refl
position_not {X} p (x ∷ xs) none =
    let so : position_or_len p (x ∷ xs) ≡ length (x ∷ xs) = position_or_len_is p (x ∷ xs) (length (x ∷ xs)) x (omega arith) (λ j h. not_true _ (none j (get_or (x ∷ xs) j x) (slice_get-get_or (x ∷ xs) j x h))) (λ h. absurd (omega (arith, h))) in
    rw so (grind (arith, nat_tests))

-- a look-up by an index finds the index of the first element that fits
pub first_fit : {E K X : Type 0} (key : E → K) (index : E → ℕ) (fits : K → X → Bool) (xs : List X) (es : List E) → Indexes key index fits xs es → (k : K) (r : Option ℕ) → IfSome r (IsSmallestIndex key index es k)
    → IfNone r ((e : E) → Contains es e → key e ≡ k → ⊥) → r ≡ position (fits k) xs
first_fit {E} {K} {X} key index fits xs es x k (Some p) h nothing =
    let f : Fits fits xs (key h.entry) (index h.entry) = x.sound h.entry h.among in
    sym (position_is (fits k) xs p f.element (ap (λ (i : ℕ). slice_get xs i) (sym h.at) ∙ f.there) (ap (λ (y : K). fits y f.element) (sym h.has) ∙ f.so) (λ j y l there so.
    let e : HasEntry key index es k j = x.complete k j (record { element = y; there = there; so = so }) in
    let m : p ≤ index e.entry = h.least e.entry e.among e.has in
    let b = e.before in
    omega (arith, l, m, b)))
first_fit {E} {K} {X} key index fits xs es x k None h nothing =
    sym (position_not (fits k) xs (λ j y there so.
    let e : HasEntry key index es k j = x.complete k j (record { element = y; there = there; so = so }) in
    nothing e.entry e.among e.has))

-- the first element that fits is the one with the first index that fits
pub find_first : {X : Type 0} (p : X → Bool) (xs : List X) → find p xs ≡ option_and_then (slice_get xs) (position p xs)
find_first {X} p xs = find_at p xs ∙ go (cases_lt (position_or_len p xs) (length xs))
  where
    go : (position_or_len p xs < length xs) ⊎ (length xs ≤ position_or_len p xs) → slice_get xs (position_or_len p xs) ≡ option_and_then (slice_get xs) (position p xs)
    go (inl l) = let t : nat_lt (position_or_len p xs) (length xs) ≡ true = grind (arith, nat_tests) in rw t refl
    go (inr l) = let t : nat_lt (position_or_len p xs) (length xs) ≡ false = grind (arith, nat_tests) in rw t (slice_get_past xs (position_or_len p xs) l)

-- ---- entries of elements

entry_in : {E X : Type 0} (f : X → ℕ → Option E) (n : ℕ) (xs : List X) (i : ℕ) (x : X) (e : E) → slice_get xs i ≡ Some x → f x (n + i) ≡ Some e → Contains (entries_from f n xs) e
entry_in {E} {X} f n [] i x e there is = cc
entry_in {E} {X} f n (y ∷ ys) zero x e there is =
    let h : y ≡ x = let g : Some y ≡ Some x = there in cc in
    let z : n + 0 ≡ n = omega arith in
    let o : f y n ≡ Some e = ap (λ (v : X). f v n) h ∙ ap (f x) (sym z) ∙ is in
    Contains-append_left (option_to_list (f y n)) (entries_from f (n + 1) ys) e (subst (λ (v : Option E). Contains (option_to_list v) e) (sym o) (0, omega arith, refl))
entry_in {E} {X} f n (y ∷ ys) (suc i) x e there is =
    let z : n + 1 + i ≡ n + suc i = omega arith in
    Contains-append_right (option_to_list (f y n)) (entries_from f (n + 1) ys) e (entry_in f (n + 1) ys i x e there (ap (f x) z ∙ is))

-- an entry is that of an element
pub record IsEntry {E X : Type 0} (f : X → ℕ → Option E) (n : ℕ) (xs : List X) (e : E) : Type 0 where
  pub index : ℕ
  pub element : X
  pub there : slice_get xs index ≡ Some element
  pub is : f element (n + index) ≡ Some e

only_one : {E : Type 0} (o : Option E) (e : E) → Contains (option_to_list o) e → o ≡ Some e
only_one None e (k, l, h) = absurd (omega (arith, l))
only_one (Some v) e (zero, l, h) = ap (λ (u : _). Some u) h
only_one (Some v) e (suc k, l, h) = absurd (omega (arith, l))

entry_of : {E X : Type 0} (f : X → ℕ → Option E) (n : ℕ) (xs : List X) (e : E) → Contains (entries_from f n xs) e → IsEntry f n xs e
entry_of {E} {X} f n [] e (k, l, h) = absurd (omega (arith, l))
entry_of {E} {X} f n (x ∷ xs) e c = go (entry_of f (n + 1) xs e) (Contains-append_cases (option_to_list (f x n)) (entries_from f (n + 1) xs) e c)
  where
    go : (Contains (entries_from f (n + 1) xs) e → IsEntry f (n + 1) xs e) → Contains (option_to_list (f x n)) e ⊎ Contains (entries_from f (n + 1) xs) e → IsEntry f n (x ∷ xs) e
    go more (inl h) = let z : n + 0 ≡ n = omega arith in record { index = 0; element = x; there = refl; is = ap (f x) z ∙ only_one (f x n) e h }
    go more (inr h) =
        let r : IsEntry f (n + 1) xs e = more h in
        let z : n + suc r.index ≡ n + 1 + r.index = omega arith in
        record { index = suc r.index; element = r.element; there = r.there; is = ap (f r.element) z ∙ r.is }

-- one more element
pub entries_more : {E X : Type 0} (f : X → ℕ → Option E) (n : ℕ) (xs : List X) (x : X) → entries_from f n (xs ++ x ∷ []) ≡ entries_from f n xs ++ option_to_list (f x (n + length xs))
entries_more {E} {X} f n [] x = let z : n ≡ n + 0 = omega arith in ap (λ (m : ℕ). option_to_list (f x m) ++ []) z ∙ append-nil (option_to_list (f x (n + 0)))
entries_more {E} {X} f n (y ∷ ys) x =
    let z : n + 1 + length ys ≡ n + length (y ∷ ys) = omega arith in
    ap (λ (t : List E). option_to_list (f y n) ++ t) (entries_more f (n + 1) ys x ∙ ap (λ (m : ℕ). entries_from f (n + 1) ys ++ option_to_list (f x m)) z)
    ∙ sym (append_assoc (option_to_list (f y n)) (entries_from f (n + 1) ys) (option_to_list (f x (n + length (y ∷ ys)))))

-- the entry of an element has its index and a key that it fits, and every key that it fits has an entry
pub record Enters {E K X Y : Type 0} (key : E → K) (index : E → ℕ) (fits : K → X → Bool) (f : Y → ℕ → Option E) (decode : Y → X) : Type 0 where
  pub at : (y : Y) (p : ℕ) (e : E) → f y p ≡ Some e → index e ≡ p
  pub own : (y : Y) (p : ℕ) (e : E) → f y p ≡ Some e → fits (key e) (decode y) ≡ true
  pub only : (k : K) (y : Y) (p : ℕ) → fits k (decode y) ≡ true → (e : E) × (f y p ≡ Some e) × (key e ≡ k)

-- the entries of the elements, in any order, index the decoded list
pub indexed : {E K X Y : Type 0} (key : E → K) (index : E → ℕ) (fits : K → X → Bool) (f : Y → ℕ → Option E) (decode : Y → X) (ys : List Y) (es : List E) → Enters key index fits f decode → IsPermutation (entries_from f 0 ys) es
    → Indexes key index fits (map decode ys) es
indexed {E} {K} {X} {Y} key index fits f decode ys es enters same = record { sound = sound; complete = complete }
  where
    sound : (e : E) → Contains es e → Fits fits (map decode ys) (key e) (index e)
    sound e c =
        let r : IsEntry f 0 ys e = entry_of f 0 ys e (Contains-permutation es (entries_from f 0 ys) e (IsPermutation-sym (entries_from f 0 ys) es same) c) in
        let z : 0 + r.index ≡ r.index = omega arith in
        let p : index e ≡ r.index = enters.at r.element (0 + r.index) e r.is ∙ z in
        record { element = decode r.element; there = ap (λ (i : ℕ). slice_get (map decode ys) i) p ∙ slice_get-map decode ys r.index ∙ ap (option_map decode) r.there; so = enters.own r.element (0 + r.index) e r.is }

    from_map : (p : ℕ) (x : X) (o : Option Y) → slice_get ys p ≡ o → option_map decode o ≡ Some x → (y : Y) × (slice_get ys p ≡ Some y) × (decode y ≡ x)
    from_map p x None e h = cc
    from_map p x (Some y) e h = (y, e, let g : Some (decode y) ≡ Some x = h in cc)

    complete : (k : K) (p : ℕ) → Fits fits (map decode ys) k p → HasEntry key index es k p
    complete k p h =
        let y = from_map p h.element (slice_get ys p) refl (sym (slice_get-map decode ys p) ∙ h.there) in
        let z : 0 + p ≡ p = omega arith in
        let fit : fits k (decode y.0) ≡ true = ap (fits k) y.2 ∙ h.so in
        let e = enters.only k y.0 (0 + p) fit in
        let p_is : index e.0 ≡ p = enters.at y.0 (0 + p) e.0 e.1 ∙ z in
        record { entry = e.0; among = Contains-permutation (entries_from f 0 ys) es e.0 same (entry_in f 0 ys p y.0 e.0 y.1 e.1); has = e.2; before = omega (arith, p_is) }

-- a loop over elements adds the entry of one
pub entries_step : {E X : Type 0} (f : X → ℕ → Option E) (xs : List X) (es new : List E) (i : ℕ) (d : X) (e : Option E) → es ≡ entries_from f 0 (take i xs) → i < length xs → f (get_or xs i d) i ≡ e → new ≡ es ++ option_to_list e → new ≡ entries_from f 0 (take (i + 1) xs)
entries_step {E} {X} f xs es new i d e before l is more =
    let n : 0 + length (take i xs) ≡ i = (let t : length (take i xs) ≡ min i (length xs) = length-take i xs in omega (arith, t, l)) in
    let one : option_to_list e ≡ option_to_list (f (get_or xs i d) (0 + length (take i xs))) = ap option_to_list (sym is) ∙ ap (λ (m : ℕ). option_to_list (f (get_or xs i d) m)) (sym n) in
    more ∙ ap (λ (t : List E). es ++ t) one ∙ ap (λ (t : List E). t ++ option_to_list (f (get_or xs i d) (0 + length (take i xs)))) before
    ∙ sym (entries_more f 0 (take i xs) (get_or xs i d)) ∙ ap (λ (t : List X). entries_from f 0 t) (sym (take_more xs i d l))
