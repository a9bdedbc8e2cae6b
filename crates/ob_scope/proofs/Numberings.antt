-- Names that are interned one after another.
use Rattle.std.proofs.Common.{◌≡◌, ℕ, ◌+◌, ◌<◌, ◌≤◌, inl, inr, Bool, true, false, List, [], ◌∷◌, ◌++◌, length, take, get_or, Some, None, refl, sym, ap, ◌∙◌, subst, length-append, arith, ⊎_elim}
use Rattle.std.specs.Prelude.{slice_get, slice_index, if◌then◌else◌, ◌||◌}
use Rattle.std.specs.List.{list_any, position_or_len}
use Rattle.std.specs.Str.{bytes_eq}
use Rattle.std.proofs.lemmas.Bool.{cases_Bool, cases_lt, false≢true}
use Rattle.std.proofs.lemmas.List.{get_or_append_left, length-take-le}
use Rattle.std.proofs.lemmas.Option.{slice_get_within}
use Rattle.std.proofs.lemmas.Slice.Eq.{bytes_eq-Decides}
use Rattle.std.proofs.Math.Seq.{get_or-append_seam}
use Rattle.scopes.specs.declared.members.Member.{Member}
use Rattle.text_hash.specs.declared.name.Name.{Name}
use Rattle.ob_scope.specs.Visibility.{name_number, AreInterned}
use Rattle.module_table.proofs.Elements.{some_one}
use Rattle.ob_scope.proofs.Keyed.{front_get, get_front}

module _ {X : Type 0} (p : X → Bool) where
  found_within : (xs : List X) → list_any p xs ≡ true → position_or_len p xs < length xs
  found_within [] e = absurd (false≢true e)
  found_within (x ∷ xs) e = elim (cases_Bool (p x)) [
    | inl t ↦ rw t (omega arith)
    | inr f ↦ (
        let rest : list_any p xs ≡ true = subst (λ (b : Bool). b || list_any p xs ≡ true) f e in
        let h = found_within xs rest in
        rw f (omega arith))
  ]

  found_stays : (xs : List X) (y : X) → position_or_len p xs < length xs → position_or_len p (xs ++ y ∷ []) ≡ position_or_len p xs
  found_stays [] y l = absurd (omega arith)
  found_stays (x ∷ xs) y l = elim (cases_Bool (p x)) [
    | inl t ↦ rw t refl
    | inr f ↦ (
        let shorter : position_or_len p xs < length xs = (let m = rw f at l in omega arith) in
        let h = found_stays xs y shorter in
        rw f (omega arith))
  ]

  found_last : (xs : List X) (y : X) → list_any p xs ≡ false → p y ≡ true → position_or_len p (xs ++ y ∷ []) ≡ length xs
  found_last [] y e t = rw t refl
  found_last (x ∷ xs) y e t = elim (cases_Bool (p x)) [
    | inl h ↦ absurd (false≢true (sym e ∙ ap (λ (b : Bool). b || list_any p xs) h))
    | inr f ↦ (
        let rest : list_any p xs ≡ false = subst (λ (b : Bool). b || list_any p xs ≡ false) f e in
        let h = found_last xs y rest t in
        rw f (omega arith))
  ]

  not_found : (xs : List X) → list_any p xs ≡ false → position_or_len p xs ≡ length xs
  not_found [] e = refl
  not_found (x ∷ xs) e = elim (cases_Bool (p x)) [
    | inl h ↦ absurd (false≢true (sym e ∙ ap (λ (b : Bool). b || list_any p xs) h))
    | inr f ↦ (
        let rest : list_any p xs ≡ false = subst (λ (b : Bool). b || list_any p xs ≡ false) f e in
        let h = not_found xs rest in
        rw f (omega arith))
  ]

-- the test of a text
abbrev pub is_text : List ℕ → Name → Bool
is_text text y = bytes_eq text y.bytes.now

module _ (name : ℕ → List ℕ) (members : List Member) where
  -- interning a further name keeps the numbers of the earlier names
  more : (i n : ℕ) (m : Member) (names later : List Name) (numbers : List ℕ) → AreInterned name (take i members) names numbers → slice_get members i ≡ Some m → length (take i members) ≡ i → length names ≤ length later
      → ((text : List ℕ) → name_number names text < length names → name_number later text ≡ name_number names text) → n ≡ name_number later (name m.number) → n < length later
      → AreInterned name (take (i + 1) members) later (numbers ++ n ∷ [])
  more i n m names later numbers a at long grown kept is within = record {
    as_many = (
        let old : length numbers ≡ length (take i members) = a.as_many in
        let new = length-append numbers (n ∷ []) in
        let here = slice_get_within members i m at in
        let all = length-take-le (i + 1) members (omega arith) in
        omega arith);
    each = λ k x e. ⊎_elim
        (λ (less : k < i). (
        let prefix = front_there k x less e in
        let old = a.each k x prefix in
        let bound = a.within k x prefix in
        rw (get_or_append_left numbers (n ∷ []) 0 k (inside k less)) (old ∙ sym (kept (name x.number) (rw (← old) bound)))))
        (λ (past : i ≤ k). (
        let last = last_there k x past e in
        rw (last.0, seam) (is ∙ ap (λ (y : Member). name_number later (name y.number)) last.1)))
        (cases_lt k i);
    within = λ k x e. ⊎_elim
        (λ (less : k < i). (
        let bound : slice_index numbers k < length names = a.within k x (front_there k x less e) in
        rw (get_or_append_left numbers (n ∷ []) 0 k (inside k less)) (omega arith)))
        (λ (past : i ≤ k). (let last = last_there k x past e in rw (last.0, seam) within))
        (cases_lt k i);
  }
    where
      count : length numbers ≡ i
      count = a.as_many ∙ long

      inside : (k : ℕ) → k < i → k < length numbers
      inside k less = let e = count in omega arith

      seam : slice_index (numbers ++ n ∷ []) i ≡ n
      seam = subst (λ (x : ℕ). get_or (numbers ++ n ∷ []) x 0 ≡ n) count (get_or-append_seam numbers n [] 0)

      front_there : (k : ℕ) (x : Member) → k < i → slice_get (take (i + 1) members) k ≡ Some x → slice_get (take i members) k ≡ Some x
      front_there k x less e = get_front name members i k x less (front_get name members (i + 1) k x e).1

      last_there : (k : ℕ) (x : Member) → i ≤ k → slice_get (take (i + 1) members) k ≡ Some x → (k ≡ i) × (m ≡ x)
      last_there k x past e =
          let u = front_get name members (i + 1) k x e in
          let l : k < i + 1 = u.0 in
          let same : k ≡ i = omega arith in
          (same, some_one m x (sym at ∙ ap (slice_get members) (sym same) ∙ u.1))

  pub numbered_more : (i n : ℕ) (m : Member) (k : Name) (names later : List Name) (numbers : List ℕ) → AreInterned name (take i members) names numbers → slice_get members i ≡ Some m → k.bytes.now ≡ name m.number
      → n ≡ name_number names k.bytes.now → later ≡ (if list_any (is_text k.bytes.now) names then names else names ++ k ∷ []) → AreInterned name (take (i + 1) members) later (numbers ++ n ∷ [])
  numbered_more i n m k names later numbers a at text is keys = elim (cases_Bool (list_any (is_text k.bytes.now) names)) [
    | inl old ↦ (
        let same : later ≡ names = keys ∙ ap (λ (b : Bool). if b then names else names ++ k ∷ []) old in
        let within : name_number names k.bytes.now < length names = found_within (is_text k.bytes.now) names old in
        rw same (more i n m names names numbers a at long (omega arith) (λ t l. refl) (is ∙ ap (name_number names) text) (rw is within)))
    | inr new ↦ (
        let grown : later ≡ names ++ k ∷ [] = keys ∙ ap (λ (b : Bool). if b then names else names ++ k ∷ []) new in
        let longer = length-append names (k ∷ []) in
        let own : is_text k.bytes.now k ≡ true = (bytes_eq-Decides k.bytes.now k.bytes.now).1 refl in
        let last : name_number (names ++ k ∷ []) k.bytes.now ≡ length names = found_last (is_text k.bytes.now) names k new own in
        let none : name_number names k.bytes.now ≡ length names = not_found (is_text k.bytes.now) names new in
        rw grown (more i n m names (names ++ k ∷ []) numbers a at long (omega arith) (λ t l. found_stays (is_text t) names k l)
        (is ∙ none ∙ sym last ∙ ap (name_number (names ++ k ∷ [])) text) (let e = is in omega arith)))
  ]
    where
      long : length (take i members) ≡ i
      long = let here = slice_get_within members i m at in length-take-le i members (omega arith)

pub numbered_none : (name : ℕ → List ℕ) → AreInterned name [] [] []
numbered_none name = record {
  as_many = refl;
  each = λ k m e. absurd (let f : None ≡ Some m = e in cc);
  within = λ k m e. absurd (let f : None ≡ Some m = e in cc);
}

-- there are as many numbers as members
pub numbers_long : (name : ℕ → List ℕ) (members : List Member) (i : ℕ) (names : List Name) (numbers : List ℕ) → i ≤ length members → AreInterned name (take i members) names numbers → length numbers ≡ i
numbers_long name members i names numbers le a = a.as_many ∙ length-take-le i members le

pub last_number : (numbers later : List ℕ) (i n : ℕ) → length numbers ≡ i → later ≡ numbers ++ n ∷ [] → slice_index later i ≡ n
last_number numbers later i n long is = rw is (subst (λ (x : ℕ). get_or (numbers ++ n ∷ []) x 0 ≡ n) long (get_or-append_seam numbers n [] 0))

-- the last number is the number of a name
pub last_within : (name : ℕ → List ℕ) (members : List Member) (i n : ℕ) (m : Member) (names : List Name) (numbers later : List ℕ) → length numbers ≡ i → later ≡ numbers ++ n ∷ [] → slice_get members i ≡ Some m
    → AreInterned name (take (i + 1) members) names later → n < length names
last_within name members i n m names numbers later long is at a =
    let within : slice_index later i < length names = a.within i m (get_front name members (i + 1) i m (omega arith) at) in
    let last = last_number numbers later i n long is in
    omega (arith, within, last)
