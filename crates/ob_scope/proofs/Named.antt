-- The indexes of members by their tokens, and results that are present or not.
use Rattle.std.proofs.Common.{◌≡◌, ℕ, ◌<◌, ◌≤◌, List, Some, None, Option, arith, ⊎_elim}
use Rattle.std.specs.Prelude.{slice_get, IfSome, IfNone}
use Rattle.std.proofs.lemmas.Bool.{cases_lt}
use Rattle.scopes.specs.declared.members.Member.{Member}

module _ (name : ℕ → List ℕ) (members : List Member) where
  -- the key of an entry is its token number
  pub one_of_number : (i j : ℕ) (m n : Member) → ((i j : ℕ) (m n : Member) → i < j → slice_get members i ≡ Some m → slice_get members j ≡ Some n → m.number < n.number)
      → slice_get members i ≡ Some m → slice_get members j ≡ Some n → m.number ≡ n.number → i ≡ j
  one_of_number i j m n a p q e =
      ⊎_elim
      (λ (below : i < j). absurd (let l : m.number < n.number = a i j m n below p q in omega arith))
      (λ (above : j ≤ i).
      ⊎_elim
      (λ (below : j < i). absurd (let l : n.number < m.number = a j i n m below q p in omega arith))
      (λ (other : i ≤ j). (let h : i ≡ j = omega arith in h))
      (cases_lt j i))
      (cases_lt i j)

-- a result that is present, and one that isn't
pub some_then : {X : Type 0} (r : Option X) (P Q : X → Type 0) → ((x : X) → P x → Q x) → IfSome r P → IfSome r Q
some_then None P Q f h = tt
some_then (Some x) P Q f h = f x h

pub none_then : {X : Type 0} (r : Option X) {P Q : Type 0} → IfNone r P → (P → Q) → IfNone r Q
none_then None p f = f p
none_then (Some x) p f = tt
