-- The entries with a declaration in a list with increasing numbers: index, number, and order.
use Rattle.std.proofs.Common.{◌≡◌, ℕ, zero, suc, ◌<◌, List, [], ◌∷◌, Option, Some, None, refl, ap, ◌∙◌, arith}
use Rattle.std.specs.Prelude.{slice_get}
use Rattle.std.specs.List.{cons_option, filter_map}
use Rattle.std.specs.Option.{option_map}
use Rattle.module_table.specs.Order.{IsIncreasingBy}
use Rattle.module_table.proofs.Elements.{some_one}

-- the index of the declaration of an entry, and the entry's number there
pub record PlaceOf {Y : Type 0} (ys : List Y) (ks : List ℕ) (y : Y) (k : ℕ) : Type 0 where
  pub place : ℕ
  pub at : slice_get ys place ≡ Some y
  pub number : slice_get ks place ≡ Some k

-- an entry with this number
pub record RowOf {X : Type 0} (n : X → ℕ) (xs : List X) (k : ℕ) : Type 0 where
  pub place : ℕ
  pub row : X
  pub at : slice_get xs place ≡ Some row
  pub has : n row ≡ k

module _ {X Y : Type 0} (f : X → Option Y) (n : X → ℕ) where
  abbrev pub numbers : List X → List ℕ
  numbers xs = filter_map (λ (x : X). option_map (λ (y : Y). n x) (f x)) xs

  at_front : (x : X) (o : Option Y) (ys : List Y) (ks : List ℕ) (y : Y) (k : ℕ) → PlaceOf ys ks y k → PlaceOf (cons_option o ys) (cons_option (option_map (λ (z : Y). n x) o) ks) y k
  at_front x None ys ks y k p = p
  at_front x (Some z) ys ks y k p = record { place = suc p.place; at = p.at; number = p.number }

  here : (x : X) (o : Option Y) (ys : List Y) (ks : List ℕ) (y : Y) → o ≡ Some y → PlaceOf (cons_option o ys) (cons_option (option_map (λ (z : Y). n x) o) ks) y (n x)
  here x None ys ks y e = absurd (let none : None ≡ Some y = e in cc)
  here x (Some z) ys ks y e = record { place = 0; at = e; number = refl }

  pub index_of : (xs : List X) (i : ℕ) (x : X) (y : Y) → slice_get xs i ≡ Some x → f x ≡ Some y → PlaceOf (filter_map f xs) (numbers xs) y (n x)
  index_of [] i x y e g = absurd (let none : None ≡ Some x = e in cc)
  index_of (z ∷ zs) zero x y e g =
      let same : z ≡ x = some_one z x e in
      let p : PlaceOf (cons_option (f z) (filter_map f zs)) (cons_option (option_map (λ (w : Y). n z) (f z)) (numbers zs)) y (n z) = here z (f z) (filter_map f zs) (numbers zs) y (ap f same ∙ g) in
      record { place = p.place; at = p.at; number = p.number ∙ ap Some (ap n same) }
  index_of (z ∷ zs) (suc i) x y e g = at_front z (f z) (filter_map f zs) (numbers zs) y (n x) (index_of zs i x y e g)

  row_step : (x : X) (xs : List X) (o : Option Y) (j k : ℕ) → ((i : ℕ) → slice_get (numbers xs) i ≡ Some k → RowOf n xs k) →
      slice_get (cons_option (option_map (λ (z : Y). n x) o) (numbers xs)) j ≡ Some k → RowOf n (x ∷ xs) k
  row_step x xs None j k rest e = let r = rest j e in record { place = suc r.place; row = r.row; at = r.at; has = r.has }
  row_step x xs (Some z) zero k rest e = record { place = 0; row = x; at = refl; has = some_one (n x) k e }
  row_step x xs (Some z) (suc j) k rest e = let r = rest j e in record { place = suc r.place; row = r.row; at = r.at; has = r.has }

  row_of : (xs : List X) (j k : ℕ) → slice_get (numbers xs) j ≡ Some k → RowOf n xs k
  row_of [] j k e = absurd (let none : None ≡ Some k = e in cc)
  row_of (x ∷ xs) j k e = row_step x xs (f x) j k (λ i g. row_of xs i k g) e

  ascend_step : (x : X) (xs : List X) (o : Option Y) (i j a b : ℕ) → IsIncreasingBy n (x ∷ xs) → ((s t : ℕ) → s < t → slice_get (numbers xs) s ≡ Some a → slice_get (numbers xs) t ≡ Some b → a < b) → i < j →
      slice_get (cons_option (option_map (λ (z : Y). n x) o) (numbers xs)) i ≡ Some a → slice_get (cons_option (option_map (λ (z : Y). n x) o) (numbers xs)) j ≡ Some b → a < b
  ascend_step x xs None i j a b up rest l e g = rest i j l e g
  ascend_step x xs (Some z) i zero a b up rest l e g = absurd (omega arith)
  ascend_step x xs (Some z) zero (suc j) a b up rest l e g =
      let r : RowOf n xs b = row_of xs j b g in
      let m : n x < n r.row = up 0 (suc r.place) x r.row (omega arith) refl r.at in
      let s : n x ≡ a = some_one (n x) a e in
      let t : n r.row ≡ b = r.has in
      omega arith
  ascend_step x xs (Some z) (suc i) (suc j) a b up rest l e g = rest i j (omega arith) e g

  -- of two declarations the first has the smaller number
  pub ascend : (xs : List X) → IsIncreasingBy n xs → (i j a b : ℕ) → i < j → slice_get (numbers xs) i ≡ Some a → slice_get (numbers xs) j ≡ Some b → a < b
  ascend [] up i j a b l e g = absurd (let none : None ≡ Some a = e in cc)
  ascend (x ∷ xs) up i j a b l e g =
      ascend_step x xs (f x) i j a b up (λ s t m p q. ascend xs (λ s2 t2 y z w p2 q2. up (suc s2) (suc t2) y z (omega arith) p2 q2) s t a b m p q) l e g

  number_step : (x : X) (o : Option Y) (ys : List Y) (ks : List ℕ) (j : ℕ) (y : Y) → ((i : ℕ) → slice_get ys i ≡ Some y → (k : ℕ) × (slice_get ks i ≡ Some k))
      → slice_get (cons_option o ys) j ≡ Some y → (k : ℕ) × (slice_get (cons_option (option_map (λ (z : Y). n x) o) ks) j ≡ Some k)
  number_step x None ys ks j y rest e = rest j e
  number_step x (Some z) ys ks zero y rest e = (n x, refl)
  number_step x (Some z) ys ks (suc j) y rest e = rest j e

  -- a declaration has a number at its index
  pub number_there : (xs : List X) (j : ℕ) (y : Y) → slice_get (filter_map f xs) j ≡ Some y → (k : ℕ) × (slice_get (numbers xs) j ≡ Some k)
  number_there [] j y e = absurd (let none : None ≡ Some y = e in cc)
  number_there (x ∷ xs) j y e = number_step x (f x) (filter_map f xs) (numbers xs) j y (λ i g. number_there xs i y g) e
