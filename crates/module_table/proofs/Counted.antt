-- Bounds on the number of entries.
use Rattle.std.proofs.Common.{◌≡◌, ℕ, zero, suc, ◌-◌, ◌<◌, ◌≤◌, ◌^◌, List, [], ◌∷◌, length, Option, Some, refl, ap, sym, ◌∙◌, arith}
use Rattle.std.proofs.lemmas.Option.{none-some}
use Rattle.std.specs.Borrow.{Bor}
use Rattle.std.specs.Option.{option_copied}
use Rattle.std.specs.Prelude.{slice_get}
use Rattle.module_table.specs.Order.{IsIncreasingBy}

before : {X : Type 0} (xs : List X) (i : ℕ) (x : X) → slice_get xs (suc i) ≡ Some x → (y : X) × (slice_get xs i ≡ Some y)
before [] i x e = absurd (none-some x e)
before (a ∷ xs) zero x e = (a, refl)
before (a ∷ xs) (suc i) x e = before xs i x e

-- the key of an entry is at least its index
not_below : {X : Type 0} (n : X → ℕ) (xs : List X) → IsIncreasingBy n xs → (i : ℕ) (x : X) → slice_get xs i ≡ Some x → i ≤ n x
not_below n xs ascend zero x e = omega arith
not_below n xs ascend (suc i) x e =
    let y = before xs i x e in
    let rest = not_below n xs ascend i y.0 y.1 in
    let less = ascend i (suc i) y.0 x (omega arith) y.1 e in
    omega (arith, rest, less)

-- a list has at most as many entries as there are keys
pub few : {X : Type 0} (n : X → ℕ) (xs : List X) → IsIncreasingBy n xs → (r : Option (Bor X)) (last : Bor X) → option_copied r ≡ slice_get xs (length xs - 1) → r ≡ Some last → n last.now < 2 ^ 32 → length xs ≤ 2 ^ 32
few n xs ascend r last value is fits =
    let at = not_below n xs ascend (length xs - 1) last.now (sym value ∙ ap option_copied is) in
    omega (arith, at, fits)
