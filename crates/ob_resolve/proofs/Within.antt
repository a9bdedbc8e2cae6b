-- In a list of entries with increasing numbers, the index of an entry is at most its number.
use Rattle.std.proofs.Common.{◌≡◌, ℕ, zero, suc, ◌<◌, ◌≤◌, List, length, get_or, Some, arith, subst}
use Rattle.std.specs.Prelude.{slice_get}
use Rattle.std.proofs.lemmas.List.Elements.{All-get_or}
use Rattle.std.proofs.lemmas.Option.{get_or_from_slice_get, slice_get_within, slice_get-get_or}
use Rattle.module_table.specs.Order.{IsIncreasingBy}
use Rattle.ob_scan.specs.Spelling.{AreInText}
use Rattle.ob_scan.specs.declared.token.Token.{Token}

-- if the numbers of the entries increase, the index of an entry is at most its number
pub row_within : {X : Type 0} (n : X → ℕ) (xs : List X) → IsIncreasingBy n xs → (i : ℕ) (x : X) → slice_get xs i ≡ Some x → i ≤ n x
row_within n xs up zero x at = omega arith
row_within n xs up (suc i) x at =
    let room : suc i < length xs = slice_get_within xs (suc i) x at in
    let there : slice_get xs i ≡ Some (get_or xs i x) = slice_get-get_or xs i x (omega arith) in
    let below : i ≤ n (get_or xs i x) = row_within n xs up i (get_or xs i x) there in
    let next : n (get_or xs i x) < n x = up i (suc i) (get_or xs i x) x (omega arith) there at in
    omega arith

-- the tokens of a source start at increasing offsets
pub tokens_ascend : (bytes : List ℕ) (ts : List Token) → AreInText bytes ts → IsIncreasingBy (λ (t : Token). t.start) ts
tokens_ascend bytes ts text i j x y less at_x at_y =
    let within : j < length ts = slice_get_within ts j y at_y in
    let some : (get_or ts i x).start < (get_or ts i x).end = All-get_or (λ (u : Token). u.start < u.end) ts i x (omega arith) text.some in
    let apart : (get_or ts i x).end ≤ (get_or ts j x).start = text.apart i j x less within in
    let first : get_or ts i x ≡ x = get_or_from_slice_get ts i x x at_x in
    let second : get_or ts j x ≡ y = get_or_from_slice_get ts j y x at_y in
    rw (← second) (subst (λ (t : Token). t.start < (get_or ts j x).start) first (omega arith))

-- if the numbers of the entries increase and the number of an entry is less than a bound, so is the index of the entry
pub place_fits : {X : Type 0} (n : X → ℕ) (xs : List X) (i bound : ℕ) (d : X) → IsIncreasingBy n xs → i < length xs → n (get_or xs i d) < bound → i < bound
place_fits n xs i bound d up l fits =
    let below : i ≤ n (get_or xs i d) = row_within n xs up i (get_or xs i d) (slice_get-get_or xs i d l) in
    omega arith
