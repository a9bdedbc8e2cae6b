-- Boxes and lists that hold what is given, in the logic alone.
use Rattle.std.proofs.Common.{◌≤◌, List, length, refl, arith}
use Rattle.std.specs.Global.{Box, Vec, Global}
use denote.RawPtr.{null_ptr}

abbrev pub boxed : {X : Type 0} → Global → X → Box X
boxed g x = record { ptr = null_ptr; alloc = g; value = x }

abbrev pub list_phrase : {X : Type 0} → Global → (xs : List X) → length xs ≤ 4294967295 → Vec X
list_phrase g xs h = record { ptr = null_ptr; len = length xs; cap = length xs; alloc = g; items = xs; ok = (refl, omega arith); small = omega (arith, h) }
