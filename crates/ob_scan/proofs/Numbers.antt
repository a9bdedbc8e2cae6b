-- What begins with a digit.
use Rattle.std.proofs.Common.{◌≡◌, ℕ, ◌<◌, true, List, [], ◌∷◌, arith}
use Rattle.std.proofs.lemmas.List.{length-take}
use Rattle.ob_scan.specs.Numbers.{begins_digit, hex_digit_count}

-- the run of hexadecimal digits isn't empty
pub hex_digits_some : (bs : List ℕ) → begins_digit bs ≡ true → 0 < hex_digit_count bs
hex_digits_some [] e = absurd cc
hex_digits_some (b ∷ bs) e = rw e (simp length-take (omega arith))
