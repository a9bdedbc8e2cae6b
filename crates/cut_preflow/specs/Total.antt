-- Sums over the numbers below a number.
use Rattle.std.specs.Prelude.{ℕ, ◌+◌, zero, suc}

-- g 0 + g 1 + .. + g (n - 1)
abbrev pub total : ℕ → (ℕ → ℕ) → ℕ
total zero g = 0
total (suc n) g = total n g + g n
