-- The modules A and B, at the two ends of each drawn path.
use Rattle.std.specs.Prelude.{ℕ, Bool, ◌==◌, ◌||◌}

-- whether the module is a or b
abbrev pub is_chain_end : ℕ → ℕ → ℕ → Bool
is_chain_end a b m = (m == a) || (m == b)
