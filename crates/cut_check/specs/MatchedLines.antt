-- The result of matching the lines of a report with the imports of the network.
use Rattle.std.specs.Prelude.{◌≡◌, ℕ, true, false, ◌+◌, ◌≤◌, ◌<◌, List, Option, Some, None, option_map, find, take, length, slice_index_or}
use Rattle.cut_net.specs.declared.priced.Priced.{Priced}
use Rattle.cut_net.specs.Network.{Network}
use Rattle.cut_net.specs.Cuts.{have_equal_ends}
use Rattle.cut_net.specs.Lines.{AreImportsInOrder}

-- the first `count` lines are imports of the network, strictly sorted, and this doesn't hold with one more line; `amounts` has for each
-- import the amount of its line among these, or None
pub record AreMatched (net : Network) (lines : List Priced) (count : ℕ) (amounts : List (Option ℕ)) : Type 0 where
  pub within : count ≤ length lines
  pub in_order : AreImportsInOrder net (take count lines)
  pub no_more : count < length lines → AreImportsInOrder net (take (count + 1) lines) → ⊥
  pub size : length amounts ≡ length net.imports
  pub each : (k : ℕ) (d : Priced) (e : Option ℕ) → k < length net.imports →
      slice_index_or amounts k e ≡ option_map (λ (l : Priced). l.amount) (find (have_equal_ends (slice_index_or net.imports k d)) (take count lines))

-- with Some the line at index `next` is of this import and has this amount; with None there is no line at the index, or it is of another
-- import
abbrev pub IsLineAt : Priced → List Priced → ℕ → Option ℕ → Type 0
IsLineAt i lines next None = (d : Priced) → next < length lines → have_equal_ends i (slice_index_or lines next d) ≡ false
IsLineAt i lines next (Some x) = (next < length lines) × ((d : Priced) → (have_equal_ends i (slice_index_or lines next d) ≡ true) × (x ≡ (slice_index_or lines next d).amount))
