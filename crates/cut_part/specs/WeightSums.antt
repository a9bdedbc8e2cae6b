-- The outgoing and incoming weights of each module, updated while weights are reduced.
use Rattle.std.specs.Prelude.{◌≡◌, ◌⊎◌, ℕ, ◌≤◌, ◌<◌, List, length, slice_index}
use Rattle.cut_net.specs.declared.priced.Priced.{Priced}
use Rattle.cut_net.specs.WellFormed.{AreBetween}
use Rattle.cut_net.specs.Cuts.{entering, leaving}
use Rattle.cut_part.specs.CapacityReduction.{IsReduced}

abbrev pub weight_of : Priced → ℕ
weight_of i = i.amount

-- for each module the sum of its outgoing weights, and of its incoming weights
pub record AreWeightSums (imports : List Priced) (leaving_sums entering_sums : List ℕ) : Type 0 where
  pub sizes : length entering_sums ≡ length leaving_sums
  pub between : AreBetween imports (length leaving_sums)
  pub leave : (m : ℕ) → m < length leaving_sums → slice_index leaving_sums m ≡ leaving imports weight_of m
  pub enter : (m : ℕ) → m < length leaving_sums → slice_index entering_sums m ≡ entering imports weight_of m

-- the new imports are a reduction of the old ones between a and b, whatever the names and pins
abbrev pub ReducesTo : ℕ → List Priced → List Priced → ℕ → ℕ → Type 0
ReducesTo modules old new a b =
    (names : List (List ℕ)) (pins : List Priced) → length names ≡ modules →
    IsReduced (record { names = names; imports = old; pins = pins }) (record { names = names; imports = new; pins = pins }) a b

-- the amount is at most the weight; and it is the weight, or at least the sum
pub record IsReducedWeight (weight amount sum : ℕ) : Type 0 where
  pub below : amount ≤ weight
  pub enough : (amount ≡ weight) ⊎ (sum ≤ amount)
