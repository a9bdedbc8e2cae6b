-- The input of a preflow (`PreflowInput`) for a network and two modules a and b.
use Rattle.std.specs.Prelude.{◌≡◌, ◌⊎◌, ℕ, ◌≤◌, List, map}
use Rattle.cut_net.specs.declared.priced.Priced.{Priced}
use Rattle.cut_net.specs.Network.{Network}
use Rattle.cut_part.specs.CapacityReduction.{ends_of, import_in, IsReduced}
use Rattle.cut_part.specs.Reversal.{reversed}

-- the network with these imports instead of its own
abbrev pub with_imports : Network → List Priced → Network
with_imports net imports = record { names = net.names; imports = imports; pins = net.pins }

-- the imports are the network's, with reduced weights that still allow each flow from a to b, the source is a, and the sink is b; or these
-- imports are all reversed, the source is b, and the sink is a
pub record IsPreflowInput (net : Network) (a b : ℕ) (imports : List Priced) (source sink : ℕ) : Type 0 where
  pub reduced_imports : List Priced
  pub reduced_capacities : IsReduced net (with_imports net reduced_imports) a b
  pub direction : ((imports ≡ reduced_imports) × (source ≡ a) × (sink ≡ b)) ⊎ ((imports ≡ map reversed reduced_imports) × (source ≡ b) × (sink ≡ a))

-- the new imports are between the same modules as the old ones, in the same order, and no weight is higher
pub record IsReducedFrom (old new : List Priced) : Type 0 where
  pub ends : ends_of new ≡ ends_of old
  pub reduced : (k : ℕ) → (import_in new k).amount ≤ (import_in old k).amount

-- no import weighs more than the network's import with its index. Either importers and imported modules are the network's, the source is
-- a, and the sink is b; or the imports are all reversed, the source is b, and the sink is a
pub record HasReducedWeights (net : Network) (a b : ℕ) (imports : List Priced) (source sink : ℕ) : Type 0 where
  pub reduced : (k : ℕ) → (import_in imports k).amount ≤ (import_in net.imports k).amount
  pub direction : ((ends_of imports ≡ ends_of net.imports) × (source ≡ a) × (sink ≡ b)) ⊎ ((ends_of imports ≡ ends_of (map reversed net.imports)) × (source ≡ b) × (sink ≡ a))
