-- The subnetwork between two modules: those on paths from the one to the other, and the imports between them.
use Rattle.std.specs.Prelude.{◌&&◌, ℕ, Bool, if◌then◌else◌, filter}
use Rattle.cut_net.specs.declared.priced.Priced.{Priced}
use Rattle.cut_net.specs.Network.{Network}
use Rattle.cut_net.specs.Cuts.{Any, Chain}

-- the module is on a path from a to b
abbrev pub IsBetween : Network → ℕ → ℕ → ℕ → Type 0
IsBetween net a b m = Chain net.imports Any a m × Chain net.imports Any m b

-- both modules of the import are in the set
abbrev pub are_ends_in : (ℕ → Bool) → Priced → Bool
are_ends_in kept i = kept i.from && kept i.to

-- the network with only the imports and pins between modules of the set, with unchanged numbers
abbrev pub part_of : Network → (ℕ → Bool) → Network
part_of net kept = record { names = net.names; imports = filter (are_ends_in kept) net.imports; pins = filter (are_ends_in kept) net.pins }

-- the flow, extended by 0 to all other imports
abbrev pub internal_flow : (ℕ → Bool) → (Priced → ℕ) → Priced → ℕ
internal_flow kept flow i = if are_ends_in kept i then flow i else 0
