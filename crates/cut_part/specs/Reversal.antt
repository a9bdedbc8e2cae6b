-- Reversed networks.
use Rattle.std.specs.Prelude.{ℕ, map}
use Rattle.cut_net.specs.declared.priced.Priced.{Priced}
use Rattle.cut_net.specs.Network.{Network}

-- the reversed import
abbrev pub reversed : Priced → Priced
reversed i = record { from = i.to; to = i.from; amount = i.amount }

-- the network with reversed imports and pins, in their order
abbrev pub reversed_net : Network → Network
reversed_net net = record { names = net.names; imports = map reversed net.imports; pins = map reversed net.pins }

-- the flow on the reversed imports
abbrev pub reversed_flow : (Priced → ℕ) → Priced → ℕ
reversed_flow flow i = flow (reversed i)
