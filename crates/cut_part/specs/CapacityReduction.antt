-- Capacity reduction: a network with smaller weights that has equal flows between two modules.
use Rattle.std.specs.Prelude.{◌≡◌, ◌≢◌, ◌⊎◌, ℕ, ◌≤◌, ◌<◌, Bool, true, false, List, [], ◌∷◌, length, map, slice_index_or, slice_set}
use Rattle.digraph.specs.declared.edge.Edge.{Edge}
use Rattle.cut_net.specs.declared.priced.Priced.{Priced}
use Rattle.cut_net.specs.Network.{Network, missing_item}
use Rattle.cut_net.specs.Cuts.{entering, leaving, IsClosed, IsFlow}
use Rattle.cut_net.specs.Lines.{edge_of}

-- the flow depends only on the modules of an import, not on its weight
abbrev pub DependsOnEndsOnly : (Priced → ℕ) → Type 0
DependsOnEndsOnly flow = (i j : Priced) → i.from ≡ j.from → i.to ≡ j.to → flow i ≡ flow j

-- no residual import leaves the set of modules, which has a and lacks b
pub record IsResidualBarrier (net : Network) (flow : Priced → ℕ) (a b : ℕ) (modules : ℕ → Bool) : Type 0 where
  pub start : modules a ≡ true
  pub end : modules b ≡ false
  pub closed : IsClosed net flow modules

-- b isn't reachable from a in the residual graph of the flow
abbrev pub IsUnreachable : Network → (Priced → ℕ) → ℕ → ℕ → Type 0
IsUnreachable net flow a b = (modules : ℕ → Bool) × IsResidualBarrier net flow a b modules

-- a maximum flow: b isn't reachable from a in its residual graph
pub record IsMaxFlow (net : Network) (a b : ℕ) (flow : Priced → ℕ) (value : ℕ) : Type 0 where
  pub is_flow : IsFlow net a b flow value
  pub barred : IsUnreachable net flow a b

-- the imports as edges
abbrev pub ends_of : List Priced → List Edge
ends_of imports = map edge_of imports

abbrev pub import_in : List Priced → ℕ → Priced
import_in imports k = slice_index_or imports k missing_item

-- the new network differs from the old one in weights, none of which is larger. It has each flow of the old one from a to b; and if b
-- isn't reachable in the residual graph of such a flow in the new network, it isn't in the old one
pub record IsReduced (old new : Network) (a b : ℕ) : Type 0 where
  pub names : new.names ≡ old.names
  pub pins : new.pins ≡ old.pins
  pub ends : ends_of new.imports ≡ ends_of old.imports
  pub reduced : (k : ℕ) → (import_in new.imports k).amount ≤ (import_in old.imports k).amount
  pub flows : (flow : Priced → ℕ) (value : ℕ) → DependsOnEndsOnly flow → IsFlow old a b flow value → IsFlow new a b flow value
  pub barred : (flow : Priced → ℕ) (value : ℕ) → DependsOnEndsOnly flow → IsFlow old a b flow value → IsUnreachable new flow a b → IsUnreachable old flow a b

-- the outgoing and the incoming weight of a module
abbrev pub weight_leaving : Network → ℕ → ℕ
weight_leaving net m = leaving net.imports (λ i. i.amount) m

abbrev pub weight_entering : Network → ℕ → ℕ
weight_entering net m = entering net.imports (λ i. i.amount) m

-- this weight suffices for the import: the imported module isn't b and its outgoing weight is at most this weight, or the importer isn't
-- a and its incoming weight is
abbrev pub IsEnough : Network → ℕ → ℕ → Priced → ℕ → Type 0
IsEnough net a b i amount = ((i.to ≢ b) × (weight_leaving net i.to ≤ amount)) ⊎ ((i.from ≢ a) × (weight_entering net i.from ≤ amount))

-- the import with another weight
abbrev pub weighing : Priced → ℕ → Priced
weighing i amount = record { from = i.from; to = i.to; amount = amount }

-- the network with another weight on one import
abbrev pub reweighed : Network → ℕ → ℕ → Network
reweighed net k amount = record { names = net.names; imports = slice_set net.imports k (weighing (import_in net.imports k) amount); pins = net.pins }

-- the new network is the old one with the weight of import k reduced to an amount that suffices
pub record IsReducedAt (old new : Network) (a b k amount : ℕ) : Type 0 where
  pub present : k < length old.imports
  pub below : amount ≤ (import_in old.imports k).amount
  pub enough : IsEnough old a b (import_in old.imports k) amount
  pub changed : new ≡ reweighed old k amount

-- the steps lead from the old network to the new one. A step is the number of an import and its new weight, which suffices in the network
-- before the step
abbrev pub AreReductions : Network → Network → ℕ → ℕ → List (ℕ × ℕ) → Type 0
AreReductions old new a b [] = new ≡ old
AreReductions old new a b ((k, amount) ∷ steps) = IsReducedAt old (reweighed old k amount) a b k amount × AreReductions (reweighed old k amount) new a b steps
