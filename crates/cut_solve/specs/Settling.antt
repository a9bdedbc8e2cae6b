-- The flow of a complete preflow on the imports of the network.
use Rattle.std.specs.Prelude.{ℕ, List, [], ◌∷◌}
use Rattle.cut_net.specs.declared.priced.Priced.{Priced}
use Rattle.residual_graph.specs.declared.arc.Arc.{Arc}

-- the imports as arcs, with the weights as capacities; the k-th arc has the k-th flow of the list
abbrev pub arcs_with_flow : List Priced → List ℕ → List Arc
arcs_with_flow [] flow = []
arcs_with_flow (i ∷ more) [] = []
arcs_with_flow (i ∷ more) (f ∷ flow) = record { from = i.from; to = i.to; capacity = i.amount; flow = f } ∷ arcs_with_flow more flow
