-- The number of events that change a state.
use Rattle.std.specs.Prelude.{ℕ, ◌+◌, ◌*◌, if◌then◌else◌, List, [], ◌∷◌}
use Rattle.cut_preflow.specs.declared.event.Event.{Event}
use Rattle.cut_preflow.specs.Preflow.{FlowNetwork, State, count, after, applies}

-- the number of the events that change the state
abbrev pub changes : FlowNetwork → State → List Event → ℕ
changes net s [] = 0
changes net s (e ∷ es) = (if applies net s e.step then 1 else 0) + changes net (after net s e.step) es

-- the bound, for n nodes and m imports: 4 n² m + 2 n m + 4 n²
abbrev pub max_steps : FlowNetwork → ℕ
max_steps net = 4 * net.nodes * net.nodes * count net + 2 * net.nodes * count net + 4 * net.nodes * net.nodes
