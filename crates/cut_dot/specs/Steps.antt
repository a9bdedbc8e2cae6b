-- The edges of a path, as imports.
use Rattle.digraph.specs.declared.edge.Edge.{Edge}
use Rattle.cut_net.specs.declared.priced.Priced.{Priced}

-- the edge as an import of amount 0
abbrev pub line_of_step : Edge → Priced
line_of_step step = record { from = step.from; to = step.to; amount = 0 }
