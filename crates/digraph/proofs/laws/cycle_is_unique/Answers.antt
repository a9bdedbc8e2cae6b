use Rattle.digraph.specs.Edges.{Leads}
use Rattle.digraph.proofs.OneCycle.{cycle_is_unique}
use Rattle.digraph.proofs.laws.cycle_is_unique.Goals as goal

pub returns : goal.returns
returns c edges = cycle_is_unique (Leads edges)
