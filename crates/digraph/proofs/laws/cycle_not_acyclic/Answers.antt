use Rattle.digraph.specs.Edges.{Leads}
use Rattle.digraph.proofs.OneCycle.{cyclic}
use Rattle.digraph.proofs.laws.cycle_not_acyclic.Goals as goal

pub returns : goal.returns
returns c edges = cyclic (Leads edges)
