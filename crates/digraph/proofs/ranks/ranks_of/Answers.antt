use Rattle.std.proofs.Common.{arith}
use Rattle.std.proofs.lemmas.Grind.{elements}
use Rattle.digraph.proofs.ranks.ranks_of.Goals as goal

pub returns : goal.returns
returns c = grind (arith, elements)
