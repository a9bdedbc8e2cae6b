use Rattle.std.proofs.Common.{arith}
use Rattle.std.proofs.lemmas.Grind.{common_steps, elements}
use Rattle.work_board.proofs.graph.Graph.is_graph.Goals as goal

pub returns-else-imports-count : goal.returns-else-imports-count
returns-else-imports-count c = grind (arith, common_steps)

pub returns-then-imports-count : goal.returns-then-imports-count
returns-then-imports-count c = grind (arith, elements)
