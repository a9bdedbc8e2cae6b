-- The list is rotated at its smallest number.
use Rattle.digraph.proofs.Walks.{turned_at}
use Rattle.digraph.proofs.canonical_cycle.rotate_to_min.Goals as goal

pub returns : goal.returns
returns c = turned_at c.args.numbers.now c.rotate_left.new.self c.index_of_min-least.result c.index_of_min-least.ensures.within c.index_of_min-least.ensures.least c.rotate_left.ensures.after
