-- The adjacency lists of the imports, and those of the reversed imports.
use Rattle.std.proofs.Common.{◌∙◌}
use Rattle.digraph.proofs.ByNode.{flipped_between, predecessors_flipped}
use Rattle.ob_imports.proofs.graphs.adjacency_lists.Goals as goal

pub predecessor_lists-requires : goal.predecessor_lists-requires
predecessor_lists-requires c = record { between = rw (c.as_slice.ensures.value, c.in_ok-others.ensures) (flipped_between c.args.pairs.now c.args.nodes c.requires.between) }

pub returns-clause-imports : goal.returns-clause-imports
returns-clause-imports c v = c.in_ok-imports.ensures.rows v ∙ rw (c.as_slice.ensures.value, c.in_ok-others.ensures) (predecessors_flipped c.args.pairs.now v)
