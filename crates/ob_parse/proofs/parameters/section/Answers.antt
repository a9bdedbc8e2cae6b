use Rattle.ob_tree.proofs.TypeLayers.{types_made}
use Rattle.ob_grammar.specs.ReadTypes.{section_at}
use Rattle.std.proofs.Common.{arith}
use Rattle.ob_parse.proofs.parameters.section.Goals as goal

pub returns : goal.returns
unfolding section_at
returns c = grind (arith, types_made)
