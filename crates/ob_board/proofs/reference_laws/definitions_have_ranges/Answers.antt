use Rattle.ob_board.proofs.DefinedRanges.{defined_range}
use Rattle.ob_board.proofs.reference_laws.definitions_have_ranges.Goals as goal

pub returns : goal.returns
returns c = λ w p refs r s are h one has. defined_range w p refs r s are h one has
