use Rattle.ob_board.proofs.ReferenceNames.{references_named}
use Rattle.ob_board.proofs.reference_laws.reference_names_are_identifiers.Goals as goal

pub returns : goal.returns
returns c = references_named
