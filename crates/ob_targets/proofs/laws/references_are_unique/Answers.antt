use Rattle.ob_targets.proofs.OneReferences.{references_are_unique}
use Rattle.ob_targets.proofs.laws.references_are_unique.Goals as goal

pub returns : goal.returns
returns c = references_are_unique
