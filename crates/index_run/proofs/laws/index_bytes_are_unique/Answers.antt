use Rattle.index_run.specs.IndexRuns.{IsHexText, IsIndexText, IsUnresolvedText}
use Rattle.index_run.proofs.SameBytes.{hex_once, index_once, puts_same, unresolved_once}
use Rattle.index_run.proofs.laws.index_bytes_are_unique.Goals as goal

pub returns-clause-index : goal.returns-clause-index
returns-clause-index c = λ sources package_name root before new other. puts_same (IsIndexText sources package_name root) (index_once sources package_name root) before new other

pub returns-clause-hex : goal.returns-clause-hex
returns-clause-hex c = λ sources package_name root before new other. puts_same (IsHexText sources package_name root) (hex_once sources package_name root) before new other

pub returns-clause-unresolved : goal.returns-clause-unresolved
returns-clause-unresolved c = λ style sources before new other. puts_same (IsUnresolvedText style sources) (unresolved_once sources style) before new other
