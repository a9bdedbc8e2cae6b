use Rattle.std.proofs.Common.{refl}
use Rattle.ob_types.proofs.indexed_module.IndexedModule.new.Goals as goal

pub invariant_of-result : goal.invariant_of-result
invariant_of-result c = record { fields_exact = c.in_ok-fields.ensures }

pub returns : goal.returns
returns c = refl
