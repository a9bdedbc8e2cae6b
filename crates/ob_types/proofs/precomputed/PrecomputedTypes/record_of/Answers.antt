use Rattle.ob_types.specs.CommonModules.{record_alike}
use Rattle.ob_types.proofs.precomputed.PrecomputedTypes.record_of.Goals as goal

pub returns-in_ok-index_of-in-Other : goal.returns-in_ok-index_of-in-Other
returns-in_ok-index_of-in-Other c = λ v same. (rw c.in-Other.is (record_alike (c.in_ok-index_of-in-Other.ensures v same)))
