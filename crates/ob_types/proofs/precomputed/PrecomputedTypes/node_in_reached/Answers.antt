use Rattle.ob_types.specs.CommonModules.{base_alike, part_alike}
use Rattle.ob_types.proofs.precomputed.PrecomputedTypes.node_in_reached.Goals as goal

pub returns-in_ok-index_of-in-Other : goal.returns-in_ok-index_of-in-Other
returns-in_ok-index_of-in-Other c = λ v same. (rw c.in-Other.is (part_alike (c.in_ok-index_of-in-Other.ensures v same)))

pub returns-in_ok-index_of-in-OtherBase : goal.returns-in_ok-index_of-in-OtherBase
returns-in_ok-index_of-in-OtherBase c = λ v same. (rw c.in-OtherBase.is (base_alike (c.in_ok-index_of-in-OtherBase.ensures v same)))
