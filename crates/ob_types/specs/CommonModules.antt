-- A module that two worlds reach, with its index in each of them, and the types in the source of this module.
use Rattle.std.specs.Prelude.{◌≡◌, ℕ, Some, slice_get}
use Rattle.ob_interface.specs.Interfaces.{ModuleInterface}
use Rattle.ob_types.specs.declared.nodes.Node.{Node}
use Rattle.ob_types.specs.declared.nodes.Node.TheVariants as nodes
use Rattle.ob_types.specs.declared.nodes.Record.{Record}
use Rattle.ob_types.specs.declared.nodes.Record.TheVariants as records
use Rattle.ob_view.specs.World.{World, module_number}

-- one module has the index `i` in the world `w` and the index `j` in the world `v`, and a look-up of its name gives these indexes
pub record IsCommonModule (w v : World) (i j : ℕ) : Type 0 where
  pub common : ModuleInterface
  pub here : slice_get w.reached i ≡ Some common
  pub external : slice_get v.reached j ≡ Some common
  pub index_in_first : module_number w common.name ≡ Some i
  pub index_in_second : module_number v common.name ≡ Some j

-- the first node in the world `w` and the second node in the world `v` are one type in the source of a common module: a component of a type
-- expression, or the base of a record
pub data AreNodesCommon (w v : World) : Node → Node → Type 0 where
  part_alike : {i j d p : ℕ} → IsCommonModule w v i j → AreNodesCommon w v (nodes.Other i d p) (nodes.Other j d p)
  base_alike : {i j r : ℕ} → IsCommonModule w v i j → AreNodesCommon w v (nodes.OtherBase i r) (nodes.OtherBase j r)

-- the first record in the world `w` and the second record in the world `v` are one record of a common module
pub data AreRecordsCommon (w v : World) : Record → Record → Type 0 where
  record_alike : {i j r : ℕ} → IsCommonModule w v i j → AreRecordsCommon w v (records.Other i r) (records.Other j r)
