-- The world that the parts of a module make up, and the modules that its import items name.
use Rattle.std.specs.Prelude.{ℕ, ◌≤◌, ◌^◌, Option, map, length}
use Rattle.std.specs.Arc.{arc_value}
use Rattle.module_table.specs.declared.rows.Import.{Import}
use Rattle.module_table.specs.Tables.{rows_in}
use Rattle.ob_view.specs.declared.parts.Parts.{Parts}
use Rattle.ob_view.specs.ModuleNumbers.{module_number_in, AreNumberedModules}
use Rattle.ob_view.specs.World.{World, text}

-- the world that these parts make up
abbrev pub world_of : Parts → World
world_of p = record { bytes = p.bytes.now; tokens = p.tokens.now; rows = rows_in p.table.now; scopes = p.scopes.now; reached = map arc_value p.reached.now }

-- the index, among the reached modules, of the module that this import item names; None for a module outside of the tree
abbrev pub module_by_item : World → Import → Option ℕ
module_by_item w i = module_number_in w.reached (text w i.imported)

-- there are at most 2^32 import items; the reached modules are sorted by name, and their indexes fit 32 bits
pub record IsBounded (p : Parts) : Type 0 where
  pub imports : length p.table.now.imports.items ≤ 2 ^ 32
  pub reached : AreNumberedModules (map arc_value p.reached.now)
