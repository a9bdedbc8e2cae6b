-- The indexes of modules by their names.
use Rattle.std.specs.Prelude.{◌≡◌, ◌≤◌, ◌^◌, ℕ, List, length, Option, position}
use Rattle.std.specs.List.{AllAdjacentBelow}
use Rattle.std.specs.Cmp.Lexicographic.{slice_cmp}
use Rattle.std.specs.Ordering.{nat_cmp}
use Rattle.std.specs.Str.{bytes_eq}
use Rattle.std.specs.declared.cmp.Ordering.TheVariants.{Less}
use Rattle.ob_interface.specs.Interfaces.{ModuleInterface}

-- the index of the first module of this name in the list; None if there is none
abbrev pub module_number_in : List ModuleInterface → List ℕ → Option ℕ
module_number_in modules name = position (λ (m : ModuleInterface). bytes_eq m.name name) modules

-- the modules in the list are sorted by name, and no two have the same name
abbrev pub AreByName : List ModuleInterface → Type 0
AreByName modules = AllAdjacentBelow (λ (a b : ModuleInterface). slice_cmp nat_cmp a.name b.name ≡ Less) modules (length modules)

-- the modules are sorted by name, and their indexes fit 32 bits
pub record AreNumberedModules (modules : List ModuleInterface) : Type 0 where
  pub by_name : AreByName modules
  pub few : length modules ≤ 2 ^ 32
