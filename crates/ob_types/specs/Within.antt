-- The modules that a module reaches, as a part of all modules of a tree that is closed under imports.
use Rattle.std.specs.Prelude.{◌≡◌, ℕ, List, Some, None, Contains, slice_get}
use Rattle.ob_interface.specs.Interfaces.{ModuleInterface}
use Rattle.ob_interface.specs.Placed.{module_named}
use Rattle.ob_view.specs.ModuleNumbers.{module_number_in}

-- the modules in `all` have different names, each reached module is among them, and each module in `all` that a reached module imports is
-- reached too
pub record AreWithin (all reached : List ModuleInterface) : Type 0 where
  pub named : (k : ℕ) (m : ModuleInterface) → slice_get all k ≡ Some m → module_number_in all m.name ≡ Some k
  pub among : (m : ModuleInterface) → Contains reached m → Contains all m
  pub closed : (m : ModuleInterface) (alias name : List ℕ) (k : ℕ) → Contains reached m → module_named m alias ≡ Some name → module_number_in all name ≡ Some k → module_number_in reached name ≡ None → ⊥
