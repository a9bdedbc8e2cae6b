-- Type chains that are precomputed once for all modules of a tree.
use Rattle.std.specs.Prelude.{IfSome, IsPermutation, List}
use Rattle.ob_interface.specs.Interfaces.{ModuleInterface}
use Rattle.ob_view.specs.ModuleNumbers.{AreByName}
use Rattle.ob_types.specs.Within.{AreWithin}
use Rattle.ob_board.specs.declared.precomputed_chains.PrecomputedChains.{PrecomputedChains}

-- the second list has the modules of the first one, sorted by name
pub record AreAllByName (all ordered : List ModuleInterface) : Type 0 where
  pub same : IsPermutation all ordered
  pub by_name : AreByName ordered

-- if there are precomputed chains, they are those of the modules in the list `all`
pub record AreChainsOf (all : List ModuleInterface) (precomputed_chains : PrecomputedChains) : Type 0 where
  pub precomputed : IfSome precomputed_chains.precomputed (λ s. AreAllByName all s.value)

-- the reached modules are sorted by name; and if there are precomputed chains, they are for a tree that has the reached modules. Of this
-- tree's modules, each one that a reached module imports is also reached
pub record ServesModule (reached : List ModuleInterface) (precomputed_chains : PrecomputedChains) : Type 0 where
  pub by_name : AreByName reached
  pub within : IfSome precomputed_chains.precomputed (λ s. AreWithin s.value reached)
