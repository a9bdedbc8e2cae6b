-- The entry of a module for the list of unresolved identifiers.
use Rattle.std.specs.Prelude.{◌≡◌, ℕ, ◌≤◌, ◌^◌, List, length, Contains}
use Rattle.ob_interface.specs.Interfaces.{ModuleInterface}
use Rattle.source_tree.specs.declared.parts.ModuleParts.{ModuleParts}
use Rattle.source_tree.specs.declared.source.Source.{Source}
use Rattle.ob_board.specs.Reached.{interface_in, names, AreReachedInterfaces, FileModel}
use Rattle.ob_board.specs.SourceParts.{file_model_in, IsSourceRead}
use Rattle.ob_board.specs.Unresolved.{IsUnresolvedIn, UnresolvedModel}

-- the entry of a module with its unresolved identifiers, as contracts describe it
pub record UnresolvedEntryModel : Type 0 where
  pub name : List ℕ
  pub interface : ModuleInterface
  pub rows : List UnresolvedModel

-- the entry has the interface and the unresolved identifiers of the module of this name, in a tree with these files
pub record IsUnresolvedEntryOf (files : List FileModel) (name : List ℕ) (f : UnresolvedEntryModel) : Type 0 where
  pub file : FileModel
  pub is_of_tree : Contains files file
  pub named : names file 1 ≡ name
  pub interface_is : f.interface ≡ interface_in file
  pub are_rows : IsUnresolvedIn files file f.rows

-- the source and the parts are those of a file of the tree, and `reached` has the interfaces of the modules that the file's module reaches.
-- The indices of these fit 32 bits
pub record IsModuleInput (files : List FileModel) (s : Source) (parts : ModuleParts) (reached : List ModuleInterface) : Type 0 where
  pub is_of_tree : Contains files (file_model_in s parts)
  pub is_read : IsSourceRead s parts
  pub are_reached : AreReachedInterfaces files (names (file_model_in s parts) 1) reached
  pub few_reached : length reached ≤ 2 ^ 32
