-- What the identifiers of a tree's modules denote.
use Rattle.std.specs.Prelude.{List}
use Rattle.ob_interface.specs.Interfaces.{ModuleInterface}
use Rattle.scopes.specs.Scoped.{AreScopes, ModuleScopes}
use Rattle.ob_view.specs.declared.target.Reference.{Reference}
use Rattle.ob_targets.specs.Refers.{AreReferences}
use Rattle.ob_view.specs.World.{world}
use Rattle.ob_board.specs.Reached.{names, AreReachedInterfaces, FileModel}

-- the references are those of the module in `file`, with the module's scopes and the interfaces of the modules that it reaches in the tree
pub record AreResolved (files : List FileModel) (file : FileModel) (refs : List Reference) : Type 0 where
  pub scopes : ModuleScopes
  pub are_scopes : AreScopes file.bytes file.tokens file.rows scopes
  pub reached : List ModuleInterface
  pub are_reached : AreReachedInterfaces files (names file 1) reached
  pub are_references : AreReferences (world file.bytes file.tokens file.rows scopes reached) refs
