-- The parts of the modules of a tree: tokens, table, scopes and interface.
use Rattle.std.specs.Prelude.{◌≡◌, List, Box}
use Rattle.std.specs.declared.alloc.Global.{Global}
use Rattle.std.specs.Arc.{arc_value}
use Rattle.digraph.specs.Chains.{IsAcyclic}
use Rattle.module_table.specs.Tables.{rows_in}
use Rattle.ob_imports.specs.Files.{Imports}
use Rattle.ob_imports.specs.Outcomes.{AreFilesOfGraph}
use Rattle.ob_interface.specs.Interfaces.{interface_of}
use Rattle.source_tree.specs.Files.{AreAllOf, HasValue}
use Rattle.source_tree.specs.Trees.{ModuleFile, files_of, rows}
use Rattle.source_tree.specs.TreeReading.{AreScopesOf}
use Rattle.source_tree.specs.declared.parts.ModuleParts.{ModuleParts}
use Rattle.source_tree.specs.declared.parts.TreeParts.{TreeParts}
use Rattle.source_tree.specs.declared.source.Source.{Source}

-- `parts` has the tokens, table, scopes and interface of the file's module
pub record ArePartsOf (file : ModuleFile) (parts : ModuleParts) : Type 0 where
  pub tokens_are : parts.tokens ≡ file.tokens
  pub table_is : rows_in parts.table ≡ rows file
  pub scopes_are : AreScopesOf file parts.scopes
  pub interface_is : arc_value parts.interface ≡ interface_of file.bytes file.tokens (rows file)

-- the box has the tokens, table, scopes and interface of the file's module
abbrev pub ArePartsIn : ModuleFile → Box ModuleParts Global → Type 0
ArePartsIn file parts = ArePartsOf file parts.value

-- the file is accepted, and the box has the parts of its module
abbrev pub HasParts : Source → Box ModuleParts Global → Type 0
HasParts source parts = HasValue ArePartsIn source parts

-- the files are accepted, and `all` has the parts of the module of each, in file order
abbrev pub AreAllParts : List Source → List ModuleFile → List (Box ModuleParts Global) → Type 0
AreAllParts sources files all = AreAllOf ArePartsIn sources files all

-- the files are accepted, and the tree has the parts of their modules and their import graph, which is acyclic
pub record ArePartsOfTree (sources : List Source) (files : List ModuleFile) (tree : TreeParts) : Type 0 where
  pub all : AreAllParts sources files tree.modules.items
  pub kept : AreFilesOfGraph (files_of files) tree.graph
  pub acyclic : IsAcyclic (Imports (files_of files))
