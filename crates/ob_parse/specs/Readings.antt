-- Source trees with syntax trees: for each module its parts and its syntax tree, and the import graph of the modules.
use Rattle.std.specs.Prelude.{◌≡◌, List}
use Rattle.digraph.specs.Chains.{IsAcyclic}
use Rattle.ob_imports.specs.Files.{Imports}
use Rattle.ob_imports.specs.Outcomes.{AreFilesOfGraph}
use Rattle.source_tree.specs.Files.{AreAllOf, HasValue}
use Rattle.source_tree.specs.Parts.{ArePartsOf}
use Rattle.source_tree.specs.Trees.{ModuleFile, files_of}
use Rattle.ob_parse.specs.declared.reading.ParsedModule.{ParsedModule}
use Rattle.ob_parse.specs.declared.reading.ParsedTree.{ParsedTree}
use Rattle.source_tree.specs.declared.source.Source.{Source}

-- `read` has the parts and the syntax tree of the file's module
pub record IsReadOf (file : ModuleFile) (read : ParsedModule) : Type 0 where
  pub parts_are : ArePartsOf file read.parts.value
  pub tree_is : read.tree.value ≡ file.tree

-- the file is accepted, and `read` has the parts and the syntax tree of its module
abbrev pub HasReading : Source → ParsedModule → Type 0
HasReading source read = HasValue IsReadOf source read

-- the files are accepted, and `all` has the parts and the syntax tree of each module, in file order
abbrev pub AreAllRead : List Source → List ModuleFile → List ParsedModule → Type 0
AreAllRead sources files all = AreAllOf IsReadOf sources files all

-- the files are accepted, and the tree has the parts and the syntax tree of each module, and the import graph, which is acyclic
pub record IsReadTree (sources : List Source) (files : List ModuleFile) (tree : ParsedTree) : Type 0 where
  pub all : AreAllRead sources files tree.modules.items
  pub kept : AreFilesOfGraph (files_of files) tree.graph
  pub acyclic : IsAcyclic (Imports (files_of files))
