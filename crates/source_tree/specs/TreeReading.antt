-- Source trees with the scopes of their modules.
use Rattle.std.specs.Prelude.{List}
use Rattle.ob_imports.specs.declared.fault.GraphFault.{GraphFault}
use Rattle.ob_imports.specs.declared.fault.GraphFault.TheVariants as graphs
use Rattle.digraph.specs.Chains.{IsAcyclic}
use Rattle.ob_imports.specs.Files.{Imports}
use Rattle.ob_imports.specs.Outcomes.{AreFilesOfGraph}
use Rattle.scopes.specs.Scoped.{AreScopes, ModuleScopes}
use Rattle.source_tree.specs.Files.{AreAllOf, HasValue}
use Rattle.source_tree.specs.Trees.{ModuleFile, files_of, rows}
use Rattle.source_tree.specs.declared.source.Source.{Source}
use Rattle.source_tree.specs.declared.tree_fault.TreeFault.{TreeFault}
use Rattle.source_tree.specs.declared.tree_fault.TreeFault.TheVariants.{Graph, Memory}
use Rattle.source_tree.specs.declared.tree_reading.ScopedTree.{ScopedTree}

-- an error of the import graph as an error of the tree; a failed allocation becomes the tree's `Memory`
abbrev pub of_graph : GraphFault → TreeFault
of_graph (graphs.TwoModules name first second) = Graph (graphs.TwoModules name first second)
of_graph (graphs.Cycle names) = Graph (graphs.Cycle names)
of_graph graphs.TooMany = Graph graphs.TooMany
of_graph graphs.Memory = Memory

-- s are the scopes of the file's module
abbrev pub AreScopesOf : ModuleFile → ModuleScopes → Type 0
AreScopesOf file s = AreScopes file.bytes file.tokens (rows file) s

-- the file is accepted, and s are the scopes of its module
abbrev pub HasScopes : Source → ModuleScopes → Type 0
HasScopes source s = HasValue AreScopesOf source s

-- the files are accepted, and `ss` has the scopes of each, in file order
abbrev pub AreFilesRead : List Source → List ModuleFile → List ModuleScopes → Type 0
AreFilesRead sources files ss = AreAllOf AreScopesOf sources files ss

-- the files are accepted, and the tree has the scopes of each and their import graph, which is acyclic
pub record IsTreeOf (sources : List Source) (tree : ScopedTree) : Type 0 where
  pub files : List ModuleFile
  pub read : AreFilesRead sources files tree.scopes.items
  pub kept : AreFilesOfGraph (files_of files) tree.graph
  pub acyclic : IsAcyclic (Imports (files_of files))
