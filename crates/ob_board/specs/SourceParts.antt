-- The parts of a tree's modules, and the files that they describe.
use Rattle.std.specs.Prelude.{◌≡◌, ℕ, List, [], ◌∷◌, length, slice_get, Some, Ok, Box}
use Rattle.std.specs.Arc.{arc_value}
use Rattle.std.specs.String.{string_bytes}
use Rattle.std.specs.declared.alloc.Global.{Global}
use Rattle.module_table.specs.Tables.{rows_in}
use Rattle.ob_imports.specs.Graphs.{ImportGraph}
use Rattle.ob_imports.specs.Outcomes.{AreFilesOfGraph}
use Rattle.ob_scan.specs.Spelling.{IsOutcome}
use Rattle.scopes.specs.Scoped.{AreScopes}
use Rattle.source_tree.specs.declared.parts.ModuleParts.{ModuleParts}
use Rattle.source_tree.specs.declared.source.Source.{Source}
use Rattle.ob_board.specs.Reached.{files_of, interface_in, FileModel}

-- the file that this source and these parts describe
abbrev pub file_model_in : Source → ModuleParts → FileModel
file_model_in s parts = record { path = string_bytes s.path; bytes = s.bytes.items; tokens = parts.tokens; rows = rows_in parts.table }

-- the files that the sources and their parts describe, source by source
abbrev pub file_models : List Source → List (Box ModuleParts Global) → List FileModel
file_models [] modules = []
file_models (s ∷ sources) [] = []
file_models (s ∷ sources) (m ∷ modules) = file_model_in s m.value ∷ file_models sources modules

-- the parts have the tokens, the scopes and the interface of this source
pub record IsSourceRead (s : Source) (parts : ModuleParts) : Type 0 where
  pub reads : IsOutcome s.bytes.items (Ok parts.tokens)
  pub scopes : AreScopes s.bytes.items parts.tokens (rows_in parts.table) parts.scopes
  pub interface : arc_value parts.interface ≡ interface_in (file_model_in s parts)

-- the parts in the list are those of the sources, in the same order, and the graph is that of the imports among the files
pub record AreSourcesRead (sources : List Source) (modules : List (Box ModuleParts Global)) (graph : ImportGraph) : Type 0 where
  pub as_many : length modules ≡ length sources
  pub each : (k : ℕ) (s : Source) (m : Box ModuleParts Global) → slice_get sources k ≡ Some s → slice_get modules k ≡ Some m → IsSourceRead s m.value
  pub kept : AreFilesOfGraph (files_of (file_models sources modules)) graph
