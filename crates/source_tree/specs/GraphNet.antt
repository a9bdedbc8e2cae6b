-- The network of an import graph, with weights from the scopes of its modules.
use Rattle.std.specs.Prelude.{ℕ, ◌≤◌, List, [], ◌++◌, map, slice_index, All}
use Rattle.std.specs.List.{slice_index_or}
use Rattle.std.specs.Borrow.{Bor}
use Rattle.std.specs.Option.{unwrap_or}
use Rattle.std.specs.Str.{bytes_eq}
use Rattle.indexmap.specs.IndexMap.{IndexMap, get_by}
use Rattle.digraph.specs.declared.edge.Edge.{Edge}
use Rattle.ob_imports.specs.Graphs.{ImportGraph, name_of}
use Rattle.scopes.specs.Scoped.{ModuleScopes}
use Rattle.scopes.specs.Weights.{uses_of_import}
use Rattle.cut_net.specs.declared.priced.Priced.{Priced}
use Rattle.cut_net.specs.NetText.{NetLine, Module, Import}

-- empty scopes, the default for an index past the end of a list of scopes
abbrev pub no_scopes : ModuleScopes
no_scopes = record { name = []; meanings = []; aliases = [] }

-- the scopes of the module with this number; empty scopes for an external module
abbrev pub scopes_at : List ModuleScopes → ℕ → ModuleScopes
scopes_at ss v = slice_index_or ss v no_scopes

-- the weight of an import: the number of uses in the importer that aliases of the imported module qualify
abbrev pub graph_weight : ImportGraph → List ModuleScopes → Edge → ℕ
graph_weight g ss p = uses_of_import (scopes_at ss p.from).aliases (name_of g p.to)

-- the line of an import of the graph: the two module names and the weight
abbrev pub graph_import : ImportGraph → List ModuleScopes → Edge → NetLine
graph_import g ss p = Import (name_of g p.from) (name_of g p.to) (graph_weight g ss p)

-- a line for each module and for each import of the graph
abbrev pub graph_lines : ImportGraph → List ModuleScopes → List NetLine
graph_lines g ss = map Module g.names ++ map (graph_import g ss) g.pairs

-- ---- construction

-- the sum in the table for this name; 0 if the table doesn't have the name
abbrev pub sum_in : {S : Type 0} → IndexMap (Bor (List ℕ)) ℕ S → List ℕ → ℕ
sum_in sums name = unwrap_or (get_by (λ k. bytes_eq name k.now) sums) 0

-- the import of module w by module v, which has the scopes s: the pair of their numbers, and the import's weight
abbrev pub entry_to : ImportGraph → ModuleScopes → ℕ → ℕ → (ℕ × ℕ) × ℕ
entry_to g s v w = ((v, w), uses_of_import s.aliases (name_of g w))

-- an import of the graph, as the pair of its modules' numbers with the import's weight
abbrev pub graph_entry : ImportGraph → List ModuleScopes → Edge → (ℕ × ℕ) × ℕ
graph_entry g ss p = entry_to g (scopes_at ss p.from) p.from p.to

-- no import in the list has a weight above 2 ^ 24, the largest number of uses in a module
abbrev pub AreLight : List ((ℕ × ℕ) × ℕ) → Type 0
AreLight entries = All (λ e. e.1 ≤ 16777216) entries

-- this import with new module numbers: `ranks` maps a module's number in the graph to its number in the network
abbrev pub ranked : List ℕ → (ℕ × ℕ) × ℕ → Priced
ranked ranks e = record { from = slice_index ranks e.0.0; to = slice_index ranks e.0.1; amount = e.1 }
