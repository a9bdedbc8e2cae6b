-- The import graph of a tree.
use Rattle.std.specs.Prelude.{◌≡◌, ℕ, ◌+◌, ◌<◌, ◌≤◌, ◌↔◌, List, [], length, slice_index, Bool, true, false, Contains, String}
use Rattle.std.specs.List.{IsDistinct, slice_index_or}
use Rattle.std.specs.Str.{bytes_eq}
use Rattle.digraph.specs.declared.edge.Edge.{Edge}
use Rattle.digraph.specs.Chains.{IsAcyclic}
use Rattle.ob_imports.specs.Files.{File, AreNodes, Imports}
use Rattle.digraph.specs.Marks.{marked, list_at}
use Rattle.ob_imports.specs.Names.{LeadsBy, texts}
use Rattle.digraph.specs.Edges.{AreBetween, IsAscending, Leads}
pub use Rattle.digraph.specs.Edges.{successors as imported, predecessors as importing}

-- the names of the modules by number; how many of them are modules of the tree, which come first; and the imports
pub record ImportGraph : Type 0 where
  pub names : List (List ℕ)
  pub modules : ℕ
  pub pairs : List Edge

-- the graph with the names of a table
abbrev pub graph_with : {Z : Type 0} → List (String Z) → ℕ → List Edge → ImportGraph
graph_with names modules pairs = record { names = texts names; modules = modules; pairs = pairs }

abbrev pub name_of : ImportGraph → ℕ → List ℕ
name_of g v = slice_index_or g.names v []

-- names are distinct, imports are strictly sorted and lead from modules of the tree, all is within the limits, and the imports are
-- acyclic
pub record IsGraph (g : ImportGraph) : Type 0 where
  pub apart : IsDistinct bytes_eq g.names
  pub few_modules : g.modules ≤ 4096
  pub within : g.modules ≤ length g.names
  pub few_names : length g.names ≤ 8192
  pub few_pairs : length g.pairs ≤ 65536
  pub between : AreBetween g.pairs (length g.names)
  pub ascend : IsAscending g.pairs
  pub of_tree : (p : Edge) → Contains g.pairs p → p.from < g.modules
  pub acyclic : IsAcyclic (Leads g.pairs)

-- the graph of these files
pub record IsGraphOf (files : List File) (g : ImportGraph) : Type 0 where
  pub nodes : AreNodes files g.names
  pub modules : g.modules ≡ length files
  pub ascend : IsAscending g.pairs
  pub leads : (v w : ℕ) → Leads g.pairs v w ↔ LeadsBy (Imports files) g.names v w

-- the module is one of the tree, isn't done, and its imports in the tree are all done
pub record IsReady (g : ImportGraph) (done : List Bool) (v : ℕ) : Type 0 where
  pub in_tree : v < g.modules
  pub not_done : marked done v ≡ false
  pub imports_done : (w : ℕ) → Leads g.pairs v w → w < g.modules → marked done w ≡ true

-- as `IsReady`, given the list of imports of each module
pub record CanStart (rows : List (List ℕ)) (done : List Bool) (v : ℕ) : Type 0 where
  pub in_tree : v < length done
  pub not_done : marked done v ≡ false
  pub imports_done : (w : ℕ) → Contains (list_at rows v) w → w < length done → marked done w ≡ true

-- the list has exactly the numbers with the property, in ascending order
pub record IsListOf (P : ℕ → Type 0) (vs : List ℕ) : Type 0 where
  pub each : (k : ℕ) → k < length vs → P (slice_index vs k)
  pub all : (v : ℕ) → P v → Contains vs v
  pub ascending : (k : ℕ) → k + 1 < length vs → slice_index vs k < slice_index vs (k + 1)
