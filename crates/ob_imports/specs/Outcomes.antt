-- The outcomes of the files of a tree: a graph, or the first error.
use Rattle.std.specs.Prelude.{◌≡◌, ◌≢◌, ◌⊎◌, ℕ, ◌<◌, ◌≤◌, List, [], ◌∷◌, length, map, Result, Ok, Err, IsPermutation}
use Rattle.std.specs.List.{slice_index_or}
use Rattle.std.specs.Ordering.{nat_cmp}
use Rattle.std.specs.Cmp.Lexicographic.{slice_cmp}
use Rattle.std.specs.String.{string_bytes}
use Rattle.std.specs.declared.cmp.Ordering.TheVariants.{Less}
use Rattle.ob_imports.specs.declared.fault.GraphFault.{GraphFault}
use Rattle.ob_imports.specs.declared.fault.GraphFault.TheVariants as faults
use Rattle.digraph.specs.Chains.{IsAcyclic}
use Rattle.digraph.specs.Cycle.{IsCanonicalCycle}
use Rattle.ob_imports.specs.Files.{File, AreNodes, DifferInName, Imports, paths_of}
use Rattle.ob_imports.specs.Graphs.{ImportGraph, IsGraphOf}
use Rattle.ob_imports.specs.Names.{AreAscending, AreNamesSorted, LeadsBy, texts}

-- the errors of files, with names and paths as byte lists
pub data GraphError : Type 0 where
  TwoModules : List ℕ → List ℕ → List ℕ → GraphError
  Cycle : List (List ℕ) → GraphError
  TooMany : GraphError

-- the smallest repeated module name, and its two smallest paths
pub record IsTwoModules (files : List File) (name first second : List ℕ) : Type 0 where
  pub few_modules : length files ≤ 4096
  pub rest : List (List ℕ)
  pub paths : IsPermutation (paths_of files name) (first ∷ second ∷ rest)
  pub in_order : AreNamesSorted (first ∷ second ∷ rest)
  pub least : (other : List ℕ) → 2 ≤ length (paths_of files other) → slice_cmp nat_cmp other name ≢ Less

-- at most 4096 files, with distinct module names
pub record AreFiles (files : List File) : Type 0 where
  pub few_modules : length files ≤ 4096
  pub differ : DifferInName files

-- more than 8192 modules including external ones
pub record ExceedsNodeLimit (files : List File) : Type 0 where
  pub are_files : AreFiles files
  pub names : List (List ℕ)
  pub nodes : AreNodes files names
  pub many : 8192 < length names

-- more than 65536 imports, each pair of modules counted once
pub record ExceedsPairLimit (files : List File) : Type 0 where
  pub are_files : AreFiles files
  pub graph : ImportGraph
  pub is_graph : IsGraphOf files graph
  pub few_names : length graph.names ≤ 8192
  pub many : 65536 < length graph.pairs

-- the files are within the limits and have this graph
pub record AreFilesOfGraph (files : List File) (g : ImportGraph) : Type 0 where
  pub are_files : AreFiles files
  pub is_graph : IsGraphOf files g
  pub few_names : length g.names ≤ 8192
  pub few_pairs : length g.pairs ≤ 65536

-- `names` are the names on the canonical cycle of the modules `nodes`, where modules are ordered by name
pub record IsCycleOf (files : List File) (nodes names : List (List ℕ)) : Type 0 where
  pub order : List (List ℕ)
  pub same : IsPermutation nodes order
  pub ascend : AreAscending order
  pub cycle : List ℕ
  pub is_cycle : IsCanonicalCycle (LeadsBy (Imports files) order) cycle
  pub are_names : names ≡ map (λ r. slice_index_or order r []) cycle

-- the files are within the limits, and these are the names on their canonical cycle
pub record IsCycle (files : List File) (names : List (List ℕ)) : Type 0 where
  pub graph : ImportGraph
  pub kept : AreFilesOfGraph files graph
  pub is_cycle : IsCycleOf files graph.names names

-- the outcome of the files: their graph, or the first error
abbrev pub IsGraphOutcome : List File → Result ImportGraph GraphError → Type 0
IsGraphOutcome files (Ok g) = AreFilesOfGraph files g × IsAcyclic (Imports files)
IsGraphOutcome files (Err (TwoModules name first second)) = IsTwoModules files name first second
IsGraphOutcome files (Err (Cycle names)) = IsCycle files names
IsGraphOutcome files (Err TooMany) = (4096 < length files) ⊎ ExceedsNodeLimit files ⊎ ExceedsPairLimit files

-- the error that the fault denotes; a failed allocation denotes none
abbrev pub IsErrorOf : GraphFault → GraphError → Type 0
IsErrorOf (faults.TwoModules name first second) refusal = refusal ≡ TwoModules (string_bytes name) (string_bytes first) (string_bytes second)
IsErrorOf (faults.Cycle names) refusal = refusal ≡ Cycle (texts names.items)
IsErrorOf faults.TooMany refusal = refusal ≡ TooMany
IsErrorOf faults.Memory refusal = ⊥

-- the property of the error that the fault denotes, and nothing for a failed allocation
abbrev pub UnlessMemory : GraphFault → (GraphError → Type 0) → Type 0
UnlessMemory (faults.TwoModules name first second) P = P (TwoModules (string_bytes name) (string_bytes first) (string_bytes second))
UnlessMemory (faults.Cycle names) P = P (Cycle (texts names.items))
UnlessMemory faults.TooMany P = P TooMany
UnlessMemory faults.Memory P = Unit {0}

-- the result has the property, unless an allocation failed
abbrev pub HasOutcome : Result ImportGraph GraphFault → (Result ImportGraph GraphError → Type 0) → Type 0
HasOutcome (Ok g) IsOutcome = IsOutcome (Ok g)
HasOutcome (Err fault) IsOutcome = UnlessMemory fault (λ refusal. IsOutcome (Err refusal))
