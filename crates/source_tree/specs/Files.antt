-- Values that are computed from the files of a tree, one from each file.
use Rattle.std.specs.Prelude.{◌≡◌, ℕ, List, [], ◌∷◌, ◌++◌, length, slice_get, Some, Result, Ok, Err, Vec}
use Rattle.std.specs.declared.alloc.Global.{Global}
use Rattle.source_tree.specs.Trees.{AreAccepted, IsAccepted, IsFirstFault, ModuleFile}
use Rattle.source_tree.specs.declared.source.Source.{Source}
use Rattle.source_tree.specs.declared.tree_fault.TreeFault.{TreeFault}
use Rattle.source_tree.specs.declared.tree_fault.TreeFault.TheVariants as faults

-- the file is accepted, and `kept` is the value of its module by the relation `is_of`
abbrev pub HasValue : {K : Type 0} → (ModuleFile → K → Type 0) → Source → K → Type 0
HasValue is_of source kept = (file : ModuleFile) × IsAccepted source file × is_of file kept

-- the files are accepted, and `all` has the value of each by the relation `is_of`, in file order
pub record AreAllOf {K : Type 0} (is_of : ModuleFile → K → Type 0) (sources : List Source) (files : List ModuleFile) (all : List K) : Type 0 where
  pub accepted : AreAccepted sources files
  pub as_many : length all ≡ length files
  pub each : (i : ℕ) (file : ModuleFile) (kept : K) → slice_get files i ≡ Some file → slice_get all i ≡ Some kept → is_of file kept

-- the error is that of the first file that has an error, or it is a failed allocation
abbrev pub IsFaultOfFiles : List Source → TreeFault → Type 0
IsFaultOfFiles sources (faults.Scan path at fault) = IsFirstFault sources (faults.Scan path at fault)
IsFaultOfFiles sources (faults.Parse path at fault) = IsFirstFault sources (faults.Parse path at fault)
IsFaultOfFiles sources (faults.Scope path at fault) = IsFirstFault sources (faults.Scope path at fault)
IsFaultOfFiles sources (faults.Graph fault) = ⊥
IsFaultOfFiles sources faults.Memory = Unit {0}

-- the result of reading files: the value of each file, or the error of the first file that has an error
abbrev pub IsReading : {K : Type 0} → (ModuleFile → K → Type 0) → List Source → Result (Vec K Global) TreeFault → Type 0
IsReading is_of sources (Ok all) = (files : List ModuleFile) × AreAllOf is_of sources files all.items
IsReading is_of sources (Err fault) = IsFaultOfFiles sources fault

-- the files can be split into consecutive chunks, one for each result, so that `IsOf` holds for each chunk and its result
abbrev pub AreOfChunks : {A : Type 0} → (List Source → A → Type 0) → List Source → List A → Type 0
AreOfChunks IsOf sources [] = sources ≡ []
AreOfChunks IsOf sources (answer ∷ answers) =
    (piece : List Source) × (rest : List Source) × (sources ≡ piece ++ rest) × IsOf piece answer × AreOfChunks IsOf rest answers
