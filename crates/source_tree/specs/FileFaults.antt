-- The errors of individual files, and all errors of a tree.
use Rattle.std.specs.Prelude.{◌≡◌, false, List, [], ◌∷◌, Result, Ok, Err, IfOk, Vec}
use Rattle.std.specs.declared.alloc.AllocError.{AllocError}
use Rattle.std.specs.declared.alloc.Global.{Global}
use Rattle.ob_imports.specs.declared.fault.GraphFault.{GraphFault}
use Rattle.scopes.specs.Scoped.{ModuleScopes}
use Rattle.source_tree.specs.Trees.{IsAccepted, IsFileFault, IsGraphFault, IsTree, ModuleFile}
use Rattle.source_tree.specs.TreeFaults.{is_out_of_memory}
use Rattle.source_tree.specs.TreeReading.{HasScopes}
use Rattle.source_tree.specs.declared.source.Source.{Source}
use Rattle.source_tree.specs.declared.tree_fault.TreeFault.{TreeFault}
use Rattle.source_tree.specs.declared.tree_fault.TreeFault.TheVariants.{Graph}

-- the file is accepted
abbrev pub IsAcceptedSource : Source → Type 0
IsAcceptedSource s = (file : ModuleFile) × IsAccepted s file

-- the file has this error of its tokens, its syntax or its names; the error isn't a failed allocation
abbrev pub HasFileFault : Source → TreeFault → Type 0
HasFileFault s fault = (is_out_of_memory fault ≡ false) × IsFileFault s fault

-- the partition of a list of files: the list of the accepted files, and the list of the errors of the other files, both in file order
pub data ArePartitionedFiles : List Source → List Source → List TreeFault → Type 0 where
  no_file : ArePartitionedFiles [] [] []
  sound : {s : Source} {sources accepted : List Source} {faults : List TreeFault} → IsAcceptedSource s → ArePartitionedFiles sources accepted faults → ArePartitionedFiles (s ∷ sources) (s ∷ accepted) faults
  faulty : {s : Source} {fault : TreeFault} {sources accepted : List Source} {faults : List TreeFault} → HasFileFault s fault → ArePartitionedFiles sources accepted faults →
      ArePartitionedFiles (s ∷ sources) accepted (fault ∷ faults)

-- the list of all errors of a tree: the errors of its files; if no file has an error, the error of its imports; empty for an accepted tree
pub data AreTreeFaults (sources : List Source) : List TreeFault → Type 0 where
  of_files : {accepted : List Source} {fault : TreeFault} {faults : List TreeFault} → ArePartitionedFiles sources accepted (fault ∷ faults) → AreTreeFaults sources (fault ∷ faults)
  of_imports : {fault : GraphFault} → IsGraphFault sources fault → AreTreeFaults sources (Graph fault ∷ [])
  of_nothing : {files : List ModuleFile} → IsTree sources files → AreTreeFaults sources []

-- ---- verdicts

-- the verdict on a file: the scopes of its module, or its error
abbrev pub Verdict : Type 0
Verdict = Result ModuleScopes TreeFault

-- the verdict is right for the file: the scopes are those of its module, or the file has the error
abbrev pub IsVerdict : Source → Verdict → Type 0
IsVerdict s (Ok scopes) = HasScopes s scopes
IsVerdict s (Err fault) = HasFileFault s fault

-- the verdicts are right for the files, one for each, in order
abbrev pub AreVerdicts : List Source → List Verdict → Type 0
AreVerdicts [] [] = Unit {0}
AreVerdicts [] (v ∷ vs) = ⊥
AreVerdicts (s ∷ sources) [] = ⊥
AreVerdicts (s ∷ sources) (v ∷ vs) = IsVerdict s v × AreVerdicts sources vs

-- with `Ok` the result has the verdicts on all files; the only error is a failed allocation
abbrev pub ReadsVerdicts : List Source → Result (Vec Verdict Global) AllocError → Type 0
ReadsVerdicts sources answer = IfOk answer (λ all. AreVerdicts sources all.items)

-- the scopes in those verdicts that aren't errors, in order
abbrev pub scopes_in : List Verdict → List ModuleScopes
scopes_in [] = []
scopes_in (Ok scopes ∷ vs) = scopes ∷ scopes_in vs
scopes_in (Err fault ∷ vs) = scopes_in vs

-- the errors in those verdicts that are errors, in order
abbrev pub faults_in : List Verdict → List TreeFault
faults_in [] = []
faults_in (Ok scopes ∷ vs) = faults_in vs
faults_in (Err fault ∷ vs) = fault ∷ faults_in vs

-- the files whose verdict isn't an error; the k-th verdict is on the k-th file
abbrev pub accepted_in : List Source → List Verdict → List Source
accepted_in [] vs = []
accepted_in (s ∷ sources) [] = []
accepted_in (s ∷ sources) (Ok scopes ∷ vs) = s ∷ accepted_in sources vs
accepted_in (s ∷ sources) (Err fault ∷ vs) = accepted_in sources vs
