-- What a run on the modules of a tree reads and writes. Answers holds for the readings that the reader may return.
use Rattle.std.specs.Prelude.{◌≡◌, ◌⊎◌, ℕ, Bool, true, false, List, [], Option, Result, Ok, Err}
use Rattle.std.specs.Io.KnownBytes.{Keeps}
use Rattle.std.specs.String.{string_bytes}
use Rattle.cut_net.specs.Network.{texts}
use Rattle.oscip_job.specs.declared.job.SourceTree.{SourceTree}
use Rattle.oscip_job.specs.declared.job.TreeQuestion.{TreeQuestion}
use Rattle.oscip_run.specs.Faults.{IsReadFault}
use Rattle.oscip_run.specs.Readings.{FolderOf, Reading, Refused}
use Rattle.oscip_run.specs.Styles.{style_of_tree}
use Rattle.oscip_run.specs.TreeQuestionRuns.{IsTreeQuestionRun}
use Rattle.oscip_run.specs.declared.fault.RunFault.{RunFault}
use Rattle.oscip_run.specs.declared.fault.RunFault.TheVariants.{Memory}
use Rattle.oscip_run.specs.declared.tree_run.TreeRun.{TreeRun}
use Rattle.source_tree.specs.FileFaults.{ArePartitionedFiles}
use Rattle.source_tree.specs.declared.source.Source.{Source}
use Rattle.source_tree.specs.declared.tree_fault.TreeFault.{TreeFault}

-- the files that a run uses, and the faults of the files that it leaves out. With true it leaves out the files with faults of their own,
-- with false no file
abbrev pub AreUsed : Bool → List Source → List Source → List TreeFault → Type 0
AreUsed true sources used faults = ArePartitionedFiles sources used faults
AreUsed false sources used faults = (used ≡ sources) × (faults ≡ [])

-- of the files that the reader returned for the tree's folder and patterns, the run uses the files `used`, and the faults are those of the
-- files that it leaves out
abbrev pub AreTreeFiles : (Reading → Type 0) → SourceTree → List Source → List TreeFault → Type 0
AreTreeFiles Answers tree used faults =
    (sources : List Source) × Answers (FolderOf (string_bytes tree.folder) (texts tree.excluded.items) sources) × AreUsed tree.skips_faults sources used faults

-- the reader returned this fault for the tree's folder, or memory ran out
abbrev pub IsTreeUnread : (Reading → Type 0) → SourceTree → RunFault → Type 0
IsTreeUnread Answers tree fault = (IsReadFault fault × Answers (Refused (string_bytes tree.folder) fault)) ⊎ (fault ≡ Memory)

-- a run on a tree: with Ok, Runs holds for the files that it uses and for its result; with an error there is no such run, and the sink is
-- unchanged
abbrev pub IsTreeRun : (Reading → Type 0) → SourceTree → (List Source → Result Bool RunFault → Type 0) → Option (List ℕ) → Option (List ℕ) → Result TreeRun RunFault → Type 0
IsTreeRun Answers tree Runs old new (Ok run) = (used : List Source) × AreTreeFiles Answers tree used run.faults.items × Runs used run.ended
IsTreeRun Answers tree Runs old new (Err fault) = IsTreeUnread Answers tree fault × Keeps old new

-- a run of a question about a tree, with locations in the tree's style
abbrev pub IsTreeQuestionRunOn : (Reading → Type 0) → SourceTree → TreeQuestion → Option (List ℕ) → Option (List ℕ) → Result TreeRun RunFault → Type 0
IsTreeQuestionRunOn Answers tree question old new result =
    IsTreeRun Answers tree (λ used ended. IsTreeQuestionRun Answers (style_of_tree tree) used question old new ended) old new result
