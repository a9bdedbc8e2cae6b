-- The end of the program: what it writes to its streams, and its status.
use Rattle.std.specs.Prelude.{◌≡◌, ◌⊎◌, ◌==◌, ◌&&◌, ℕ, Bool, true, false, List, [], ◌∷◌, ◌++◌, length, Option, Result, Ok, Err, codes}
use Rattle.std.specs.String.{string_bytes}
use Rattle.oscip_job.specs.declared.job.JobFault.{JobFault}
use Rattle.oscip_job.specs.declared.job.JobFault.TheVariants as words
use Rattle.oscip_run.specs.Faults.{fault_text, of_tree, status_number}
use Rattle.oscip_run.specs.Streams.{Writes, WritesAll, WritesPrefix}
use Rattle.oscip_run.specs.declared.fault.RunFault.{RunFault}
use Rattle.oscip_run.specs.declared.fault.RunFault.TheVariants.{Device, Memory}
use Rattle.oscip_run.specs.declared.stream.Stream.{Stream}
use Rattle.source_tree.specs.declared.tree_fault.TreeFault.{TreeFault}
use Rattle.texts.specs.Escapes.{escaped}
use Rattle.texts.specs.Places.{plain_style, Style}

-- the exit status of a run with this result: 0 for true, 5 for false, and otherwise that of the fault
abbrev pub run_status : Result Bool RunFault → ℕ
run_status (Ok true) = 0
run_status (Ok false) = 5
run_status (Err fault) = status_number fault

-- the exit status for a command line that gives no job: 2 if it is invalid, 0 for help, 4 if memory ran out
abbrev pub job_fault_status : JobFault → ℕ
job_fault_status (words.Line text) = 2
job_fault_status (words.Help text) = 0
job_fault_status words.Memory = 4

-- the line that reports a fault, with locations in files of a tree in this style
abbrev pub fault_line : Style → RunFault → List ℕ
fault_line style fault = codes "oscip: " ++ escaped (fault_text style fault) ++ codes "\n"

-- the line of the fault is written to standard error, as far as standard error takes it, and the status is that of the fault
pub record EndsByFault {S : Type 0} (taken : S → Option (List ℕ)) (style : Style) (fault : RunFault) (old new : Stream S) (status : ℕ) : Type 0 where
  pub line : Writes taken old new (fault_line style fault)
  pub status_is : status ≡ status_number fault

-- the line that reports the fault of a run; empty if the run has no fault
abbrev pub run_line : Style → Result Bool RunFault → List ℕ
run_line style (Ok agrees) = []
run_line style (Err fault) = fault_line style fault

-- the end of a run: without a fault nothing is written to standard error. A fault is reported with its line and status, or as Memory if
-- memory for its line ran out
abbrev pub EndsRun : {S T E : Type 0} → (S → Option (List ℕ)) → Style → Result Bool RunFault → Result T E → Stream S → Stream S → ℕ → Type 0
EndsRun taken style (Ok agrees) line old new status = (status ≡ run_status (Ok agrees)) × (new ≡ old)
EndsRun taken style (Err fault) (Ok line) old new status = EndsByFault taken style fault old new status
EndsRun taken style (Err fault) (Err refused) old new status = EndsByFault taken style Memory old new status

-- with true the line of the fault is written, as far as standard error takes it; with false memory for the line ran out, and nothing is
-- written
abbrev pub IsReported : {S : Type 0} → (S → Option (List ℕ)) → Style → RunFault → Bool → Stream S → Stream S → Type 0
IsReported taken style fault true old new = Writes taken old new (fault_line style fault)
IsReported taken style fault false old new = new ≡ old

-- the faults of the files that a run left out are reported in their order, except those for whose line memory ran out. The Boolean is
-- whether all are reported
pub data AreReported {S : Type 0} (taken : S → Option (List ℕ)) (style : Style) (old : Stream S) : List TreeFault → Bool → Stream S → Type 0 where
  none : AreReported taken style old [] true old
  more : {faults : List TreeFault} {all : Bool} {mid new : Stream S} (fault : TreeFault) (reported : Bool) → AreReported taken style old faults all mid →
      IsReported taken style (of_tree fault) reported mid new → AreReported taken style old (faults ++ fault ∷ []) (all && reported) new

-- the result of a run on a tree: the fault of the run on the other files, or whether that run returned true and no file was left out
abbrev pub tree_result : List TreeFault → Result Bool RunFault → Result Bool RunFault
tree_result faults (Ok agrees) = Ok (agrees && length faults == 0)
tree_result faults (Err fault) = Err fault

-- without a fault nothing is written; the fault of a run is reported unless memory for its line ran out
abbrev pub MayReport : {S : Type 0} → (S → Option (List ℕ)) → Style → Result Bool RunFault → Stream S → Stream S → Type 0
MayReport taken style (Ok agrees) old new = new ≡ old
MayReport taken style (Err fault) old new = (reported : Bool) × IsReported taken style fault reported old new

-- the end of a run on a tree: the faults of the files that it left out are reported. The result is tree_result, or Memory if memory for a
-- line ran out
abbrev pub EndsTree : {S : Type 0} → (S → Option (List ℕ)) → Style → List TreeFault → Result Bool RunFault → Stream S → Stream S → Result Bool RunFault → Type 0
EndsTree taken style faults ended old new result =
    (AreReported taken style old faults true new × (result ≡ tree_result faults ended))
    ⊎ ((mid : Stream _) × AreReported taken style old faults false mid × MayReport taken style ended mid new × (result ≡ Err Memory))

-- the end for a command line without a job: its error is written to standard error, or its help to standard output. If only a prefix of the
-- help is written, the end is that of Device
abbrev pub EndsWithoutJob : {O E : Type 0} → (O → Option (List ℕ)) → (E → Option (List ℕ)) → JobFault → Stream O × Stream O → Stream E × Stream E → ℕ → Type 0
EndsWithoutJob out_taken err_taken (words.Line text) out err status =
    Writes err_taken err.0 err.1 (string_bytes text) × (out.1 ≡ out.0) × (status ≡ job_fault_status (words.Line text))
EndsWithoutJob out_taken err_taken (words.Help text) out err status =
    (WritesAll out_taken out.0 out.1 (string_bytes text) × (err.1 ≡ err.0) × (status ≡ job_fault_status (words.Help text)))
    ⊎ (WritesPrefix out_taken out.0 out.1 (string_bytes text) × EndsByFault err_taken plain_style Device err.0 err.1 status)
EndsWithoutJob out_taken err_taken words.Memory out err status = EndsByFault err_taken plain_style Memory err.0 err.1 status × (out.1 ≡ out.0)
