-- What a run of a job on the files that it names reads and writes. Answers holds for the readings that the reader may return.
use Rattle.std.specs.Prelude.{◌≡◌, ◌⊎◌, ℕ, Bool, true, List, Option, Result, Ok, Err, IfOk}
use Rattle.std.specs.Io.KnownBytes.{Keeps}
use Rattle.oscip_job.specs.declared.job.IndexQuestion.{IndexQuestion}
use Rattle.oscip_job.specs.declared.job.NetQuestion.{NetQuestion}
use Rattle.oscip_run.specs.AskedRuns.{IsAskedRun}
use Rattle.oscip_run.specs.Faults.{IsReadFault}
use Rattle.oscip_run.specs.JobRuns.{without_boolean, IsJobRun}
use Rattle.oscip_run.specs.PricedInputs.{IsNetOfPricedText, IsNetOfPricedTree, IsRejectedPricedText, IsRejectedPricedTree}
use Rattle.oscip_run.specs.Readings.{bytes_or_empty, question_paths, AreReturned, AreUnreadable, FileOf, IsNetUnreadable, Reading, Refused}
use Rattle.oscip_run.specs.declared.fault.RunFault.{RunFault}
use Rattle.source_tree.specs.declared.source.Source.{Source}
use Rattle.texts.specs.Places.{Style}

-- the run ended with the fault of a path that can't be read, and the sink is unchanged
abbrev pub IsUnread : (RunFault → Type 0) → Option (List ℕ) → Option (List ℕ) → Result Bool RunFault → Type 0
IsUnread IsUnreadable old new (Ok agrees) = ⊥
IsUnread IsUnreadable old new (Err fault) = IsReadFault fault × IsUnreadable fault × Keeps old new

-- the engine of the question ran on the network that the reader returned for this path, and on the report and prices of the question's own
-- paths
pub record IsRunOnNet (Answers : Reading → Type 0) (path : List ℕ) (question : NetQuestion) (old new : Option (List ℕ)) (result : Result Bool RunFault) : Type 0 where
  pub network : List ℕ
  pub report : Option (List ℕ)
  pub prices : Option (List ℕ)
  pub network_returned : Answers (FileOf path network)
  pub given : AreReturned Answers (question_paths question) report prices
  pub run : IsJobRun (IsNetOfPricedText network) (IsRejectedPricedText network) question (bytes_or_empty report) prices old new result

-- the engine of the question ran on the network of these modules, and on the report and prices that the reader returned for the question's
-- own paths
pub record IsRunOnTree (Answers : Reading → Type 0) (sources : List Source) (question : NetQuestion) (old new : Option (List ℕ)) (result : Result Bool RunFault) : Type 0 where
  pub report : Option (List ℕ)
  pub prices : Option (List ℕ)
  pub given : AreReturned Answers (question_paths question) report prices
  pub run : IsJobRun (IsNetOfPricedTree sources) (IsRejectedPricedTree sources) question (bytes_or_empty report) prices old new result

-- a run of a question about the network in the file of this path: a file can't be read, or the question was answered from what was read
abbrev pub IsNetRun : (Reading → Type 0) → List ℕ → NetQuestion → Option (List ℕ) → Option (List ℕ) → Result Bool RunFault → Type 0
IsNetRun Answers path question old new result =
    IsUnread (IsNetUnreadable Answers path (question_paths question)) old new result ⊎ IsRunOnNet Answers path question old new result

-- a run of a question about the network of these modules: a file can't be read, or the question was answered from what was read
abbrev pub IsTreeNetRun : (Reading → Type 0) → List Source → NetQuestion → Option (List ℕ) → Option (List ℕ) → Result Bool RunFault → Type 0
IsTreeNetRun Answers sources question old new result =
    IsUnread (AreUnreadable Answers (question_paths question)) old new result ⊎ IsRunOnTree Answers sources question old new result

-- the reader returned this fault for the path of the run's only file
abbrev pub IsInputUnreadable : (Reading → Type 0) → List ℕ → RunFault → Type 0
IsInputUnreadable Answers path fault = Answers (Refused path fault)

-- a run of a question about the index in the file of this path, with locations in this style, which never returns false
abbrev pub IsQuestionRun : (Reading → Type 0) → Style → List ℕ → IndexQuestion → Option (List ℕ) → Option (List ℕ) → Result Bool RunFault → Type 0
IsQuestionRun Answers style path question old new result =
    IsUnread (IsInputUnreadable Answers path) old new result
    ⊎ ((index : List ℕ) × Answers (FileOf path index) × IsAskedRun style index question old new (without_boolean result) × IfOk result (λ agrees. agrees ≡ true))
