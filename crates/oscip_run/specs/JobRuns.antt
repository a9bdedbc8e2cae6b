-- What a run of a question about a network reads and writes.
use Rattle.std.specs.Prelude.{◌≡◌, ℕ, Bool, true, List, Option, None, Result, Ok, Err, IfOk}
use Rattle.std.specs.String.{string_bytes}
use Rattle.cut_net.specs.Network.{Network}
use Rattle.cut_net.specs.AnswerClaim.{AnswerClaim}
use Rattle.oscip_run.specs.CutRuns.{IsCutRun}
use Rattle.oscip_run.specs.DotRuns.{IsAskedPicture, IsDotRun}
use Rattle.oscip_run.specs.ImportRuns.{IsWhyRun}
use Rattle.oscip_run.specs.ReachRuns.{IsReachRun}
use Rattle.oscip_run.specs.Runs.{IsCheckRun}
use Rattle.oscip_run.specs.declared.fault.RunFault.{RunFault}
use Rattle.oscip_job.specs.declared.job.Direction.{Direction}
use Rattle.oscip_job.specs.declared.job.NetQuestion.{NetQuestion}
use Rattle.oscip_job.specs.declared.job.NetQuestion.TheVariants.{Cut, Check, Dot, Why, Reach}

-- the result with its Boolean replaced by the unit value
abbrev pub without_boolean : Result Bool RunFault → Result (Unit {0}) RunFault
without_boolean (Ok agrees) = Ok tt
without_boolean (Err fault) = Err fault

-- a run that searches for a cut between two names, and never returns false
abbrev pub IsCutJobRun : (Network → Type 0) → (RunFault → Type 0) → List ℕ → List ℕ → Option (List ℕ) → Option (List ℕ) → Result Bool RunFault → Type 0
IsCutJobRun IsOf IsRefused first second old new result =
    IsCutRun IsOf IsRefused first second old new (without_boolean result) × IfOk result (λ agrees. agrees ≡ true)

-- a run that draws a picture for which Shows holds, and never returns false
abbrev pub IsDotJobRun : (Network → ℕ → ℕ → AnswerClaim → List ℕ → Type 0) → (Network → Type 0) → (RunFault → Type 0) → List ℕ → Option (List ℕ) → Option (List ℕ) → Result Bool RunFault → Type 0
IsDotJobRun Shows IsOf IsRefused report old new result =
    IsDotRun Shows IsOf IsRefused report old new (without_boolean result) × IfOk result (λ agrees. agrees ≡ true)

-- a run that lists the modules that a module reaches, or that reach it, and never returns false
abbrev pub IsReachJobRun : (Network → Type 0) → (RunFault → Type 0) → List ℕ → Direction → Option (List ℕ) → Option (List ℕ) → Result Bool RunFault → Type 0
IsReachJobRun IsOf IsRefused name direction old new result =
    IsReachRun IsOf IsRefused name direction old new (without_boolean result) × IfOk result (λ agrees. agrees ≡ true)

-- Below, IsOf prices net states that net is the network of the input with these prices, if they are given.

-- a run of the engine of this question about a network, with the names in the question and with this report; paths and reached modules
-- don't depend on prices
abbrev pub IsJobRun : (Option (List ℕ) → Network → Type 0) → (Option (List ℕ) → RunFault → Type 0) → NetQuestion → List ℕ → Option (List ℕ) → Option (List ℕ) → Option (List ℕ) → Result Bool RunFault → Type 0
IsJobRun IsOf IsRefused (Cut cutting) report prices old new result = IsCutJobRun (IsOf prices) (IsRefused prices) (string_bytes cutting.from) (string_bytes cutting.to) old new result
IsJobRun IsOf IsRefused (Check reported) report prices old new result = IsCheckRun (IsOf prices) (IsRefused prices) report old new result
IsJobRun IsOf IsRefused (Dot drawing) report prices old new result = IsDotJobRun (IsAskedPicture drawing.by_flow) (IsOf prices) (IsRefused prices) report old new result
IsJobRun IsOf IsRefused (Why names) report prices old new result = IsWhyRun (IsOf None) (IsRefused None) (string_bytes names.from) (string_bytes names.to) old new result
IsJobRun IsOf IsRefused (Reach reaching) report prices old new result = IsReachJobRun (IsOf None) (IsRefused None) (string_bytes reaching.module) reaching.direction old new result
