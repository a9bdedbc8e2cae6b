-- The runs of engines as runs of jobs.
use Rattle.std.proofs.Common.{◌≡◌, ℕ, Bool, List, Option, Result, Err, subst}
use Rattle.cut_net.specs.Network.{Network}
use Rattle.oscip_run.specs.CutRuns.{IsCutRun}
use Rattle.oscip_run.specs.ImportRuns.{IsWhyRun}
use Rattle.oscip_job.specs.declared.job.Direction.{Direction}
use Rattle.oscip_run.specs.JobRuns.{IsCutJobRun, IsReachJobRun}
use Rattle.oscip_run.specs.ReachRuns.{IsReachRun}
use Rattle.oscip_run.specs.declared.fault.RunFault.{RunFault}

-- a search for a cut that found none, between names that are the job's
pub refused_cut : (IsOf : Network → Type 0) (IsRefused : RunFault → Type 0) (a b first second : List ℕ) (old new : Option (List ℕ)) (fault : RunFault) → a ≡ first → b ≡ second →
    IsCutRun IsOf IsRefused a b old new (Err fault) → IsCutJobRun IsOf IsRefused first second old new (Err fault)
refused_cut IsOf IsRefused a b first second old new fault e f h =
    let of_second = subst (λ (x : List ℕ). IsCutRun IsOf IsRefused a x old new (Err fault)) f h in
    (subst (λ (x : List ℕ). IsCutRun IsOf IsRefused x second old new (Err fault)) e of_second, tt)

-- a run of `why`, between names that are the job's
pub why_of : (IsOf : Network → Type 0) (IsRefused : RunFault → Type 0) (a b first second : List ℕ) (old new : Option (List ℕ)) (result : Result Bool RunFault) → a ≡ first → b ≡ second →
    IsWhyRun IsOf IsRefused a b old new result → IsWhyRun IsOf IsRefused first second old new result
why_of IsOf IsRefused a b first second old new result e f h =
    let of_second = subst (λ (x : List ℕ). IsWhyRun IsOf IsRefused a x old new result) f h in
    subst (λ (x : List ℕ). IsWhyRun IsOf IsRefused x second old new result) e of_second

-- a list of what is reached that failed, by a name that is the job's
pub refused_reach : (IsOf : Network → Type 0) (IsRefused : RunFault → Type 0) (name own : List ℕ) (direction : Direction) (old new : Option (List ℕ)) (fault : RunFault) → name ≡ own →
    IsReachRun IsOf IsRefused name direction old new (Err fault) → IsReachJobRun IsOf IsRefused own direction old new (Err fault)
refused_reach IsOf IsRefused name own direction old new fault e h = (subst (λ (x : List ℕ). IsReachRun IsOf IsRefused x direction old new (Err fault)) e h, tt)
