-- What a run that lists the modules that a module reaches, or that reach it, reads and writes.
use Rattle.std.specs.Prelude.{◌≡◌, ◌↔◌, ◌<◌, ℕ, List, map, Option, Some, None, Result, AllPairs, Contains}
use Rattle.std.specs.String.{string_bytes}
use Rattle.cut_net.specs.Cuts.{Any, Imports}
use Rattle.cut_net.specs.Network.{Network, index_of, name_of}
use Rattle.cut_report.specs.Reach.{Reaches}
use Rattle.cut_solve.specs.declared.fault.SolveFault.{SolveFault}
use Rattle.cut_solve.specs.declared.fault.SolveFault.TheVariants as solve
use Rattle.oscip_job.specs.declared.job.Direction.{Direction}
use Rattle.oscip_job.specs.declared.job.Direction.TheVariants.{Imported, Importing}
use Rattle.oscip_run.specs.ImportRuns.{IsWritingRun}
use Rattle.oscip_run.specs.ModuleRuns.{entry_lines, ModuleEntry}
use Rattle.oscip_run.specs.declared.fault.RunFault.{RunFault}
use Rattle.oscip_run.specs.declared.fault.RunFault.TheVariants.{CannotRead, CannotWrite, Tree, Net, Price, Rules, Report, Solve, Query, Device, Memory}
use Rattle.texts.specs.Places.{plain_style}

-- a path of one or more imports leads from module m to module n if the direction is Imported, and from n to m if it is Importing
abbrev pub IsReached : Network → Direction → ℕ → ℕ → Type 0
IsReached net Imported m n = Reaches (Imports net.imports Any) m n
IsReached net Importing m n = Reaches (Imports net.imports Any) n m

-- the entry of the module of this number: its name, and no path
abbrev pub named_entry : Network → ℕ → ModuleEntry
named_entry net m = record { name = name_of net m; path = None }

-- the text has a line with the name of each module that is reached from the module of this name in this direction, sorted by name
pub record IsReachText (IsOf : Network → Type 0) (name : List ℕ) (direction : Direction) (text : List ℕ) : Type 0 where
  pub net : Network
  pub reads : IsOf net
  pub start : ℕ
  pub start_is : index_of net name ≡ Some start
  pub reached : List ℕ
  pub ascending : AllPairs (λ m n. m < n) reached
  pub exact : (n : ℕ) → Contains reached n ↔ IsReached net direction start n
  pub lines : text ≡ entry_lines plain_style (map (named_entry net) reached)

-- the fault states that no module of the network has this name
abbrev pub IsUnknownName : Network → List ℕ → SolveFault → Type 0
IsUnknownName net name solve.SameModule = ⊥
IsUnknownName net name (solve.NoSuchModule own) = (index_of net name ≡ None) × (string_bytes own ≡ name)
IsUnknownName net name solve.Memory = ⊥

-- the input is rejected with this fault, or it is accepted and no module has the name
abbrev pub IsReachRejected : (Network → Type 0) → (RunFault → Type 0) → List ℕ → RunFault → Type 0
IsReachRejected IsOf IsRefused name (CannotRead path) = ⊥
IsReachRejected IsOf IsRefused name (CannotWrite path) = ⊥
IsReachRejected IsOf IsRefused name (Tree fault) = IsRefused (Tree fault)
IsReachRejected IsOf IsRefused name (Net fault) = IsRefused (Net fault)
IsReachRejected IsOf IsRefused name (Price fault) = ⊥
IsReachRejected IsOf IsRefused name (Report fault) = ⊥
IsReachRejected IsOf IsRefused name (Solve fault) = (net : Network) × IsOf net × IsUnknownName net name fault
IsReachRejected IsOf IsRefused name (Rules fault) = ⊥
IsReachRejected IsOf IsRefused name (Query fault) = ⊥
IsReachRejected IsOf IsRefused name Device = ⊥
IsReachRejected IsOf IsRefused name Memory = ⊥

-- a run that lists the modules that the module of this name reaches, or that reach it
abbrev pub IsReachRun : (Network → Type 0) → (RunFault → Type 0) → List ℕ → Direction → Option (List ℕ) → Option (List ℕ) → Result (Unit {0}) RunFault → Type 0
IsReachRun IsOf IsRefused name direction = IsWritingRun (IsReachText IsOf name direction) (IsReachRejected IsOf IsRefused name)
