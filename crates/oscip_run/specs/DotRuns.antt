-- What a run that draws a report reads and writes.
use Rattle.std.specs.Prelude.{◌⊎◌, ℕ, Bool, true, false, List, [], Option, Result, Ok, Err}
use Rattle.std.specs.Io.KnownBytes.{Appends, Keeps}
use Rattle.byte_sink.specs.Sinks.{AppendsPrefix}
use Rattle.cut_net.specs.Network.{Network}
use Rattle.cut_net.specs.AnswerClaim.{AnswerClaim, CutOf, BlockedBy}
use Rattle.cut_report.specs.ReportClaim.{ReportClaim}
use Rattle.cut_report.specs.ReportLines.{IsReportOutcome}
use Rattle.cut_dot.specs.Pictures.{IsPicture, IsPictureByFlow}
use Rattle.oscip_run.specs.declared.fault.RunFault.{RunFault}
use Rattle.oscip_run.specs.declared.fault.RunFault.TheVariants.{CannotRead, CannotWrite, Tree, Net, Price, Rules, Report, Solve, Query, Device, Memory}
use Rattle.oscip_run.specs.Runs.{IsRejectedReport}

-- the text is the picture of all imports on paths between two modules, with this claim about them; if no cut exists, nothing is removed and
-- there is no flow
abbrev pub IsPictureOf : Network → ℕ → ℕ → AnswerClaim → List ℕ → Type 0
IsPictureOf net a b (CutOf total printed flow) text = IsPicture net a b printed flow text
IsPictureOf net a b (BlockedBy chain) text = IsPicture net a b [] [] text

-- the text is the requested picture: by flow if the first argument is true, or of all imports on paths between the two modules
abbrev pub IsAskedPicture : Bool → Network → ℕ → ℕ → AnswerClaim → List ℕ → Type 0
IsAskedPicture true net a b claim text = IsPictureByFlow net a b claim text
IsAskedPicture false net a b claim text = IsPictureOf net a b claim text

-- Below, Shows net a b claim text states that the text is the requested picture of a claim about the modules a and b.

-- the report is a valid one on the input's network, and the text is the picture of its claim, whether the claim holds or not
pub record IsDrawn (Shows : Network → ℕ → ℕ → AnswerClaim → List ℕ → Type 0) (IsOf : Network → Type 0) (report text : List ℕ) : Type 0 where
  pub net : Network
  pub reads : IsOf net
  pub entry : ReportClaim
  pub says : IsReportOutcome net report (Ok entry)
  pub picture : Shows net entry.from entry.to entry.claim text

-- the sink took the whole picture
abbrev pub WritesPicture : (Network → ℕ → ℕ → AnswerClaim → List ℕ → Type 0) → (Network → Type 0) → List ℕ → Option (List ℕ) → Option (List ℕ) → Type 0
WritesPicture Shows IsOf report old new = (text : List ℕ) × IsDrawn Shows IsOf report text × Appends old new text

-- the sink took a prefix of the picture
abbrev pub WritesPicturePrefix : (Network → ℕ → ℕ → AnswerClaim → List ℕ → Type 0) → (Network → Type 0) → List ℕ → Option (List ℕ) → Option (List ℕ) → Type 0
WritesPicturePrefix Shows IsOf report old new = (text : List ℕ) × IsDrawn Shows IsOf report text × AppendsPrefix old new text

-- a run that draws a report. Rejected input or a rejected report leaves the sink unchanged; Device or Memory leave it with at most a prefix
-- of the picture
abbrev pub IsDotRun : (Network → ℕ → ℕ → AnswerClaim → List ℕ → Type 0) → (Network → Type 0) → (RunFault → Type 0) → List ℕ → Option (List ℕ) → Option (List ℕ) → Result (Unit {0}) RunFault → Type 0
IsDotRun Shows IsOf IsRefused report old new (Ok _) = WritesPicture Shows IsOf report old new
IsDotRun Shows IsOf IsRefused report old new (Err (CannotRead path)) = ⊥
IsDotRun Shows IsOf IsRefused report old new (Err (CannotWrite path)) = ⊥
IsDotRun Shows IsOf IsRefused report old new (Err (Tree fault)) = IsRefused (Tree fault) × Keeps old new
IsDotRun Shows IsOf IsRefused report old new (Err (Net fault)) = IsRefused (Net fault) × Keeps old new
IsDotRun Shows IsOf IsRefused report old new (Err (Price fault)) = IsRefused (Price fault) × Keeps old new
IsDotRun Shows IsOf IsRefused report old new (Err (Report fault)) = IsRejectedReport IsOf report fault × Keeps old new
IsDotRun Shows IsOf IsRefused report old new (Err (Solve fault)) = ⊥
IsDotRun Shows IsOf IsRefused report old new (Err (Rules fault)) = ⊥
IsDotRun Shows IsOf IsRefused report old new (Err (Query fault)) = ⊥
IsDotRun Shows IsOf IsRefused report old new (Err Device) = WritesPicturePrefix Shows IsOf report old new
IsDotRun Shows IsOf IsRefused report old new (Err Memory) = Keeps old new ⊎ WritesPicturePrefix Shows IsOf report old new
