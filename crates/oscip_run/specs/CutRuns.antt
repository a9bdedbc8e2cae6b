-- What a run that searches for a cheapest cut reads and writes. IsOf net states that net is the network of the input with its prices.
use Rattle.std.specs.Prelude.{◌≡◌, ◌≢◌, ◌⊎◌, ℕ, Bool, List, Option, Some, Result, Ok, Err}
use Rattle.std.specs.Io.KnownBytes.{Appends, Keeps}
use Rattle.cut_net.specs.declared.priced.Priced.{Priced}
use Rattle.cut_net.specs.Network.{Network, index_of}
use Rattle.cut_net.specs.Cuts.{AreReported, IsCheapest, IsFlow}
use Rattle.cut_net.specs.Lines.{flow_by, removed_by, AreImportsInOrder, AreWeights}
use Rattle.cut_net.specs.Pins.{AreReportedWithPins, AreWeightsWithPins, IsCheapestWithPins, IsCutWithPins, IsFlowWithPins, IsLeastPinChain, PinChain}
use Rattle.cut_net.specs.AnswerClaim.{AnswerClaim, CutOf, BlockedBy}
use Rattle.cut_report.specs.ReportText.{ReportText}
use Rattle.byte_sink.specs.Sinks.{AppendsPrefix}
use Rattle.cut_solve.specs.Faults.{IsErrorOf}
use Rattle.cut_solve.specs.Solving.{IsSolveOutcome, SolveError}
use Rattle.cut_solve.specs.declared.fault.SolveFault.{SolveFault}
use Rattle.oscip_run.specs.declared.fault.RunFault.{RunFault}
use Rattle.oscip_run.specs.declared.fault.RunFault.TheVariants.{CannotRead, CannotWrite, Tree, Net, Price, Rules, Report, Solve, Query, Device, Memory}

-- a cheapest cut between a and b among the sets without pinned imports, with its weight and a flow of that value
pub record IsPrintedCut (net : Network) (a b total : ℕ) (printed flow : List Priced) : Type 0 where
  -- no path of pinned imports leads from a to b
  pub free : PinChain net a b → ⊥
  -- the printed imports are imports of the network, sorted
  pub printed_in_order : AreImportsInOrder net printed
  -- the imports with flow are imports of the network, sorted
  pub flow_in_order : AreImportsInOrder net flow
  -- removing the printed imports leaves no path from a to b; none of them is pinned, and no set without pinned imports that does so weighs
  -- less
  pub cheapest : IsCheapestWithPins net a b (removed_by printed)
  -- each printed import has its weight in the network, and the printed weight is their sum
  pub weights : AreWeightsWithPins net printed total
  -- the printed flow is within the weights of unpinned imports, conserved at each module but a and b, and has the value of the printed
  -- weight
  pub is_flow : IsFlowWithPins net a b (flow_by flow) total
  -- of all cheapest cuts, the printed one is the canonical minimum cut
  pub are_printed : AreReportedWithPins net a b (removed_by printed)

-- this path of pinned imports leads from a to b, so no cut exists
pub record IsPrintedChain (net : Network) (a b : ℕ) (chain : List ℕ) : Type 0 where
  -- of the paths of pinned imports from a to b it is the shortest, of several the lexicographically smallest
  pub least : IsLeastPinChain net a b chain
  -- no set of imports without a pinned one is a cut
  pub no_cut : (x : Priced → Bool) → IsCutWithPins net a b x → ⊥

-- the claim about the modules a and b holds: its cut is as IsPrintedCut states, or its path of pinned imports as IsPrintedChain states
abbrev pub IsPrinted : Network → ℕ → ℕ → AnswerClaim → Type 0
IsPrinted net a b (CutOf total printed flow) = IsPrintedCut net a b total printed flow
IsPrinted net a b (BlockedBy chain) = IsPrintedChain net a b chain

-- the text is the report, in its only form, of a claim about the modules named first and second in a network for which IsOf holds; IsSaid
-- holds for the claim
pub record IsTextOf (IsOf : Network → Type 0) (IsSaid : Network → ℕ → ℕ → AnswerClaim → Type 0) (first second text : List ℕ) : Type 0 where
  pub net : Network
  pub reads : IsOf net
  pub a : ℕ
  pub first_is : index_of net first ≡ Some a
  pub b : ℕ
  pub second_is : index_of net second ≡ Some b
  -- the two modules differ
  pub apart : a ≢ b
  -- the claim about them
  pub claim : AnswerClaim
  -- the text is the report of that claim
  pub says : ReportText net text (record { from = a; to = b; claim = claim })
  pub holds : IsSaid net a b claim

-- The headline theorem, for what a run of any number of workers with any gate leaves in the sink. The network is that of the accepted
-- input, a tree or a network in a file, with its prices:
-- for every accepted tree, two named modules and every interleaving of the workers' pushes and relabels: once no other
-- module holds excess, removing the printed imports leaves no import chain from the first module to the second, their
-- weight is the printed one, and every set of imports whose removal leaves none weighs at least as much; the printed flow
-- has that value.
-- With prices, only sets without pinned imports count.
-- If a path of pinned imports leads from the first module to the second, the path is printed: then each cut has a pinned import.
abbrev pub IsCutText : (Network → Type 0) → List ℕ → List ℕ → List ℕ → Type 0
IsCutText IsOf = IsTextOf IsOf IsPrinted

-- the sink took a whole report of a cheapest cut, or of a path of pinned imports
abbrev pub WritesCut : (Network → Type 0) → List ℕ → List ℕ → Option (List ℕ) → Option (List ℕ) → Type 0
WritesCut IsOf first second old new = (text : List ℕ) × IsCutText IsOf first second text × Appends old new text

-- the sink took a prefix of a report of a cheapest cut, or of a path of pinned imports
abbrev pub WritesCutPrefix : (Network → Type 0) → List ℕ → List ℕ → Option (List ℕ) → Option (List ℕ) → Type 0
WritesCutPrefix IsOf first second old new = (text : List ℕ) × IsCutText IsOf first second text × AppendsPrefix old new text

-- the input is accepted, and the names are rejected with this fault, for example since one of them is unknown
abbrev pub IsRejectedNames : (Network → Type 0) → List ℕ → List ℕ → SolveFault → Type 0
IsRejectedNames IsOf first second fault = (net : Network) × IsOf net × (refusal : SolveError) × IsErrorOf fault refusal × IsSolveOutcome net first second (Err refusal)

-- a run that searches for a cheapest cut. Rejected input or names leave the sink unchanged; Device or Memory leave it with at most a prefix
-- of a report
abbrev pub IsCutRun : (Network → Type 0) → (RunFault → Type 0) → List ℕ → List ℕ → Option (List ℕ) → Option (List ℕ) → Result (Unit {0}) RunFault → Type 0
IsCutRun IsOf IsRefused first second old new (Ok _) = WritesCut IsOf first second old new
IsCutRun IsOf IsRefused first second old new (Err (CannotRead path)) = ⊥
IsCutRun IsOf IsRefused first second old new (Err (CannotWrite path)) = ⊥
IsCutRun IsOf IsRefused first second old new (Err (Tree fault)) = IsRefused (Tree fault) × Keeps old new
IsCutRun IsOf IsRefused first second old new (Err (Net fault)) = IsRefused (Net fault) × Keeps old new
IsCutRun IsOf IsRefused first second old new (Err (Price fault)) = IsRefused (Price fault) × Keeps old new
IsCutRun IsOf IsRefused first second old new (Err (Report fault)) = ⊥
IsCutRun IsOf IsRefused first second old new (Err (Solve fault)) = IsRejectedNames IsOf first second fault × Keeps old new
IsCutRun IsOf IsRefused first second old new (Err (Rules fault)) = ⊥
IsCutRun IsOf IsRefused first second old new (Err (Query fault)) = ⊥
IsCutRun IsOf IsRefused first second old new (Err Device) = WritesCutPrefix IsOf first second old new
IsCutRun IsOf IsRefused first second old new (Err Memory) = Keeps old new ⊎ WritesCutPrefix IsOf first second old new

-- ---- without pinned imports

-- a cheapest cut between a and b, with its weight and a flow of that value, in a network without pinned imports
pub record IsUnpinnedCut (net : Network) (a b total : ℕ) (printed flow : List Priced) : Type 0 where
  -- the printed imports are imports of the network, sorted
  pub printed_in_order : AreImportsInOrder net printed
  -- the imports with flow are imports of the network, sorted
  pub flow_in_order : AreImportsInOrder net flow
  -- removing the printed imports leaves no path from a to b, and no set of imports that does so weighs less
  pub cheapest : IsCheapest net a b (removed_by printed)
  -- each printed import has its weight in the network, and the printed weight is their sum
  pub weights : AreWeights net printed total
  -- the printed flow is within the weights, conserved at each module but a and b, and has the value of the printed weight
  pub is_flow : IsFlow net a b (flow_by flow) total
  -- of all cheapest cuts, the printed one is the canonical minimum cut
  pub are_printed : AreReported net a b (removed_by printed)

-- the claim about the modules a and b is a cut as IsUnpinnedCut states, and not a path of pinned imports
abbrev pub IsUnpinnedCutClaim : Network → ℕ → ℕ → AnswerClaim → Type 0
IsUnpinnedCutClaim net a b (CutOf total printed flow) = IsUnpinnedCut net a b total printed flow
IsUnpinnedCutClaim net a b (BlockedBy chain) = ⊥

-- the headline theorem for a network without pinned imports
abbrev pub IsUnpinnedCutText : (Network → Type 0) → List ℕ → List ℕ → List ℕ → Type 0
IsUnpinnedCutText IsOf = IsTextOf IsOf IsUnpinnedCutClaim
