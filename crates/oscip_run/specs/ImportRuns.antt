-- What the runs of net and why read and write: the network of an input, and the shortest path of imports between two modules.
use Rattle.std.specs.Prelude.{◌≡◌, ◌≢◌, ◌⊎◌, ℕ, Bool, true, false, List, [], Option, Some, Result, Ok, Err}
use Rattle.std.specs.Io.KnownBytes.{Appends, Keeps}
use Rattle.byte_sink.specs.Sinks.{AppendsPrefix}
use Rattle.digraph.specs.ShortestPaths.{IsLeastChain}
use Rattle.cut_net.specs.Cuts.{Any, Chain, Imports}
use Rattle.cut_net.specs.NetText.{IsNetOutcome}
use Rattle.cut_net.specs.Network.{Network, index_of}
use Rattle.cut_report.specs.NetLines.{chain_text, net_text}
use Rattle.oscip_run.specs.CutRuns.{IsRejectedNames}
use Rattle.oscip_run.specs.declared.fault.RunFault.{RunFault}
use Rattle.oscip_run.specs.declared.fault.RunFault.TheVariants.{CannotRead, CannotWrite, Tree, Net, Price, Rules, Report, Solve, Query, Device, Memory}

-- the sink took all of a text for which IsText holds
abbrev pub WritesOutput : (List ℕ → Type 0) → Option (List ℕ) → Option (List ℕ) → Type 0
WritesOutput IsText old new = (text : List ℕ) × IsText text × Appends old new text

-- the sink took a prefix of a text for which IsText holds
abbrev pub WritesOutputPrefix : (List ℕ → Type 0) → Option (List ℕ) → Option (List ℕ) → Type 0
WritesOutputPrefix IsText old new = (text : List ℕ) × IsText text × AppendsPrefix old new text

-- a run that writes a text for which IsText holds, or fails with a fault for which IsRefused holds and leaves the sink unchanged
abbrev pub IsWritingRun : (List ℕ → Type 0) → (RunFault → Type 0) → Option (List ℕ) → Option (List ℕ) → Result (Unit {0}) RunFault → Type 0
IsWritingRun IsText IsRefused old new (Ok _) = WritesOutput IsText old new
IsWritingRun IsText IsRefused old new (Err (CannotRead path)) = ⊥
IsWritingRun IsText IsRefused old new (Err (CannotWrite path)) = ⊥
IsWritingRun IsText IsRefused old new (Err (Tree fault)) = IsRefused (Tree fault) × Keeps old new
IsWritingRun IsText IsRefused old new (Err (Net fault)) = IsRefused (Net fault) × Keeps old new
IsWritingRun IsText IsRefused old new (Err (Price fault)) = IsRefused (Price fault) × Keeps old new
IsWritingRun IsText IsRefused old new (Err (Report fault)) = ⊥
IsWritingRun IsText IsRefused old new (Err (Solve fault)) = IsRefused (Solve fault) × Keeps old new
IsWritingRun IsText IsRefused old new (Err (Rules fault)) = ⊥
IsWritingRun IsText IsRefused old new (Err (Query fault)) = ⊥
IsWritingRun IsText IsRefused old new (Err Device) = WritesOutputPrefix IsText old new
IsWritingRun IsText IsRefused old new (Err Memory) = Keeps old new ⊎ WritesOutputPrefix IsText old new

-- Below, IsOf net states that net is the network of the input, a text or a tree.

-- the text is the written form of the input's network, and is read again as exactly this network
pub record IsNetText (IsOf : Network → Type 0) (text : List ℕ) : Type 0 where
  pub net : Network
  pub reads : IsOf net
  pub spelled : text ≡ net_text net
  pub says : IsNetOutcome text (Ok net)

-- a run that writes the input's network as text
abbrev pub IsNetTextRun : (Network → Type 0) → (RunFault → Type 0) → Option (List ℕ) → Option (List ℕ) → Result (Unit {0}) RunFault → Type 0
IsNetTextRun IsOf = IsWritingRun (IsNetText IsOf)

-- with true the text has a line for each import of the shortest path from a to b, of several the lexicographically smallest; with false
-- there is no path, and the text is empty
abbrev pub IsPathText : Network → ℕ → ℕ → Bool → List ℕ → Type 0
IsPathText net a b true text = (path : List ℕ) × IsLeastChain (Imports net.imports Any) a b path × (text ≡ chain_text net path) × (text ≢ [])
IsPathText net a b false text = (Chain net.imports Any a b → ⊥) × (text ≡ [])

-- the text is that of the shortest path between the modules with these two names in the input's network; found is whether there is a path
pub record IsWhyText (IsOf : Network → Type 0) (first second : List ℕ) (found : Bool) (text : List ℕ) : Type 0 where
  pub net : Network
  pub reads : IsOf net
  pub a : ℕ
  pub first_is : index_of net first ≡ Some a
  pub b : ℕ
  pub second_is : index_of net second ≡ Some b
  pub apart : a ≢ b
  pub exact : IsPathText net a b found text

-- the input is rejected with this fault, or it is accepted and the names are rejected
abbrev pub IsWhyRejected : (Network → Type 0) → (RunFault → Type 0) → List ℕ → List ℕ → RunFault → Type 0
IsWhyRejected IsOf IsRefused first second (CannotRead path) = ⊥
IsWhyRejected IsOf IsRefused first second (CannotWrite path) = ⊥
IsWhyRejected IsOf IsRefused first second (Tree fault) = IsRefused (Tree fault)
IsWhyRejected IsOf IsRefused first second (Net fault) = IsRefused (Net fault)
IsWhyRejected IsOf IsRefused first second (Price fault) = ⊥
IsWhyRejected IsOf IsRefused first second (Report fault) = ⊥
IsWhyRejected IsOf IsRefused first second (Solve fault) = IsRejectedNames IsOf first second fault
IsWhyRejected IsOf IsRefused first second (Rules fault) = ⊥
IsWhyRejected IsOf IsRefused first second (Query fault) = ⊥
IsWhyRejected IsOf IsRefused first second Device = ⊥
IsWhyRejected IsOf IsRefused first second Memory = ⊥

-- a run that writes the shortest path of imports between the modules of two names, and returns whether there is one
abbrev pub IsWhyRun : (Network → Type 0) → (RunFault → Type 0) → List ℕ → List ℕ → Option (List ℕ) → Option (List ℕ) → Result Bool RunFault → Type 0
IsWhyRun IsOf IsRefused first second old new (Ok found) = WritesOutput (IsWhyText IsOf first second found) old new
IsWhyRun IsOf IsRefused first second old new (Err fault) = IsWritingRun (IsWhyText IsOf first second true) (IsWhyRejected IsOf IsRefused first second) old new (Err fault)
