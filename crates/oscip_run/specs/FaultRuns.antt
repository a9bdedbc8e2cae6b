-- What a run that lists the faults of a tree reads and writes.
use Rattle.std.specs.Prelude.{◌≡◌, ◌⊎◌, ◌↔◌, ℕ, Bool, IsTrue, List, [], ◌∷◌, ◌++◌, map, Option, Result, Ok, Err, codes}
use Rattle.std.specs.Io.KnownBytes.{Appends, Keeps}
use Rattle.std.specs.List.{flat_map}
use Rattle.byte_sink.specs.Sinks.{AppendsPrefix}
use Rattle.oscip_run.specs.declared.fault.RunFault.{RunFault}
use Rattle.oscip_run.specs.declared.fault.RunFault.TheVariants.{CannotRead, CannotWrite, Tree, Net, Price, Rules, Report, Solve, Query, Device, Memory}
use Rattle.source_tree.specs.FileFaults.{AreTreeFaults}
use Rattle.source_tree.specs.TreeFaults.{tree_fault_text}
use Rattle.source_tree.specs.Trees.{IsTree, ModuleFile}
use Rattle.source_tree.specs.declared.source.Source.{Source}
use Rattle.source_tree.specs.declared.tree_fault.TreeFault.{TreeFault}
use Rattle.texts.specs.Escapes.{escaped}
use Rattle.texts.specs.Places.{plain_style, Style}

-- the line of a fault's text: its control characters are escaped, and an LF follows
abbrev pub escaped_line : List ℕ → List ℕ
escaped_line told = escaped told ++ codes "\n"

-- a line for each of the faults, in their order, with locations in this style
abbrev pub fault_lines : Style → List TreeFault → List ℕ
fault_lines style faults = flat_map escaped_line (map (tree_fault_text style) faults)

-- a line for each of the faults, in their order, or yes if there is none
abbrev pub faults_text : Style → List TreeFault → List ℕ
faults_text style [] = codes "yes\n"
faults_text style (fault ∷ faults) = fault_lines style (fault ∷ faults)

-- the text has a line for each fault for which the tree is rejected, or is yes if there is none. agrees is whether the tree is accepted
pub record IsFaultsText (style : Style) (sources : List Source) (text : List ℕ) (agrees : Bool) : Type 0 where
  pub faults : List TreeFault
  pub are_faults : AreTreeFaults sources faults
  pub text_is : text ≡ faults_text style faults
  pub agrees_is : IsTrue agrees ↔ ((files : List ModuleFile) × IsTree sources files)

-- the sink took all lines of the tree's faults, or yes
abbrev pub WritesFaults : Style → List Source → Option (List ℕ) → Option (List ℕ) → Bool → Type 0
WritesFaults style sources old new agrees = (text : List ℕ) × IsFaultsText style sources text agrees × Appends old new text

-- the sink took a prefix of the lines of the tree's faults, or of yes
abbrev pub WritesFaultsPrefix : Style → List Source → Option (List ℕ) → Option (List ℕ) → Type 0
WritesFaultsPrefix style sources old new = (text : List ℕ) × (agrees : Bool) × IsFaultsText style sources text agrees × AppendsPrefix old new text

-- a run that lists the faults of a tree. It rejects no tree; Device or Memory leave the sink with at most a prefix of the text
abbrev pub IsFaultsRun : Style → List Source → Option (List ℕ) → Option (List ℕ) → Result Bool RunFault → Type 0
IsFaultsRun style sources old new (Ok agrees) = WritesFaults style sources old new agrees
IsFaultsRun style sources old new (Err (CannotRead path)) = ⊥
IsFaultsRun style sources old new (Err (CannotWrite path)) = ⊥
IsFaultsRun style sources old new (Err (Tree fault)) = ⊥
IsFaultsRun style sources old new (Err (Net fault)) = ⊥
IsFaultsRun style sources old new (Err (Price fault)) = ⊥
IsFaultsRun style sources old new (Err (Report fault)) = ⊥
IsFaultsRun style sources old new (Err (Solve fault)) = ⊥
IsFaultsRun style sources old new (Err (Rules fault)) = ⊥
IsFaultsRun style sources old new (Err (Query fault)) = ⊥
IsFaultsRun style sources old new (Err Device) = WritesFaultsPrefix style sources old new
IsFaultsRun style sources old new (Err Memory) = Keeps old new ⊎ WritesFaultsPrefix style sources old new
