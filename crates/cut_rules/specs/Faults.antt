-- The first fault of a text.
use Rattle.std.specs.Prelude.{◌≡◌, ℕ, ◌<◌, ◌≤◌, List, Option, Some, None}
use Rattle.std.specs.String.{string_bytes}
use Rattle.cut_net.specs.Network.{Network}
use Rattle.cut_rules.specs.declared.fault.RulesFault.{RulesFault}
use Rattle.cut_rules.specs.declared.fault.RulesFault.TheVariants as faults
use Rattle.cut_rules.specs.declared.file.File.{File}
use Rattle.cut_rules.specs.Rules.{rank, HasFault, LineFault, BadLine, SetIsModule, NoSuchModule, TwiceAllowed, EmptySet, TooMany}

-- the number of the line with this error, and the line's fault; none for a failed allocation
abbrev pub cause_of : RulesFault → Option (ℕ × LineFault)
cause_of (faults.BadLine line) = Some (line, BadLine)
cause_of (faults.SetIsModule line name) = Some (line, SetIsModule (string_bytes name))
cause_of (faults.NoSuchModule line name) = Some (line, NoSuchModule (string_bytes name))
cause_of (faults.TwiceAllowed line importer imported) = Some (line, TwiceAllowed (string_bytes importer) (string_bytes imported))
cause_of (faults.EmptySet line text) = Some (line, EmptySet (string_bytes text))
cause_of (faults.TooMany line) = Some (line, TooMany)
cause_of faults.Memory = None

-- the line has the fault, no earlier line has a fault, and no other fault of the line is tested before this one
pub record IsFirstFault (net : Network) (files : List File) (pieces : List (List ℕ)) (line : ℕ) (fault : LineFault) : Type 0 where
  pub has : HasFault net files pieces line fault
  pub first_line : (before : ℕ) (other : LineFault) → before < line → HasFault net files pieces before other → ⊥
  pub first : (other : LineFault) → HasFault net files pieces line other → rank fault ≤ rank other

-- the error is that of the text: it has the line and the fault of the text's first fault
abbrev pub IsRefusal : Network → List File → List (List ℕ) → RulesFault → Type 0
IsRefusal net files pieces refusal = (line : ℕ) × (fault : LineFault) × IsFirstFault net files pieces line fault × (cause_of refusal ≡ Some (line, fault))

-- the property holds, unless the error is a failed allocation
abbrev pub UnlessMemory : RulesFault → Type 0 → Type 0
UnlessMemory faults.Memory P = Unit {0}
UnlessMemory fault P = P
