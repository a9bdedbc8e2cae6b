-- The text of a network, and the first error of any other text. Lines are numbered from 1.
use Rattle.std.specs.Prelude.{◌≡◌, ◌≢◌, ◌↔◌, ◌⊎◌, ℕ, ◌+◌, ◌<◌, ◌≤◌, ◌^◌, ◌==◌, Bool, true, false, List, [], ◌∷◌, ◌++◌, length, Some, Result, Ok, Err, slice_get, take, map, filter, count_by, codes, All, AllPairs, Contains}
use Rattle.std.specs.List.{slice_split, IsDistinct}
use Rattle.std.specs.Str.{bytes_eq}
use Rattle.std.specs.Fmt.{decimal}
use Rattle.digraph.specs.Cycle.{IsCanonicalCycle}
use Rattle.cut_net.specs.declared.fault.NetFault.{NetFault}
use Rattle.cut_net.specs.declared.fault.NetFault.TheVariants as faults
use Rattle.cut_net.specs.declared.priced.Priced.{Priced}
use Rattle.texts.specs.Fields.{is_name, line_of}
use Rattle.cut_net.specs.Network.{Network, name_of, texts}
use Rattle.cut_net.specs.Lines.{IsAscending}
use Rattle.cut_net.specs.Cuts.{Any, Imports}
use Rattle.cut_net.specs.WellFormed.{AreBetween, AreNamesInOrder, IsAcyclic, total_weight}

-- the content of a line: a module, or that the first module imports the second with this weight
pub data NetLine : Type 0 where
  Module : List ℕ → NetLine
  Import : List ℕ → List ℕ → ℕ → NetLine

-- the bytes of the line
abbrev pub net_line : NetLine → List ℕ
net_line (Module m) = line_of (codes "module" ∷ m ∷ [])
net_line (Import m n w) = line_of (codes "import" ∷ m ∷ n ∷ decimal w ∷ [])

-- the names of the line are identifiers, and its weight fits 64 bits
abbrev pub IsNetLine : NetLine → Type 0
IsNetLine (Module m) = is_name m ≡ true
IsNetLine (Import m n w) = (is_name m ≡ true) × (is_name n ≡ true) × (w < 2 ^ 64)

-- the bytes between line ends, empty lines included; after the last line end there is one more piece, which may be empty
abbrev pub pieces_of : List ℕ → List (List ℕ)
pieces_of bytes = slice_split (λ c. c == 10) bytes

-- the piece isn't empty
abbrev pub is_nonempty : List ℕ → Bool
is_nonempty [] = false
is_nonempty (_ ∷ _) = true

-- the pieces that aren't empty are the bytes of these lines, in order
abbrev pub Spell : List (List ℕ) → List NetLine → Type 0
Spell pieces lines = filter is_nonempty pieces ≡ map net_line lines

-- the line has the name
abbrev pub Mentions : List ℕ → NetLine → Type 0
Mentions name (Module m) = m ≡ name
Mentions name (Import m n w) = (m ≡ name) ⊎ (n ≡ name)

-- one of the lines has the name
abbrev pub AreMentioning : List NetLine → List ℕ → Type 0
AreMentioning lines name = (line : NetLine) × Contains lines line × Mentions name line

-- `names` has exactly the names of the lines, each once
pub record AreNamesOf (lines : List NetLine) (names : List (List ℕ)) : Type 0 where
  pub once : IsDistinct bytes_eq names
  pub named : (name : List ℕ) → Contains names name ↔ AreMentioning lines name

-- the line is an `import` line
abbrev pub is_import : NetLine → Bool
is_import (Module m) = false
is_import (Import m n w) = true

-- the lines have different imports, or one of them is a `module` line
abbrev pub HaveDifferentImports : NetLine → NetLine → Type 0
HaveDifferentImports (Module _) (Module _) = Unit {0}
HaveDifferentImports (Module _) (Import _ _ _) = Unit {0}
HaveDifferentImports (Import _ _ _) (Module _) = Unit {0}
HaveDifferentImports (Import m n _) (Import k l _) = m ≡ k → n ≢ l

-- the lines are within the limits: they have at most 8192 different names and 65536 imports
pub record AreWithinLimits (lines : List NetLine) : Type 0 where
  pub names : List (List ℕ)
  pub are_names : AreNamesOf lines names
  pub few_names : length names ≤ 8192
  pub few_imports : count_by is_import lines ≤ 65536

-- the lines have no error: each is valid, no import repeats, and they are within the limits
pub record AreValidLines (lines : List NetLine) : Type 0 where
  pub each : All IsNetLine lines
  pub apart : AllPairs HaveDifferentImports lines
  pub few : AreWithinLimits lines

-- the first k pieces are lines without an error, and this piece follows
pub record IsPrefix (bytes : List ℕ) (k : ℕ) (lines : List NetLine) (piece : List ℕ) : Type 0 where
  pub spelled : Spell (take k (pieces_of bytes)) lines
  pub good : AreValidLines lines
  pub present : slice_get (pieces_of bytes) k ≡ Some piece

-- piece k is neither empty nor a line, and the pieces before it are lines without an error
pub record IsBadLine (bytes : List ℕ) (k : ℕ) : Type 0 where
  pub before : List NetLine
  pub piece : List ℕ
  pub prefix : IsPrefix bytes k before piece
  pub written : is_nonempty piece ≡ true
  pub wrong : (line : NetLine) → IsNetLine line → net_line line ≢ piece

-- piece k is a line that repeats an import, and the pieces before it are lines without an error
pub record IsTwiceImport (bytes : List ℕ) (k : ℕ) : Type 0 where
  pub before : List NetLine
  pub line : NetLine
  pub prefix : IsPrefix bytes k before (net_line line)
  pub form : IsNetLine line
  pub twice : AllPairs HaveDifferentImports (before ++ line ∷ []) → ⊥

-- piece k is a line that repeats no import but exceeds a limit, and the pieces before it are lines without an error
pub record IsTooMany (bytes : List ℕ) (k : ℕ) : Type 0 where
  pub before : List NetLine
  pub line : NetLine
  pub prefix : IsPrefix bytes k before (net_line line)
  pub form : IsNetLine line
  pub apart : AllPairs HaveDifferentImports (before ++ line ∷ [])
  pub many : AreWithinLimits (before ++ line ∷ []) → ⊥

-- the network of the lines: their names and imports, strictly sorted; nothing is pinned
pub record IsNetOf (lines : List NetLine) (net : Network) : Type 0 where
  pub names_ascend : AreNamesInOrder net.names
  pub named : (name : List ℕ) → Contains net.names name ↔ AreMentioning lines name
  pub between : AreBetween net.imports (length net.names)
  pub imports_ascend : IsAscending net.imports
  pub listed : (i : Priced) → i.from < length net.names → i.to < length net.names →
      Contains net.imports i ↔ Contains lines (Import (name_of net i.from) (name_of net i.to) i.amount)
  pub no_pins : net.pins ≡ []

-- the bytes are lines without an error, and this is their network
pub record NetText (bytes : List ℕ) (net : Network) : Type 0 where
  pub lines : List NetLine
  pub spelled : Spell (pieces_of bytes) lines
  pub good : AreValidLines lines
  pub is_net : IsNetOf lines net

-- the errors of a text, with names as byte lists
pub data NetError : Type 0 where
  BadLine : ℕ → NetError
  TwiceImport : ℕ → NetError
  Cycle : List (List ℕ) → NetError
  WeightOverflow : NetError
  TooMany : ℕ → NetError

-- all lines are valid, and the total weight exceeds 64 bits
pub record IsOverflow (bytes : List ℕ) : Type 0 where
  pub net : Network
  pub text : NetText bytes net
  pub over : 2 ^ 64 ≤ total_weight net

-- all lines are valid and the total weight fits, and the canonical cycle has these names
pub record IsCycle (bytes : List ℕ) (names : List (List ℕ)) : Type 0 where
  pub net : Network
  pub text : NetText bytes net
  pub fits : total_weight net < 2 ^ 64
  pub cycle : List ℕ
  pub is_cycle : IsCanonicalCycle (Imports net.imports Any) cycle
  pub are_names : names ≡ map (name_of net) cycle

-- the outcome of a text: its network, or its first error
abbrev pub IsNetOutcome : List ℕ → Result Network NetError → Type 0
IsNetOutcome bytes (Ok net) = NetText bytes net × (total_weight net < 2 ^ 64) × IsAcyclic net.imports
IsNetOutcome bytes (Err (BadLine line)) = (k : ℕ) × (line ≡ k + 1) × IsBadLine bytes k
IsNetOutcome bytes (Err (TwiceImport line)) = (k : ℕ) × (line ≡ k + 1) × IsTwiceImport bytes k
IsNetOutcome bytes (Err (Cycle names)) = IsCycle bytes names
IsNetOutcome bytes (Err WeightOverflow) = IsOverflow bytes
IsNetOutcome bytes (Err (TooMany line)) = (k : ℕ) × (line ≡ k + 1) × IsTooMany bytes k

-- the error that the fault denotes; a failed allocation denotes none
abbrev pub IsErrorOf : NetFault → NetError → Type 0
IsErrorOf (faults.BadLine line) refusal = refusal ≡ BadLine line
IsErrorOf (faults.TwiceImport line) refusal = refusal ≡ TwiceImport line
IsErrorOf (faults.Cycle names) refusal = refusal ≡ Cycle (texts names.items)
IsErrorOf faults.WeightOverflow refusal = refusal ≡ WeightOverflow
IsErrorOf (faults.TooMany line) refusal = refusal ≡ TooMany line
IsErrorOf faults.Memory refusal = ⊥

-- the property of the error that the fault denotes, and nothing for a failed allocation
abbrev pub UnlessMemory : NetFault → (NetError → Type 0) → Type 0
UnlessMemory (faults.BadLine line) P = P (BadLine line)
UnlessMemory (faults.TwiceImport line) P = P (TwiceImport line)
UnlessMemory (faults.Cycle names) P = P (Cycle (texts names.items))
UnlessMemory faults.WeightOverflow P = P WeightOverflow
UnlessMemory (faults.TooMany line) P = P (TooMany line)
UnlessMemory faults.Memory P = Unit {0}

-- the result has the property, unless an allocation failed
abbrev pub HasOutcome : Result Network NetFault → (Result Network NetError → Type 0) → Type 0
HasOutcome (Ok net) IsOutcome = IsOutcome (Ok net)
HasOutcome (Err fault) IsOutcome = UnlessMemory fault (λ refusal. IsOutcome (Err refusal))
