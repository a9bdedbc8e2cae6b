-- Which line of a report may follow which, and the first error of a text that is no report. Lines are numbered from 1.
use Rattle.std.specs.Prelude.{◌≡◌, ◌≢◌, ◌⊎◌, ℕ, ◌+◌, ◌<◌, ◌^◌, ◌==◌, ◌&&◌, ◌||◌, Bool, true, false, List, [], ◌∷◌, ◌++◌, length, Option, Some, None, Result, Ok, Err, All, Contains}
use Rattle.std.specs.List.{list_all, list_any}
use Rattle.std.specs.Str.{bytes_eq}
use Rattle.std.specs.Ordering.{nat_cmp, is_lt}
use Rattle.std.specs.Cmp.Lexicographic.{slice_cmp}
use Rattle.texts.specs.Fields.{ended, is_name}
use Rattle.cut_net.specs.Network.{Network}
use Rattle.cut_report.specs.ReportClaim.{ReportClaim}
use Rattle.cut_report.specs.ReportLine.{ReportLine, Ends, Weighs, Removes, Flows, Blocks, Last, report_line, written}
use Rattle.cut_report.specs.ReportText.{ReportText}
use Rattle.cut_report.specs.declared.fault.ReportFault.{ReportFault}
use Rattle.cut_report.specs.declared.fault.ReportFault.TheVariants as faults

-- the names of the line are identifiers, its numbers fit 64 bits, a flow isn't 0, and a path isn't empty
abbrev pub IsWellFormed : ReportLine → Type 0
IsWellFormed (Ends m n) = (is_name m ≡ true) × (is_name n ≡ true)
IsWellFormed (Weighs w) = w < 2 ^ 64
IsWellFormed (Removes m n w) = (is_name m ≡ true) × (is_name n ≡ true) × (w < 2 ^ 64)
IsWellFormed (Flows m n f) = (is_name m ≡ true) × (is_name n ≡ true) × (f < 2 ^ 64) × (0 < f)
IsWellFormed (Blocks names) = (0 < length names) × (list_all is_name names ≡ true)
IsWellFormed Last = Unit {0}

-- the kind of the line may follow that of the previous line (None before the first line). The kinds in order are `cut`, `weight`, `remove`
-- lines, `flow` lines, `end`; or `cut`, `blocked`, `end`
abbrev pub may_follow : Option ReportLine → ReportLine → Bool
may_follow None (Ends _ _) = true
may_follow None (Weighs _) = false
may_follow None (Removes _ _ _) = false
may_follow None (Flows _ _ _) = false
may_follow None (Blocks _) = false
may_follow None Last = false
may_follow (Some (Ends _ _)) (Ends _ _) = false
may_follow (Some (Ends _ _)) (Weighs _) = true
may_follow (Some (Ends _ _)) (Removes _ _ _) = false
may_follow (Some (Ends _ _)) (Flows _ _ _) = false
may_follow (Some (Ends _ _)) (Blocks _) = true
may_follow (Some (Ends _ _)) Last = false
may_follow (Some (Weighs _)) (Ends _ _) = false
may_follow (Some (Weighs _)) (Weighs _) = false
may_follow (Some (Weighs _)) (Removes _ _ _) = true
may_follow (Some (Weighs _)) (Flows _ _ _) = true
may_follow (Some (Weighs _)) (Blocks _) = false
may_follow (Some (Weighs _)) Last = true
may_follow (Some (Removes _ _ _)) (Ends _ _) = false
may_follow (Some (Removes _ _ _)) (Weighs _) = false
may_follow (Some (Removes _ _ _)) (Removes _ _ _) = true
may_follow (Some (Removes _ _ _)) (Flows _ _ _) = true
may_follow (Some (Removes _ _ _)) (Blocks _) = false
may_follow (Some (Removes _ _ _)) Last = true
may_follow (Some (Flows _ _ _)) (Ends _ _) = false
may_follow (Some (Flows _ _ _)) (Weighs _) = false
may_follow (Some (Flows _ _ _)) (Removes _ _ _) = false
may_follow (Some (Flows _ _ _)) (Flows _ _ _) = true
may_follow (Some (Flows _ _ _)) (Blocks _) = false
may_follow (Some (Flows _ _ _)) Last = true
may_follow (Some (Blocks _)) (Ends _ _) = false
may_follow (Some (Blocks _)) (Weighs _) = false
may_follow (Some (Blocks _)) (Removes _ _ _) = false
may_follow (Some (Blocks _)) (Flows _ _ _) = false
may_follow (Some (Blocks _)) (Blocks _) = false
may_follow (Some (Blocks _)) Last = true
may_follow (Some Last) (Ends _ _) = false
may_follow (Some Last) (Weighs _) = false
may_follow (Some Last) (Removes _ _ _) = false
may_follow (Some Last) (Flows _ _ _) = false
may_follow (Some Last) (Blocks _) = false
may_follow (Some Last) Last = false

-- a module of the network has the name
abbrev pub IsModuleName : Network → List ℕ → Type 0
IsModuleName net name = Contains net.names name

-- each name in the line is that of a module of the network
abbrev pub HasModuleNames : Network → ReportLine → Type 0
HasModuleNames net (Ends m n) = IsModuleName net m × IsModuleName net n
HasModuleNames net (Weighs w) = Unit {0}
HasModuleNames net (Removes m n w) = IsModuleName net m × IsModuleName net n
HasModuleNames net (Flows m n f) = IsModuleName net m × IsModuleName net n
HasModuleNames net (Blocks names) = All (IsModuleName net) names
HasModuleNames net Last = Unit {0}

-- the pair of names k and l comes before the pair m and n, by the bytes of the first and then of the second name
abbrev pub pair_is_before : List ℕ → List ℕ → List ℕ → List ℕ → Bool
pair_is_before k l m n = is_lt (slice_cmp nat_cmp k m) || (bytes_eq k m && is_lt (slice_cmp nat_cmp l n))

-- the names come after those of the previous line, if that is a `remove` line
abbrev pub is_above_removed : Option ReportLine → List ℕ → List ℕ → Bool
is_above_removed None m n = true
is_above_removed (Some (Ends _ _)) m n = true
is_above_removed (Some (Weighs _)) m n = true
is_above_removed (Some (Removes k l _)) m n = pair_is_before k l m n
is_above_removed (Some (Flows _ _ _)) m n = true
is_above_removed (Some (Blocks _)) m n = true
is_above_removed (Some Last) m n = true

-- the names come after those of the previous line, if that is a `flow` line
abbrev pub is_above_flow : Option ReportLine → List ℕ → List ℕ → Bool
is_above_flow None m n = true
is_above_flow (Some (Ends _ _)) m n = true
is_above_flow (Some (Weighs _)) m n = true
is_above_flow (Some (Removes _ _ _)) m n = true
is_above_flow (Some (Flows k l _)) m n = pair_is_before k l m n
is_above_flow (Some (Blocks _)) m n = true
is_above_flow (Some Last) m n = true

-- a `remove` line comes after the previous `remove` line, and a `flow` line after the previous `flow` line
abbrev pub is_above : Option ReportLine → ReportLine → Bool
is_above last (Ends _ _) = true
is_above last (Weighs _) = true
is_above last (Removes m n _) = is_above_removed last m n
is_above last (Flows m n _) = is_above_flow last m n
is_above last (Blocks _) = true
is_above last Last = true

-- the line may follow the line `last`: it is well-formed, its kind may follow, the network has its names, and it comes after `last`
pub record IsGoodAfter (net : Network) (last : Option ReportLine) (line : ReportLine) : Type 0 where
  pub form : IsWellFormed line
  pub follows : may_follow last line ≡ true
  pub known : HasModuleNames net line
  pub above : is_above last line ≡ true

-- the last line of the list; `last` if the list is empty
abbrev pub last_of : Option ReportLine → List ReportLine → Option ReportLine
last_of last [] = last
last_of last (line ∷ lines) = last_of (Some line) lines

-- each line of the list may follow its predecessor, and the first one may follow `last`
abbrev pub AreGoodAfter : Network → Option ReportLine → List ReportLine → Type 0
AreGoodAfter net last [] = Unit {0}
AreGoodAfter net last (line ∷ lines) = IsGoodAfter net last line × AreGoodAfter net (Some line) lines

-- the bytes are these lines, each of which may follow its predecessor, and then `rest`
pub record IsPrefix (net : Network) (bytes : List ℕ) (lines : List ReportLine) (rest : List ℕ) : Type 0 where
  pub good : AreGoodAfter net None lines
  pub whole : bytes ≡ written lines ++ rest

-- the bytes have an LF
abbrev pub has_line_end : List ℕ → Bool
has_line_end bytes = list_any (λ b. b == 10) bytes

-- the rest begins with this line and its LF
pub record BeginsWith (rest line : List ℕ) : Type 0 where
  pub more : List ℕ
  pub whole : rest ≡ ended line ++ more
  pub one_line : has_line_end line ≡ false

-- the line is well-formed, and its kind may follow that of the line `last`
pub record IsAllowedLine (last : Option ReportLine) (line : ReportLine) : Type 0 where
  pub form : IsWellFormed line
  pub follows : may_follow last line ≡ true

-- the rest begins with a line that is malformed or of a kind that may not follow `last`; or `last` is the line `end`, and bytes follow it
abbrev pub IsWrongLine : Option ReportLine → List ℕ → Type 0
IsWrongLine last rest =
    ((last ≡ Some Last) × (rest ≢ []))
    ⊎ ((last ≢ Some Last) × ((text : List ℕ) × BeginsWith rest text × ((line : ReportLine) → IsAllowedLine last line → report_line line ≢ text)))

-- the bytes are k good lines, and then a line that is malformed or of a wrong kind, or bytes after the line `end`
pub record IsBadLine (net : Network) (bytes : List ℕ) (k : ℕ) : Type 0 where
  pub before : List ReportLine
  pub rest : List ℕ
  pub prefix : IsPrefix net bytes before rest
  pub count : length before ≡ k
  pub wrong : IsWrongLine (last_of None before) rest

-- the bytes are k good lines, and then a line that may follow by its form and kind, but has a name that the network lacks
pub record IsUnknownName (net : Network) (bytes : List ℕ) (k : ℕ) : Type 0 where
  pub before : List ReportLine
  pub rest : List ℕ
  pub prefix : IsPrefix net bytes before rest
  pub count : length before ≡ k
  pub line : ReportLine
  pub present : BeginsWith rest (report_line line)
  pub next : IsAllowedLine (last_of None before) line
  pub unknown : HasModuleNames net line → ⊥

-- the bytes are k good lines, and then a line with known names that may follow by its form and kind, but whose import doesn't come after
-- that of its predecessor
pub record IsOutOfOrder (net : Network) (bytes : List ℕ) (k : ℕ) : Type 0 where
  pub before : List ReportLine
  pub rest : List ℕ
  pub prefix : IsPrefix net bytes before rest
  pub count : length before ≡ k
  pub line : ReportLine
  pub present : BeginsWith rest (report_line line)
  pub next : IsAllowedLine (last_of None before) line
  pub known : HasModuleNames net line
  pub below : is_above (last_of None before) line ≡ false

-- the bytes are good lines without the line `end`, and then bytes without an LF
pub record HasNoEnd (net : Network) (bytes : List ℕ) : Type 0 where
  pub before : List ReportLine
  pub rest : List ℕ
  pub prefix : IsPrefix net bytes before rest
  pub unended : has_line_end rest ≡ false
  pub not_last : last_of None before ≢ Some Last

-- this is an outcome of the text for the network: the report that it represents, or its first error, never a failed device or allocation
abbrev pub IsReportOutcome : Network → List ℕ → Result ReportClaim ReportFault → Type 0
IsReportOutcome net bytes (Ok entry) = ReportText net bytes entry
IsReportOutcome net bytes (Err (faults.BadLine line)) = (k : ℕ) × (line ≡ k + 1) × IsBadLine net bytes k
IsReportOutcome net bytes (Err (faults.UnknownName line)) = (k : ℕ) × (line ≡ k + 1) × IsUnknownName net bytes k
IsReportOutcome net bytes (Err (faults.Order line)) = (k : ℕ) × (line ≡ k + 1) × IsOutOfOrder net bytes k
IsReportOutcome net bytes (Err faults.NoEnd) = HasNoEnd net bytes
IsReportOutcome net bytes (Err faults.Device) = ⊥
IsReportOutcome net bytes (Err faults.Memory) = ⊥
