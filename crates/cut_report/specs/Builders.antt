-- The builder of a report, for contracts of private functions. The contract of `read` is in terms of report lines.
use Rattle.std.specs.Prelude.{◌≡◌, ℕ, ◌+◌, Bool, true, List, [], ◌∷◌, ◌++◌, Option, Some, None, Result, Ok, Err, if◌then◌else◌}
use Rattle.std.specs.Option.{ok_or}
use Rattle.cut_net.specs.declared.priced.Priced.{Priced}
use Rattle.cut_net.specs.Network.{Network, index_of}
use Rattle.cut_net.specs.Lines.{comes_before}
use Rattle.cut_net.specs.declared.cut.Cut.{Cut}
use Rattle.cut_net.specs.AnswerClaim.{CutOf, BlockedBy}
use Rattle.cut_report.specs.ReportClaim.{ReportClaim}
use Rattle.cut_report.specs.ReportLine.{ReportLine, Ends, Weighs, Removes, Flows, Blocks, Last}
use Rattle.cut_report.specs.declared.fault.ReportLineFault.{ReportLineFault}
use Rattle.cut_report.specs.declared.fault.ReportLineFault.TheVariants as faults
use Rattle.cut_report.specs.declared.fault.ReportFault.{ReportFault}
use Rattle.cut_report.specs.declared.fault.ReportFault.TheVariants as report_faults
use Rattle.cut_report.specs.declared.builder.ReportBuilder.{ReportBuilder}
use Rattle.cut_report.specs.declared.builder.ReportBuilder.TheVariants as builders
use Rattle.cut_report.specs.Lines.{line_of_text}
use Rattle.cut_report.specs.Reading.{entry_of}

infixl 10 ◌>>=◌
abbrev pub ◌>>=◌ : {A B E : Type 0} → Result A E → (A → Result B E) → Result B E
(Ok x) >>= f = f x
(Err e) >>= f = Err e

-- the content of a cut's lines that have been read so far: the two modules, the weight, the imports to remove and the imports with flow
pub record ClaimedPart : Type 0 where
  pub from : ℕ
  pub to : ℕ
  pub weight : ℕ
  pub printed : List Priced
  pub flow : List Priced

abbrev pub entry_of_part : ClaimedPart → ReportClaim
entry_of_part p = record { from = p.from; to = p.to; claim = CutOf p.weight p.printed p.flow }

-- a path of pinned imports between two modules
abbrev pub blocked_entry : ℕ → ℕ → List ℕ → ReportClaim
blocked_entry a b chain = record { from = a; to = b; claim = BlockedBy chain }

-- the content of the lines read so far: no line, the first line, some lines of a cut, the line of a path of pinned imports, or all lines
pub data BuilderState : Type 0 where
  Start : BuilderState
  FirstLine : ℕ → ℕ → BuilderState
  CutLines : ClaimedPart → BuilderState
  PathLine : ℕ → ℕ → List ℕ → BuilderState
  Complete : ReportClaim → BuilderState

abbrev pub claimed_part : ℕ → ℕ → Cut → ClaimedPart
claimed_part a b cut = record { from = a; to = b; weight = cut.weight; printed = cut.imports.items; flow = cut.flow.items }

abbrev pub builder_state_of : ReportBuilder → BuilderState
builder_state_of builders.Start = Start
builder_state_of (builders.FirstLine a b) = FirstLine a b
builder_state_of (builders.CutLines a b cut) = CutLines (claimed_part a b cut)
builder_state_of (builders.PathLine a b chain) = PathLine a b chain.items
builder_state_of (builders.Complete r) = Complete (entry_of r)

-- the last import of the list; `last` if the list is empty
abbrev pub last_import : Option Priced → List Priced → Option Priced
last_import last [] = last
last_import last (p ∷ ps) = last_import (Some p) ps

abbrev pub is_after : Option Priced → Priced → Bool
is_after None next = true
is_after (Some last) next = comes_before last next

-- the numbers of the modules of two names, or the error UnknownName if the network lacks one of them
unfoldable pub ends_named : Network → List ℕ → List ℕ → Result (ℕ × ℕ) ReportLineFault
ends_named net m n = do
  x ← ok_or (index_of net m) faults.UnknownName
  y ← ok_or (index_of net n) faults.UnknownName
  Ok (x, y)

-- an import between the modules with these names; UnknownName if the network lacks a name, Order if the import doesn't come after `last`
unfoldable pub import_of : Network → Option Priced → List ℕ → List ℕ → ℕ → Result Priced ReportLineFault
import_of net last m n amount = do
  x ← ok_or (index_of net m) faults.UnknownName
  y ← ok_or (index_of net n) faults.UnknownName
  if is_after last (record { from = x; to = y; amount = amount }) then Ok (record { from = x; to = y; amount = amount }) else Err faults.Order

-- the builder after the first line, or the error of that line
unfoldable pub first_line_step : Network → ReportLine → Result BuilderState ReportLineFault
first_line_step net (Ends m n) = do
  x ← ok_or (index_of net m) faults.UnknownName
  y ← ok_or (index_of net n) faults.UnknownName
  Ok (FirstLine x y)
first_line_step net (Weighs w) = Err faults.BadLine
first_line_step net (Removes m n w) = Err faults.BadLine
first_line_step net (Flows m n f) = Err faults.BadLine
first_line_step net (Blocks names) = Err faults.BadLine
first_line_step net Last = Err faults.BadLine

-- the numbers of the modules with these names, or UnknownName if the network lacks one of them
abbrev pub chain_of : Network → List (List ℕ) → Result (List ℕ) ReportLineFault
chain_of net [] = Ok []
chain_of net (name ∷ names) = do
  m ← ok_or (index_of net name) faults.UnknownName
  more ← chain_of net names
  Ok (m ∷ more)

-- the builder after the second line of a report for the modules a and b, or the error of that line
unfoldable pub second_step : Network → ℕ → ℕ → ReportLine → Result BuilderState ReportLineFault
second_step net a b (Ends m n) = Err faults.BadLine
second_step net a b (Weighs w) = Ok (CutLines (record { from = a; to = b; weight = w; printed = []; flow = [] }))
second_step net a b (Removes m n w) = Err faults.BadLine
second_step net a b (Flows m n f) = Err faults.BadLine
second_step net a b (Blocks names) = chain_of net names >>= λ chain. Ok (PathLine a b chain)
second_step net a b Last = Err faults.BadLine

-- the builder after a `remove` line of a cut: the import is added to those to remove; BadLine if a `flow` line has been read
abbrev pub with_removed : Network → ClaimedPart → List Priced → List ℕ → List ℕ → ℕ → Result BuilderState ReportLineFault
with_removed net p [] m n w = import_of net (last_import None p.printed) m n w >>= λ next. Ok (CutLines (record p { printed = p.printed ++ next ∷ [] }))
with_removed net p (_ ∷ _) m n w = Err faults.BadLine

-- the builder after one more line of a cut, or the error of that line
unfoldable pub step_in_cut : Network → ClaimedPart → ReportLine → Result BuilderState ReportLineFault
step_in_cut net p (Ends m n) = Err faults.BadLine
step_in_cut net p (Weighs w) = Err faults.BadLine
step_in_cut net p (Removes m n w) = with_removed net p p.flow m n w
step_in_cut net p (Flows m n f) = import_of net (last_import None p.flow) m n f >>= λ next. Ok (CutLines (record p { flow = p.flow ++ next ∷ [] }))
step_in_cut net p (Blocks names) = Err faults.BadLine
step_in_cut net p Last = Ok (Complete (entry_of_part p))

-- the builder after the line that follows a path of pinned imports from a to b, or the error of that line
unfoldable pub step_in_path : ℕ → ℕ → List ℕ → ReportLine → Result BuilderState ReportLineFault
step_in_path a b chain (Ends m n) = Err faults.BadLine
step_in_path a b chain (Weighs w) = Err faults.BadLine
step_in_path a b chain (Removes m n w) = Err faults.BadLine
step_in_path a b chain (Flows m n f) = Err faults.BadLine
step_in_path a b chain (Blocks names) = Err faults.BadLine
step_in_path a b chain Last = Ok (Complete (blocked_entry a b chain))

-- the builder after one more line, or the error of that line
unfoldable pub step : Network → BuilderState → ReportLine → Result BuilderState ReportLineFault
step net Start line = first_line_step net line
step net (FirstLine a b) line = second_step net a b line
step net (CutLines p) line = step_in_cut net p line
step net (PathLine a b chain) line = step_in_path a b chain line
step net (Complete e) line = Err faults.BadLine

-- the builder after the line with these bytes, or the error of that line
unfoldable pub text_step : Network → BuilderState → List ℕ → Result BuilderState ReportLineFault
text_step net standing text = ok_or (line_of_text text) faults.BadLine >>= λ line. step net standing line

-- the report, or the error, at the end of a text: `before` lines are read, and the bytes `rest` follow the last LF
abbrev pub finish_of : BuilderState → ℕ → List ℕ → Result ReportClaim ReportFault
finish_of Start before rest = Err report_faults.NoEnd
finish_of (FirstLine a b) before rest = Err report_faults.NoEnd
finish_of (CutLines p) before rest = Err report_faults.NoEnd
finish_of (PathLine a b chain) before rest = Err report_faults.NoEnd
finish_of (Complete e) before [] = Ok e
finish_of (Complete e) before (_ ∷ _) = Err (report_faults.BadLine (before + 1))

-- the error of a line, with the number of the line
abbrev pub report_fault_in_line : ℕ → ReportLineFault → ReportFault
report_fault_in_line line faults.BadLine = report_faults.BadLine line
report_fault_in_line line faults.UnknownName = report_faults.UnknownName line
report_fault_in_line line faults.Order = report_faults.Order line
report_fault_in_line line faults.Memory = report_faults.Memory

-- `read` is this error; nothing is claimed if the error is a failed allocation
abbrev pub IsLineFault : {Y : Type 0} → ReportLineFault → Result Y ReportLineFault → Type 0
IsLineFault faults.BadLine read = read ≡ Err faults.BadLine
IsLineFault faults.UnknownName read = read ≡ Err faults.UnknownName
IsLineFault faults.Order read = read ≡ Err faults.Order
IsLineFault faults.Memory read = Unit {0}

-- unless an allocation failed, the result is `read`, with `view x` in place of a value x
abbrev pub IsReadAs : {X Y : Type 0} → (X → Y) → Result X ReportLineFault → Result Y ReportLineFault → Type 0
IsReadAs view (Ok x) read = read ≡ Ok (view x)
IsReadAs view (Err fault) read = IsLineFault fault read

-- unless an allocation failed, the result is `read`, with `view x` in place of a value x, and with the line's number in an error
abbrev pub IsReadAtLine : {X Y : Type 0} → ℕ → (X → Y) → Result X ReportFault → Result Y ReportLineFault → Type 0
IsReadAtLine line view (Ok x) read = read ≡ Ok (view x)
IsReadAtLine line view (Err fault) read = (e : ReportLineFault) × (fault ≡ report_fault_in_line line e) × IsLineFault e read
