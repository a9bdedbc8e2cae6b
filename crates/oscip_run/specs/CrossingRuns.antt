-- What a run that prints where a module uses another one reads and writes.
use Rattle.std.specs.Prelude.{◌≡◌, ◌⊎◌, ℕ, List, map, Option, Result, Ok, Err}
use Rattle.std.specs.Io.KnownBytes.{Appends, Keeps}
use Rattle.std.specs.String.{string_bytes}
use Rattle.byte_sink.specs.Sinks.{AppendsPrefix}
use Rattle.cut_solve.specs.declared.fault.SolveFault.{SolveFault}
use Rattle.cut_solve.specs.declared.fault.SolveFault.TheVariants as solve
use Rattle.texts.specs.Places.{Style}
use Rattle.index_store.specs.Queries.{LocationModel}
use Rattle.index_store.specs.Lines.{location_lines}
use Rattle.oscip_run.specs.Runs.{IsRejectedTree}
use Rattle.oscip_run.specs.declared.fault.RunFault.{RunFault}
use Rattle.oscip_run.specs.declared.fault.RunFault.TheVariants.{CannotRead, CannotWrite, Tree, Net, Price, Rules, Report, Solve, Query, Device, Memory}
use Rattle.source_tree.specs.Crossings.{AreUses, IsNoModule, IsNoNode}
use Rattle.source_tree.specs.declared.crossing.Span.{Span}
use Rattle.source_tree.specs.declared.source.Source.{Source}

-- the location of a span in the file of this path
abbrev pub location_in_file : List ℕ → Span → LocationModel
location_in_file path span = record {
  path = path;
  span = record { start = record { line = span.start.line; column = span.start.column }; end = record { line = span.end.line; column = span.end.column } };
}

-- the text has exactly the lines of the locations where module m uses module n, in this style
pub record IsUsesText (style : Style) (sources : List Source) (m n text : List ℕ) : Type 0 where
  pub path : List ℕ
  pub spans : List Span
  pub uses : AreUses sources m n path spans
  pub lines : text ≡ location_lines style (map (location_in_file path) spans)

-- the sink took all lines of the locations where module m uses module n
abbrev pub WritesUses : Style → List Source → List ℕ → List ℕ → Option (List ℕ) → Option (List ℕ) → Type 0
WritesUses style sources m n old new = (text : List ℕ) × IsUsesText style sources m n text × Appends old new text

-- the sink took a prefix of the lines of the locations where module m uses module n
abbrev pub WritesUsesPrefix : Style → List Source → List ℕ → List ℕ → Option (List ℕ) → Option (List ℕ) → Type 0
WritesUsesPrefix style sources m n old new = (text : List ℕ) × IsUsesText style sources m n text × AppendsPrefix old new text

-- the name is the first unknown name of m and n: m is unknown if no module with a file has this name, n if no module of the network has it
abbrev pub IsFirstUnknown : List Source → List ℕ → List ℕ → List ℕ → Type 0
IsFirstUnknown sources m n name = ((name ≡ m) × IsNoModule sources m) ⊎ ((name ≡ n) × IsNoNode sources m n)

-- the fault is NoSuchModule with the first unknown name of m and n
abbrev pub IsUnknown : List Source → List ℕ → List ℕ → SolveFault → Type 0
IsUnknown sources m n solve.SameModule = ⊥
IsUnknown sources m n (solve.NoSuchModule name) = IsFirstUnknown sources m n (string_bytes name)
IsUnknown sources m n solve.Memory = ⊥

-- a run that lists where module m uses module n. A rejected tree or name leaves the sink unchanged; Device or Memory leave it with at most
-- a prefix of the text
abbrev pub IsCrossingsRun : Style → List Source → List ℕ → List ℕ → Option (List ℕ) → Option (List ℕ) → Result (Unit {0}) RunFault → Type 0
IsCrossingsRun style sources m n old new (Ok _) = WritesUses style sources m n old new
IsCrossingsRun style sources m n old new (Err (CannotRead path)) = ⊥
IsCrossingsRun style sources m n old new (Err (CannotWrite path)) = ⊥
IsCrossingsRun style sources m n old new (Err (Tree fault)) = IsRejectedTree sources (Tree fault) × Keeps old new
IsCrossingsRun style sources m n old new (Err (Net fault)) = ⊥
IsCrossingsRun style sources m n old new (Err (Price fault)) = ⊥
IsCrossingsRun style sources m n old new (Err (Report fault)) = ⊥
IsCrossingsRun style sources m n old new (Err (Solve fault)) = IsUnknown sources m n fault × Keeps old new
IsCrossingsRun style sources m n old new (Err (Rules fault)) = ⊥
IsCrossingsRun style sources m n old new (Err (Query fault)) = ⊥
IsCrossingsRun style sources m n old new (Err Device) = WritesUsesPrefix style sources m n old new
IsCrossingsRun style sources m n old new (Err Memory) = Keeps old new ⊎ WritesUsesPrefix style sources m n old new

-- ---- intermediate results

-- the fault states that no module has this name, or memory ran out
abbrev pub IsNoName : List ℕ → RunFault → Type 0
IsNoName name (CannotRead path) = ⊥
IsNoName name (CannotWrite path) = ⊥
IsNoName name (Tree fault) = ⊥
IsNoName name (Net fault) = ⊥
IsNoName name (Price fault) = ⊥
IsNoName name (Report fault) = ⊥
IsNoName name (Solve solve.SameModule) = ⊥
IsNoName name (Solve (solve.NoSuchModule own)) = string_bytes own ≡ name
IsNoName name (Solve solve.Memory) = ⊥
IsNoName name (Rules fault) = ⊥
IsNoName name (Query fault) = ⊥
IsNoName name Device = ⊥
IsNoName name Memory = Unit {0}
