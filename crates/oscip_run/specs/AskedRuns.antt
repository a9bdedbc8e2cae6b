-- What a run of a question about an index reads and writes.
use Rattle.std.specs.Prelude.{◌≡◌, ℕ, List, Option, option_map, Result, Ok, Err}
use Rattle.std.specs.String.{string_bytes}
use Rattle.index_store.specs.declared.location.Position.{Position}
use Rattle.oscip_job.specs.declared.job.AskedSymbol.{AskedSymbol}
use Rattle.oscip_job.specs.declared.job.AskedSymbol.TheVariants.{At, Named}
use Rattle.oscip_job.specs.declared.job.IndexQuestion.{IndexQuestion}
use Rattle.oscip_job.specs.declared.job.IndexQuestion.TheVariants.{PlacesOf, SymbolAt, Symbols}
use Rattle.oscip_job.specs.declared.job.Places.{Places}
use Rattle.oscip_job.specs.declared.job.Places.TheVariants as places
use Rattle.oscip_job.specs.declared.job.Position as job
use Rattle.texts.specs.Places.{Style}
use Rattle.index_store.specs.QueryRuns.{IsQueryRun}
use Rattle.index_store.specs.OutputRuns.{IsNamedRun, IsSymbolRun, IsSymbolsRun}
use Rattle.index_store.specs.declared.query_runs.Which.{Which}
use Rattle.index_store.specs.declared.query_runs.Which.TheVariants.{Definitions, References}
use Rattle.index_store.specs.declared.query_fault.QueryFault.{QueryFault}
use Rattle.oscip_run.specs.declared.fault.RunFault.{RunFault}
use Rattle.oscip_run.specs.Faults.{of_query}

-- a position of a question as a position of index_store, which has no path
abbrev pub position_of : job.Position → Position
position_of at = record { line = at.line; column = at.column }

-- the kind of occurrence that a question asks for, in the type of index_store
abbrev pub which_of : Places → Which
which_of places.Definitions = Definitions
which_of places.References = References

-- a run that writes the locations of a symbol in this style; the symbol is given by a position or by its text
abbrev pub IsLocationsRun : Style → List ℕ → Places → AskedSymbol → Option (List ℕ) → Option (List ℕ) → Result (Unit {0}) QueryFault → Type 0
IsLocationsRun style index places (At at) old new result = IsQueryRun style index (string_bytes at.path) (position_of at) (which_of places) old new result
IsLocationsRun style index places (Named symbol path) old new result = IsNamedRun style index (option_map string_bytes path) (string_bytes symbol) (which_of places) old new result

-- a run that answers a question about an index: with the locations of a symbol, with the symbol at a position, or with definitions
abbrev pub IsIndexRun : Style → List ℕ → IndexQuestion → Option (List ℕ) → Option (List ℕ) → Result (Unit {0}) QueryFault → Type 0
IsIndexRun style index (PlacesOf places symbol) old new result = IsLocationsRun style index places symbol old new result
IsIndexRun style index (SymbolAt at) old new result = IsSymbolRun index (string_bytes at.path) (position_of at) old new result
IsIndexRun style index (Symbols path) old new result = IsSymbolsRun style index (option_map string_bytes path) old new result

-- like IsIndexRun, but with an error of the query converted to a fault of the run
abbrev pub IsAskedRun : Style → List ℕ → IndexQuestion → Option (List ℕ) → Option (List ℕ) → Result (Unit {0}) RunFault → Type 0
IsAskedRun style index question old new (Ok _) = IsIndexRun style index question old new (Ok tt)
IsAskedRun style index question old new (Err fault) = (lower : QueryFault) × (fault ≡ of_query lower) × IsIndexRun style index question old new (Err lower)
