-- What a run of `query` reads and writes.
use Rattle.std.specs.Prelude.{◌≡◌, ◌⊎◌, ℕ, List, [], Option, Some, None, Result, Ok, Err}
use Rattle.std.specs.Io.KnownBytes.{Appends, Keeps}
use Rattle.byte_sink.specs.Sinks.{AppendsPrefix}
use Rattle.proto_wire.specs.Messages.{IsFirstFault}
use Rattle.texts.specs.Places.{Style}
use Rattle.scip_index.specs.Meaning.{index_fault, Means}
use Rattle.scip_index.specs.Plain.{IndexModel}
use Rattle.index_store.specs.declared.location.Position.{Position}
use Rattle.index_store.specs.Queries.{LocationModel, all_occurrences, definitions, references, HasPath, IsSymbolAt}
use Rattle.index_store.specs.declared.query_runs.Which.{Which}
use Rattle.index_store.specs.declared.query_runs.Which.TheVariants as which
use Rattle.index_store.specs.declared.query_fault.QueryFault.{QueryFault}
use Rattle.index_store.specs.declared.query_fault.QueryFault.TheVariants.{Wire, NoDocument, Device, Memory}
use Rattle.index_store.specs.Lines.{location_lines}

-- the locations where a symbol is defined, or those where it is used and not defined
abbrev pub requested_locations : Which → IndexModel → List ℕ → List ℕ → List LocationModel
requested_locations which.Definitions index path symbol = definitions index path symbol
requested_locations which.References index path symbol = references index path symbol

-- the definitions or the references of this symbol; no location for None
abbrev pub query_locations : Which → IndexModel → List ℕ → Option (List ℕ) → List LocationModel
query_locations which index path None = []
query_locations which index path (Some symbol) = requested_locations which index path symbol

-- the text is the output of a query at a position of a document of the index: the lines of the definitions or references of the symbol
-- there
pub record IsResultText (style : Style) (bytes path : List ℕ) (at : Position) (which : Which) (text : List ℕ) : Type 0 where
  pub index : IndexModel
  pub means : Means bytes index
  pub has_path : HasPath index path
  -- the symbol at the position, or none
  pub symbol : Option (List ℕ)
  pub symbol_is : IsSymbolAt (all_occurrences index) path at symbol
  pub lines : text ≡ location_lines style (query_locations which index path symbol)

-- the sink took the whole output of the query
abbrev pub WritesResult : Style → List ℕ → List ℕ → Position → Which → Option (List ℕ) → Option (List ℕ) → Type 0
WritesResult style bytes path at which old new = (text : List ℕ) × IsResultText style bytes path at which text × Appends old new text

-- the sink took a prefix of the output of the query
abbrev pub WritesResultPrefix : Style → List ℕ → List ℕ → Position → Which → Option (List ℕ) → Option (List ℕ) → Type 0
WritesResultPrefix style bytes path at which old new = (text : List ℕ) × IsResultText style bytes path at which text × AppendsPrefix old new text

-- the bytes encode an index, and no document of the index has the path
abbrev pub LacksPath : List ℕ → List ℕ → Type 0
LacksPath bytes path = (index : IndexModel) × Means bytes index × (HasPath index path → ⊥)

-- what a run of `query` writes: with `Ok` the whole output, with `Device` or `Memory` at most a prefix of it, with another error nothing
abbrev pub IsQueryRun : Style → List ℕ → List ℕ → Position → Which → Option (List ℕ) → Option (List ℕ) → Result (Unit {0}) QueryFault → Type 0
IsQueryRun style bytes path at which old new (Ok _) = WritesResult style bytes path at which old new
IsQueryRun style bytes path at which old new (Err (Wire fault)) = IsFirstFault index_fault 0 bytes fault × Keeps old new
IsQueryRun style bytes path at which old new (Err NoDocument) = LacksPath bytes path × Keeps old new
IsQueryRun style bytes path at which old new (Err Device) = WritesResultPrefix style bytes path at which old new
IsQueryRun style bytes path at which old new (Err Memory) = Keeps old new ⊎ WritesResultPrefix style bytes path at which old new

-- ---- the check of the bytes

-- the error is the first fault of the bytes, or `Memory`
abbrev pub IsRejectedIndex : List ℕ → QueryFault → Type 0
IsRejectedIndex bytes (Wire fault) = IsFirstFault index_fault 0 bytes fault
IsRejectedIndex bytes NoDocument = ⊥
IsRejectedIndex bytes Device = ⊥
IsRejectedIndex bytes Memory = Unit {0}
