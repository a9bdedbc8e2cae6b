-- The contracts of lower crates imply the definition of a query's run.
use Rattle.std.proofs.Common.{◌≡◌, ℕ, List, Option, Ok, Err, refl, inl, inr}
use Rattle.std.proofs.KnownBytes.{Keeps-refl}
use Rattle.byte_sink.specs.declared.sink.SinkFault.{SinkFault}
use Rattle.byte_sink.specs.declared.sink.SinkFault.TheVariants as sink
use Rattle.byte_sink.specs.Sinks.{AppendsPrefix}
use Rattle.proto_wire.specs.declared.fault.WireFault.{WireFault}
use Rattle.proto_wire.specs.declared.fault.WireFault.TheVariants as wire
use Rattle.proto_wire.specs.Faults.{UnlessMemory}
use Rattle.texts.specs.Places.{Style}
use Rattle.scip_index.specs.Meaning.{index_fault, IsIndexOutcome, Means}
use Rattle.scip_index.specs.Plain.{IndexModel}
use Rattle.index_store.specs.declared.fault.StoreFault.{StoreFault}
use Rattle.index_store.specs.declared.fault.StoreFault.TheVariants as store
use Rattle.index_store.specs.declared.location.Position.{Position}
use Rattle.index_store.specs.Direct.{IsSymbolLookup}
use Rattle.index_store.specs.Queries.{LocationModel}
use Rattle.index_store.specs.declared.query_runs.Which.{Which}
use Rattle.index_store.specs.declared.query_fault.QueryFault.{QueryFault}
use Rattle.index_store.specs.declared.query_fault.QueryFault.TheVariants.{Wire, NoDocument, Device, Memory}
use Rattle.index_store.specs.QueryRuns.{query_locations, IsResultText, IsQueryRun, IsRejectedIndex}
use Rattle.index_store.specs.Faults.{of_sink, of_store, of_wire}
use Rattle.index_store.specs.Lines.{location_lines}
use Rattle.index_store.proofs.NoDevice.{first_never, index_never}

-- bytes that mean no index
pub refused_bytes : (bytes : List ℕ) (fault : WireFault) → UnlessMemory fault (IsIndexOutcome bytes (Err fault)) → IsRejectedIndex bytes (of_wire fault)
refused_bytes bytes (wire.Truncated at) h = h
refused_bytes bytes (wire.LongVarint at) h = h
refused_bytes bytes (wire.Group at) h = h
refused_bytes bytes (wire.ZeroField at) h = h
refused_bytes bytes (wire.BadText at) h = h
refused_bytes bytes wire.Device h = first_never index_fault index_never 0 bytes h
refused_bytes bytes wire.Memory h = tt

pub refused_index : (style : Style) (bytes path : List ℕ) (at : Position) (which : Which) (known : Option (List ℕ)) (fault : QueryFault) → IsRejectedIndex bytes fault → IsQueryRun style bytes path at which known known (Err fault)
refused_index style bytes path at which known (Wire fault) h = (h, Keeps-refl known)
refused_index style bytes path at which known NoDocument h = absurd h
refused_index style bytes path at which known Device h = absurd h
refused_index style bytes path at which known Memory h = inl (Keeps-refl known)

-- a path that no document has
pub refused_path : (style : Style) (bytes path : List ℕ) (at : Position) (which : Which) (known : Option (List ℕ)) (index : IndexModel) → Means bytes index → (fault : StoreFault) → IsSymbolLookup index path at (Err fault)
    → IsQueryRun style bytes path at which known known (Err (of_store fault))
refused_path style bytes path at which known index means store.NoDocument h = ((index, means, h), Keeps-refl known)
refused_path style bytes path at which known index means store.Memory h = inl (Keeps-refl known)

-- the lines of the locations that are printed
pub answer : (style : Style) (bytes path : List ℕ) (at : Position) (which : Which) (index : IndexModel) (symbol : Option (List ℕ)) (locations : List LocationModel) → Means bytes index
    → IsSymbolLookup index path at (Ok symbol) → locations ≡ query_locations which index path symbol → IsResultText style bytes path at which (location_lines style locations)
answer style bytes path at which index symbol locations means at_position told =
    record { index = index; means = means; has_path = at_position.0; symbol = symbol; symbol_is = at_position.1; lines = rw told refl }

-- a sink that failed
pub error_prefix : (style : Style) (bytes path : List ℕ) (at : Position) (which : Which) (old new : Option (List ℕ)) (text : List ℕ) (fault : SinkFault) → IsResultText style bytes path at which text → AppendsPrefix old new text
    → IsQueryRun style bytes path at which old new (Err (of_sink fault))
error_prefix style bytes path at which old new text sink.Memory is front = inr (text, is, front)
error_prefix style bytes path at which old new text sink.Device is front = (text, is, front)
