-- The errors of queries: how errors of other crates are converted, and the text and exit status of each.
use Rattle.std.specs.Prelude.{ℕ, Bool, true, false, List, ◌++◌, codes}
use Rattle.std.specs.Fmt.{decimal}
use Rattle.byte_sink.specs.declared.sink.SinkFault.{SinkFault}
use Rattle.byte_sink.specs.declared.sink.SinkFault.TheVariants as sink
use Rattle.index_store.specs.declared.fault.StoreFault.{StoreFault}
use Rattle.index_store.specs.declared.fault.StoreFault.TheVariants as store
use Rattle.proto_wire.specs.declared.fault.WireFault.{WireFault}
use Rattle.proto_wire.specs.declared.fault.WireFault.TheVariants as wire
use Rattle.index_store.specs.declared.query_fault.QueryFault.{QueryFault}
use Rattle.index_store.specs.declared.query_fault.QueryFault.TheVariants.{Wire, NoDocument, Device, Memory}

-- an error of the wire format as an error of a query: a fault of the bytes within `Wire`, the other two as `Device` and `Memory`
abbrev pub of_wire : WireFault → QueryFault
of_wire (wire.Truncated at) = Wire (wire.Truncated at)
of_wire (wire.LongVarint at) = Wire (wire.LongVarint at)
of_wire (wire.Group at) = Wire (wire.Group at)
of_wire (wire.ZeroField at) = Wire (wire.ZeroField at)
of_wire (wire.BadText at) = Wire (wire.BadText at)
of_wire wire.Device = Device
of_wire wire.Memory = Memory

-- an error of a store as an error of a query
abbrev pub of_store : StoreFault → QueryFault
of_store store.NoDocument = NoDocument
of_store store.Memory = Memory

-- an error of a sink as an error of a query
abbrev pub of_sink : SinkFault → QueryFault
of_sink sink.Memory = Memory
of_sink sink.Device = Device

-- the text of a fault of the wire format: its name and the offset of its record's key
abbrev pub wire_fault_text : WireFault → List ℕ
wire_fault_text (wire.Truncated at) = codes "Truncated " ++ decimal at
wire_fault_text (wire.LongVarint at) = codes "LongVarint " ++ decimal at
wire_fault_text (wire.Group at) = codes "Group " ++ decimal at
wire_fault_text (wire.ZeroField at) = codes "ZeroField " ++ decimal at
wire_fault_text (wire.BadText at) = codes "BadText " ++ decimal at
wire_fault_text wire.Device = codes "cannot write"
wire_fault_text wire.Memory = codes "Memory"

-- the text of an error of a query
abbrev pub query_fault_text : QueryFault → List ℕ
query_fault_text (Wire fault) = wire_fault_text fault
query_fault_text NoDocument = codes "NoDocument"
query_fault_text Device = codes "cannot write"
query_fault_text Memory = codes "Memory"

-- the exit status of a fault of the wire format: 1 for invalid bytes, 3 if the sink failed, 4 if an allocation failed
abbrev pub wire_status : WireFault → ℕ
wire_status (wire.Truncated at) = 1
wire_status (wire.LongVarint at) = 1
wire_status (wire.Group at) = 1
wire_status (wire.ZeroField at) = 1
wire_status (wire.BadText at) = 1
wire_status wire.Device = 3
wire_status wire.Memory = 4

-- the exit status of an error of a query: 1 for invalid input, 3 if the sink failed, 4 if an allocation failed
abbrev pub query_status : QueryFault → ℕ
query_status (Wire fault) = wire_status fault
query_status NoDocument = 1
query_status Device = 3
query_status Memory = 4

-- the error is `Device`
abbrev pub is_device : QueryFault → Bool
is_device (Wire fault) = false
is_device NoDocument = false
is_device Device = true
is_device Memory = false
