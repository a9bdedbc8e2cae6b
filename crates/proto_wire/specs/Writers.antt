-- The results of a writer to a sink.
use Rattle.std.specs.Prelude.{Bool, true, false, List, ℕ, Option, Some, None, Result, Ok, Err}
use Rattle.byte_sink.specs.declared.sink.SinkFault.{SinkFault}
use Rattle.byte_sink.specs.declared.sink.SinkFault.TheVariants as sink_faults
use Rattle.byte_sink.specs.Sinks.{WritesBy}
use Rattle.proto_wire.specs.declared.fault.WireFault.{WireFault}
use Rattle.proto_wire.specs.declared.fault.WireFault.TheVariants as faults

-- the error of a sink as an error of this crate
abbrev pub fault_of_sink : SinkFault → WireFault
fault_of_sink sink_faults.Memory = faults.Memory
fault_of_sink sink_faults.Device = faults.Device

-- the result of a call of a writer with this error, if any
abbrev pub result_of_error : Option SinkFault → Result (Unit {0}) WireFault
result_of_error None = Ok tt
result_of_error (Some fault) = Err (fault_of_sink fault)

-- the error is `Device`
abbrev pub is_failure : WireFault → Bool
is_failure (faults.Truncated at) = false
is_failure (faults.LongVarint at) = false
is_failure (faults.Group at) = false
is_failure (faults.ZeroField at) = false
is_failure (faults.BadText at) = false
is_failure faults.Device = true
is_failure faults.Memory = false

-- with `Ok` the sink took the whole record, otherwise a prefix of it
abbrev pub WritesRecord : {T : Type 0} → Option (List ℕ) → Option (List ℕ) → Result T WireFault → List ℕ → Type 0
WritesRecord old new result bytes = WritesBy (λ _. true) old new result bytes
