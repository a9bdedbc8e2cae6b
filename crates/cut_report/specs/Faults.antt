-- Errors of reports: properties that hold unless an allocation failed, and errors of a sink.
use Rattle.std.specs.Prelude.{Bool, true, false, Result, Ok, Err}
use Rattle.byte_sink.specs.declared.sink.SinkFault.{SinkFault}
use Rattle.byte_sink.specs.declared.sink.SinkFault.TheVariants as sink_faults
use Rattle.cut_report.specs.declared.fault.ReportFault.{ReportFault}
use Rattle.cut_report.specs.declared.fault.ReportFault.TheVariants as faults

-- the property holds, unless the error is a failed allocation
abbrev pub UnlessMemory : ReportFault → Type 0 → Type 0
UnlessMemory (faults.BadLine line) P = P
UnlessMemory (faults.UnknownName line) P = P
UnlessMemory (faults.Order line) P = P
UnlessMemory faults.NoEnd P = P
UnlessMemory faults.Device P = P
UnlessMemory faults.Memory P = Unit {0}

-- unless an allocation failed, the property holds for the result, with `view x` in place of a value x
abbrev pub HasOutcome : {X Y : Type 0} → (X → Y) → Result X ReportFault → (Result Y ReportFault → Type 0) → Type 0
HasOutcome view (Ok x) IsOutcome = IsOutcome (Ok (view x))
HasOutcome view (Err fault) IsOutcome = UnlessMemory fault (IsOutcome (Err fault))

-- the error of a sink as one of a report
abbrev pub fault_of_sink : SinkFault → ReportFault
fault_of_sink sink_faults.Memory = faults.Memory
fault_of_sink sink_faults.Device = faults.Device

-- the error is that the device of a sink failed
abbrev pub is_failure : ReportFault → Bool
is_failure (faults.BadLine line) = false
is_failure (faults.UnknownName line) = false
is_failure (faults.Order line) = false
is_failure faults.NoEnd = false
is_failure faults.Device = true
is_failure faults.Memory = false

-- the error is one of a sink, which may have taken a prefix of a text
abbrev pub is_of_sink : ReportFault → Bool
is_of_sink (faults.BadLine line) = false
is_of_sink (faults.UnknownName line) = false
is_of_sink (faults.Order line) = false
is_of_sink faults.NoEnd = false
is_of_sink faults.Device = true
is_of_sink faults.Memory = true
