-- The faults with which a writer of an index fails.
use Rattle.std.specs.Prelude.{◌≡◌, ◌⊎◌}
use Rattle.proto_wire.specs.declared.fault.WireFault.{WireFault}
use Rattle.proto_wire.specs.declared.fault.WireFault.TheVariants as faults

-- the fault is one that a sink can cause: Device or Memory
abbrev pub IsOfSink : WireFault → Type 0
IsOfSink fault = (fault ≡ faults.Device) ⊎ (fault ≡ faults.Memory)
