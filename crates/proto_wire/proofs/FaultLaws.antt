-- Facts that hold unless an allocation failed.
use Rattle.std.proofs.Common.{◌≡◌, refl}
use Rattle.proto_wire.specs.declared.fault.WireFault.{WireFault}
use Rattle.proto_wire.specs.declared.fault.WireFault.TheVariants.{Truncated, LongVarint, Group, ZeroField, BadText, Device, Memory}
use Rattle.proto_wire.specs.Faults.{UnlessMemory}

pub UnlessMemory-then : (fault : WireFault) {P Q : Type 0} → UnlessMemory fault P → (P → Q) → UnlessMemory fault Q
UnlessMemory-then (Truncated at) h go = go h
UnlessMemory-then (LongVarint at) h go = go h
UnlessMemory-then (Group at) h go = go h
UnlessMemory-then (ZeroField at) h go = go h
UnlessMemory-then (BadText at) h go = go h
UnlessMemory-then Device h go = go h
UnlessMemory-then Memory h go = tt

pub UnlessMemory-from : (fault : WireFault) {P : Type 0} → P → UnlessMemory fault P
UnlessMemory-from (Truncated at) h = h
UnlessMemory-from (LongVarint at) h = h
UnlessMemory-from (Group at) h = h
UnlessMemory-from (ZeroField at) h = h
UnlessMemory-from (BadText at) h = h
UnlessMemory-from Device h = h
UnlessMemory-from Memory h = tt

pub UnlessMemory-known : (fault : WireFault) {P : Type 0} → (fault ≡ Memory → ⊥) → UnlessMemory fault P → P
UnlessMemory-known (Truncated at) other h = h
UnlessMemory-known (LongVarint at) other h = h
UnlessMemory-known (Group at) other h = h
UnlessMemory-known (ZeroField at) other h = h
UnlessMemory-known (BadText at) other h = h
UnlessMemory-known Device other h = h
UnlessMemory-known Memory other h = absurd (other refl)
