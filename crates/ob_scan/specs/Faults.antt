-- Results with tokens or an error.
use Rattle.std.specs.Prelude.{Result, Ok, Err}
use Rattle.ob_scan.specs.declared.fault.ScanFault.{ScanFault}
use Rattle.ob_scan.specs.declared.fault.ScanFault.TheVariants as faults

-- the statement holds, unless the error is a failed allocation
abbrev pub UnlessMemory : ScanFault → Type 0 → Type 0
UnlessMemory (faults.BadByte at) P = P
UnlessMemory (faults.BadNumber at) P = P
UnlessMemory (faults.OpenString at) P = P
UnlessMemory (faults.OpenComment at) P = P
UnlessMemory faults.TooLong P = P
UnlessMemory faults.Memory P = Unit {0}

-- the result satisfies `IsOutcome`, unless an allocation failed
abbrev pub HasOutcome : {X : Type 0} → Result X ScanFault → (Result X ScanFault → Type 0) → Type 0
HasOutcome (Ok x) IsOutcome = IsOutcome (Ok x)
HasOutcome (Err fault) IsOutcome = UnlessMemory fault (IsOutcome (Err fault))
