-- Properties of a solver's result that hold unless an allocation failed.
use Rattle.std.specs.Prelude.{◌≡◌, Result, Ok, Err}
use Rattle.std.specs.String.{string_bytes}
use Rattle.cut_solve.specs.Solving.{SolveError, SameModule, NoSuchModule}
use Rattle.cut_solve.specs.declared.fault.SolveFault.{SolveFault}
use Rattle.cut_solve.specs.declared.fault.SolveFault.TheVariants as faults

-- `refusal` is the error that the fault denotes, with the unknown name as a list of bytes; a failed allocation denotes no error
abbrev pub IsErrorOf : SolveFault → SolveError → Type 0
IsErrorOf faults.SameModule refusal = refusal ≡ SameModule
IsErrorOf (faults.NoSuchModule name) refusal = refusal ≡ NoSuchModule (string_bytes name)
IsErrorOf faults.Memory refusal = ⊥

-- the error that the fault denotes has the property P; nothing is claimed for a failed allocation
abbrev pub UnlessMemory : SolveFault → (SolveError → Type 0) → Type 0
UnlessMemory faults.SameModule P = P SameModule
UnlessMemory (faults.NoSuchModule name) P = P (NoSuchModule (string_bytes name))
UnlessMemory faults.Memory P = Unit {0}

-- unless an allocation failed, `IsOutcome` holds for the result, with `view x` in place of a value x
abbrev pub HasOutcome : {X Y : Type 0} → (X → Y) → Result X SolveFault → (Result Y SolveError → Type 0) → Type 0
HasOutcome view (Ok x) IsOutcome = IsOutcome (Ok (view x))
HasOutcome view (Err fault) IsOutcome = UnlessMemory fault (λ refusal. IsOutcome (Err refusal))
