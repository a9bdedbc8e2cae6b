-- Results that are a value or the first fault.
use Rattle.std.specs.Prelude.{◌≡◌, Option, Some, Result, Ok, Err}
use Rattle.proto_wire.specs.declared.fault.WireFault.{WireFault}
use Rattle.proto_wire.specs.declared.fault.WireFault.TheVariants.{Truncated, LongVarint, Group, ZeroField, BadText, Device, Memory}

infixl 10 ◌>>=◌
-- continues with the value, or returns the fault
abbrev pub ◌>>=◌ : {A B : Type 0} → Result A WireFault → (A → Result B WireFault) → Result B WireFault
(Ok x) >>= f = f x
(Err e) >>= f = Err e

-- the fact holds, unless the fault is `Memory`, of which nothing is claimed
abbrev pub UnlessMemory : WireFault → Type 0 → Type 0
UnlessMemory (Truncated at) P = P
UnlessMemory (LongVarint at) P = P
UnlessMemory (Group at) P = P
UnlessMemory (ZeroField at) P = P
UnlessMemory (BadText at) P = P
UnlessMemory Device P = P
UnlessMemory Memory P = Unit {0}

-- the result has this property, with the value seen through `view`. Of the fault `Memory` nothing is claimed
abbrev pub HasOutcome : {X Y : Type 0} → (X → Y) → Result X WireFault → (Result Y WireFault → Type 0) → Type 0
HasOutcome view (Ok x) IsOutcome = IsOutcome (Ok (view x))
HasOutcome view (Err fault) IsOutcome = UnlessMemory fault (IsOutcome (Err fault))

-- the result has this property, with the value seen through `view`. It is for functions that allocate nothing, and so never return `Memory`
abbrev pub HasExactOutcome : {X Y : Type 0} → (X → Y) → Result X WireFault → (Result Y WireFault → Type 0) → Type 0
HasExactOutcome view (Ok x) IsOutcome = IsOutcome (Ok (view x))
HasExactOutcome view (Err fault) IsOutcome = IsOutcome (Err fault)

-- the result is this outcome, with the value seen through `view`
abbrev pub Matches : {X Y : Type 0} → (X → Y) → Result X WireFault → Result Y WireFault → Type 0
Matches view result reading = HasExactOutcome view result (λ outcome. reading ≡ outcome)

-- the fault is the one in `found`, or is `Memory`
abbrev pub IsFaultOrMemory : WireFault → Option WireFault → Type 0
IsFaultOrMemory fault found = UnlessMemory fault (found ≡ Some fault)
