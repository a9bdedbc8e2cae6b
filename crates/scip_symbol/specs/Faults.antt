-- Properties of results that hold unless an allocation failed.
use Rattle.std.specs.Prelude.{◌≡◌, Result, Ok, Err}
use Rattle.scip_symbol.specs.declared.fault.SymbolFault.{SymbolFault}
use Rattle.scip_symbol.specs.declared.fault.SymbolFault.TheVariants.{Empty, BadDescriptor, LocalScheme, OpenQuote, Memory, BadPart}

-- P holds, unless the error is `Memory`; then nothing is claimed
abbrev pub UnlessMemory : SymbolFault → Type 0 → Type 0
UnlessMemory Empty P = P
UnlessMemory (BadDescriptor at) P = P
UnlessMemory LocalScheme P = P
UnlessMemory OpenQuote P = P
UnlessMemory Memory P = Unit {0}
UnlessMemory (BadPart part) P = P

-- the result, with `view x` in place of a value x, has the property `IsOutcome`; nothing is claimed of the error `Memory`
abbrev pub HasOutcome : {X Y : Type 0} → (X → Y) → Result X SymbolFault → (Result Y SymbolFault → Type 0) → Type 0
HasOutcome view (Ok x) IsOutcome = IsOutcome (Ok (view x))
HasOutcome view (Err fault) IsOutcome = UnlessMemory fault (IsOutcome (Err fault))

-- the result, with `view x` in place of a value x, equals `reading`; nothing is claimed of the error `Memory`
abbrev pub MatchesUnlessMemory : {X Y : Type 0} → (X → Y) → Result X SymbolFault → Result Y SymbolFault → Type 0
MatchesUnlessMemory view result reading = HasOutcome view result (λ outcome. reading ≡ outcome)
