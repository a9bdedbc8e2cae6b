-- Properties of the errors of a replacement.
use Rattle.std.specs.Prelude.{◌≡◌, ℕ, List}
use Rattle.std.specs.String.{string_bytes}
use Rattle.atomic_file.specs.declared.replace.ReplaceFault.{ReplaceFault}
use Rattle.atomic_file.specs.declared.replace.ReplaceFault.TheVariants.{Target, Partial, Content, Memory}

-- the error is `Target` or `Memory`
abbrev pub IsTargetOrMemory : {E : Type 0} → ReplaceFault E → Type 0
IsTargetOrMemory Target = Unit {0}
IsTargetOrMemory (Partial path) = ⊥
IsTargetOrMemory (Content fault) = ⊥
IsTargetOrMemory Memory = Unit {0}

-- if the error is `Partial`, it has this path
abbrev pub HasPath : {E : Type 0} → ReplaceFault E → List ℕ → Type 0
HasPath Target path = Unit {0}
HasPath (Partial it) path = string_bytes it ≡ path
HasPath (Content fault) path = Unit {0}
HasPath Memory path = Unit {0}

-- an allocation failed
abbrev pub IsMemory : {E : Type 0} → ReplaceFault E → Type 0
IsMemory Target = ⊥
IsMemory (Partial path) = ⊥
IsMemory (Content fault) = ⊥
IsMemory Memory = Unit {0}

-- if the error is `Content`, the error of the writer in it has the property `HasFault`
abbrev pub IsFaultOf : {E : Type 0} → (E → Type 0) → ReplaceFault E → Type 0
IsFaultOf HasFault Target = Unit {0}
IsFaultOf HasFault (Partial path) = Unit {0}
IsFaultOf HasFault (Content fault) = HasFault fault
IsFaultOf HasFault Memory = Unit {0}
