-- The bytes that a sink has accepted, and its count of failures.
use Rattle.std.specs.Prelude.{◌≡◌, ℕ, ◌+◌, ◌-◌, ◌^◌, min, Bool, true, false, if◌then◌else◌, List, ◌++◌, take, Option, Result, Ok, Err, MatchBool, MatchResult}
use Rattle.std.specs.Io.KnownBytes.{Appends, Keeps}
use Rattle.byte_sink.specs.declared.sink.SinkFault.{SinkFault}
use Rattle.byte_sink.specs.declared.sink.SinkFault.TheVariants as faults

-- the count of failures after one more failure; it saturates at 2 ^ 64 - 1
abbrev pub one_more : ℕ → ℕ
one_more n = min (n + 1) (2 ^ 64 - 1)

-- the count of failures after a call with this result, if `is_failure` says which errors are failures of the device
abbrev pub failures_by : {T E : Type 0} → (E → Bool) → Result T E → ℕ → ℕ
failures_by is_failure (Ok x) n = n
failures_by is_failure (Err fault) n = if is_failure fault then one_more n else n

-- the error is a failure of the device
abbrev pub is_device : SinkFault → Bool
is_device faults.Memory = false
is_device faults.Device = true

-- the count of failures after a call with this result, if all errors of the call come from a sink
abbrev pub failures_after : {T : Type 0} → Result T SinkFault → ℕ → ℕ
failures_after result n = failures_by is_device result n

-- one call of `put`: the known bytes grow by the first k bytes, or after an error they are unchanged
abbrev pub Takes : {E : Type 0} → Option (List ℕ) → Option (List ℕ) → Result ℕ E → List ℕ → Type 0
Takes old new result bytes = MatchResult result (λ k. Appends old new (take k bytes)) (λ _. Keeps old new)

-- the known bytes of the sink grow by a prefix of `text`
abbrev pub AppendsPrefix : Option (List ℕ) → Option (List ℕ) → List ℕ → Type 0
AppendsPrefix old new text = (prefix rest : List ℕ) × (text ≡ prefix ++ rest) × Appends old new prefix

-- if the result is Ok, the known bytes grow by all of `text`; after an error that `is_of_sink` accepts, by a prefix of `text`; after any
-- other error they are unchanged
abbrev pub WritesBy : {T E : Type 0} → (E → Bool) → Option (List ℕ) → Option (List ℕ) → Result T E → List ℕ → Type 0
WritesBy is_of_sink old new result text =
    MatchResult result (λ _. Appends old new text) (λ fault. MatchBool (is_of_sink fault) (AppendsPrefix old new text) (Keeps old new))

-- `WritesBy` for a call all of whose errors come from a sink: after any error the known bytes grow by a prefix of `text`
abbrev pub Writes : {T : Type 0} → Option (List ℕ) → Option (List ℕ) → Result T SinkFault → List ℕ → Type 0
Writes old new result text = WritesBy (λ _. true) old new result text
