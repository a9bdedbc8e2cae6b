-- The last steps of the parser: comparison of the names after END, and the offsets of errors.
use Rattle.std.specs.Prelude.{◌≢◌, ◌≤◌, ◌<◌, ℕ, List, length, slice_get, Bool, true, false, Option, Some, None}
use Rattle.std.specs.List.{All}
use Rattle.ob_scan.specs.declared.token.Token.{Token}
use Rattle.ob_scan.specs.Texts.{bytes_of}
use Rattle.ob_grammar.specs.declared.fault.ParseFault.{ParseFault}
use Rattle.ob_grammar.specs.declared.fault.ParseFault.TheVariants as faults
use Rattle.ob_grammar.specs.declared.stop.Stop.{Stop}
use Rattle.ob_grammar.specs.declared.stop.Stop.TheVariants as stops
use Rattle.ob_grammar.specs.Parsed.{EndPair, IsRightEnd, IsFirstWrong, start_or}

-- both are indices of tokens
abbrev pub AreTokenNumbers : List Token → ℕ × ℕ → Type 0
AreTokenNumbers ts e = (e.0 < length ts) × (e.1 < length ts)

-- the token is in the bounds of the bytes
abbrev pub IsInText : List ℕ → Token → Type 0
IsInText bytes t = (t.start ≤ t.end) × (t.end ≤ length bytes)

-- the name after END is right, or wrong
abbrev pub IsEnd : List ℕ → List Token → Bool → ℕ × ℕ → Type 0
IsEnd bytes ts true e = IsRightEnd bytes ts e
IsEnd bytes ts false e = (pair : EndPair ts e) × (bytes_of bytes pair.name ≢ bytes_of bytes pair.end)

-- all of these names are right, or the first wrong one begins at this offset
abbrev pub HasFirstWrongEnd : List ℕ → List Token → List (ℕ × ℕ) → Option ℕ → Type 0
HasFirstWrongEnd bytes ts ends None = All (IsRightEnd bytes ts) ends
HasFirstWrongEnd bytes ts ends (Some at) = IsFirstWrong bytes ts ends at

-- the error for a construct that is nested too deep at this token; a Syntax error at the end if there is no token
abbrev pub too_deep_fault : ℕ → Option Token → ParseFault
too_deep_fault end None = faults.Syntax end
too_deep_fault end (Some t) = faults.TooDeep t.start

-- the error for a stop of the parser
abbrev pub fault_of_stop : ℕ → List Token → Stop → ParseFault
fault_of_stop end ts (stops.Unexpected i) = faults.Syntax (start_or end (slice_get ts i.at))
fault_of_stop end ts (stops.TooDeep i) = too_deep_fault end (slice_get ts i.at)
fault_of_stop end ts stops.Memory = faults.Memory
