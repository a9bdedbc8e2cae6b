-- Packed numbers: a sequence of varints (Protocol Buffers encoding, "Packed Repeated Fields").
use Rattle.std.specs.Prelude.{◌≡◌, ℕ, zero, suc, ◌%◌, ◌^◌, ◌<◌, ℤ, List, [], ◌∷◌, ◌++◌, length, Result, Ok, Err}
use Rattle.std.specs.Int.{w32, cast_signed}
use Rattle.proto_wire.specs.declared.fault.WireFault.{WireFault}
use Rattle.proto_wire.specs.Faults.{◌>>=◌}
use Rattle.proto_wire.specs.Varints.{IsVarint, IsNoVarint, varint_in}

-- the low 32 bits as a signed number
abbrev pub varint_to_int32 : ℕ → ℤ
varint_to_int32 n = cast_signed w32 (n % 2 ^ 32)

-- the payload is a sequence of varints, whose low 32 bits are these numbers
abbrev pub ArePacked : List ℕ → List ℤ → Type 0
ArePacked payload [] = payload ≡ []
ArePacked payload (z ∷ zs) = (first rest : List ℕ) × (n : ℕ) × (payload ≡ first ++ rest) × IsVarint first n × (z ≡ varint_to_int32 n) × ArePacked rest zs

-- the payload is a sequence of varints, followed by bytes that begin with no varint, which is this fault
pub record IsPackedStopped (at : ℕ) (payload : List ℕ) (fault : WireFault) : Type 0 where
  pub before : List ℤ
  pub good : List ℕ
  pub rest : List ℕ
  pub form : payload ≡ good ++ rest
  pub are_packed : ArePacked good before
  pub some : 0 < length rest
  pub no_varint : IsNoVarint at rest fault

-- the outcome of a payload whose record's key is at this offset: packed numbers, or a fault
abbrev pub IsPackedOutcome : ℕ → List ℕ → Result (List ℤ) WireFault → Type 0
IsPackedOutcome at payload (Ok zs) = ArePacked payload zs
IsPackedOutcome at payload (Err fault) = IsPackedStopped at payload fault

-- the numbers of a packed payload, at most this many, or its fault
unfoldable pub packed_from : ℕ → ℕ → List ℕ → Result (List ℤ) WireFault
packed_from most at [] = Ok []
packed_from zero at (b ∷ bytes) = Ok []
packed_from (suc most) at (b ∷ bytes) = do
  n ← varint_in 10 at (b ∷ bytes)
  others ← packed_from most at n.1
  Ok (varint_to_int32 n.0 ∷ others)

-- the numbers of a packed payload, or the fault of its record, whose key is at this offset
unfoldable pub packed : ℕ → List ℕ → Result (List ℤ) WireFault
packed at payload = packed_from (length payload) at payload
