-- Varints (Protocol Buffers encoding, "Base 128 Varints"): groups of seven bits, least significant first. Each byte but the last has the
-- continuation bit, its highest.
use Rattle.std.specs.Prelude.{◌≡◌, ℕ, zero, suc, ◌+◌, ◌*◌, ◌/◌, ◌%◌, ◌^◌, ◌<◌, ◌≤◌, nat_lt, List, [], ◌∷◌, ◌++◌, length, Result, Ok, Err, if◌then◌else◌}
use Rattle.std.specs.List.{AllByRecursion}
use Rattle.proto_wire.specs.declared.fault.WireFault.{WireFault}
use Rattle.proto_wire.specs.declared.fault.WireFault.TheVariants.{Truncated, LongVarint, Group, ZeroField, BadText, Device, Memory}
use Rattle.proto_wire.specs.Faults.{◌>>=◌}

-- each byte has the continuation bit
abbrev pub HaveContinuationBits : List ℕ → Type 0
HaveContinuationBits bytes = AllByRecursion (λ b. 128 ≤ b) bytes

-- the number that groups of seven bits encode
abbrev pub value_of : List ℕ → ℕ
value_of [] = 0
value_of (b ∷ bytes) = b % 128 + 128 * value_of bytes

-- the bytes are a varint of this number: at most ten bytes, all but the last with the continuation bit; bits beyond 64 are dropped
pub record IsVarint (bytes : List ℕ) (n : ℕ) : Type 0 where
  pub more : List ℕ
  pub last : ℕ
  pub form : bytes ≡ more ++ last ∷ []
  pub go_on : HaveContinuationBits more
  pub ends : last < 128
  pub short : length bytes ≤ 10
  pub value : n ≡ value_of bytes % 2 ^ 64

-- the bytes end within a varint
pub record IsUnterminated (bytes : List ℕ) : Type 0 where
  pub go_on : HaveContinuationBits bytes
  pub short : length bytes < 10

-- the bytes begin with ten bytes that have the continuation bit
pub record IsOverlong (bytes : List ℕ) : Type 0 where
  pub ten : List ℕ
  pub rest : List ℕ
  pub form : bytes ≡ ten ++ rest
  pub go_on : HaveContinuationBits ten
  pub ten_bytes : length ten ≡ 10

-- the bytes begin with no varint, for this reason; the fault has this offset
abbrev pub IsNoVarint : ℕ → List ℕ → WireFault → Type 0
IsNoVarint at bytes (Truncated place) = (place ≡ at) × IsUnterminated bytes
IsNoVarint at bytes (LongVarint place) = (place ≡ at) × IsOverlong bytes
IsNoVarint at bytes (Group place) = ⊥
IsNoVarint at bytes (ZeroField place) = ⊥
IsNoVarint at bytes (BadText place) = ⊥
IsNoVarint at bytes Device = ⊥
IsNoVarint at bytes Memory = ⊥

-- the groups of a number, in at most this many bytes
unfoldable pub groups : ℕ → ℕ → List ℕ
groups zero n = []
groups (suc most) n = if nat_lt n 128 then n ∷ [] else (n % 128 + 128) ∷ groups most (n / 128)

-- the minimal varint of a number below 2^64
unfoldable pub varint : ℕ → List ℕ
varint n = groups 10 n

-- the number of the first varint, which has at most this many bytes, and the remaining bytes
unfoldable pub varint_in : ℕ → ℕ → List ℕ → Result (ℕ × List ℕ) WireFault
varint_in zero at bytes = Err (LongVarint at)
varint_in (suc most) at [] = Err (Truncated at)
varint_in (suc most) at (b ∷ bytes) = if nat_lt b 128 then Ok (b, bytes) else (varint_in most at bytes >>= λ high. Ok ((b % 128 + 128 * high.0) % 2 ^ 64, high.1))
