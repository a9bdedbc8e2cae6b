-- The first varint: the function `varint_in` agrees with the relation, both ways.
use Rattle.std.proofs.Common.{◌≡◌, ℕ, zero, suc, ◌+◌, ◌*◌, ◌%◌, ◌^◌, ◌<◌, ◌≤◌, List, [], ◌∷◌, ◌++◌, length, Result, Ok, Err, refl, ap, ◌∙◌, inl, inr, arith}
use Rattle.std.proofs.lemmas.Bool.{cases_lt, lt-ltb, le-ltb}
use Rattle.std.proofs.lemmas.List.{length-append}
use Rattle.proto_wire.specs.declared.fault.WireFault.{WireFault}
use Rattle.proto_wire.specs.declared.fault.WireFault.TheVariants.{Truncated, LongVarint, Group, ZeroField, BadText, Device, Memory}
use Rattle.proto_wire.specs.Faults.{◌>>=◌}
use Rattle.proto_wire.specs.Varints.{HaveContinuationBits, value_of, IsVarint, IsUnterminated, IsOverlong, IsNoVarint, varint_in}

alone : (last : ℕ) → last < 128 → last ≡ (last % 128 + 128 * 0) % 2 ^ 64
alone last ends = omega arith

dropped : (low high : ℕ) → (low + 128 * (high % 2 ^ 64)) % 2 ^ 64 ≡ (low + 128 * high) % 2 ^ 64
dropped low high = omega arith

groups_found : (k at : ℕ) (more : List ℕ) (last : ℕ) (rest : List ℕ) → HaveContinuationBits more → last < 128 → length more < k
    → varint_in k at ((more ++ last ∷ []) ++ rest) ≡ Ok (value_of (more ++ last ∷ []) % 2 ^ 64, rest)
unfolding varint_in
groups_found zero at more last rest go_on ends short = absurd (omega arith)
groups_found (suc k) at [] last rest go_on ends short = rw (lt-ltb last 128 ends) (ap (λ (n : ℕ). Ok (n, rest)) (alone last ends))
groups_found (suc k) at (b ∷ more) last rest go_on ends short =
    rw (le-ltb b 128 go_on.0, groups_found k at more last rest go_on.1 ends (omega arith)) (ap (λ (n : ℕ). Ok (n, rest)) (dropped (b % 128) (value_of (more ++ last ∷ []))))

-- a varint is found, whatever follows it
pub varint_found : (at : ℕ) (bytes rest : List ℕ) (n : ℕ) → IsVarint bytes n → varint_in 10 at (bytes ++ rest) ≡ Ok (n, rest)
varint_found at bytes rest n v =
    let short : length v.more < 10 = omega (arith, v.short, ap length v.form, length-append v.more (v.last ∷ [])) in
    rw (v.value, v.form) (groups_found 10 at v.more v.last rest v.go_on v.ends short)

open_within : (k at : ℕ) (bytes : List ℕ) → HaveContinuationBits bytes → length bytes < k → varint_in k at bytes ≡ Err (Truncated at)
unfolding varint_in
open_within zero at bytes go_on short = absurd (omega arith)
open_within (suc k) at [] go_on short = refl
open_within (suc k) at (b ∷ bytes) go_on short = rw (le-ltb b 128 go_on.0, open_within k at bytes go_on.1 (omega arith)) refl

pub open_found : (at : ℕ) (bytes : List ℕ) → IsUnterminated bytes → varint_in 10 at bytes ≡ Err (Truncated at)
open_found at bytes o = open_within 10 at bytes o.go_on o.short

long_within : (k at : ℕ) (ten rest : List ℕ) → HaveContinuationBits ten → length ten ≡ k → varint_in k at (ten ++ rest) ≡ Err (LongVarint at)
unfolding varint_in
long_within zero at [] rest go_on all = refl
long_within zero at (b ∷ ten) rest go_on all = absurd (omega arith)
long_within (suc k) at [] rest go_on all = absurd (omega arith)
long_within (suc k) at (b ∷ ten) rest go_on all = rw (le-ltb b 128 go_on.0, long_within k at ten rest go_on.1 (omega arith)) refl

pub long_found : (at : ℕ) (bytes : List ℕ) → IsOverlong bytes → varint_in 10 at bytes ≡ Err (LongVarint at)
long_found at bytes l = rw l.form (long_within 10 at l.ten l.rest l.go_on l.ten_bytes)

-- why no varint was found
pub no_varint_found : (at : ℕ) (bytes : List ℕ) (fault : WireFault) → IsNoVarint at bytes fault → varint_in 10 at bytes ≡ Err fault
no_varint_found at bytes (Truncated place) h = rw h.0 (open_found at bytes h.1)
no_varint_found at bytes (LongVarint place) h = rw h.0 (long_found at bytes h.1)
no_varint_found at bytes (Group place) h = absurd h
no_varint_found at bytes (ZeroField place) h = absurd h
no_varint_found at bytes (BadText place) h = absurd h
no_varint_found at bytes Device h = absurd h
no_varint_found at bytes Memory h = absurd h

-- the rest follows a varint of at most this many bytes
record StandsIn (most : ℕ) (bytes : List ℕ) (n : ℕ) (rest : List ℕ) : Type 0 where
  more : List ℕ
  last : ℕ
  form : bytes ≡ (more ++ last ∷ []) ++ rest
  go_on : HaveContinuationBits more
  ends : last < 128
  short : length more < most
  value : n ≡ value_of (more ++ last ∷ []) % 2 ^ 64

-- what was found in at most this many bytes
abbrev Found : ℕ → ℕ → List ℕ → Result (ℕ × List ℕ) WireFault → Type 0
Found most at bytes (Ok x) = StandsIn most bytes x.0 x.1
Found most at bytes (Err (Truncated place)) = (place ≡ at) × HaveContinuationBits bytes × (length bytes < most)
Found most at bytes (Err (LongVarint place)) = (ten rest : List ℕ) × (place ≡ at) × (bytes ≡ ten ++ rest) × HaveContinuationBits ten × (length ten ≡ most)
Found most at bytes (Err (Group place)) = ⊥
Found most at bytes (Err (ZeroField place)) = ⊥
Found most at bytes (Err (BadText place)) = ⊥
Found most at bytes (Err Device) = ⊥
Found most at bytes (Err Memory) = ⊥

further : (most at b : ℕ) (bytes : List ℕ) → 128 ≤ b → (found : Result (ℕ × List ℕ) WireFault) → Found most at bytes found
    → Found (suc most) at (b ∷ bytes) (found >>= λ high. Ok ((b % 128 + 128 * high.0) % 2 ^ 64, high.1))
further most at b bytes le (Ok x) h = record {
  more = b ∷ h.more;
  last = h.last;
  form = ap (λ (bs : List ℕ). b ∷ bs) h.form;
  go_on = (le, h.go_on);
  ends = h.ends;
  short = omega (arith, h.short);
  value = rw h.value (dropped (b % 128) (value_of (h.more ++ h.last ∷ [])));
}
further most at b bytes le (Err (Truncated place)) h = (h.0, (le, h.1), omega (arith, h.2))
further most at b bytes le (Err (LongVarint place)) h = (b ∷ h.0, h.1, h.2, ap (λ (bs : List ℕ). b ∷ bs) h.3, (le, h.4), omega (arith, h.5))
further most at b bytes le (Err (Group place)) h = absurd h
further most at b bytes le (Err (ZeroField place)) h = absurd h
further most at b bytes le (Err (BadText place)) h = absurd h
further most at b bytes le (Err Device) h = absurd h
further most at b bytes le (Err Memory) h = absurd h

found : (most at : ℕ) (bytes : List ℕ) → Found most at bytes (varint_in most at bytes)
unfolding varint_in
found zero at bytes = ([], bytes, refl, refl, tt, refl)
found (suc most) at [] = (refl, tt, omega arith)
found (suc most) at (b ∷ bytes) =
    elim (cases_lt b 128) [
      | inl lt ↦ rw (lt-ltb b 128 lt) (record { more = []; last = b; form = refl; go_on = tt; ends = lt; short = omega arith; value = alone b lt })
      | inr le ↦ rw (le-ltb b 128 le) (further most at b bytes le (varint_in most at bytes) (found most at bytes))
    ]

-- what the result for one varint implies for the bytes
abbrev pub VarintRead : ℕ → List ℕ → Result (ℕ × List ℕ) WireFault → Type 0
VarintRead at bytes (Ok x) = (first : List ℕ) × (bytes ≡ first ++ x.1) × IsVarint first x.0
VarintRead at bytes (Err fault) = IsNoVarint at bytes fault

told : (at : ℕ) (bytes : List ℕ) (reading : Result (ℕ × List ℕ) WireFault) → Found 10 at bytes reading → VarintRead at bytes reading
told at bytes (Ok x) h = (
  h.more ++ h.last ∷ [],
  h.form,
  record { more = h.more; last = h.last; form = refl; go_on = h.go_on; ends = h.ends; short = omega (arith, h.short, length-append h.more (h.last ∷ [])); value = h.value },
)
told at bytes (Err (Truncated place)) h = (h.0, record { go_on = h.1; short = h.2 })
told at bytes (Err (LongVarint place)) h = (h.2, record { ten = h.0; rest = h.1; form = h.3; go_on = h.4; ten_bytes = h.5 })
told at bytes (Err (Group place)) h = absurd h
told at bytes (Err (ZeroField place)) h = absurd h
told at bytes (Err (BadText place)) h = absurd h
told at bytes (Err Device) h = absurd h
told at bytes (Err Memory) h = absurd h

pub varint_read : (at : ℕ) (bytes : List ℕ) → VarintRead at bytes (varint_in 10 at bytes)
varint_read at bytes = told at bytes (varint_in 10 at bytes) (found 10 at bytes)

-- a varint isn't empty
pub varint_bytes : (bytes : List ℕ) (n : ℕ) → IsVarint bytes n → 0 < length bytes
varint_bytes bytes n v = omega (arith, ap length v.form, length-append v.more (v.last ∷ []))

same_reading : (reading : Result (ℕ × List ℕ) WireFault) (x y : ℕ × List ℕ) → reading ≡ Ok x → reading ≡ Ok y → x ≡ y
same_reading reading x y p q = cc

-- bytes begin with at most one varint
pub varint_is_unique : (first rest other after : List ℕ) (n m : ℕ) → IsVarint first n → IsVarint other m → first ++ rest ≡ other ++ after → (n ≡ m) × (rest ≡ after)
varint_is_unique first rest other after n m v w e =
    let pair = same_reading (varint_in 10 0 (first ++ rest)) (n, rest) (m, after) (varint_found 0 first rest n v) (ap (varint_in 10 0) e ∙ varint_found 0 other after m w) in
    (ap (λ (x : ℕ × List ℕ). x.0) pair, ap (λ (x : ℕ × List ℕ). x.1) pair)
