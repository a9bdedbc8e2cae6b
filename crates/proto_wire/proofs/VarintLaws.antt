-- The minimal varint, byte by byte, and that it decodes to its number.
use Rattle.std.proofs.Common.{◌≡◌, ℕ, zero, suc, ◌+◌, ◌*◌, ◌/◌, ◌%◌, ◌^◌, ◌<◌, ◌≤◌, List, [], ◌∷◌, ◌++◌, length, Ok, refl, ap, ◌∙◌, inl, inr, arith}
use Rattle.std.proofs.Math.Nat.{pow-suc}
use Rattle.std.proofs.lemmas.Bool.{cases_lt, lt-ltb, le-ltb}
use Rattle.std.proofs.lemmas.List.{length-append}
use Rattle.proto_wire.specs.Varints.{value_of, IsVarint, groups, varint, varint_in}

high_less : (p n : ℕ) → n < p * 128 → n / 128 < p
high_less p n h = omega arith

pub high_fits : (k n : ℕ) → n < 128 ^ suc k → n / 128 < 128 ^ k
high_fits k n h = high_less (128 ^ k) n (rw (← pow-suc 128 k) h)

pub groups-same : (j k n : ℕ) → n < 128 ^ suc j → n < 128 ^ suc k → groups (suc j) n ≡ groups (suc k) n
unfolding groups
groups-same zero zero n h g = refl
groups-same zero (suc k) n h g = rw (lt-ltb n 128 h) refl
groups-same (suc j) zero n h g = rw (lt-ltb n 128 g) refl
groups-same (suc j) (suc k) n h g =
    elim (cases_lt n 128) [
      | inl lt ↦ rw (lt-ltb n 128 lt) refl
      | inr le ↦ rw (le-ltb n 128 le) (ap (λ (bytes : List ℕ). (n % 128 + 128) ∷ bytes) (groups-same j k (n / 128) (high_fits (suc j) n h) (high_fits (suc k) n g)))
    ]

-- a number below 128 is its own varint
pub varint-small : (n : ℕ) → n < 128 → varint n ≡ n ∷ []
unfolding varint groups
varint-small n lt = rw (lt-ltb n 128 lt) refl

below_more : (n : ℕ) → n < 2 ^ 64 → n / 128 < 128 ^ 9
below_more n h = omega arith

below_all : (n : ℕ) → n < 2 ^ 64 → n / 128 < 128 ^ 10
below_all n h = omega arith

groups-large : (n : ℕ) → 128 ≤ n → groups 10 n ≡ (n % 128 + 128) ∷ groups 9 (n / 128)
unfolding groups
groups-large n le = rw (le-ltb n 128 le) refl

-- the varint of another number begins with its lowest seven bits
pub varint-large : (n : ℕ) → 128 ≤ n → n < 2 ^ 64 → varint n ≡ (n % 128 + 128) ∷ varint (n / 128)
unfolding varint
varint-large n le fits = groups-large n le ∙ ap (λ (bytes : List ℕ). (n % 128 + 128) ∷ bytes) (groups-same 8 9 (n / 128) (below_more n fits) (below_all n fits))

restored : (n : ℕ) → n < 2 ^ 64 → ((n % 128 + 128) % 128 + 128 * (n / 128)) % 2 ^ 64 ≡ n
restored n fits = omega arith

groups-again : (k at n : ℕ) (rest : List ℕ) → n < 128 ^ suc k → n < 2 ^ 64 → varint_in (suc k) at (groups (suc k) n ++ rest) ≡ Ok (n, rest)
unfolding groups varint_in
groups-again zero at n rest h fits = rw (lt-ltb n 128 h, lt-ltb n 128 h) refl
groups-again (suc k) at n rest h fits =
    elim (cases_lt n 128) [
      | inl lt ↦ rw (lt-ltb n 128 lt, lt-ltb n 128 lt) refl
      | inr le ↦ rw (le-ltb n 128 le, le-ltb (n % 128 + 128) 128 (omega arith), groups-again k at (n / 128) rest (high_fits (suc k) n h) (omega arith)) (ap (λ (m : ℕ). Ok (m, rest)) (restored n fits))
    ]

within : (n : ℕ) → n < 2 ^ 64 → n < 128 ^ 10
within n h = omega arith

-- the varint of a number decodes to the number, whatever follows it
pub varint-again : (at n : ℕ) (rest : List ℕ) → n < 2 ^ 64 → varint_in 10 at (varint n ++ rest) ≡ Ok (n, rest)
unfolding varint
varint-again at n rest fits = groups-again 9 at n rest (within n fits) fits

pub varint-some : (n : ℕ) → 0 < length (varint n)
unfolding varint groups
varint-some n =
    elim (cases_lt n 128) [
      | inl lt ↦ rw (lt-ltb n 128 lt) (omega arith)
      | inr le ↦ rw (le-ltb n 128 le) (omega arith)
    ]

-- a number below 128 ^ k takes at most k bytes
groups-short : (most k n : ℕ) → n < 128 ^ suc k → length (groups most n) ≤ suc k
unfolding groups
groups-short zero k n h = omega arith
groups-short (suc most) zero n h = rw (lt-ltb n 128 h) (omega arith)
groups-short (suc most) (suc k) n h =
    elim (cases_lt n 128) [
      | inl lt ↦ rw (lt-ltb n 128 lt) (omega arith)
      | inr le ↦ rw (le-ltb n 128 le) (let shorter = groups-short most k (n / 128) (high_fits (suc k) n h) in omega arith)
    ]

value_below : (bytes : List ℕ) → value_of bytes < 128 ^ length bytes
value_below [] = omega arith
value_below (b ∷ bytes) = rw (pow-suc 128 (length bytes)) (higher (b % 128) (value_of bytes) (128 ^ length bytes) (omega arith) (value_below bytes))
  where
    higher : (low high p : ℕ) → low < 128 → high < p → low + 128 * high < p * 128
    higher low high p h g = omega arith

-- no varint of a number is shorter than the minimal one
pub varint-shortest : (n : ℕ) (bytes : List ℕ) → IsVarint bytes n → length (varint n) ≤ length bytes
unfolding varint
varint-shortest n bytes v = go (length bytes) (omega (arith, ap length v.form, length-append v.more (v.last ∷ []))) (value_below bytes)
  where
    below : (value limit : ℕ) → value < limit → n ≡ value % 2 ^ 64 → n < limit
    below value limit h e = omega arith

    go : (k : ℕ) → 0 < k → value_of bytes < 128 ^ k → length (groups 10 n) ≤ k
    go zero some h = absurd (omega arith)
    go (suc k) some h = groups-short 10 k n (below (value_of bytes) (128 ^ suc k) h v.value)
