-- Varints of which five bytes are read at once.
use Rattle.std.proofs.Common.{◌≡◌, ℕ, ◌+◌, ◌*◌, ◌-◌, ◌%◌, ◌^◌, ◌<◌, ◌≤◌, List, [], ◌∷◌, length, take, drop, take_all, Ok, Err, refl, ap, arith}
use Rattle.std.specs.List.{slice_index_or}
use Rattle.std.proofs.lemmas.Bool.{le-ltb}
use Rattle.proto_wire.specs.declared.fault.WireFault.{WireFault}
use Rattle.proto_wire.specs.Varints.{varint_in}

dropped : (low high : ℕ) → (low + 128 * (high % 2 ^ 64)) % 2 ^ 64 ≡ (low + 128 * high) % 2 ^ 64
dropped low high = omega arith

-- five groups of seven bits, and the groups above them
in_one : (a b c d e high : ℕ) → a < 128 → b < 128 → c < 128 → d < 128 → e < 128
    → (a + 128 * (b + 128 * (c + 128 * (d + 128 * (e + 128 * high))))) % 2 ^ 64 ≡ a + b * 128 % 2 ^ 64 + c * 16384 % 2 ^ 64 + d * 2097152 % 2 ^ 64 + e * 268435456 % 2 ^ 64 + high % 536870912 * 34359738368 % 2 ^ 64
in_one a b c d e high ha hb hc hd he = omega arith

steps : (a b c d e high : ℕ) → a < 128 → b < 128 → c < 128 → d < 128 → e < 128
    → (a + 128 * ((b + 128 * ((c + 128 * ((d + 128 * ((e + 128 * high) % 2 ^ 64)) % 2 ^ 64)) % 2 ^ 64)) % 2 ^ 64)) % 2 ^ 64 ≡ a + b * 128 % 2 ^ 64 + c * 16384 % 2 ^ 64 + d * 2097152 % 2 ^ 64 + e * 268435456 % 2 ^ 64 + high % 536870912 * 34359738368 % 2 ^ 64
steps a b c d e high ha hb hc hd he =
    rw (dropped d (e + 128 * high), dropped c (d + 128 * (e + 128 * high)), dropped b (c + 128 * (d + 128 * (e + 128 * high))), dropped a (b + 128 * (c + 128 * (d + 128 * (e + 128 * high)))))
    (in_one a b c d e high ha hb hc hd he)

low : (b : ℕ) → b % 128 < 128
low b = omega arith

-- the bytes after the first five
behind_five : (a b c d e : ℕ) (rest : List ℕ) → take (length (a ∷ b ∷ c ∷ d ∷ e ∷ rest) - 5) (drop 5 (a ∷ b ∷ c ∷ d ∷ e ∷ rest)) ≡ rest
behind_five a b c d e rest = take_all (length (a ∷ b ∷ c ∷ d ∷ e ∷ rest) - 5) rest (omega arith)

five_read : (at a b c d e high : ℕ) (rest after : List ℕ) → 128 ≤ a → 128 ≤ b → 128 ≤ c → 128 ≤ d → 128 ≤ e → varint_in 5 at rest ≡ Ok (high, after)
    → varint_in 10 at (a ∷ b ∷ c ∷ d ∷ e ∷ rest) ≡ Ok (a % 128 + b % 128 * 128 % 2 ^ 64 + c % 128 * 16384 % 2 ^ 64 + d % 128 * 2097152 % 2 ^ 64 + e % 128 * 268435456 % 2 ^ 64 + high % 536870912 * 34359738368 % 2 ^ 64, after)
unfolding varint_in
five_read at a b c d e high rest after ha hb hc hd he found =
    rw (le-ltb a 128 ha, le-ltb b 128 hb, le-ltb c 128 hc, le-ltb d 128 hd, le-ltb e 128 he, found)
    (ap (λ (n : ℕ). Ok (n, after)) (steps (a % 128) (b % 128) (c % 128) (d % 128) (e % 128) high (low a) (low b) (low c) (low d) (low e)))

five_wrong : (at a b c d e : ℕ) (rest : List ℕ) (fault : WireFault) → 128 ≤ a → 128 ≤ b → 128 ≤ c → 128 ≤ d → 128 ≤ e → varint_in 5 at rest ≡ Err fault
    → varint_in 10 at (a ∷ b ∷ c ∷ d ∷ e ∷ rest) ≡ Err fault
unfolding varint_in
five_wrong at a b c d e rest fault ha hb hc hd he found = rw (le-ltb a 128 ha, le-ltb b 128 hb, le-ltb c 128 hc, le-ltb d 128 hd, le-ltb e 128 he, found) refl

-- the same for the bytes of a slice
pub five_then : (at : ℕ) (bytes : List ℕ) (a b c d e high : ℕ) (after : List ℕ) → 5 ≤ length bytes
    → 128 ≤ slice_index_or bytes 0 0 → 128 ≤ slice_index_or bytes 1 0 → 128 ≤ slice_index_or bytes 2 0 → 128 ≤ slice_index_or bytes 3 0 → 128 ≤ slice_index_or bytes 4 0
    → a ≡ slice_index_or bytes 0 0 % 128 → b ≡ slice_index_or bytes 1 0 % 128 → c ≡ slice_index_or bytes 2 0 % 128 → d ≡ slice_index_or bytes 3 0 % 128 → e ≡ slice_index_or bytes 4 0 % 128
    → varint_in 5 at (take (length bytes - 5) (drop 5 bytes)) ≡ Ok (high, after)
    → varint_in 10 at bytes ≡ Ok (a + b * 128 % 2 ^ 64 + c * 16384 % 2 ^ 64 + d * 2097152 % 2 ^ 64 + e * 268435456 % 2 ^ 64 + high % 536870912 * 34359738368 % 2 ^ 64, after)
five_then at [] a b c d e high after many ha hb hc hd he la lb lc ld le found = absurd (omega (arith, many))
five_then at (v ∷ []) a b c d e high after many ha hb hc hd he la lb lc ld le found = absurd (omega (arith, many))
five_then at (v ∷ w ∷ []) a b c d e high after many ha hb hc hd he la lb lc ld le found = absurd (omega (arith, many))
five_then at (v ∷ w ∷ x ∷ []) a b c d e high after many ha hb hc hd he la lb lc ld le found = absurd (omega (arith, many))
five_then at (v ∷ w ∷ x ∷ y ∷ []) a b c d e high after many ha hb hc hd he la lb lc ld le found = absurd (omega (arith, many))
five_then at (v ∷ w ∷ x ∷ y ∷ z ∷ rest) a b c d e high after many ha hb hc hd he la lb lc ld le found =
    let there : varint_in 5 at rest ≡ Ok (high, after) = rw (behind_five v w x y z rest) at found in
    rw (la, lb, lc, ld, le) (five_read at v w x y z high rest after ha hb hc hd he there)

pub five_stop : (at : ℕ) (bytes : List ℕ) (fault : WireFault) → 5 ≤ length bytes
    → 128 ≤ slice_index_or bytes 0 0 → 128 ≤ slice_index_or bytes 1 0 → 128 ≤ slice_index_or bytes 2 0 → 128 ≤ slice_index_or bytes 3 0 → 128 ≤ slice_index_or bytes 4 0
    → varint_in 5 at (take (length bytes - 5) (drop 5 bytes)) ≡ Err fault → varint_in 10 at bytes ≡ Err fault
five_stop at [] fault many ha hb hc hd he found = absurd (omega (arith, many))
five_stop at (v ∷ []) fault many ha hb hc hd he found = absurd (omega (arith, many))
five_stop at (v ∷ w ∷ []) fault many ha hb hc hd he found = absurd (omega (arith, many))
five_stop at (v ∷ w ∷ x ∷ []) fault many ha hb hc hd he found = absurd (omega (arith, many))
five_stop at (v ∷ w ∷ x ∷ y ∷ []) fault many ha hb hc hd he found = absurd (omega (arith, many))
five_stop at (v ∷ w ∷ x ∷ y ∷ z ∷ rest) fault many ha hb hc hd he found =
    let there : varint_in 5 at rest ≡ Err fault = rw (behind_five v w x y z rest) at found in
    five_wrong at v w x y z rest fault ha hb hc hd he there
