-- Records that begin with a key of one byte, and a length or a number of one byte or bytes without a length.
use Rattle.std.proofs.Common.{◌≡◌, ℕ, ◌+◌, ◌-◌, ◌/◌, ◌%◌, ◌<◌, ◌≤◌, List, ◌∷◌, [], length, take, drop, take_all, Ok, refl, sym, ap, subst, arith}
use Rattle.std.proofs.lemmas.List.{take-append-drop, length-take-le, length-drop}
use Rattle.std.specs.List.{slice_index_or}
use Rattle.proto_wire.specs.declared.record.WireValue.{WireValue}
use Rattle.proto_wire.specs.declared.record.WireValue.TheVariants.{Varint, Bytes}
use Rattle.proto_wire.specs.Readings.{piece}
use Rattle.proto_wire.specs.Records.{IsFirst, IsKey, IsValue}
use Rattle.proto_wire.specs.Varints.{IsVarint}

one_byte : (b : ℕ) → b < 128 → IsVarint (b ∷ []) b
one_byte b l = record { more = []; last = b; form = refl; go_on = tt; ends = l; short = omega arith; value = omega (arith, l) }

short_key : (k kind : ℕ) → 8 ≤ k → k < 128 → k % 8 ≡ kind → IsKey (k ∷ []) (k / 8) kind
short_key k kind some l e = record {
  is_varint = subst (IsVarint (k ∷ [])) (omega (arith, e)) (one_byte k l);
  is_kind = omega (arith, e);
  is_field = record { some = omega (arith, some); most = omega (arith, l) };
}

-- a number of one byte
pub short_number : (at k n : ℕ) (rest : List ℕ) → 8 ≤ k → k < 128 → k % 8 ≡ 0 → n < 128 → IsFirst at (k ∷ n ∷ rest) (Ok (piece (k / 8) (Varint n) at (at + 1) [], rest))
short_number at k n rest some l e m = (
  k ∷ n ∷ [],
  refl,
  record { kind = 0; key = k ∷ []; size = []; content = n ∷ []; form = refl; is_key = short_key k 0 some l e; is_value = (refl, refl, one_byte n m, refl); at_key = refl; at_body = omega arith },
)

-- a payload whose length is one byte
pub short_payload : (at k n : ℕ) (rest : List ℕ) → 8 ≤ k → k < 128 → k % 8 ≡ 2 → n < 128 → n ≤ length rest → IsFirst at (k ∷ n ∷ rest) (Ok (piece (k / 8) (Bytes n) at (at + 2) (take n rest), drop n rest))
short_payload at k n rest some l e m enough = (
  k ∷ n ∷ take n rest,
  ap (λ (bs : List ℕ). k ∷ n ∷ bs) (sym (take-append-drop n rest)),
  record { kind = 2; key = k ∷ []; size = n ∷ []; content = take n rest; form = refl; is_key = short_key k 2 some l e; is_value = (refl, one_byte n m, length-take-le n rest enough, refl); at_key = refl; at_body = omega arith },
)

-- bytes without a length prefix, the first of which follows the key
short_fixed : (at k n more kind : ℕ) (value : WireValue) (rest : List ℕ) → 8 ≤ k → k < 128 → k % 8 ≡ kind → IsValue value kind [] (n ∷ take more rest) []
    → IsFirst at (k ∷ n ∷ rest) (Ok (piece (k / 8) value at (at + 1) [], drop more rest))
short_fixed at k n more kind value rest some l e is = (
  k ∷ n ∷ take more rest,
  ap (λ (bs : List ℕ). k ∷ n ∷ bs) (sym (take-append-drop more rest)),
  record { kind = kind; key = k ∷ []; size = []; content = n ∷ take more rest; form = refl; is_key = short_key k kind some l e; is_value = is; at_key = refl; at_body = omega arith },
)

-- the bytes after the first two
behind_two : (k n : ℕ) (rest : List ℕ) → take (length (k ∷ n ∷ rest) - 2) (drop 2 (k ∷ n ∷ rest)) ≡ rest
behind_two k n rest = take_all (length (k ∷ n ∷ rest) - 2) rest (omega arith)

-- the same for the bytes of a slice
pub number_in_front : (at : ℕ) (bytes : List ℕ) (field next : ℕ) → 2 ≤ length bytes → 8 ≤ slice_index_or bytes 0 0 → slice_index_or bytes 0 0 < 128 → slice_index_or bytes 0 0 % 8 ≡ 0 → slice_index_or bytes 1 0 < 128
    → field ≡ slice_index_or bytes 0 0 / 8 → next ≡ slice_index_or bytes 1 0 → IsFirst at bytes (Ok (piece field (Varint next) at (at + 1) [], take (length bytes - 2) (drop 2 bytes)))
number_in_front at [] field next two some l e m f g = absurd (omega (arith, two))
number_in_front at (k ∷ []) field next two some l e m f g = absurd (omega (arith, two))
number_in_front at (k ∷ n ∷ rest) field next two some l e m f g = rw (f, g, behind_two k n rest) (short_number at k n rest some l e m)

pub payload_in_front : (at : ℕ) (bytes : List ℕ) (field next : ℕ) (payload after : List ℕ) → 2 ≤ length bytes → 8 ≤ slice_index_or bytes 0 0 → slice_index_or bytes 0 0 < 128 → slice_index_or bytes 0 0 % 8 ≡ 2 → slice_index_or bytes 1 0 < 128
    → field ≡ slice_index_or bytes 0 0 / 8 → next ≡ slice_index_or bytes 1 0 → next ≤ length (take (length bytes - 2) (drop 2 bytes)) → payload ≡ take next (take (length bytes - 2) (drop 2 bytes)) → after ≡ drop next (take (length bytes - 2) (drop 2 bytes))
    → IsFirst at bytes (Ok (piece field (Bytes next) at (at + 2) payload, after))
payload_in_front at [] field next payload after two some l e m f g enough p q = absurd (omega (arith, two))
payload_in_front at (k ∷ []) field next payload after two some l e m f g enough p q = absurd (omega (arith, two))
payload_in_front at (k ∷ n ∷ rest) field next payload after two some l e m f g enough p q =
    let whole = behind_two k n rest in
    let count : n ≤ length rest = rw (g, whole) at enough in
    rw (f, p, q, g, whole) (short_payload at k n rest some l e m count)

pub fixed_in_front : (at : ℕ) (bytes : List ℕ) (field more kind : ℕ) (value : WireValue) → 2 ≤ length bytes → 8 ≤ slice_index_or bytes 0 0 → slice_index_or bytes 0 0 < 128 → slice_index_or bytes 0 0 % 8 ≡ kind → field ≡ slice_index_or bytes 0 0 / 8
    → more ≤ length (take (length bytes - 2) (drop 2 bytes)) → ((content : List ℕ) → length content ≡ 1 + more → IsValue value kind [] content [])
    → IsFirst at bytes (Ok (piece field value at (at + 1) [], take (length (take (length bytes - 2) (drop 2 bytes)) - more) (drop more (take (length bytes - 2) (drop 2 bytes)))))
fixed_in_front at [] field more kind value two some l e f enough is = absurd (omega (arith, two))
fixed_in_front at (k ∷ []) field more kind value two some l e f enough is = absurd (omega (arith, two))
fixed_in_front at (k ∷ n ∷ rest) field more kind value two some l e f enough is =
    let whole = behind_two k n rest in
    let count : more ≤ length rest = rw whole at enough in
    let behind : take (length rest - more) (drop more rest) ≡ drop more rest = take_all (length rest - more) (drop more rest) (omega (arith, length-drop more rest)) in
    rw (f, whole, behind) (short_fixed at k n more kind value rest some l e (is (n ∷ take more rest) (omega (arith, length-take-le more rest count))))
