-- The values that the records of a field give, if the records carry what was written.
use Rattle.std.proofs.Common.{◌≡◌, ℕ, zero, suc, ◌%◌, ◌^◌, ◌<◌, ◌≤◌, ℤ, pos, negsuc, List, [], ◌∷◌, length, Ok, refl, ap, ◌∙◌, subst, arith}
use Rattle.std.specs.Prelude.{FitsSigned}
use Rattle.std.specs.Int.{w32, cast_unsigned, cast_signed}
use Rattle.std.specs.List.{AllByRecursion}
use Rattle.std.proofs.lemmas.Int.{to_z-of_z}
use Rattle.std.proofs.lemmas.List.{append-nil, length-append}
use Rattle.std.proofs.lemmas.Bool.{eq-eqb}
use Rattle.proto_wire.specs.declared.record.WireValue.TheVariants.{Varint, Bytes}
use Rattle.proto_wire.specs.Messages.{if_field, field_values, latest, number_in, numbers_in, bytes_in}
use Rattle.proto_wire.specs.Packed.{varint_to_int32, packed, packed_from, ArePacked, IsPackedOutcome}
use Rattle.proto_wire.specs.Records.{PayloadRecord}
use Rattle.proto_wire.specs.Varints.{varint, varint_in}
use Rattle.proto_wire.specs.Writing.{CarryAll, sign_extended_bits, number_fields, text_fields, packed_payload, packed_fields, payload_fields}
use Rattle.proto_wire.proofs.VarintLaws.{varint-again, varint-some}
use Rattle.proto_wire.proofs.PackedReadings.{packed_read}

low_bits : (z : ℤ) → FitsSigned w32 z → sign_extended_bits z % 2 ^ 32 ≡ cast_unsigned w32 z
low_bits (pos n) fits = omega (arith, fits)
low_bits (negsuc n) fits = omega (arith, fits)

-- the low 32 bits of a number that was written are that number
pub varint_to_int32-again : (z : ℤ) → FitsSigned w32 z → varint_to_int32 (sign_extended_bits z) ≡ z
varint_to_int32-again z fits = ap (cast_signed w32) (low_bits z fits) ∙ to_z-of_z w32 z fits

pub bits-fit : (z : ℤ) → FitsSigned w32 z → sign_extended_bits z < 2 ^ 64
bits-fit (pos n) fits = omega (arith, fits)
bits-fit (negsuc n) fits = omega arith

packed_from-step : (most at n : ℕ) (bytes rest : List ℕ) (zs : List ℤ) → 0 < length bytes → varint_in 10 at bytes ≡ Ok (n, rest) → packed_from most at rest ≡ Ok zs → packed_from (suc most) at bytes ≡ Ok (varint_to_int32 n ∷ zs)
unfolding packed_from
packed_from-step most at n [] rest zs some e others = absurd (omega arith)
packed_from-step most at n (b ∷ bytes) rest zs some e others = rw (e, others) refl

packed_from-nil : (most at : ℕ) → packed_from most at [] ≡ Ok []
unfolding packed_from
packed_from-nil most at = refl

packed_from-again : (most at : ℕ) (zs : List ℤ) → length (packed_payload zs) ≤ most → AllByRecursion (FitsSigned w32) zs → packed_from most at (packed_payload zs) ≡ Ok zs
packed_from-again most at [] enough fits = packed_from-nil most at
packed_from-again zero at (z ∷ zs) enough fits = absurd (omega (arith, length-append (varint (sign_extended_bits z)) (packed_payload zs), varint-some (sign_extended_bits z)))
packed_from-again (suc most) at (z ∷ zs) enough fits =
    let some : 0 < length (packed_payload (z ∷ zs)) = omega (arith, length-append (varint (sign_extended_bits z)) (packed_payload zs), varint-some (sign_extended_bits z)) in
    let others = packed_from-again most at zs (omega (arith, length-append (varint (sign_extended_bits z)) (packed_payload zs), varint-some (sign_extended_bits z))) fits.1 in
    packed_from-step most at (sign_extended_bits z) (packed_payload (z ∷ zs)) (packed_payload zs) zs some (varint-again at (sign_extended_bits z) (packed_payload zs) (bits-fit z fits.0)) others ∙ ap (λ (y : ℤ). Ok (y ∷ zs)) (varint_to_int32-again z fits.0)

-- packed numbers decode to the numbers
pub packed-again : (at : ℕ) (zs : List ℤ) → AllByRecursion (FitsSigned w32) zs → packed at (packed_payload zs) ≡ Ok zs
unfolding packed
packed-again at zs fits = packed_from-again (length (packed_payload zs)) at zs (omega arith) fits

-- packed numbers are a sequence of varints
pub packed_is : (zs : List ℤ) → AllByRecursion (FitsSigned w32) zs → ArePacked (packed_payload zs) zs
packed_is zs fits = subst (IsPackedOutcome 0 (packed_payload zs)) (packed-again 0 zs fits) (packed_read 0 (packed_payload zs))

pub if_field-hit : {X : Type 0} (k : ℕ) (p : PayloadRecord) (xs : List X) → p.wire.field ≡ k → if_field k p.wire xs ≡ xs
unfolding if_field
if_field-hit k p xs e = rw (eq-eqb p.wire.field k e) refl

field_values-one : {X : Type 0} (k : ℕ) (gives : PayloadRecord → List X) (p : PayloadRecord) (x : X) → p.wire.field ≡ k → gives p ≡ x ∷ [] → field_values k gives (p ∷ []) ≡ x ∷ []
unfolding field_values
field_values-one k gives p x e g = rw (if_field-hit k p (gives p) e, g) refl

field_values-row : {X : Type 0} (k : ℕ) (gives : PayloadRecord → List X) (p : PayloadRecord) (xs : List X) → p.wire.field ≡ k → gives p ≡ xs → field_values k gives (p ∷ []) ≡ xs
unfolding field_values
field_values-row k gives p xs e g = rw (if_field-hit k p (gives p) e, g) (append-nil xs)

field_values-nil : {X : Type 0} (k : ℕ) (gives : PayloadRecord → List X) → field_values k gives [] ≡ []
unfolding field_values
field_values-nil k gives = refl

bytes_carried : (p : PayloadRecord) (bytes : List ℕ) → (p.wire.value ≡ Bytes (length bytes)) × (p.payload ≡ bytes) → bytes_in p ≡ bytes ∷ []
bytes_carried p bytes h = rw (h.0, h.1) refl

-- a string that was written decodes to the string
pub text-given : (k : ℕ) (t : List ℕ) (ps : List PayloadRecord) → CarryAll ps (text_fields k t) → latest [] (field_values k bytes_in ps) ≡ t
text-given k [] [] h = rw (field_values-nil k bytes_in) refl
text-given k [] (p ∷ ps) h = absurd h
text-given k (b ∷ t) [] h = absurd h
text-given k (b ∷ t) (p ∷ []) h = rw (field_values-one k bytes_in p (b ∷ t) h.0.number (bytes_carried p (b ∷ t) h.0.content)) refl
text-given k (b ∷ t) (p ∷ q ∷ ps) h = absurd h.1

number_carried : (p : PayloadRecord) (z : ℤ) → FitsSigned w32 z → p.wire.value ≡ Varint (sign_extended_bits z) → number_in p ≡ z ∷ []
number_carried p z fits h = rw h (ap (λ (y : ℤ). y ∷ []) (varint_to_int32-again z fits))

-- a number that was written decodes to the number
pub number-given : (k : ℕ) (z : ℤ) (ps : List PayloadRecord) → FitsSigned w32 z → CarryAll ps (number_fields k z) → latest (pos 0) (field_values k number_in ps) ≡ z
number-given k (pos zero) [] fits h = rw (field_values-nil k number_in) refl
number-given k (pos zero) (p ∷ ps) fits h = absurd h
number-given k (pos (suc n)) [] fits h = absurd h
number-given k (pos (suc n)) (p ∷ []) fits h = rw (field_values-one k number_in p (pos (suc n)) h.0.number (number_carried p (pos (suc n)) fits h.0.content)) refl
number-given k (pos (suc n)) (p ∷ q ∷ ps) fits h = absurd h.1
number-given k (negsuc n) [] fits h = absurd h
number-given k (negsuc n) (p ∷ []) fits h = rw (field_values-one k number_in p (negsuc n) h.0.number (number_carried p (negsuc n) fits h.0.content)) refl
number-given k (negsuc n) (p ∷ q ∷ ps) fits h = absurd h.1

numbers_carried : (p : PayloadRecord) (zs : List ℤ) → AllByRecursion (FitsSigned w32) zs → (p.wire.value ≡ Bytes (length (packed_payload zs))) × (p.payload ≡ packed_payload zs) → numbers_in p ≡ zs
numbers_carried p zs fits h = rw (h.0, h.1, packed-again p.wire.at zs fits) refl

-- packed numbers that were written decode to the numbers
pub packed-given : (k : ℕ) (zs : List ℤ) (ps : List PayloadRecord) → AllByRecursion (FitsSigned w32) zs → CarryAll ps (packed_fields k zs) → field_values k numbers_in ps ≡ zs
packed-given k [] [] fits h = field_values-nil k numbers_in
packed-given k [] (p ∷ ps) fits h = absurd h
packed-given k (z ∷ zs) [] fits h = absurd h
packed-given k (z ∷ zs) (p ∷ []) fits h = field_values-row k numbers_in p (z ∷ zs) h.0.number (numbers_carried p (z ∷ zs) fits h.0.content)
packed-given k (z ∷ zs) (p ∷ q ∷ ps) fits h = absurd h.1

-- strings that were written decode to the strings
pub payloads-given : (k : ℕ) (ts : List (List ℕ)) (ps : List PayloadRecord) → CarryAll ps (payload_fields k ts) → field_values k bytes_in ps ≡ ts
unfolding field_values
payloads-given k [] [] h = refl
payloads-given k [] (p ∷ ps) h = absurd h
payloads-given k (t ∷ ts) [] h = absurd h
payloads-given k (t ∷ ts) (p ∷ ps) h = rw (if_field-hit k p (bytes_in p) h.0.number, bytes_carried p t h.0.content, payloads-given k ts ps h.1) refl
