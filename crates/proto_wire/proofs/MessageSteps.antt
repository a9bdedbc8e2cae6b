-- Lemmas for crates that define messages: what one more record adds to a field, and what written fields decode to. They
-- hold for any type of message, which no contract can state.
use Rattle.std.proofs.Common.{◌≡◌, ℕ, List, [], ◌∷◌, ◌++◌, length, map, Option, None, refl, sym, ap, ◌∙◌, append_assoc}
use Rattle.std.specs.List.{AllByRecursion}
use Rattle.std.proofs.lemmas.List.{append-nil}
use Rattle.proto_wire.specs.declared.fault.WireFault.{WireFault}
use Rattle.proto_wire.specs.declared.record.WireValue.TheVariants.{Bytes}
use Rattle.proto_wire.specs.Records.{PayloadRecord}
use Rattle.proto_wire.specs.Readings.{payload_records}
use Rattle.proto_wire.specs.Messages.{if_field, field_values, latest, nested_records, IsClean}
use Rattle.proto_wire.specs.Writing.{Field, FieldFits, payload_fields, spelled_fields, pieces_at, Carries, CarryAll}
use Rattle.proto_wire.proofs.PieceReadings.{records_found}
use Rattle.proto_wire.proofs.WritingLaws.{records_again}
use Rattle.proto_wire.proofs.GivenLaws.{if_field-hit}

pub field_values-push : {X : Type 0} (k : ℕ) (gives : PayloadRecord → List X) (front : List PayloadRecord) (p : PayloadRecord) → field_values k gives (front ++ p ∷ []) ≡ field_values k gives front ++ if_field k p.wire (gives p)
unfolding field_values
field_values-push k gives [] p = append-nil (if_field k p.wire (gives p))
field_values-push k gives (q ∷ front) p = ap (λ xs. if_field k q.wire (gives q) ++ xs) (field_values-push k gives front p) ∙ sym (append_assoc (if_field k q.wire (gives q)) (field_values k gives front) (if_field k p.wire (gives p)))

pub latest-append : {X : Type 0} (old : X) (xs ys : List X) → latest old (xs ++ ys) ≡ latest (latest old xs) ys
latest-append old [] ys = refl
latest-append old (x ∷ xs) ys = latest-append x xs ys

-- the latest value of a field, after one more record
pub latest-push : {X : Type 0} (k : ℕ) (old : X) (gives : PayloadRecord → List X) (front : List PayloadRecord) (p : PayloadRecord) → latest old (field_values k gives (front ++ p ∷ [])) ≡ latest (latest old (field_values k gives front)) (if_field k p.wire (gives p))
latest-push k old gives front p = ap (latest old) (field_values-push k gives front p) ∙ latest-append old (field_values k gives front) (if_field k p.wire (gives p))

-- all of these fields have this number
abbrev pub HaveNumber : ℕ → List Field → Type 0
HaveNumber j fs = AllByRecursion (λ f. f.number ≡ j) fs

-- fields that are written decode to these fields, and to nothing else
pub pieces-again : (at : ℕ) (fs : List Field) → AllByRecursion FieldFits fs → payload_records at (spelled_fields fs) ≡ (pieces_at at fs, None)
pieces-again at fs fits = records_found at (spelled_fields fs) (pieces_at at fs) (records_again at fs fits)

-- each record of a message with these bytes means this value, at whatever offset
abbrev pub Restores : {V : Type 0} → (List PayloadRecord → V) → V → List ℕ → Type 0
Restores of v bytes = (start : ℕ) → of (payload_records start bytes).0 ≡ v

inside_carried : (p : PayloadRecord) (bytes : List ℕ) → (p.wire.value ≡ Bytes (length bytes)) × (p.payload ≡ bytes) → nested_records p ≡ (payload_records p.wire.body bytes).0 ∷ []
inside_carried p bytes h = rw (h.0, h.1) refl

-- messages that were written decode to the messages
pub messages-given : {V : Type 0} (k : ℕ) (of : List PayloadRecord → V) (written : V → List ℕ) (vs : List V) (ps : List PayloadRecord) → AllByRecursion (λ v. Restores of v (written v)) vs → CarryAll ps (payload_fields k (map written vs)) → map of (field_values k nested_records ps) ≡ vs
unfolding field_values
messages-given k of written [] [] restores h = refl
messages-given k of written [] (p ∷ ps) restores h = absurd h
messages-given k of written (v ∷ vs) [] restores h = absurd h
messages-given k of written (v ∷ vs) (p ∷ ps) restores h =
    rw (if_field-hit k p (nested_records p) h.0.number, inside_carried p (written v) h.0.content, messages-given k of written vs ps restores.1 h.1) (ap (λ x. x ∷ vs) (restores.0 p.wire.body))

-- fields such that no record that carries them has a fault
pub IsClean-from : (inside : PayloadRecord → Option WireFault) (ps : List PayloadRecord) (fs : List Field) → CarryAll ps fs → AllByRecursion (λ f. (p : PayloadRecord) → Carries p f → inside p ≡ None) fs → IsClean inside ps
IsClean-from inside [] [] h none = tt
IsClean-from inside [] (f ∷ fs) h none = absurd h
IsClean-from inside (p ∷ ps) [] h none = absurd h
IsClean-from inside (p ∷ ps) (f ∷ fs) h none = (none.0 p h.0, IsClean-from inside ps fs h.1 none.1)
