-- The symbol of an occurrence of two records or three.
use Rattle.std.proofs.Common.{◌≡◌, ℕ, List, [], ◌∷◌, length, refl, arith}
use Rattle.std.proofs.lemmas.Bool.{eq-eqb, ne_eqb}
use Rattle.proto_wire.specs.declared.record.WireValue.TheVariants.{Bytes}
use Rattle.proto_wire.specs.Records.{PayloadRecord}
use Rattle.proto_wire.specs.Readings.{payload_records}
use Rattle.proto_wire.specs.Messages.{bytes_in, field_values, if_field, latest}
use Rattle.proto_wire.proofs.InsideLaws.{each_then, each_none, none_left}

other_field : (k : ℕ) (p : PayloadRecord) → (p.wire.field ≡ k → ⊥) → if_field k p.wire (bytes_in p) ≡ []
unfolding if_field
other_field k p other = rw (ne_eqb p.wire.field k other) refl

own_field : (k count : ℕ) (p : PayloadRecord) → p.wire.field ≡ k → p.wire.value ≡ Bytes count → if_field k p.wire (bytes_in p) ≡ p.payload ∷ []
unfolding if_field
own_field k count p f v = rw (eq-eqb p.wire.field k f, v) refl

-- after a range and a symbol nothing more of its field stands
pub symbol_second : (count : ℕ) (range symbol : PayloadRecord) (pieces behind end : List PayloadRecord) → pieces ≡ range ∷ behind → behind ≡ symbol ∷ end → range.wire.field ≡ 1 → symbol.wire.field ≡ 2 → symbol.wire.value ≡ Bytes count
    → field_values 2 bytes_in end ≡ [] → latest [] (field_values 2 bytes_in pieces) ≡ symbol.payload
symbol_second count range symbol pieces behind end e g r s v none =
    rw (each_then 2 bytes_in pieces range behind e, other_field 2 range (λ f. omega (arith, f, r)), each_then 2 bytes_in behind symbol end g, own_field 2 count symbol s v, none) refl

pub nothing_left : (at : ℕ) (bytes : List ℕ) → length bytes ≡ 0 → field_values 2 bytes_in (payload_records at bytes).0 ≡ []
nothing_left at bytes none = each_none 2 bytes_in (payload_records at bytes).0 (none_left at bytes none)

pub other_left : (p : PayloadRecord) (pieces end : List PayloadRecord) → pieces ≡ p ∷ end → (p.wire.field ≡ 2 → ⊥) → field_values 2 bytes_in pieces ≡ field_values 2 bytes_in end
other_left p pieces end e other = rw (each_then 2 bytes_in pieces p end e, other_field 2 p other) refl
