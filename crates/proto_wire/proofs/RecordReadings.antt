-- The first record: the function `record_in` agrees with the relation, both ways.
use Rattle.std.proofs.Common.{◌≡◌, ◌↔◌, ℕ, ◌+◌, ◌-◌, ◌*◌, ◌/◌, ◌%◌, ◌<◌, ◌≤◌, true, false, List, [], ◌++◌, length, take, drop, Result, Ok, Err, refl, sym, ap, ◌∙◌, subst, inl, inr, append_assoc, arith, if◌then◌else◌, ◌⊎◌, nat_lt, nat_le}
use Rattle.std.proofs.lemmas.Bool.{cases_Bool, cases_eq, cases_lt, eq-eqb, ne_eqb, lt-ltb, le-ltb, le-leb, lt-leb, ltb-true, leb-true, leb-false, ltb-false, and_parts, and_cases, and_left, and_right}
use Rattle.std.proofs.lemmas.List.{length-append, take_at, drop_at, take-append-drop, length-take-le}
use Rattle.proto_wire.specs.declared.fault.WireFault.{WireFault}
use Rattle.proto_wire.specs.declared.fault.WireFault.TheVariants.{Truncated, LongVarint, Group, ZeroField, BadText, Device, Memory}
use Rattle.proto_wire.specs.declared.record.WireValue.{WireValue}
use Rattle.proto_wire.specs.declared.record.WireValue.TheVariants.{Varint, Eight, Bytes, Four}
use Rattle.proto_wire.specs.Faults.{◌>>=◌, Matches, HasExactOutcome}
use Rattle.proto_wire.specs.Varints.{IsVarint, IsNoVarint, varint_in}
use Rattle.proto_wire.specs.Records.{PayloadRecord, IsField, IsKey, IsValue, IsRecord, HasKey, IsTruncated, in_key, in_varint, in_eight, in_length, in_payload, in_four, HasOverlongVarint, as_key, as_varint, as_length, IsGroup, IsNoField, IsWrongRecord, IsFirst}
use Rattle.proto_wire.specs.Readings.{piece, is_field, fixed_in, payload_in, value_in, record_in}
use Rattle.proto_wire.proofs.VarintReadings.{varint_found, open_found, long_found, VarintRead, varint_read, varint_bytes}

field_is : (n : ℕ) → IsField n → is_field n ≡ true
field_is n h = rw (lt-ltb 0 n h.some, le-leb n 536870911 h.most) refl

IsField-from : (n : ℕ) → is_field n ≡ true → IsField n
IsField-from n e =
    let parts = and_parts (nat_lt 0 n) (nat_le n 536870911) e in
    record { some = ltb-true 0 n parts.0; most = leb-true n 536870911 parts.1 }

no_field_is : (n : ℕ) → (n ≡ 0) ⊎ (536870911 < n) → is_field n ≡ false
no_field_is n (inl none) = and_left (nat_lt 0 n) (nat_le n 536870911) (le-ltb 0 n (omega arith))
no_field_is n (inr more) = and_right (nat_lt 0 n) (nat_le n 536870911) (lt-leb n 536870911 more)

no_field_from : (n : ℕ) → is_field n ≡ false → (n ≡ 0) ⊎ (536870911 < n)
no_field_from n e =
    elim (and_cases (nat_lt 0 n) (nat_le n 536870911) e) [
      | inl none ↦ inl (let h : n ≤ 0 = ltb-false 0 n none in omega arith)
      | inr more ↦ inr (leb-false n 536870911 more)
    ]

behind : (first rest : List ℕ) → length (first ++ rest) - length rest ≡ length first
behind first rest = omega (arith, length-append first rest)

-- after a key its value is read
key_found : (at : ℕ) (key rest : List ℕ) (field kind : ℕ) → IsKey key field kind → record_in at (key ++ rest) ≡ value_in kind field (at) (at + length key) rest
unfolding record_in
key_found at key rest field kind k =
    let is_kind = k.is_kind in
    let quotient : (8 * field + kind) / 8 ≡ field = omega arith in
    let remainder : (8 * field + kind) % 8 ≡ kind = omega arith in
    rw (varint_found at key rest (8 * field + kind) k.is_varint, quotient, remainder, field_is field k.is_field, behind key rest) refl

fixed_found : (count : ℕ) (value : WireValue) (field at body here : ℕ) (content rest : List ℕ) → length content ≡ count → here ≡ body
    → fixed_in count value field at body (content ++ rest) ≡ Ok (piece field value at here [], rest)
fixed_found count value field at body here content rest all e =
    rw (le-ltb (length (content ++ rest)) count (omega (arith, length-append content rest)), drop_at content rest count all, e) refl

payload_found : (field at body here : ℕ) (size content rest : List ℕ) (count : ℕ) → IsVarint size count → length content ≡ count → here ≡ body + length size
    → payload_in field at body (size ++ (content ++ rest)) ≡ Ok (piece field (Bytes count) at here content, rest)
payload_found field at body here size content rest count v all e =
    rw (varint_found at size (content ++ rest) count v, le-ltb (length (content ++ rest)) count (omega (arith, length-append content rest)), take_at content rest count all, drop_at content rest count all, behind size (content ++ rest), e) refl

value_found : (value : WireValue) (kind : ℕ) (size content payload rest : List ℕ) (field at body here : ℕ) → IsValue value kind size content payload → here ≡ body + length size
    → value_in kind field at body ((size ++ content) ++ rest) ≡ Ok (piece field value at here payload, rest)
unfolding value_in
value_found (Varint n) kind size content payload rest field at body here h e =
    let same : here ≡ body = omega (arith, ap length h.1) in
    rw (h.0, h.1, h.3, varint_found at content rest n h.2, same) refl
value_found Eight kind size content payload rest field at body here h e =
    let same : here ≡ body = omega (arith, ap length h.1) in
    rw (h.0, h.1, h.3) (fixed_found 8 Eight field at body here content rest h.2 same)
value_found (Bytes count) kind size content payload rest field at body here h e =
    rw (h.0, h.3, append_assoc size content rest) (payload_found field at body here size content rest count h.1 h.2 e)
value_found Four kind size content payload rest field at body here h e =
    let same : here ≡ body = omega (arith, ap length h.1) in
    rw (h.0, h.1, h.3) (fixed_found 4 Four field at body here content rest h.2 same)

-- a record is found, whatever follows it
pub record_found : (at : ℕ) (bytes rest : List ℕ) (p : PayloadRecord) → IsRecord at bytes p → record_in at (bytes ++ rest) ≡ Ok (p, rest)
record_found at bytes rest p r =
    let whole : bytes ++ rest ≡ r.key ++ ((r.size ++ r.content) ++ rest) = ap (λ (bs : List ℕ). bs ++ rest) r.form ∙ append_assoc r.key (r.size ++ r.content) rest in
    let here : p.wire.body ≡ (at + length r.key) + length r.size = omega (arith, r.at_body) in
    ap (record_in at) whole ∙ key_found at r.key ((r.size ++ r.content) ++ rest) p.wire.field r.kind r.is_key
    ∙ value_found p.wire.value r.kind r.size r.content p.payload rest p.wire.field at (at + length r.key) p.wire.body r.is_value here
    ∙ ap (λ (place : ℕ). Ok (piece p.wire.field p.wire.value place p.wire.body p.payload, rest)) (sym r.at_key)

-- a record isn't empty
pub record_bytes : (at : ℕ) (bytes : List ℕ) (p : PayloadRecord) → IsRecord at bytes p → 0 < length bytes
record_bytes at bytes p r = omega (arith, ap length r.form, length-append r.key (r.size ++ r.content), varint_bytes r.key (8 * p.wire.field + r.kind) r.is_key.is_varint)

has_key_found : (at : ℕ) (bytes rest : List ℕ) (kind : ℕ) → (k : HasKey bytes kind rest) → record_in at bytes ≡ value_in kind k.field at (at + length k.key) rest
has_key_found at bytes rest kind k = ap (record_in at) k.form ∙ key_found at k.key rest k.field kind k.is_key

fixed_cut : (count : ℕ) (value : WireValue) (field at body : ℕ) (rest : List ℕ) → length rest < count → fixed_in count value field at body rest ≡ Err (Truncated at)
fixed_cut count value field at body rest short = rw (lt-ltb (length rest) count short) refl

varint_cut : (field at body : ℕ) (rest : List ℕ) (fault : WireFault) → varint_in 10 at rest ≡ Err fault → value_in 0 field at body rest ≡ Err fault
unfolding value_in
varint_cut field at body rest fault e = rw e refl

length_cut : (field at body : ℕ) (rest : List ℕ) (fault : WireFault) → varint_in 10 at rest ≡ Err fault → value_in 2 field at body rest ≡ Err fault
unfolding value_in
length_cut field at body rest fault e = rw e refl

eight_cut : (field at body : ℕ) (rest : List ℕ) → length rest < 8 → value_in 1 field at body rest ≡ Err (Truncated at)
unfolding value_in
eight_cut field at body rest short = fixed_cut 8 Eight field at body rest short

four_cut : (field at body : ℕ) (rest : List ℕ) → length rest < 4 → value_in 5 field at body rest ≡ Err (Truncated at)
unfolding value_in
four_cut field at body rest short = fixed_cut 4 Four field at body rest short

payload_cut : (field at body : ℕ) (size rest : List ℕ) (count : ℕ) → IsVarint size count → length rest < count → value_in 2 field at body (size ++ rest) ≡ Err (Truncated at)
unfolding value_in
payload_cut field at body size rest count v short = rw (varint_found at size rest count v, lt-ltb (length rest) count short) refl

no_key_found : (at : ℕ) (bytes : List ℕ) (fault : WireFault) → varint_in 10 at bytes ≡ Err fault → record_in at bytes ≡ Err fault
unfolding record_in
no_key_found at bytes fault e = rw e refl

truncated_found : (at : ℕ) (bytes : List ℕ) → IsTruncated bytes → record_in at bytes ≡ Err (Truncated at)
truncated_found at bytes (in_key o) = no_key_found at bytes (Truncated at) (open_found at bytes o)
truncated_found at bytes (in_varint rest k o) = has_key_found at bytes rest 0 k ∙ varint_cut k.field at (at + length k.key) rest (Truncated at) (open_found at rest o)
truncated_found at bytes (in_eight rest k short) = has_key_found at bytes rest 1 k ∙ eight_cut k.field at (at + length k.key) rest short
truncated_found at bytes (in_length rest k o) = has_key_found at bytes rest 2 k ∙ length_cut k.field at (at + length k.key) rest (Truncated at) (open_found at rest o)
truncated_found at bytes (in_payload size rest count k v short) = has_key_found at bytes (size ++ rest) 2 k ∙ payload_cut k.field at (at + length k.key) size rest count v short
truncated_found at bytes (in_four rest k short) = has_key_found at bytes rest 5 k ∙ four_cut k.field at (at + length k.key) rest short

too_long_found : (at : ℕ) (bytes : List ℕ) → HasOverlongVarint bytes → record_in at bytes ≡ Err (LongVarint at)
too_long_found at bytes (as_key l) = no_key_found at bytes (LongVarint at) (long_found at bytes l)
too_long_found at bytes (as_varint rest k l) = has_key_found at bytes rest 0 k ∙ varint_cut k.field at (at + length k.key) rest (LongVarint at) (long_found at rest l)
too_long_found at bytes (as_length rest k l) = has_key_found at bytes rest 2 k ∙ length_cut k.field at (at + length k.key) rest (LongVarint at) (long_found at rest l)

no_value : (kind field at body : ℕ) (rest : List ℕ) → (kind ≡ 3) ⊎ (kind ≡ 4) ⊎ (kind ≡ 6) ⊎ (kind ≡ 7) → value_in kind field at body rest ≡ Err (Group at)
unfolding value_in
no_value kind field at body rest h =
    rw (ne_eqb kind 0 (λ e. omega (arith, h)), ne_eqb kind 1 (λ e. omega (arith, h)), ne_eqb kind 2 (λ e. omega (arith, h)), ne_eqb kind 5 (λ e. omega (arith, h))) refl

group_found : (at : ℕ) (bytes : List ℕ) → IsGroup bytes → record_in at bytes ≡ Err (Group at)
group_found at bytes g = has_key_found at bytes g.rest g.kind g.has_key ∙ no_value g.kind g.has_key.field at (at + length g.has_key.key) g.rest g.no_value

no_field_found : (at : ℕ) (bytes : List ℕ) → IsNoField bytes → record_in at bytes ≡ Err (ZeroField at)
unfolding record_in
no_field_found at bytes z =
    let is_kind = z.is_kind in
    let quotient : (8 * z.number + z.kind) / 8 ≡ z.number = omega arith in
    rw (z.form, varint_found at z.key z.rest (8 * z.number + z.kind) z.is_varint, quotient, no_field_is z.number z.no_field) refl

-- why no record was found
pub wrong_found : (at : ℕ) (bytes : List ℕ) (fault : WireFault) → IsWrongRecord at bytes fault → record_in at bytes ≡ Err fault
wrong_found at bytes (Truncated place) h = rw h.0 (truncated_found at bytes h.1)
wrong_found at bytes (LongVarint place) h = rw h.0 (too_long_found at bytes h.1)
wrong_found at bytes (Group place) h = rw h.0 (group_found at bytes h.1)
wrong_found at bytes (ZeroField place) h = rw h.0 (no_field_found at bytes h.1)
wrong_found at bytes (BadText place) h = absurd h
wrong_found at bytes Device h = absurd h
wrong_found at bytes Memory h = absurd h

wrong_key : (at : ℕ) (bytes : List ℕ) (fault : WireFault) → IsNoVarint at bytes fault → IsWrongRecord at bytes fault
wrong_key at bytes (Truncated place) h = (h.0, in_key h.1)
wrong_key at bytes (LongVarint place) h = (h.0, as_key h.1)
wrong_key at bytes (Group place) h = absurd h
wrong_key at bytes (ZeroField place) h = absurd h
wrong_key at bytes (BadText place) h = absurd h
wrong_key at bytes Device h = absurd h
wrong_key at bytes Memory h = absurd h

wrong_varint : (at : ℕ) (bytes rest : List ℕ) (fault : WireFault) → HasKey bytes 0 rest → IsNoVarint at rest fault → IsWrongRecord at bytes fault
wrong_varint at bytes rest (Truncated place) k h = (h.0, in_varint rest k h.1)
wrong_varint at bytes rest (LongVarint place) k h = (h.0, as_varint rest k h.1)
wrong_varint at bytes rest (Group place) k h = absurd h
wrong_varint at bytes rest (ZeroField place) k h = absurd h
wrong_varint at bytes rest (BadText place) k h = absurd h
wrong_varint at bytes rest Device k h = absurd h
wrong_varint at bytes rest Memory k h = absurd h

wrong_length : (at : ℕ) (bytes rest : List ℕ) (fault : WireFault) → HasKey bytes 2 rest → IsNoVarint at rest fault → IsWrongRecord at bytes fault
wrong_length at bytes rest (Truncated place) k h = (h.0, in_length rest k h.1)
wrong_length at bytes rest (LongVarint place) k h = (h.0, as_length rest k h.1)
wrong_length at bytes rest (Group place) k h = absurd h
wrong_length at bytes rest (ZeroField place) k h = absurd h
wrong_length at bytes rest (BadText place) k h = absurd h
wrong_length at bytes rest Device k h = absurd h
wrong_length at bytes rest Memory k h = absurd h

-- a record from its parts, and what follows it
record_of : (at : ℕ) (bytes : List ℕ) (kind : ℕ) (key size content rest payload : List ℕ) (field body : ℕ) (value : WireValue) → bytes ≡ key ++ (size ++ (content ++ rest)) → IsKey key field kind
    → IsValue value kind size content payload → body ≡ at + (length key + length size) → IsFirst at bytes (Ok (piece field value at body payload, rest))
record_of at bytes kind key size content rest payload field body value form is_key is_value at_body = (
  key ++ (size ++ content),
  form ∙ sym (append_assoc key (size ++ content) rest ∙ ap (λ (bs : List ℕ). key ++ bs) (append_assoc size content rest)),
  record { kind = kind; key = key; size = size; content = content; form = refl; is_key = is_key; is_value = is_value; at_key = refl; at_body = at_body },
)

varint_value_read : (at : ℕ) (bytes rest : List ℕ) (k : HasKey bytes 0 rest) (reading : Result (ℕ × List ℕ) WireFault) → VarintRead at rest reading
    → IsFirst at bytes (reading >>= λ n. Ok (piece k.field (Varint n.0) at (at + length k.key) [], n.1))
varint_value_read at bytes rest k (Ok x) h =
    record_of at bytes 0 k.key [] h.0 x.1 [] k.field (at + length k.key) (Varint x.0) (k.form ∙ ap (λ (bs : List ℕ). k.key ++ bs) h.1) k.is_key (refl, refl, h.2, refl) (omega arith)
varint_value_read at bytes rest k (Err fault) h = wrong_varint at bytes rest fault k h

split_at : (rest : List ℕ) (count : ℕ) → rest ≡ take count rest ++ drop count rest
split_at rest count = sym (take-append-drop count rest)

fixed_read : (at : ℕ) (bytes rest : List ℕ) (kind count : ℕ) (value : WireValue) (k : HasKey bytes kind rest)
    → ((content : List ℕ) → length content ≡ count → IsValue value kind [] content []) → (length rest < count → IsWrongRecord at bytes (Truncated at))
    → IsFirst at bytes (fixed_in count value k.field at (at + length k.key) rest)
fixed_read at bytes rest kind count value k good bad =
    elim (cases_lt (length rest) count) [
      | inl lt ↦ rw (lt-ltb (length rest) count lt) (bad lt)
      | inr le ↦ rw (le-ltb (length rest) count le) (record_of at bytes kind k.key [] (take count rest) (drop count rest) [] k.field (at + length k.key) value (k.form ∙ ap (λ (bs : List ℕ). k.key ++ bs) (split_at rest count)) k.is_key (good (take count rest) (length-take-le count rest le)) (omega arith))
    ]

payload_read : (at : ℕ) (bytes rest : List ℕ) (k : HasKey bytes 2 rest) (reading : Result (ℕ × List ℕ) WireFault) → VarintRead at rest reading
    → IsFirst at bytes (reading >>= λ n. if nat_lt (length n.1) n.0 then Err (Truncated at) else Ok (piece k.field (Bytes n.0) at ((at + length k.key) + (length rest - length n.1)) (take n.0 n.1), drop n.0 n.1))
payload_read at bytes rest k (Ok x) h =
    let form : bytes ≡ k.key ++ (h.0 ++ x.1) = k.form ∙ ap (λ (bs : List ℕ). k.key ++ bs) h.1 in
    let counted : length rest ≡ length h.0 + length x.1 = ap length h.1 ∙ length-append h.0 x.1 in
    elim (cases_lt (length x.1) x.0) [
      | inl lt ↦ rw (lt-ltb (length x.1) x.0 lt) (refl, in_payload h.0 x.1 x.0 (record { field = k.field; key = k.key; form = form; is_key = k.is_key }) h.2 lt)
      | inr le ↦ rw (le-ltb (length x.1) x.0 le)
          (record_of at bytes 2 k.key h.0 (take x.0 x.1) (drop x.0 x.1) (take x.0 x.1) k.field ((at + length k.key) + (length rest - length x.1)) (Bytes x.0) (form ∙ ap (λ (bs : List ℕ). k.key ++ (h.0 ++ bs)) (split_at x.1 x.0)) k.is_key (refl, h.2, length-take-le x.0 x.1 le, refl) (omega arith))
    ]
payload_read at bytes rest k (Err fault) h = wrong_length at bytes rest fault k h

abbrev same_kind : (bytes rest : List ℕ) (kind other : ℕ) → kind ≡ other → HasKey bytes kind rest → HasKey bytes other rest
same_kind bytes rest kind other e k = record { field = k.field; key = k.key; form = k.form; is_key = subst (λ (t : ℕ). IsKey k.key k.field t) e k.is_key }

value_read : (at : ℕ) (bytes rest : List ℕ) (kind : ℕ) (k : HasKey bytes kind rest) → IsFirst at bytes (value_in kind k.field at (at + length k.key) rest)
unfolding value_in
value_read at bytes rest kind k =
    elim (cases_eq kind 0) [
      | inl e ↦ rw (eq-eqb kind 0 e) (varint_value_read at bytes rest (same_kind bytes rest kind 0 e k) (varint_in 10 at rest) (varint_read at rest))
      | inr no0 ↦ rw (ne_eqb kind 0 no0) (elim (cases_eq kind 1) [
        | inl e ↦ rw (eq-eqb kind 1 e) (fixed_read at bytes rest 1 8 Eight (same_kind bytes rest kind 1 e k) (λ content all. (refl, refl, all, refl)) (λ short. (refl, in_eight rest (same_kind bytes rest kind 1 e k) short)))
        | inr no1 ↦ rw (ne_eqb kind 1 no1) (elim (cases_eq kind 2) [
          | inl e ↦ rw (eq-eqb kind 2 e) (payload_read at bytes rest (same_kind bytes rest kind 2 e k) (varint_in 10 at rest) (varint_read at rest))
          | inr no2 ↦ rw (ne_eqb kind 2 no2) (elim (cases_eq kind 5) [
            | inl e ↦ rw (eq-eqb kind 5 e) (fixed_read at bytes rest 5 4 Four (same_kind bytes rest kind 5 e k) (λ content all. (refl, refl, all, refl)) (λ short. (refl, in_four rest (same_kind bytes rest kind 5 e k) short)))
            | inr no5 ↦ rw (ne_eqb kind 5 no5) (refl, record { kind = kind; rest = rest; has_key = k; no_value = others kind k.is_key.is_kind no0 no1 no2 no5 })
          ])
        ])
      ])
    ]
  where
    others : (t : ℕ) → t < 8 → (t ≡ 0 → ⊥) → (t ≡ 1 → ⊥) → (t ≡ 2 → ⊥) → (t ≡ 5 → ⊥) → (t ≡ 3) ⊎ (t ≡ 4) ⊎ (t ≡ 6) ⊎ (t ≡ 7)
    others t lt no0 no1 no2 no5 =
        elim (cases_eq t 3) [
          | inl e ↦ inl e
          | inr no3 ↦ elim (cases_eq t 4) [
            | inl e ↦ inr (inl e)
            | inr no4 ↦ elim (cases_eq t 6) [ inl e ↦ inr (inr (inl e)) | inr no6 ↦ inr (inr (inr (omega arith))) ]
          ]
        ]

parts : (n : ℕ) → n ≡ 8 * (n / 8) + n % 8
parts n = omega arith

kind_below : (n : ℕ) → n % 8 < 8
kind_below n = omega arith

behind_key : (at : ℕ) (bytes : List ℕ) (reading : Result (ℕ × List ℕ) WireFault) → VarintRead at bytes reading
    → IsFirst at bytes (reading >>= λ key. if is_field (key.0 / 8) then value_in (key.0 % 8) (key.0 / 8) at (at + (length bytes - length key.1)) key.1 else Err (ZeroField at))
behind_key at bytes (Ok x) h =
    let is_varint : IsVarint h.0 (8 * (x.0 / 8) + x.0 % 8) = subst (IsVarint h.0) (parts x.0) h.2 in
    let here : length bytes - length x.1 ≡ length h.0 = ap (λ (bs : List ℕ). length bs - length x.1) h.1 ∙ behind h.0 x.1 in
    elim (cases_Bool (is_field (x.0 / 8))) [
      | inl is_yes ↦ rw (is_yes, here) (value_read at bytes x.1 (x.0 % 8) (record { field = x.0 / 8; key = h.0; form = h.1; is_key = record { is_varint = is_varint; is_kind = kind_below x.0; is_field = IsField-from (x.0 / 8) is_yes } }))
      | inr is_no ↦ rw is_no (refl, record { number = x.0 / 8; kind = x.0 % 8; key = h.0; rest = x.1; form = h.1; is_varint = is_varint; is_kind = kind_below x.0; no_field = no_field_from (x.0 / 8) is_no })
    ]
behind_key at bytes (Err fault) h = wrong_key at bytes fault h

pub record_read : (at : ℕ) (bytes : List ℕ) → IsFirst at bytes (record_in at bytes)
unfolding record_in
record_read at bytes = behind_key at bytes (varint_in 10 at bytes) (varint_read at bytes)

-- the function returns exactly the outcome for the first record
pub first_iff : (at : ℕ) (bytes : List ℕ) (o : Result (PayloadRecord × List ℕ) WireFault) → (record_in at bytes ≡ o) ↔ IsFirst at bytes o
first_iff at bytes o = (λ e. subst (IsFirst at bytes) e (record_read at bytes), first_found at bytes o)
  where
    first_found : (at : ℕ) (bytes : List ℕ) (o : Result (PayloadRecord × List ℕ) WireFault) → IsFirst at bytes o → record_in at bytes ≡ o
    first_found at bytes (Ok x) h = ap (record_in at) h.1 ∙ record_found at h.0 x.1 x.0 h.2
    first_found at bytes (Err fault) h = wrong_found at bytes fault h

-- a result of the function is the outcome for the first record
pub first_told : {X : Type 0} (view : X → PayloadRecord × List ℕ) (at : ℕ) (bytes : List ℕ) (result : Result X WireFault) → Matches view result (record_in at bytes) → HasExactOutcome view result (IsFirst at bytes)
first_told view at bytes (Ok x) e = (first_iff at bytes (Ok (view x))).0 e
first_told view at bytes (Err fault) e = (first_iff at bytes (Err fault)).0 e
