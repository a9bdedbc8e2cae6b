-- A length that is stored in its byte, after a key and before a payload.
use Rattle.std.proofs.Common.{◌≡◌, ℕ, ◌+◌, ◌*◌, ◌/◌, ◌%◌, ◌<◌, ◌≤◌, List, [], ◌∷◌, ◌++◌, length, Result, Ok, Err, refl, set, sym, ap, ap₂, ◌∙◌, append-nil, append_assoc, arith}
use Rattle.std.specs.List.{insert}
use Rattle.std.specs.Prelude.{OnOk, if◌then◌else◌}
use Rattle.std.specs.Result.{is_ok}
use Rattle.std.proofs.lemmas.List.{drop_at, length-append, set_at, take_at}
use Rattle.proto_wire.specs.Varints.{varint}
use Rattle.proto_wire.specs.Writing.{head_of, spelled_fields, text_fields}
use Rattle.proto_wire.proofs.VarintLaws.{varint-large, varint-small}

moved : (old payload : List ℕ) (key b : ℕ) → (old ++ key ∷ b ∷ []) ++ payload ≡ (old ++ key ∷ []) ++ b ∷ payload
moved old payload key b = append_assoc old (key ∷ b ∷ []) payload ∙ sym (append_assoc old (key ∷ []) (b ∷ payload))

filled : (old payload : List ℕ) (key size at : ℕ) → at ≡ length old + 1 → set ((old ++ key ∷ 0 ∷ []) ++ payload) at size ≡ (old ++ key ∷ size ∷ []) ++ payload
filled old payload key size at is =
    ap (λ (bytes : List ℕ). set bytes at size) (moved old payload key 0)
    ∙ set_at (old ++ key ∷ []) 0 payload size at (length-append old (key ∷ []) ∙ sym is)
    ∙ sym (moved old payload key size)

put_in : (p payload : List ℕ) (b at : ℕ) → at ≡ length p → insert (p ++ payload) at b ≡ p ++ b ∷ payload
put_in p payload b at is = ap₂ (λ (prefix behind : List ℕ). prefix ++ b ∷ behind) (take_at p payload at (sym is)) (drop_at p payload at (sym is))

-- one byte
pub settled_low : (old payload : List ℕ) (key size at : ℕ) → size < 128 → at ≡ length old + 1 →
    set ((old ++ key ∷ 0 ∷ []) ++ payload) at size ≡ (old ++ key ∷ varint size) ++ payload
settled_low old payload key size at l is = rw (varint-small size l) (filled old payload key size at is)

-- two bytes
pub settled_high : (old payload : List ℕ) (key size at next : ℕ) → 128 ≤ size → size < 16384 → at ≡ length old + 1 → next ≡ length old + 2 →
    insert (set ((old ++ key ∷ 0 ∷ []) ++ payload) at (size % 128 + 128)) next (size / 128) ≡ (old ++ key ∷ varint size) ++ payload
settled_high old payload key size at next g l is more =
    let low = size % 128 + 128 in
    let high = size / 128 in
    let prefix : List ℕ = old ++ key ∷ low ∷ [] in
    let two : varint size ≡ low ∷ high ∷ [] = varint-large size g (omega arith) ∙ ap (λ (bytes : List ℕ). low ∷ bytes) (varint-small high (omega arith)) in
    ap (λ (bytes : List ℕ). insert bytes next high) (filled old payload key low at is)
    ∙ put_in prefix payload high next (omega (arith, more, length-append old (key ∷ low ∷ [])))
    ∙ append_assoc old (key ∷ low ∷ []) (high ∷ payload)
    ∙ sym (append_assoc old (key ∷ low ∷ high ∷ []) payload)
    ∙ ap (λ (bytes : List ℕ). (old ++ key ∷ bytes) ++ payload) (sym two)

-- key and length are the head of a payload
pub headed : (old payload : List ℕ) (field key size : ℕ) → field < 16 → key ≡ 8 * field + 2 → size ≡ length payload →
    (old ++ key ∷ varint size) ++ payload ≡ old ++ (head_of field (length payload) ++ payload)
headed old payload field key size few k s =
    rw (k, s, varint-small (8 * field + 2) (omega arith)) (append_assoc old ((8 * field + 2) ∷ varint (length payload)) payload)

-- a byte string that isn't empty
pub text_put : (old text : List ℕ) (field key : ℕ) → field < 16 → key ≡ 8 * field + 2 → 0 < length text →
    ((old ++ key ∷ []) ++ varint (length text)) ++ text ≡ old ++ spelled_fields (text_fields field text)
text_put old [] field key few k some = absurd (omega arith)
text_put old (b ∷ text) field key few k some =
    let size = varint (length (b ∷ text)) in
    let same : length (b ∷ text) ≡ length (b ∷ text) = refl in
    ap (λ (bytes : List ℕ). bytes ++ b ∷ text) (append_assoc old (key ∷ []) size)
    ∙ headed old (b ∷ text) field key (length (b ∷ text)) few k same
    ∙ ap (λ (bytes : List ℕ). old ++ bytes) (sym (append-nil (head_of field (length (b ∷ text)) ++ b ∷ text)))

-- the vector after it was extended
pub ok_put : {T E : Type 0} (r : Result T E) (new old more whole : List ℕ) → new ≡ (if is_ok r then old ++ more else old) → old ++ more ≡ whole → OnOk r (new ≡ whole)
ok_put (Ok x) new old more whole e is = e ∙ is
ok_put (Err x) new old more whole e is = tt
