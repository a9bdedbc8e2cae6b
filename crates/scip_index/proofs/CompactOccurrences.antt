-- The record of a short occurrence: the bytes before its symbol.
use Rattle.std.proofs.Common.{◌≡◌, ℕ, zero, suc, ◌+◌, ◌/◌, ◌%◌, ◌<◌, ◌≤◌, pos, List, [], ◌∷◌, ◌++◌, length, true, refl, sym, ap, ap₂, ◌∙◌, append_assoc, append-nil, arith}
use Rattle.std.specs.Prelude.{◌==◌, if◌then◌else◌}
use Rattle.std.proofs.Math.Dec.{eqb-suc-zero}
use Rattle.std.proofs.lemmas.Bool.{eq-eqb}
use Rattle.std.proofs.lemmas.List.{length-append}
use Rattle.std.proofs.lemmas.List.Concat.{flat_map-append}
use Rattle.proto_wire.specs.Varints.{varint}
use Rattle.proto_wire.specs.Writing.{Field, head_of, number_fields, packed_payload, payload_field, spelled, spelled_fields, text_fields}
use Rattle.proto_wire.proofs.VarintLaws.{varint-large, varint-small}
use Rattle.scip_index.specs.Written.{occurrence_fields, written_occurrence}
use Rattle.scip_index.specs.Ranges.{range_between}
use Rattle.scip_index.specs.Ranges.{prefix_of, range_field, compact_occurrence}

-- a number of at most 14 bits
varint-two : (n : ℕ) → 128 ≤ n → n < 16384 → varint n ≡ (n % 128 + 128) ∷ n / 128 ∷ []
varint-two n le lt = varint-large n le (omega arith) ∙ ap (λ (bytes : List ℕ). (n % 128 + 128) ∷ bytes) (varint-small (n / 128) (omega arith))

-- and of at most 21
varint-three : (n : ℕ) → 16384 ≤ n → n < 2097152 → varint n ≡ (n % 128 + 128) ∷ (n / 128 % 128 + 128) ∷ n / 128 / 128 ∷ []
varint-three n le lt = varint-large n (omega arith) (omega arith) ∙ ap (λ (bytes : List ℕ). (n % 128 + 128) ∷ bytes) (varint-two (n / 128) (omega arith) (omega arith))

-- the field of a range on one line of the first 128
pub range_low : (line column end : ℕ) → line < 128 → column < 128 → end < 128 → range_field line column end ≡ 10 ∷ 3 ∷ line ∷ column ∷ end ∷ []
range_low line column end l c e =
    rw (varint-small line l, varint-small column c, varint-small end e, varint-small 10 (omega arith), varint-small 3 (omega arith)) refl

-- on one of the first 16,384
pub range_high : (line column end : ℕ) → 128 ≤ line → line < 16384 → column < 128 → end < 128 →
    range_field line column end ≡ 10 ∷ 4 ∷ (line % 128 + 128) ∷ line / 128 ∷ column ∷ end ∷ []
range_high line column end g l c e =
    rw (varint-two line g l, varint-small column c, varint-small end e, varint-small 10 (omega arith), varint-small 4 (omega arith)) refl

-- on one of the first 2,097,152
pub range_far : (line column end : ℕ) → 16384 ≤ line → line < 2097152 → column < 128 → end < 128 →
    range_field line column end ≡ 10 ∷ 5 ∷ (line % 128 + 128) ∷ (line / 128 % 128 + 128) ∷ line / 128 / 128 ∷ column ∷ end ∷ []
range_far line column end g l c e =
    rw (varint-three line g l, varint-small column c, varint-small end e, varint-small 10 (omega arith), varint-small 5 (omega arith)) refl

-- the bytes before a payload of less than 128 bytes
head_short : (count : ℕ) → count < 128 → head_of 2 count ≡ 18 ∷ count ∷ []
head_short count l = rw (varint-small 18 (omega arith), varint-small count l) refl

pub front_low : (line column end rest : ℕ) → line < 128 → column < 128 → end < 128 → rest < 120 →
    prefix_of line column end rest ≡ 18 ∷ (rest + 5) ∷ 10 ∷ 3 ∷ line ∷ column ∷ end ∷ []
front_low line column end rest l c e r =
    let count : length (range_field line column end) + rest ≡ rest + 5 = ap (λ (bytes : List ℕ). length bytes + rest) (range_low line column end l c e) ∙ omega arith in
    ap₂ (λ (a b : List ℕ). a ++ b) (ap (head_of 2) count ∙ head_short (rest + 5) (omega arith)) (range_low line column end l c e)

pub front_high : (line column end rest : ℕ) → 128 ≤ line → line < 16384 → column < 128 → end < 128 → rest < 120 →
    prefix_of line column end rest ≡ 18 ∷ (rest + 6) ∷ 10 ∷ 4 ∷ (line % 128 + 128) ∷ line / 128 ∷ column ∷ end ∷ []
front_high line column end rest g l c e r =
    let count : length (range_field line column end) + rest ≡ rest + 6 = ap (λ (bytes : List ℕ). length bytes + rest) (range_high line column end g l c e) ∙ omega arith in
    ap₂ (λ (a b : List ℕ). a ++ b) (ap (head_of 2) count ∙ head_short (rest + 6) (omega arith)) (range_high line column end g l c e)

pub front_far : (line column end rest : ℕ) → 16384 ≤ line → line < 2097152 → column < 128 → end < 128 → rest < 120 →
    prefix_of line column end rest ≡ 18 ∷ (rest + 7) ∷ 10 ∷ 5 ∷ (line % 128 + 128) ∷ (line / 128 % 128 + 128) ∷ line / 128 / 128 ∷ column ∷ end ∷ []
front_far line column end rest g l c e r =
    let count : length (range_field line column end) + rest ≡ rest + 7 = ap (λ (bytes : List ℕ). length bytes + rest) (range_far line column end g l c e) ∙ omega arith in
    ap₂ (λ (a b : List ℕ). a ++ b) (ap (head_of 2) count ∙ head_short (rest + 7) (omega arith)) (range_far line column end g l c e)

---- the length of the fields after the range

pub text_bytes : (text : List ℕ) → 0 < length text → length text < 128 → spelled_fields (text_fields 2 text) ≡ 18 ∷ length text ∷ text
text_bytes [] some l = absurd (omega arith)
text_bytes (b ∷ text) some l = ap (λ (bytes : List ℕ). (bytes ++ b ∷ text) ++ []) (head_short (length (b ∷ text)) l) ∙ append-nil _

pub role_bytes : (role : ℕ) → 0 < role → role < 128 → spelled_fields (number_fields 3 (pos role)) ≡ 24 ∷ role ∷ []
role_bytes zero some l = absurd (omega arith)
role_bytes (suc role) some l = rw (varint-small 24 (omega arith), varint-small (suc role) l) refl

role_length : (role : ℕ) → role < 128 → length (spelled_fields (number_fields 3 (pos role))) ≡ (if role == 0 then 0 else 2)
role_length zero l = refl
role_length (suc role) l = rw (eqb-suc-zero role) (ap length (role_bytes (suc role) (omega arith) l))

rest_length : (text : List ℕ) (role : ℕ) → 0 < length text → length text < 100 → role < 128 →
    length (spelled_fields (text_fields 2 text) ++ spelled_fields (number_fields 3 (pos role))) ≡ length text + 2 + (if role == 0 then 0 else 2)
rest_length text role some l r =
    length-append (spelled_fields (text_fields 2 text)) (spelled_fields (number_fields 3 (pos role)))
    ∙ ap₂ (λ (a b : ℕ). a + b) (ap length (text_bytes text some (omega arith)) ∙ two_more (length text)) (role_length role r)
  where
    two_more : (n : ℕ) → suc (suc n) ≡ n + 2
    two_more n = omega arith

-- ---- the record

-- the bytes of an occurrence that declares nothing
written_use : (line column end : ℕ) (text : List ℕ) (role : ℕ) →
    written_occurrence (compact_occurrence line column end text role)
    ≡ range_field line column end ++ (spelled_fields (text_fields 2 text) ++ spelled_fields (number_fields 3 (pos role)))
unfolding written_occurrence
written_use line column end text role =
    let symbols = text_fields 2 text in
    let roles = number_fields 3 (pos role) in
    let range = payload_field 1 (packed_payload (pos line ∷ pos column ∷ pos end ∷ [])) in
    let fields : occurrence_fields (compact_occurrence line column end text role) ≡ range ∷ (symbols ++ roles) = ap (λ (rest : List Field). range ∷ rest) (append-nil (symbols ++ roles)) in
    ap spelled_fields fields ∙ ap (λ (bytes : List ℕ). range_field line column end ++ bytes) (flat_map-append spelled symbols roles)

pub use_record : (line column end rest : ℕ) (text : List ℕ) (role : ℕ) → length (spelled_fields (text_fields 2 text) ++ spelled_fields (number_fields 3 (pos role))) ≡ rest →
    spelled (payload_field 2 (written_occurrence (compact_occurrence line column end text role)))
    ≡ prefix_of line column end rest ++ (spelled_fields (text_fields 2 text) ++ spelled_fields (number_fields 3 (pos role)))
use_record line column end rest text role is =
    let behind = spelled_fields (text_fields 2 text) ++ spelled_fields (number_fields 3 (pos role)) in
    let range = range_field line column end in
    let count : length (range ++ behind) ≡ length range + rest = length-append range behind ∙ ap (λ (n : ℕ). length range + n) is in
    ap (λ (bytes : List ℕ). head_of 2 (length bytes) ++ bytes) (written_use line column end text role)
    ∙ ap (λ (n : ℕ). head_of 2 n ++ (range ++ behind)) count
    ∙ sym (append_assoc (head_of 2 (length range + rest)) range behind)

-- the bytes that are appended one by one
pub use_put : (old : List ℕ) (line column end rest : ℕ) (text : List ℕ) (role : ℕ) → 0 < length text → length text < 100 → role < 128 →
    rest ≡ length text + 2 + (if role == 0 then 0 else 2) →
    ((old ++ (prefix_of line column end rest ++ 18 ∷ length text ∷ [])) ++ text) ++ spelled_fields (number_fields 3 (pos role))
    ≡ old ++ spelled (payload_field 2 (written_occurrence (compact_occurrence line column end text role)))
use_put old line column end rest text role some few fits is =
    let roles = spelled_fields (number_fields 3 (pos role)) in
    let prefix = prefix_of line column end rest in
    let head : List ℕ = 18 ∷ length text ∷ [] in
    append_assoc (old ++ (prefix ++ head)) text roles
    ∙ append_assoc old (prefix ++ head) (text ++ roles)
    ∙ ap (λ (bytes : List ℕ). old ++ bytes) (append_assoc prefix head (text ++ roles))
    ∙ ap (λ (bytes : List ℕ). old ++ (prefix ++ (bytes ++ roles))) (sym (text_bytes text some (omega arith)))
    ∙ ap (λ (bytes : List ℕ). old ++ bytes) (sym (use_record line column end rest text role (rest_length text role some few fits ∙ sym is)))

same_line : (n : ℕ) → (n == n) ≡ true
same_line n = eq-eqb n n refl

-- a range on one line
pub range_on_line : (line column last end : ℕ) → last ≡ line → range_between line column last end ≡ pos line ∷ pos column ∷ pos end ∷ []
range_on_line line column last end e = rw (e, same_line line) refl
