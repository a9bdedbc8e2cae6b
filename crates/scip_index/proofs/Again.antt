-- Fields that are written are read back, without a fault.
use Rattle.std.proofs.Common.{◌≡◌, ℕ, zero, suc, ◌^◌, ◌<◌, ℤ, pos, negsuc, List, [], ◌∷◌, ◌++◌, length, map, Option, Some, None, refl, sym, ap, ◌∙◌, subst, arith}
use Rattle.std.specs.Prelude.{FitsSigned, IfSome}
use Rattle.std.specs.Int.{w32}
use Rattle.std.specs.Option.{option_to_list}
use Rattle.std.specs.List.{AllByRecursion}
use Rattle.std.specs.Str.{IsUtf8}
use Rattle.std.proofs.lemmas.List.{length-append}
use Rattle.proto_wire.specs.declared.fault.WireFault.{WireFault}
use Rattle.proto_wire.specs.Records.{PayloadRecord, IsField}
use Rattle.proto_wire.specs.Readings.{payload_records}
use Rattle.proto_wire.specs.Messages.{fault_of, numbers_fault, text_fault, message_fault}
use Rattle.proto_wire.specs.Writing.{Content, Number, Payload, Field, payload_field, number_fields, text_fields, packed_payload, packed_fields, payload_fields, spelled, spelled_fields, head_of, ContentFits, FieldFits, pieces_at, Carries, CarryAll}
use Rattle.proto_wire.proofs.FieldLaws.{text-good}
use Rattle.proto_wire.proofs.GivenLaws.{bits-fit, packed-again}
use Rattle.proto_wire.proofs.WritingLaws.{carry_again}
use Rattle.proto_wire.proofs.MessageLaws.{fault_of-end}
use Rattle.proto_wire.proofs.MessageSteps.{HaveNumber, Restores, pieces-again, IsClean-from}
use Rattle.scip_index.proofs.WritingSteps.{spelled_fields-append}

pub text_number : (k : ℕ) (t : List ℕ) → HaveNumber k (text_fields k t)
text_number k [] = tt
text_number k (b ∷ t) = (refl, tt)

pub number_number : (k : ℕ) (z : ℤ) → HaveNumber k (number_fields k z)
number_number k (pos zero) = tt
number_number k (pos (suc n)) = (refl, tt)
number_number k (negsuc n) = (refl, tt)

pub packed_number : (k : ℕ) (zs : List ℤ) → HaveNumber k (packed_fields k zs)
packed_number k [] = tt
packed_number k (z ∷ zs) = (refl, tt)

-- ---- fields such that no record that carries them has a fault

abbrev NumberFits : Content → Type 0
NumberFits (Number n) = n < 2 ^ 64
NumberFits (Payload bytes) = Unit {0}

pub record IsGood (inside : PayloadRecord → Option WireFault) (f : Field) : Type 0 where
  pub is_field : IsField f.number
  pub fits : NumberFits f.content
  pub none : (p : PayloadRecord) → Carries p f → inside p ≡ None

abbrev pub AreGood : (PayloadRecord → Option WireFault) → List Field → Type 0
AreGood inside fs = AllByRecursion (IsGood inside) fs

pub both : (inside : PayloadRecord → Option WireFault) (fs gs : List Field) → AreGood inside fs → AreGood inside gs → AreGood inside (fs ++ gs)
both inside [] gs h k = k
both inside (f ∷ fs) gs h k = (h.0, both inside fs gs h.1 k)

-- the only fault looked for in a record of this field
abbrev pub Passes : (PayloadRecord → Option WireFault) → ℕ → (PayloadRecord → Option WireFault) → Type 0
Passes inside k fault = (p : PayloadRecord) → p.wire.field ≡ k → fault p ≡ None → inside p ≡ None

is_field_of : (k : ℕ) → 0 < k → k < 100 → IsField k
is_field_of k some most = record { some = some; most = omega arith }

pub text_good : (inside : PayloadRecord → Option WireFault) (k : ℕ) (t : List ℕ) → 0 < k → k < 100 → IsUtf8 t → Passes inside k text_fault → AreGood inside (text_fields k t)
text_good inside k [] some most utf8 passes = tt
text_good inside k (b ∷ t) some most utf8 passes = (
  record {
    is_field = is_field_of k some most;
    fits = tt;
    none = λ p h. passes p h.number (text-good p.wire.value (length (b ∷ t)) p.wire.at p.payload h.content.0 (subst (λ (bytes : List ℕ). IsUtf8 bytes) (sym h.content.1) utf8));
  },
  tt,
)

pub texts_good : (inside : PayloadRecord → Option WireFault) (k : ℕ) (ts : List (List ℕ)) → 0 < k → k < 100 → AllByRecursion IsUtf8 ts → Passes inside k text_fault → AreGood inside (payload_fields k ts)
texts_good inside k [] some most utf8 passes = tt
texts_good inside k (t ∷ ts) some most utf8 passes = (
  record {
    is_field = is_field_of k some most;
    fits = tt;
    none = λ p h. passes p h.number (text-good p.wire.value (length t) p.wire.at p.payload h.content.0 (subst (λ (bytes : List ℕ). IsUtf8 bytes) (sym h.content.1) utf8.0));
  },
  texts_good inside k ts some most utf8.1 passes,
)

pub number_good : (inside : PayloadRecord → Option WireFault) (k : ℕ) (z : ℤ) → 0 < k → k < 100 → FitsSigned w32 z → ((p : PayloadRecord) → p.wire.field ≡ k → inside p ≡ None) → AreGood inside (number_fields k z)
number_good inside k (pos zero) some most fits passes = tt
number_good inside k (pos (suc n)) some most fits passes = (record { is_field = is_field_of k some most; fits = bits-fit (pos (suc n)) fits; none = λ p h. passes p h.number }, tt)
number_good inside k (negsuc n) some most fits passes = (record { is_field = is_field_of k some most; fits = bits-fit (negsuc n) fits; none = λ p h. passes p h.number }, tt)

numbers_clean : (p : PayloadRecord) (k : ℕ) (zs : List ℤ) → AllByRecursion (FitsSigned w32) zs → Carries p (payload_field k (packed_payload zs)) → numbers_fault p ≡ None
numbers_clean p k zs fits h = rw (h.content.0, h.content.1, packed-again p.wire.at zs fits) refl

pub packed_good : (inside : PayloadRecord → Option WireFault) (k : ℕ) (zs : List ℤ) → 0 < k → k < 100 → AllByRecursion (FitsSigned w32) zs → Passes inside k numbers_fault → AreGood inside (packed_fields k zs)
packed_good inside k [] some most fits passes = tt
packed_good inside k (z ∷ zs) some most fits passes = (record { is_field = is_field_of k some most; fits = tt; none = λ p h. passes p h.number (numbers_clean p k (z ∷ zs) fits h) }, tt)

-- ---- a message that is read back, at whatever offset

abbrev pub IsAgain : {V : Type 0} → (PayloadRecord → Option WireFault) → (List PayloadRecord → V) → V → List ℕ → Type 0
IsAgain inside of v bytes = (start : ℕ) → (fault_of inside start bytes ≡ None) × (of (payload_records start bytes).0 ≡ v)

message_clean : (inner : PayloadRecord → Option WireFault) (p : PayloadRecord) (k : ℕ) (bytes : List ℕ) → ((start : ℕ) → fault_of inner start bytes ≡ None) → Carries p (payload_field k bytes) → message_fault inner p ≡ None
message_clean inner p k bytes none h = rw (h.content.0, h.content.1) (none p.wire.body)

pub messages_good : {V : Type 0} (inside inner : PayloadRecord → Option WireFault) (of : List PayloadRecord → V) (k : ℕ) (written : V → List ℕ) (vs : List V) → 0 < k → k < 100 → AllByRecursion (λ v. IsAgain inner of v (written v)) vs → Passes inside k (message_fault inner) → AreGood inside (payload_fields k (map written vs))
messages_good inside inner of k written [] some most again passes = tt
messages_good inside inner of k written (v ∷ vs) some most again passes = (
  record {
    is_field = is_field_of k some most;
    fits = tt;
    none = λ p h. passes p h.number (message_clean inner p k (written v) (λ start. (again.0 start).0) h);
  },
  messages_good inside inner of k written vs some most again.1 passes,
)

pub restores : {V : Type 0} (inner : PayloadRecord → Option WireFault) (of : List PayloadRecord → V) (written : V → List ℕ) (vs : List V) → AllByRecursion (λ v. IsAgain inner of v (written v)) vs → AllByRecursion (λ v. Restores of v (written v)) vs
restores inner of written [] again = tt
restores inner of written (v ∷ vs) again = (λ start. (again.0 start).1, restores inner of written vs again.1)

pub option_restores : {V : Type 0} (inner : PayloadRecord → Option WireFault) (of : List PayloadRecord → V) (written : V → List ℕ) (o : Option V) → AllByRecursion (λ v. IsAgain inner of v (written v)) (option_to_list o) → IfSome o (λ v. Restores of v (written v))
option_restores inner of written None again = tt
option_restores inner of written (Some v) again = λ start. (again.0 start).1

pub option_fits : {V : Type 0} (Fits : V → Type 0) (o : Option V) → IfSome o Fits → AllByRecursion Fits (option_to_list o)
option_fits Fits None h = tt
option_fits Fits (Some v) h = (h, tt)

-- ---- nested messages are no longer than the whole

pub short_left : (fs gs : List Field) → length (spelled_fields (fs ++ gs)) < 2 ^ 64 → length (spelled_fields fs) < 2 ^ 64
short_left fs gs h = omega (arith, h, ap length (spelled_fields-append fs gs), length-append (spelled_fields fs) (spelled_fields gs))

pub short_right : (fs gs : List Field) → length (spelled_fields (fs ++ gs)) < 2 ^ 64 → length (spelled_fields gs) < 2 ^ 64
short_right fs gs h = omega (arith, h, ap length (spelled_fields-append fs gs), length-append (spelled_fields fs) (spelled_fields gs))

payload_short : (k : ℕ) (bytes rest : List ℕ) → length (spelled (payload_field k bytes) ++ rest) < 2 ^ 64 → (length bytes < 2 ^ 64) × (length rest < 2 ^ 64)
payload_short k bytes rest h =
    let whole = length-append (spelled (payload_field k bytes)) rest in
    let one = length-append (head_of k (length bytes)) bytes in
    (omega (arith, h, whole, one), omega (arith, h, whole, one))

pub each_again : {V : Type 0} (inner : PayloadRecord → Option WireFault) (of : List PayloadRecord → V) (written : V → List ℕ) (Fits : V → Type 0) (k : ℕ) (vs : List V) → ((v : V) → Fits v → length (written v) < 2 ^ 64 → IsAgain inner of v (written v)) → AllByRecursion Fits vs
    → length (spelled_fields (payload_fields k (map written vs))) < 2 ^ 64 → AllByRecursion (λ v. IsAgain inner of v (written v)) vs
each_again inner of written Fits k [] go fits short = tt
each_again inner of written Fits k (v ∷ vs) go fits short =
    let s = payload_short k (written v) (spelled_fields (payload_fields k (map written vs))) short in
    (go v fits.0 s.0, each_again inner of written Fits k vs go fits.1 s.1)

content_fits : (k : ℕ) (content : Content) (rest : List ℕ) → NumberFits content → length (spelled (record { number = k; content = content }) ++ rest) < 2 ^ 64 → ContentFits content × (length rest < 2 ^ 64)
content_fits k (Number n) rest fits h = (fits, omega (arith, h, length-append (spelled (record { number = k; content = Number n })) rest))
content_fits k (Payload bytes) rest fits h = payload_short k bytes rest h

all_fit : (inside : PayloadRecord → Option WireFault) (fs : List Field) → AreGood inside fs → length (spelled_fields fs) < 2 ^ 64 → AllByRecursion FieldFits fs
all_fit inside [] good short = tt
all_fit inside (f ∷ fs) good short =
    let here = content_fits f.number f.content (spelled_fields fs) good.0.fits short in
    (record { is_field = good.0.is_field; content = here.0 }, all_fit inside fs good.1 here.1)

none_left : (inside : PayloadRecord → Option WireFault) (fs : List Field) → AreGood inside fs → AllByRecursion (λ f. (p : PayloadRecord) → Carries p f → inside p ≡ None) fs
none_left inside [] good = tt
none_left inside (f ∷ fs) good = (good.0.none, none_left inside fs good.1)

-- fields without a fault are read back, if the records that carry them mean the message
pub again_from : {V : Type 0} (inside : PayloadRecord → Option WireFault) (of : List PayloadRecord → V) (v : V) (fs : List Field) → AreGood inside fs → length (spelled_fields fs) < 2 ^ 64 → ((ps : List PayloadRecord) → CarryAll ps fs → of ps ≡ v) → IsAgain inside of v (spelled_fields fs)
again_from inside of v fs good short index_is =
    λ start.
    let read = pieces-again start fs (all_fit inside fs good short) in
    let carried = carry_again start fs in (
      fault_of-end inside start (spelled_fields fs) (pieces_at start fs) None (IsClean-from inside (pieces_at start fs) fs carried (none_left inside fs good)) read,
      ap (λ (x : List PayloadRecord × Option WireFault). of x.0) read ∙ index_is (pieces_at start fs) carried,
    )
