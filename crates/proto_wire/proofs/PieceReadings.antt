-- Sequences of records: the function `payload_records` agrees with the relations, both ways.
use Rattle.std.proofs.Common.{◌≡◌, ◌↔◌, ℕ, zero, suc, ◌+◌, ◌-◌, ◌<◌, ◌≤◌, List, [], ◌∷◌, ◌++◌, length, map, Option, Some, None, Result, Ok, Err, refl, sym, ap, ◌∙◌, subst, append_assoc, arith}
use Rattle.std.proofs.lemmas.List.{length-append, append-nil}
use Rattle.proto_wire.specs.declared.fault.WireFault.{WireFault}
use Rattle.proto_wire.specs.declared.record.WireRecord.{WireRecord}
use Rattle.proto_wire.specs.Records.{PayloadRecord, IsRecord, AreRecords, IsWrongRecord, IsFirst, IsStopped, IsSplit, IsOutcome}
use Rattle.proto_wire.specs.Readings.{record_in, followed, payload_records_from, payload_records}
use Rattle.proto_wire.proofs.PieceLaws.{with_front, payload_records_from-step, faulty, ended}
use Rattle.proto_wire.proofs.RecordReadings.{record_found, record_bytes, wrong_found, record_read}

front_found : (most at : ℕ) (good rest : List ℕ) (before : List PayloadRecord) → AreRecords at good before → length (good ++ rest) ≤ most
    → (left : ℕ) × (length rest ≤ left) × (payload_records_from most at (good ++ rest) ≡ with_front before (payload_records_from left (at + length good) rest))
front_found most at good rest [] h enough =
    let same : at ≡ at + length good = omega (arith, ap length h) in
    (most, omega (arith, length-append good rest), ap (λ (bs : List ℕ). payload_records_from most at (bs ++ rest)) h ∙ ap (λ (place : ℕ). payload_records_from most place rest) same)
front_found most at good rest (p ∷ ps) h enough = go most enough (λ n short. front_found n (at + length h.0) h.1 rest ps h.4 short)
  where
    whole : good ++ rest ≡ h.0 ++ (h.1 ++ rest)
    whole = ap (λ (bs : List ℕ). bs ++ rest) h.2 ∙ append_assoc h.0 h.1 rest

    some : 0 < length h.0
    some = record_bytes at h.0 p h.3

    count : length (h.0 ++ (h.1 ++ rest)) ≡ length h.0 + length (h.1 ++ rest)
    count = length-append h.0 (h.1 ++ rest)

    size : length (good ++ rest) ≡ length h.0 + length (h.1 ++ rest)
    size = ap length whole ∙ count

    all : length good ≡ length h.0 + length h.1
    all = ap length h.2 ∙ length-append h.0 h.1

    go : (n : ℕ) → length (good ++ rest) ≤ n
        → ((m : ℕ) → length (h.1 ++ rest) ≤ m → (left : ℕ) × (length rest ≤ left) × (payload_records_from m (at + length h.0) (h.1 ++ rest) ≡ with_front ps (payload_records_from left ((at + length h.0) + length h.1) rest)))
        → (left : ℕ) × (length rest ≤ left) × (payload_records_from n at (good ++ rest) ≡ with_front (p ∷ ps) (payload_records_from left (at + length good) rest))
    go zero enough behind = absurd (omega (arith, some, size))
    go (suc n) enough behind =
        let others = behind n (omega (arith, some, size, enough)) in
        let place : at + (length (h.0 ++ (h.1 ++ rest)) - length (h.1 ++ rest)) ≡ at + length h.0 = omega (arith, count) in
        let end : (at + length h.0) + length h.1 ≡ at + length good = omega (arith, all) in
        let step = payload_records_from-step n at (h.0 ++ (h.1 ++ rest)) p (h.1 ++ rest) (omega (arith, count, size, enough)) (omega (arith, count, some)) (record_found at h.0 (h.1 ++ rest) p h.3) in (
          others.0,
          others.1,
          ap (payload_records_from (suc n) at) whole ∙ step ∙ ap (λ (here : ℕ). with_front (p ∷ []) (payload_records_from n here (h.1 ++ rest))) place ∙ ap (with_front (p ∷ [])) others.2
              ∙ ap (λ (here : ℕ). with_front (p ∷ ps) (payload_records_from others.0 here rest)) end,
        )

-- a sequence of records is found
pub records_found : (at : ℕ) (bytes : List ℕ) (pieces : List PayloadRecord) → AreRecords at bytes pieces → payload_records at bytes ≡ (pieces, None)
unfolding payload_records
records_found at bytes pieces h =
    let found = front_found (length bytes) at bytes [] pieces h (omega (arith, length-append bytes [])) in
    ap (payload_records_from (length bytes) at) (sym (append-nil bytes)) ∙ found.2 ∙ ap (with_front pieces) (ended found.0 (at + length bytes) [] refl) ∙ ap (λ (ps : List PayloadRecord). (ps, None)) (append-nil pieces)

-- the fault that stops a sequence of records is found, with the records before it
pub stop_found : (at : ℕ) (bytes : List ℕ) (before : List PayloadRecord) (fault : WireFault) → IsStopped at bytes before fault → payload_records at bytes ≡ (before, Some fault)
unfolding payload_records
stop_found at bytes before fault s =
    let found = front_found (length bytes) at s.good s.rest before s.are_records (omega (arith, ap length s.form)) in
    ap (payload_records_from (length bytes) at) s.form ∙ found.2 ∙ ap (with_front before) (faulty found.0 (at + length s.good) s.rest fault found.1 s.some (wrong_found (at + length s.good) s.rest fault s.is_wrong))
    ∙ ap (λ (ps : List PayloadRecord). (ps, Some fault)) (append-nil before)

-- what the result of reading records implies for the bytes
abbrev pub PiecesRead : ℕ → List ℕ → List PayloadRecord → Option WireFault → Type 0
PiecesRead at bytes pieces None = AreRecords at bytes pieces
PiecesRead at bytes pieces (Some fault) = IsStopped at bytes pieces fault

pub PiecesRead-cons : (at : ℕ) (bytes first rest : List ℕ) (p : PayloadRecord) (pieces : List PayloadRecord) (end : Option WireFault) → bytes ≡ first ++ rest → IsRecord at first p → PiecesRead (at + length first) rest pieces end → PiecesRead at bytes (p ∷ pieces) end
PiecesRead-cons at bytes first rest p pieces None form r others = (first, rest, form, r, others)
PiecesRead-cons at bytes first rest p pieces (Some fault) form r others =
    let place : (at + length first) + length others.good ≡ at + length (first ++ others.good) = omega (arith, length-append first others.good) in
    record {
      good = first ++ others.good;
      rest = others.rest;
      form = form ∙ ap (λ (bs : List ℕ). first ++ bs) others.form ∙ sym (append_assoc first others.good others.rest);
      are_records = (first, others.good, refl, r, others.are_records);
      some = others.some;
      is_wrong = subst (λ (here : ℕ). IsWrongRecord here others.rest fault) place others.is_wrong;
    }

start_wrong : (at b : ℕ) (bytes : List ℕ) (fault : WireFault) → IsWrongRecord at (b ∷ bytes) fault → IsStopped at (b ∷ bytes) [] fault
start_wrong at b bytes fault wrong =
    let place : at ≡ at + length {A = ℕ} [] = omega arith in
    record { good = []; rest = b ∷ bytes; form = refl; are_records = refl; some = omega arith; is_wrong = subst (λ (here : ℕ). IsWrongRecord here (b ∷ bytes) fault) place wrong }

mutual_read : (most at b : ℕ) (bytes : List ℕ) (reading : Result (PayloadRecord × List ℕ) WireFault) → IsFirst at (b ∷ bytes) reading → length bytes ≤ most
    → ((place : ℕ) (rest : List ℕ) → length rest ≤ most → PiecesRead place rest (payload_records_from most place rest).0 (payload_records_from most place rest).1)
    → PiecesRead at (b ∷ bytes) (followed reading (λ rest. payload_records_from most (at + (suc (length bytes) - length rest)) rest)).0 (followed reading (λ rest. payload_records_from most (at + (suc (length bytes) - length rest)) rest)).1
mutual_read most at b bytes (Ok x) h enough others =
    let some = record_bytes at h.0 x.0 h.2 in
    let count : suc (length bytes) ≡ length h.0 + length x.1 = ap length h.1 ∙ length-append h.0 x.1 in
    let here : ℕ = at + (suc (length bytes) - length x.1) in
    let place : here ≡ at + length h.0 = omega (arith, count) in
    let found = payload_records_from most here x.1 in
    PiecesRead-cons at (b ∷ bytes) h.0 x.1 x.0 found.0 found.1 h.1 h.2
    (subst (λ (start : ℕ). PiecesRead start x.1 found.0 found.1) place (others here x.1 (omega (arith, some, count))))
mutual_read most at b bytes (Err fault) h enough others = start_wrong at b bytes fault h

payload_records_from-read : (most at : ℕ) (bytes : List ℕ) → length bytes ≤ most → PiecesRead at bytes (payload_records_from most at bytes).0 (payload_records_from most at bytes).1
unfolding payload_records_from
payload_records_from-read most at [] enough = refl
payload_records_from-read zero at (b ∷ bytes) enough = absurd (omega arith)
payload_records_from-read (suc most) at (b ∷ bytes) enough =
    mutual_read most at b bytes (record_in at (b ∷ bytes)) (record_read at (b ∷ bytes)) (omega arith) (λ place rest short. payload_records_from-read most place rest short)

pub pieces_read : (at : ℕ) (bytes : List ℕ) → PiecesRead at bytes (payload_records at bytes).0 (payload_records at bytes).1
unfolding payload_records
pieces_read at bytes = payload_records_from-read (length bytes) at bytes (omega arith)

read_at : (at : ℕ) (bytes : List ℕ) (pieces : List PayloadRecord) (end : Option WireFault) → payload_records at bytes ≡ (pieces, end) → PiecesRead at bytes pieces end
read_at at bytes pieces end e = subst (λ (found : List PayloadRecord × Option WireFault). PiecesRead at bytes found.0 found.1) e (pieces_read at bytes)

-- the function returns the first record and reads on
pub reach_found : (start : ℕ) (bytes : List ℕ) (front : List PayloadRecord) (at : ℕ) (rest : List ℕ) → IsSplit start bytes front at rest
    → (most : ℕ) × (payload_records start bytes ≡ with_front front (payload_records_from most at rest))
unfolding payload_records
reach_found start bytes front at rest so_far =
    let found = front_found (length bytes) start so_far.good rest front so_far.are_records (omega (arith, ap length so_far.form)) in
    (found.0, ap (payload_records_from (length bytes) start) so_far.form ∙ found.2 ∙ ap (λ (here : ℕ). with_front front (payload_records_from found.0 here rest)) (sym so_far.here))

-- the outcome of a reading
abbrev outcome : List PayloadRecord × Option WireFault → Result (List WireRecord) WireFault
outcome (pieces, None) = Ok (map (λ p. p.wire) pieces)
outcome (pieces, Some fault) = Err fault

pub outcome_exists : (bytes : List ℕ) → (o : Result (List WireRecord) WireFault) × IsOutcome bytes o
outcome_exists bytes = go (payload_records 0 bytes).0 (payload_records 0 bytes).1 (pieces_read 0 bytes)
  where
    go : (pieces : List PayloadRecord) (end : Option WireFault) → PiecesRead 0 bytes pieces end → (o : Result (List WireRecord) WireFault) × IsOutcome bytes o
    go pieces None h = (Ok (map (λ p. p.wire) pieces), (pieces, h, refl))
    go pieces (Some fault) h = (Err fault, (pieces, h))

outcome_found : (bytes : List ℕ) (o : Result (List WireRecord) WireFault) → IsOutcome bytes o → outcome (payload_records 0 bytes) ≡ o
outcome_found bytes (Ok list) h = rw (records_found 0 bytes h.0 h.1, h.2) refl
outcome_found bytes (Err fault) h = rw (stop_found 0 bytes h.0 fault h.1) refl

pub outcome_is_unique : (bytes : List ℕ) (o p : Result (List WireRecord) WireFault) → IsOutcome bytes o → IsOutcome bytes p → o ≡ p
outcome_is_unique bytes o p h g = sym (outcome_found bytes o h) ∙ outcome_found bytes p g

-- the function returns exactly the sequence of records
pub records_iff : (at : ℕ) (bytes : List ℕ) (pieces : List PayloadRecord) → (payload_records at bytes ≡ (pieces, None)) ↔ AreRecords at bytes pieces
records_iff at bytes pieces = (read_at at bytes pieces None, records_found at bytes pieces)

-- the function returns exactly the fault that stops the records
pub stopped_iff : (at : ℕ) (bytes : List ℕ) (before : List PayloadRecord) (fault : WireFault) → (payload_records at bytes ≡ (before, Some fault)) ↔ IsStopped at bytes before fault
stopped_iff at bytes before fault = (read_at at bytes before (Some fault), stop_found at bytes before fault)
