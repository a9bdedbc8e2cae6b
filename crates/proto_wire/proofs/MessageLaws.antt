-- The first fault of a message: the function `fault_of` agrees with the relation, both ways.
use Rattle.std.proofs.Common.{◌≡◌, ◌↔◌, ◌⊎◌, ℕ, ◌+◌, List, [], ◌∷◌, ◌++◌, length, Option, Some, None, refl, sym, ap, ◌∙◌, subst, inl, inr, append_assoc, arith}
use Rattle.std.proofs.lemmas.List.{append-nil, length-append}
use Rattle.proto_wire.specs.declared.fault.WireFault.{WireFault}
use Rattle.proto_wire.specs.Messages.{first_of, first_fault, fault_of, IsClean, IsFirstFault, in_record, of_record}
use Rattle.proto_wire.specs.Readings.{payload_records_from, payload_records}
use Rattle.proto_wire.specs.Records.{PayloadRecord, AreRecords, IsSplit}
use Rattle.proto_wire.proofs.PieceReadings.{reach_found, records_found, stop_found, PiecesRead, pieces_read}

first_fault-pass : (inside : PayloadRecord → Option WireFault) (p : PayloadRecord) (others : List PayloadRecord) (end : Option WireFault) → inside p ≡ None → first_fault inside (p ∷ others) end ≡ first_fault inside others end
unfolding first_fault
first_fault-pass inside p others end e = rw e refl

first_fault-stop : (inside : PayloadRecord → Option WireFault) (p : PayloadRecord) (others : List PayloadRecord) (end : Option WireFault) (fault : WireFault) → inside p ≡ Some fault → first_fault inside (p ∷ others) end ≡ Some fault
unfolding first_fault
first_fault-stop inside p others end fault e = rw e refl

first_fault-nil : (inside : PayloadRecord → Option WireFault) (end : Option WireFault) → first_fault inside [] end ≡ end
unfolding first_fault
first_fault-nil inside end = refl

-- records without a fault are skipped
pub IsClean-passes : (inside : PayloadRecord → Option WireFault) (front others : List PayloadRecord) (end : Option WireFault) → IsClean inside front → first_fault inside (front ++ others) end ≡ first_fault inside others end
IsClean-passes inside [] others end clean = refl
IsClean-passes inside (p ∷ front) others end clean = first_fault-pass inside p (front ++ others) end clean.0 ∙ IsClean-passes inside front others end clean.1

pub IsClean-append : (inside : PayloadRecord → Option WireFault) (ps qs : List PayloadRecord) → IsClean inside ps → IsClean inside qs → IsClean inside (ps ++ qs)
IsClean-append inside [] qs a b = b
IsClean-append inside (p ∷ ps) qs a b = (a.0, IsClean-append inside ps qs a.1 b)

pub IsClean-push : (inside : PayloadRecord → Option WireFault) (front : List PayloadRecord) (p : PayloadRecord) → IsClean inside front → inside p ≡ None → IsClean inside (front ++ p ∷ [])
IsClean-push inside front p clean e = IsClean-append inside front (p ∷ []) clean (e, tt)

pub fault_of-end : (inside : PayloadRecord → Option WireFault) (start : ℕ) (bytes : List ℕ) (front : List PayloadRecord) (end : Option WireFault) → IsClean inside front → payload_records start bytes ≡ (front, end) → fault_of inside start bytes ≡ end
fault_of-end inside start bytes front end clean e =
    rw e (ap (λ (ps : List PayloadRecord). first_fault inside ps end) (sym (append-nil front)) ∙ IsClean-passes inside front [] end clean ∙ first_fault-nil inside end)

pub fault_of-inside : (inside : PayloadRecord → Option WireFault) (start : ℕ) (bytes : List ℕ) (front : List PayloadRecord) (p : PayloadRecord) (at : ℕ) (rest : List ℕ) (fault : WireFault)
    → IsClean inside front → IsSplit start bytes (front ++ p ∷ []) at rest → inside p ≡ Some fault → fault_of inside start bytes ≡ Some fault
fault_of-inside inside start bytes front p at rest fault clean so_far e =
    let whole = reach_found start bytes (front ++ p ∷ []) at rest so_far in
    let found = payload_records_from whole.0 at rest in
    rw whole.1
    (ap (λ (ps : List PayloadRecord). first_fault inside ps found.1) (append_assoc front (p ∷ []) found.0) ∙ IsClean-passes inside front (p ∷ found.0) found.1 clean ∙ first_fault-stop inside p found.0 found.1 fault e)

none_of : (first later : Option WireFault) → first_of first later ≡ None → (first ≡ None) × (later ≡ None)
none_of None later e = (refl, e)
none_of (Some fault) later e = absurd cc

some_of : (first later : Option WireFault) (fault : WireFault) → first_of first later ≡ Some fault → (first ≡ Some fault) ⊎ ((first ≡ None) × (later ≡ Some fault))
some_of None later fault e = inr (refl, e)
some_of (Some other) later fault e = inl e

-- there is no fault
first_fault-none : (inside : PayloadRecord → Option WireFault) (pieces : List PayloadRecord) (end : Option WireFault) → first_fault inside pieces end ≡ None → IsClean inside pieces × (end ≡ None)
unfolding first_fault
first_fault-none inside [] end e = (tt, e)
first_fault-none inside (p ∷ pieces) end e =
    let both = none_of (inside p) (first_fault inside pieces end) e in
    let others = first_fault-none inside pieces end both.1 in
    ((both.0, others.0), others.1)

-- the record of the first fault
abbrev FaultPlace : (PayloadRecord → Option WireFault) → List PayloadRecord → Option WireFault → WireFault → Type 0
FaultPlace inside pieces end fault =
    ((front : List PayloadRecord) × (p : PayloadRecord) × (others : List PayloadRecord) × (pieces ≡ front ++ p ∷ others) × IsClean inside front × (inside p ≡ Some fault)) ⊎ (IsClean inside pieces × (end ≡ Some fault))

first_fault-some : (inside : PayloadRecord → Option WireFault) (pieces : List PayloadRecord) (end : Option WireFault) (fault : WireFault) → first_fault inside pieces end ≡ Some fault → FaultPlace inside pieces end fault
unfolding first_fault
first_fault-some inside [] end fault e = inr (tt, e)
first_fault-some inside (p ∷ pieces) end fault e =
    elim (some_of (inside p) (first_fault inside pieces end) fault e) [
      | inl here ↦ inl ([], p, pieces, refl, tt, here)
      | inr later ↦ elim (first_fault-some inside pieces end fault later.1) [
        | inl h ↦ inl (p ∷ h.0, h.1, h.2, ap (λ (ps : List PayloadRecord). p ∷ ps) h.3, (later.0, h.4), h.5)
        | inr h ↦ inr ((later.0, h.0), h.1)
      ]
    ]

-- a sequence of records ends where the next record begins
AreRecords-split : (start : ℕ) (bytes : List ℕ) (front others : List PayloadRecord) → AreRecords start bytes (front ++ others) → (at : ℕ) × (rest : List ℕ) × IsSplit start bytes front at rest
AreRecords-split start bytes [] others h = (start, bytes, record { good = []; form = refl; are_records = refl; here = omega arith })
AreRecords-split start bytes (p ∷ front) others h =
    let so_far = AreRecords-split (start + length h.0) h.1 front others h.4 in (
      so_far.0,
      so_far.1,
      record {
        good = h.0 ++ so_far.2.good;
        form = h.2 ∙ ap (λ (bs : List ℕ). h.0 ++ bs) so_far.2.form ∙ sym (append_assoc h.0 so_far.2.good so_far.1);
        are_records = (h.0, so_far.2.good, refl, h.3, so_far.2.are_records);
        here = omega (arith, so_far.2.here, length-append h.0 so_far.2.good);
      },
    )

more_bytes : (start : ℕ) (bytes good rest : List ℕ) (front : List PayloadRecord) → bytes ≡ good ++ rest → (at : ℕ) × (last : List ℕ) × IsSplit start good front at last → (at : ℕ) × (last : List ℕ) × IsSplit start bytes front at last
more_bytes start bytes good rest front form h =
    (h.0, h.1 ++ rest, record { good = h.2.good; form = form ∙ ap (λ (bs : List ℕ). bs ++ rest) h.2.form ∙ append_assoc h.2.good h.1 rest; are_records = h.2.are_records; here = h.2.here })

reached : (start : ℕ) (bytes : List ℕ) (front others : List PayloadRecord) (end : Option WireFault) → PiecesRead start bytes (front ++ others) end → (at : ℕ) × (rest : List ℕ) × IsSplit start bytes front at rest
reached start bytes front others None h = AreRecords-split start bytes front others h
reached start bytes front others (Some fault) h = more_bytes start bytes h.good h.rest front h.form (AreRecords-split start h.good front others h.are_records)

-- a message has no fault exactly if its bytes are records without a fault
pub no_fault_iff : (inside : PayloadRecord → Option WireFault) (start : ℕ) (bytes : List ℕ) → (fault_of inside start bytes ≡ None) ↔ ((pieces : List PayloadRecord) × AreRecords start bytes pieces × IsClean inside pieces)
no_fault_iff inside start bytes = (λ e. told (payload_records start bytes).0 (payload_records start bytes).1 (pieces_read start bytes) e, λ h. fault_of-end inside start bytes h.0 None h.2 (records_found start bytes h.0 h.1))
  where
    told : (pieces : List PayloadRecord) (end : Option WireFault) → PiecesRead start bytes pieces end → first_fault inside pieces end ≡ None → (ps : List PayloadRecord) × AreRecords start bytes ps × IsClean inside ps
    told pieces None read e = (pieces, read, (first_fault-none inside pieces None e).0)
    told pieces (Some fault) read e = let both = first_fault-none inside pieces (Some fault) e in let no : Some fault ≡ None = both.1 in absurd cc

-- a message has this fault exactly if it is the first one
pub first_fault_iff : (inside : PayloadRecord → Option WireFault) (start : ℕ) (bytes : List ℕ) (fault : WireFault) → (fault_of inside start bytes ≡ Some fault) ↔ IsFirstFault inside start bytes fault
first_fault_iff inside start bytes fault = (λ e. told (payload_records start bytes).0 (payload_records start bytes).1 (pieces_read start bytes) e, found)
  where
    placed : (pieces : List PayloadRecord) (end : Option WireFault) → PiecesRead start bytes pieces end → FaultPlace inside pieces end fault → IsFirstFault inside start bytes fault
    placed pieces end read (inl h) =
        let split = subst (λ (ps : List PayloadRecord). PiecesRead start bytes ps end) (h.3 ∙ sym (append_assoc h.0 (h.1 ∷ []) h.2)) read in
        let so_far = reached start bytes (h.0 ++ h.1 ∷ []) h.2 end split in
        (h.0, h.4, in_record h.1 so_far.0 so_far.1 so_far.2 h.5)
    placed pieces end read (inr h) = (pieces, h.0, of_record (subst (PiecesRead start bytes pieces) h.1 read))

    told : (pieces : List PayloadRecord) (end : Option WireFault) → PiecesRead start bytes pieces end → first_fault inside pieces end ≡ Some fault → IsFirstFault inside start bytes fault
    told pieces end read e = placed pieces end read (first_fault-some inside pieces end fault e)

    found : IsFirstFault inside start bytes fault → fault_of inside start bytes ≡ Some fault
    found (front, clean, in_record p at rest so_far e) = fault_of-inside inside start bytes front p at rest fault clean so_far e
    found (before, clean, of_record stopped) = fault_of-end inside start bytes before (Some fault) clean (stop_found start bytes before fault stopped)
