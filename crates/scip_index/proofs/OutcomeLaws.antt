-- The outcome of bytes is unique.
use Rattle.std.proofs.Common.{◌≡◌, ℕ, List, Option, Some, None, Result, Ok, Err, sym, refl, ap, ◌∙◌}
use Rattle.std.specs.Prelude.{IfErr, IfOk, OnOk}
use Rattle.proto_wire.specs.declared.fault.WireFault.{WireFault}
use Rattle.proto_wire.specs.Faults.{IsFaultOrMemory, HasOutcome}
use Rattle.proto_wire.specs.Records.{PayloadRecord}
use Rattle.proto_wire.specs.Readings.{payload_records}
use Rattle.proto_wire.specs.Messages.{fault_of}
use Rattle.proto_wire.proofs.FaultLaws.{UnlessMemory-then}
use Rattle.proto_wire.proofs.PieceReadings.{records_found}
use Rattle.proto_wire.proofs.MessageLaws.{fault_of-end, first_fault_iff, no_fault_iff}
use Rattle.scip_index.specs.declared.index.Index.{Index}
use Rattle.scip_index.specs.Plain.{index_model, IndexModel}
use Rattle.scip_index.specs.Meaning.{index_fault, index_of, Means, IsIndexOutcome}

-- the index that clean records encode is the index that the bytes encode
pub means_from : (bytes : List ℕ) (i : IndexModel) → fault_of index_fault 0 bytes ≡ None → i ≡ index_of (payload_records 0 bytes).0 → Means bytes i
means_from bytes i clean index_is =
    let h = (no_fault_iff index_fault 0 bytes).0 clean in
    let found = records_found 0 bytes h.0 h.1 in
    record { pieces = h.0; are_records = h.1; clean = h.2; index_is = index_is ∙ ap (λ (x : List PayloadRecord × Option WireFault). index_of x.0) found }

said_of : (bytes : List ℕ) (i : IndexModel) → Means bytes i → i ≡ index_of (payload_records 0 bytes).0
said_of bytes i m = m.index_is ∙ sym (ap (λ (x : List PayloadRecord × Option WireFault). index_of x.0) (records_found 0 bytes m.pieces m.are_records))

-- bytes encode one index
pub one_meaning : (bytes : List ℕ) (i j : IndexModel) → Means bytes i → Means bytes j → i ≡ j
one_meaning bytes i j m n = said_of bytes i m ∙ sym (said_of bytes j n)

pub no_fault : (bytes : List ℕ) (i : IndexModel) → Means bytes i → fault_of index_fault 0 bytes ≡ None
no_fault bytes i m = fault_of-end index_fault 0 bytes m.pieces None m.clean (records_found 0 bytes m.pieces m.are_records)

same_fault : (x y : WireFault) → ◌≡◌ {A = Option WireFault} (Some x) (Some y) → x ≡ y
same_fault x y e = cc

apart : (fault : WireFault) → ◌≡◌ {A = Option WireFault} None (Some fault) → ⊥
apart fault e = absurd cc

pub outcome_is_unique : (bytes : List ℕ) (o p : Result IndexModel WireFault) → IsIndexOutcome bytes o → IsIndexOutcome bytes p → o ≡ p
outcome_is_unique bytes (Ok i) (Ok j) m n = ap (λ (x : IndexModel). Ok x) (one_meaning bytes i j m n)
outcome_is_unique bytes (Ok i) (Err f) m n = absurd (apart f (sym (no_fault bytes i m) ∙ (first_fault_iff index_fault 0 bytes f).1 n))
outcome_is_unique bytes (Err f) (Ok j) m n = absurd (apart f (sym (no_fault bytes j n) ∙ (first_fault_iff index_fault 0 bytes f).1 m))
outcome_is_unique bytes (Err f) (Err g) m n = ap (λ (x : WireFault). Err x) (same_fault f g (sym ((first_fault_iff index_fault 0 bytes f).1 m) ∙ (first_fault_iff index_fault 0 bytes g).1 n))

pub outcome_exists : (bytes : List ℕ) → (o : Result IndexModel WireFault) × IsIndexOutcome bytes o
outcome_exists bytes = told (fault_of index_fault 0 bytes) refl
  where
    told : (found : Option WireFault) → fault_of index_fault 0 bytes ≡ found → (o : Result IndexModel WireFault) × IsIndexOutcome bytes o
    told None clean = (Ok (index_of (payload_records 0 bytes).0), means_from bytes (index_of (payload_records 0 bytes).0) clean refl)
    told (Some fault) is = (Err fault, (first_fault_iff index_fault 0 bytes fault).0 is)

pub tells-then : {X Y : Type 0} (view : X → Y) (result : Result X WireFault) (P Q : Result Y WireFault → Type 0) → HasOutcome view result P → ((o : Result Y WireFault) → P o → Q o) → HasOutcome view result Q
tells-then view (Ok x) P Q h go = go (Ok (view x)) h
tells-then view (Err fault) P Q h go = UnlessMemory-then fault h (go (Err fault))

-- the result of the loop over the records is the outcome of the bytes
pub index_told : (bytes : List ℕ) (result : Result Index WireFault) → OnOk result (fault_of index_fault 0 bytes ≡ None) → IfOk result (λ i. index_model i ≡ index_of (payload_records 0 bytes).0) → IfErr result (λ e. IsFaultOrMemory e (fault_of index_fault 0 bytes))
    → HasOutcome index_model result (IsIndexOutcome bytes)
index_told bytes (Ok i) clean index_is err = means_from bytes (index_model i) clean index_is
index_told bytes (Err fault) clean index_is err = UnlessMemory-then fault err (λ e. (first_fault_iff index_fault 0 bytes fault).0 e)
