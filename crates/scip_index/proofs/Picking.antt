-- The fields of one number among the fields of a message, and the values of the records that carry them.
use Rattle.std.proofs.Common.{◌≡◌, ℕ, eqb, false, List, [], ◌∷◌, ◌++◌, map, Option, Some, None, refl, ap, ◌∙◌, subst, inl, inr}
use Rattle.std.specs.Prelude.{◌==◌, IfSome, if◌then◌else◌}
use Rattle.std.specs.Option.{option_to_list}
use Rattle.std.proofs.lemmas.Bool.{cases_Bool, eq-eqb}
use Rattle.std.proofs.lemmas.List.{append-nil}
use Rattle.proto_wire.specs.Records.{PayloadRecord}
use Rattle.proto_wire.specs.Readings.{payload_records}
use Rattle.proto_wire.specs.Messages.{field_values, if_field, nested_records}
use Rattle.proto_wire.specs.Writing.{Field, payload_field, payload_fields, Carries, CarryAll}
use Rattle.proto_wire.proofs.GivenLaws.{if_field-hit}
use Rattle.proto_wire.proofs.MessageSteps.{HaveNumber, Restores}
use Rattle.scip_index.specs.Meaning.{merged}

-- the fields of this number
unfoldable pub select : ℕ → List Field → List Field
select k [] = []
select k (f ∷ fs) = if f.number == k then f ∷ select k fs else select k fs

-- the records of this number
unfoldable picked : ℕ → List PayloadRecord → List PayloadRecord
picked k [] = []
picked k (p ∷ ps) = if p.wire.field == k then p ∷ picked k ps else picked k ps

carry_picked : (k : ℕ) (ps : List PayloadRecord) (fs : List Field) → CarryAll ps fs → CarryAll (picked k ps) (select k fs)
unfolding picked select
carry_picked k [] [] h = tt
carry_picked k [] (f ∷ fs) h = absurd h
carry_picked k (p ∷ ps) [] h = absurd h
carry_picked k (p ∷ ps) (f ∷ fs) h =
    elim (cases_Bool (f.number == k)) [
      | inl e ↦ rw (ap (λ (n : ℕ). n == k) h.0.number ∙ e, e) (h.0, carry_picked k ps fs h.1)
      | inr e ↦ rw (ap (λ (n : ℕ). n == k) h.0.number ∙ e, e) (carry_picked k ps fs h.1)
    ]

each_of_picked : {X : Type 0} (k : ℕ) (gives : PayloadRecord → List X) (ps : List PayloadRecord) → field_values k gives ps ≡ field_values k gives (picked k ps)
unfolding field_values if_field picked
each_of_picked k gives [] = refl
each_of_picked k gives (p ∷ ps) =
    elim (cases_Bool (p.wire.field == k)) [
      | inl e ↦ rw (e, e) (ap (λ xs. gives p ++ xs) (each_of_picked k gives ps))
      | inr e ↦ rw e (each_of_picked k gives ps)
    ]

-- the values of a field in the records of a message are those of the fields with its number
pub row_said : {X Y : Type 0} (f : List X → Y) (k : ℕ) (gives : PayloadRecord → List X) (fs row : List Field) (ps : List PayloadRecord) (v : Y) → CarryAll ps fs → select k fs ≡ row → ((qs : List PayloadRecord) → CarryAll qs row → f (field_values k gives qs) ≡ v) → f (field_values k gives ps) ≡ v
row_said f k gives fs row ps v h e given =
    ap f (each_of_picked k gives ps) ∙ given (picked k ps) (subst (λ (gs : List Field). CarryAll (picked k ps) gs) e (carry_picked k ps fs h))

select_append : (k : ℕ) (fs gs : List Field) → select k (fs ++ gs) ≡ select k fs ++ select k gs
unfolding select
select_append k [] gs = refl
select_append k (f ∷ fs) gs =
    elim (cases_Bool (f.number == k)) [
      | inl e ↦ rw e (ap (λ (xs : List Field). f ∷ xs) (select_append k fs gs))
      | inr e ↦ rw e (select_append k fs gs)
    ]

-- all fields have this number
pub hit : (k : ℕ) (fs : List Field) → HaveNumber k fs → select k fs ≡ fs
unfolding select
hit k [] h = refl
hit k (f ∷ fs) h = rw (eq-eqb f.number k h.0) (ap (λ (xs : List Field). f ∷ xs) (hit k fs h.1))

-- no field has this number
pub miss : (k j : ℕ) (fs : List Field) → HaveNumber j fs → eqb j k ≡ false → select k fs ≡ []
unfolding select
miss k j [] h e = refl
miss k j (f ∷ fs) h e = rw (h.0, e) (miss k j fs h.1 e)

pub left : (k : ℕ) (fs gs row : List Field) → select k fs ≡ row → select k gs ≡ [] → select k (fs ++ gs) ≡ row
left k fs gs row a b = select_append k fs gs ∙ ap (λ (xs : List Field). xs ++ select k gs) a ∙ ap (λ (xs : List Field). row ++ xs) b ∙ append-nil row

pub right : (k : ℕ) (fs gs row : List Field) → select k fs ≡ [] → select k gs ≡ row → select k (fs ++ gs) ≡ row
right k fs gs row a b = select_append k fs gs ∙ ap (λ (xs : List Field). xs ++ select k gs) a ∙ b

pub payload_number : (k : ℕ) (payloads : List (List ℕ)) → HaveNumber k (payload_fields k payloads)
payload_number k [] = tt
payload_number k (x ∷ xs) = (refl, payload_number k xs)

-- the records of a message that was written, in the one record that carries it
one_inside : (k : ℕ) (p : PayloadRecord) (bytes : List ℕ) → Carries p (payload_field k bytes) → field_values k nested_records (p ∷ []) ≡ (payload_records p.wire.body bytes).0 ∷ []
unfolding field_values
one_inside k p bytes h = rw (if_field-hit k p (nested_records p) h.number, h.content.0, h.content.1) refl

each_of_none : {X : Type 0} (k : ℕ) (gives : PayloadRecord → List X) → field_values k gives [] ≡ []
unfolding field_values
each_of_none k gives = refl

-- a singular message that was written is read back
pub merged_given : {V : Type 0} (k : ℕ) (of : List PayloadRecord → V) (written : V → List ℕ) (o : Option V) (qs : List PayloadRecord) → IfSome o (λ v. Restores of v (written v)) → CarryAll qs (payload_fields k (map written (option_to_list o))) → merged of (field_values k nested_records qs) ≡ o
merged_given k of written None [] r h = ap (merged of) (each_of_none k nested_records)
merged_given k of written None (p ∷ qs) r h = absurd h
merged_given k of written (Some v) [] r h = absurd h
merged_given k of written (Some v) (p ∷ []) r h =
    ap (merged of) (one_inside k p (written v) h.0) ∙ ap Some (ap of (append-nil (payload_records p.wire.body (written v)).0) ∙ r p.wire.body)
merged_given k of written (Some v) (p ∷ q ∷ qs) r h = absurd h.1
