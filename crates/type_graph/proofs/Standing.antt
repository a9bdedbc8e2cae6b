-- The fields on heavy paths, sorted by name and index.
use Rattle.std.proofs.Common.{◌≡◌, ℕ, ◌<◌, ◌≤◌, List, length, get_or, true, false, Some, sym, ap, ◌∙◌, refl, arith, ◌⊎◌, inl, inr, Ordering}
use Rattle.std.specs.Prelude.{None, IsPermutation}
use Rattle.std.specs.Ordering.{nat_cmp, ordering_then, ordering_index, is_le}
use Rattle.std.specs.declared.cmp.Ordering.TheVariants.{Less, Equal, Greater}
use Rattle.std.specs.Cmp.{IsTotalOrder}
use Rattle.std.specs.Cmp.Lexicographic.{slice_cmp}
use Rattle.std.specs.List.Sorted.{IsPartitionedBy, IsNonDecreasingBy}
use Rattle.std.proofs.lemmas.Bool.{cases_lt}
use Rattle.std.proofs.lemmas.Bool.Decides.{nat_tests}
use Rattle.std.proofs.lemmas.Cmp.{nat_cmp_total, nat_list_cmp_total, on_total, then_total, tied_itself}
use Rattle.std.proofs.lemmas.List.Sorted.{searchable_from_sorted, Contains-permutation}
use Rattle.std.proofs.lemmas.Map.Lookups.{exact_bytes}
use Rattle.std.proofs.lemmas.Option.{slice_get-get_or, get_or_from_slice_get}
use Rattle.type_graph.specs.declared.field_entries.FieldEntry.{FieldEntry}
use Rattle.type_graph.specs.PathOrder.{field_key_cmp, field_key_of, IsSortedByName, HasFieldAt, IsSlotAfter, FieldKey, IsCountUpTo}

pub stand_total : IsTotalOrder field_key_cmp
stand_total = then_total (on_total (λ (k : FieldKey). k.0) nat_list_cmp_total) (on_total (λ (k : FieldKey). k.1) nat_cmp_total)

le_index : (o : Ordering) → is_le o ≡ true → ordering_index o ≤ 1
le_index Less e = omega arith
le_index Equal e = omega arith
le_index Greater e = cc

index_le : (o : Ordering) → ordering_index o ≤ 1 → is_le o ≡ true
index_le Less l = refl
index_le Equal l = refl
index_le Greater l = absurd (omega (arith, l))

equal_index : (o : Ordering) → o ≡ Equal → ordering_index o ≤ 1
equal_index o e = rw e (omega arith)

-- between two fields of one name
between : (o : Ordering) (m k slot : ℕ) → ordering_index (ordering_then o (nat_cmp m k)) ≤ 1 → is_le (ordering_then o (nat_cmp m slot)) ≡ false → (o ≡ Equal) × (m ≤ k)
between Less m k slot l h = cc
between Equal m k slot l h = (refl, grind (arith, nat_tests))
between Greater m k slot l h = absurd (omega (arith, l))

behind_it : (o : Ordering) (m slot : ℕ) → o ≡ Equal → is_le (ordering_then o (nat_cmp m slot)) ≡ false → slot < m
behind_it Less m slot e h = cc
behind_it Equal m slot e h = grind (arith, nat_tests)
behind_it Greater m slot e h = cc

not_le : (o : Ordering) (m slot : ℕ) → o ≡ Equal → slot < m → is_le (ordering_then o (nat_cmp m slot)) ≡ false
not_le Less m slot e h = cc
not_le Equal m slot e h = grind (arith, nat_tests)
not_le Greater m slot e h = cc

rises : (es : List FieldEntry) (x : FieldKey) → IsSortedByName es → IsNonDecreasingBy (λ e. ordering_index (field_key_cmp (field_key_of e) x)) es
rises es x s = searchable_from_sorted stand_total field_key_of es x s

-- the fields up to a name and an index form a prefix
pub partitioned : (es : List FieldEntry) (x : FieldKey) → IsSortedByName es → IsPartitionedBy (λ e. is_le (field_key_cmp (field_key_of e) x)) es
partitioned es x s i j d le l h =
    let up : ordering_index (field_key_cmp (field_key_of (get_or es i d)) x) ≤ ordering_index (field_key_cmp (field_key_of (get_or es j d)) x) = rises es x s i j d le l in
    let low : ordering_index (field_key_cmp (field_key_of (get_or es j d)) x) ≤ 1 = le_index _ h in
    index_le (field_key_cmp (field_key_of (get_or es i d)) x) (omega arith)

-- after that prefix comes the next field of the name, if there is one
pub record StandsNext (es : List FieldEntry) (name : List ℕ) (i k : ℕ) : Type 0 where
  pub within : i < length es
  pub named : (d : FieldEntry) → (get_or es i d).name.items ≡ name
  pub before : (d : FieldEntry) → (get_or es i d).slot ≤ k

pub stands_next : (es : List FieldEntry) (name : List ℕ) (slot i k : ℕ) → IsSortedByName es → IsCountUpTo es (name, slot) i → slot < k → HasFieldAt es name k → StandsNext es name i k
stands_next es name slot i k s point behind has = record { within = omega (arith, front, l); named = λ d. exact_bytes _ _ (here d).0; before = λ d. (here d).1 }
  where
    l : has.among.0 < length es
    l = has.among.1

    itself : slice_cmp nat_cmp name name ≡ Equal
    itself = tied_itself nat_list_cmp_total name

    at_j : (d : FieldEntry) → field_key_of (get_or es has.among.0 d) ≡ (name, k)
    at_j d = ap field_key_of (get_or_from_slice_get es has.among.0 has.entry d (slice_get-get_or es has.among.0 has.entry has.among.1 ∙ ap (λ (y : FieldEntry). Some y) has.among.2)) ∙ has.is

    behind_point : (has.among.0 < i) ⊎ (i ≤ has.among.0) → i ≤ has.among.0
    behind_point (inr h) = h
    behind_point (inl h) = absurd (
        let f : is_le (field_key_cmp (field_key_of (get_or es has.among.0 has.entry)) (name, slot)) ≡ true = point.0 has.among.0 has.entry (omega arith) h in
        let g : is_le (field_key_cmp (name, k) (name, slot)) ≡ true = sym (ap (λ (y : FieldKey). is_le (field_key_cmp y (name, slot))) (at_j has.entry)) ∙ f in
        let n : is_le (field_key_cmp (name, k) (name, slot)) ≡ false = not_le (slice_cmp nat_cmp name name) k slot itself behind in
        let bad : true ≡ false = sym g ∙ n in
        cc)

    front : i ≤ has.among.0
    front = behind_point (cases_lt has.among.0 i)

    here : (d : FieldEntry) → (slice_cmp nat_cmp (get_or es i d).name.items name ≡ Equal) × ((get_or es i d).slot ≤ k)
    here d =
        let x : FieldKey = (name, k) in
        let up : ordering_index (field_key_cmp (field_key_of (get_or es i d)) x) ≤ ordering_index (field_key_cmp (field_key_of (get_or es has.among.0 d)) x) = rises es x s i has.among.0 d front has.among.1 in
        let tie : field_key_cmp (field_key_of (get_or es has.among.0 d)) x ≡ Equal = ap (λ (y : FieldKey). field_key_cmp y x) (at_j d) ∙ tied_itself stand_total x in
        let one : ordering_index (field_key_cmp (field_key_of (get_or es has.among.0 d)) x) ≤ 1 = equal_index _ tie in
        let after : is_le (field_key_cmp (field_key_of (get_or es i d)) (name, slot)) ≡ false = point.1 i d (omega arith) (omega (arith, front, l)) in
        between (slice_cmp nat_cmp (get_or es i d).name.items name) (get_or es i d).slot k slot (omega arith) after

pub none_beyond : (es : List FieldEntry) (name : List ℕ) (slot i : ℕ) → IsSortedByName es → IsCountUpTo es (name, slot) i → length es ≤ i → IsSlotAfter es name slot None
none_beyond es name slot i s point past = record { behind = tt; least = λ k b has. (let h = (stands_next es name slot i k s point b has).within in omega (arith, h, past)) }

pub next_there : (es : List FieldEntry) (name : List ℕ) (slot i : ℕ) (d : FieldEntry) → IsSortedByName es → IsCountUpTo es (name, slot) i → i < length es → (get_or es i d).name.items ≡ name → IsSlotAfter es name slot (Some (get_or es i d).slot)
next_there es name slot i d s point within named =
    let after : is_le (field_key_cmp (field_key_of (get_or es i d)) (name, slot)) ≡ false = point.1 i d (omega arith) within in
    let tie : slice_cmp nat_cmp (get_or es i d).name.items name ≡ Equal = ap (λ (y : List ℕ). slice_cmp nat_cmp y name) named ∙ tied_itself nat_list_cmp_total name in
    record {
      behind = behind_it (slice_cmp nat_cmp (get_or es i d).name.items name) (get_or es i d).slot slot tie after;
      least = λ k b has. (stands_next es name slot i k s point b has).before d;
    }

pub none_there : (es : List FieldEntry) (name : List ℕ) (slot i : ℕ) (d : FieldEntry) → IsSortedByName es → IsCountUpTo es (name, slot) i → ((get_or es i d).name.items ≡ name → ⊥) → IsSlotAfter es name slot None
none_there es name slot i d s point differs = record { behind = tt; least = λ k b has. differs ((stands_next es name slot i k s point b has).named d) }

pub still_has : (es fs : List FieldEntry) (name : List ℕ) (slot : ℕ) → IsPermutation es fs → HasFieldAt es name slot → HasFieldAt fs name slot
still_has es fs name slot same has = record { entry = has.entry; among = Contains-permutation es fs has.entry same has.among; is = has.is }
