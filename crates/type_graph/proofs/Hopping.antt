-- A jump along a heavy path equals climbing from base to base.
use Rattle.std.proofs.Common.{◌≡◌, ◌++◌, ◌∷◌, [], ℕ, zero, suc, ◌+◌, ◌-◌, ◌<◌, ◌≤◌, List, length, length-set, get_or, set, Bool, true, false, Option, Some, None, refl, sym, ap, ◌∙◌, subst, arith, ◌⊎◌, inl, inr}
use Rattle.std.specs.Prelude.{position, slice_get, Contains, IsPermutation}
use Rattle.std.specs.List.{position_or_len, IsDistinct}
use Rattle.std.specs.Bool.{OnTrue}
use Rattle.std.proofs.lemmas.Bool.{cases_lt}
use Rattle.std.proofs.lemmas.Bool.Decides.{nat_tests}
use Rattle.std.proofs.lemmas.List.Sums.{position_or_len_is}
use Rattle.std.proofs.lemmas.List.Elements.{Contains-append_left, Contains-push}
use Rattle.std.proofs.lemmas.List.Quantifiers.{position-Some}
use Rattle.std.proofs.lemmas.Map.Keys.{apart_from_distinct}
use Rattle.std.proofs.lemmas.List.{get_or-set_other, get_or-set_same}
use Rattle.std.proofs.lemmas.Option.{slice_get_within, slice_get-get_or, get_or_from_slice_get}
use Rattle.type_graph.specs.declared.field_entries.FieldEntry.{FieldEntry}
use Rattle.type_graph.specs.declared.shape.Shape.{Shape}
use Rattle.type_graph.specs.declared.listed.RecordField.{RecordField}
use Rattle.type_graph.specs.Extending.{Extends, IsParent, Lacks, higher}
use Rattle.type_graph.specs.PathOrder.{AddsField, AreEnds, HasAllFields, HasFieldAt, ArePaths, IsSlotAfter, ContinuesPath, IsPathTo}
use Rattle.type_graph.specs.ListedFields.{AreAllFields}
use Rattle.type_graph.proofs.Extending.{lacks_itself}
use Rattle.type_graph.proofs.Standing.{still_has}

not_true : (b : Bool) → (b ≡ true → ⊥) → b ≡ false
not_true true h = absurd (h refl)
not_true false h = refl

pub ends_at : (ends : List ℕ) (slot end : ℕ) → slot < length ends → end ≡ get_or ends slot end → slice_get ends slot ≡ Some end
ends_at ends slot end within is = slice_get-get_or ends slot end within ∙ ap (λ (n : ℕ). Some n) (sym is)

-- a field is appended
pub added_last : {R : Type 0} (same : R → R → Bool) (paths : List R) (field : RecordField R) (before after : List FieldEntry) (entry : FieldEntry) (slot : ℕ) (o : Option ℕ) → after ≡ before ++ entry ∷ [] → entry.name.items ≡ field.name.now → entry.slot ≡ slot
    → o ≡ Some slot → o ≡ position (same field.of_record) paths → AddsField same paths field before after
added_last same paths field before after entry slot o last named at some found = record {
  stays = λ name k has. (let among = subst (λ (es : List FieldEntry). Contains es has.entry) (sym last) (Contains-append_left before (entry ∷ []) has.entry has.among) in record { entry = has.entry; among = among; is = has.is });
  added = λ k there. (
      let one : Some slot ≡ Some k = sym some ∙ found ∙ there in
      let is : slot ≡ k = cc in
      record { entry = entry; among = subst (λ (es : List FieldEntry). Contains es entry) (sym last) (Contains-push before entry); is = ap (λ (n : List ℕ). (n, entry.slot)) named ∙ ap (λ (n : ℕ). (field.name.now, n)) (at ∙ is) });
}

-- the index of a record is the index at which the record is found, and conversely
module _ {R : Type 0} (same : R → R → Bool) (apart : (r s : R) → same r s ≡ true → r ≡ s) where
  pub stands_at : (paths : List R) (r : R) (slot : ℕ) → position (same r) paths ≡ Some slot → slice_get paths slot ≡ Some r
  stands_at paths r slot e =
      let found = position-Some (same r) paths slot r e in
      slice_get-get_or paths slot r found.0 ∙ ap (λ (s : R). Some s) (sym (apart r (get_or paths slot r) found.1))

  pub found_at : (itself : (r : R) → same r r ≡ true) (paths : List R) (r : R) (slot : ℕ) → IsDistinct same paths → slice_get paths slot ≡ Some r → position (same r) paths ≡ Some slot
  found_at itself paths r slot distinct at =
      let l : slot < length paths = slice_get_within paths slot r at in
      let here : get_or paths slot r ≡ r = get_or_from_slice_get paths slot r r at in
      let first : position_or_len (same r) paths ≡ slot = position_or_len_is (same r) paths slot r (omega (arith, l)) (λ j below. not_true _ (λ t.
      let one : r ≡ get_or paths j r = apart r (get_or paths j r) t in
      let f : same (get_or paths j r) (get_or paths slot r) ≡ false = apart_from_distinct same paths j slot r distinct below l in
      let g : same r r ≡ false = ap (λ (s : R). same s r) one ∙ ap (same (get_or paths j r)) (sym here) ∙ f in
      let bad : true ≡ false = sym (itself r) ∙ g in
      cc)) (λ _. ap (same r) here ∙ itself r) in
      rw first (grind (arith, nat_tests))

module _ {N D R : Type 0} (shape : N → Shape N D R) (base : R → Option N) where
  -- ---- runs

  -- the parent of a record follows it in the sequence
  pub leads_here : (same : R → R → Bool) (apart : (r s : R) → same r s ≡ true → r ≡ s) (paths : List R) (slot : ℕ) (lower upper parent : R) (b : Bool) → IsParent shape base lower (Some parent) → lower ≡ get_or paths slot lower
      → upper ≡ get_or paths (slot + 1) upper → suc slot < length paths → b ≡ same parent upper → OnTrue b (ContinuesPath shape base paths slot)
  leads_here same apart paths slot lower upper parent false up at_lower at_upper within e = tt
  leads_here same apart paths slot lower upper parent true up at_lower at_upper within e =
      let one : parent ≡ upper = apart parent upper (sym e) in
      let z : slot + 1 ≡ suc slot = omega arith in
      record {
        lower = lower;
        upper = upper;
        here = slice_get-get_or paths slot lower (omega arith) ∙ ap (λ (r : R). Some r) (sym at_lower);
        next = slice_get-get_or paths (suc slot) upper within ∙ ap (λ (r : R). Some r) (ap (λ (k : ℕ). get_or paths k upper) (sym z) ∙ sym at_upper);
        extends = subst (λ (r : R). Extends shape base lower r) one up.some;
      }

  pub ends_itself : (paths : List R) (slot : ℕ) → IsPathTo shape base paths slot slot
  ends_itself paths slot = record { up = omega arith; each = λ k low high. absurd (omega (arith, low, high)) }

  -- a path is as long as that of the next index, if the next record is the parent
  pub ends_behind : (paths : List R) (ends : List ℕ) (slot last : ℕ) (d : ℕ) → ContinuesPath shape base paths slot → AreEnds shape base (suc slot) paths ends → suc slot < length ends → last ≡ get_or ends (slot + 1) d → IsPathTo shape base paths slot last
  ends_behind paths ends slot last d leads behind within is =
      let z : slot + 1 ≡ suc slot = omega arith in
      let run = behind.each (suc slot) last (omega arith) (slice_get-get_or ends (suc slot) d within ∙ ap (λ (k : ℕ). Some k) (ap (λ (k : ℕ). get_or ends k d) (sym z) ∙ sym is)) in
      let up : suc slot ≤ last = run.up in
      record { up = omega arith; each = λ k low high. by run k low high (cases_lt slot k) }
    where
      by : IsPathTo shape base paths (suc slot) last → (k : ℕ) → slot ≤ k → k < last → (slot < k) ⊎ (k ≤ slot) → ContinuesPath shape base paths k
      by run k low high (inl l) = run.each k (omega arith) high
      by run k low high (inr l) = let same : slot ≡ k = omega arith in subst (λ (n : ℕ). ContinuesPath shape base paths n) same leads

  -- one more end is known
  pub ends_more : (paths : List R) (ends : List ℕ) (from slot last : ℕ) → AreEnds shape base from paths ends → from ≡ suc slot → slot < length ends → IsPathTo shape base paths slot last → AreEnds shape base slot paths (set ends slot last)
  ends_more paths ends from slot last behind next within run = record { each = λ k end low at. by k end low at (cases_lt slot k) }
    where
      by : (k end : ℕ) → slot ≤ k → slice_get (set ends slot last) k ≡ Some end → (slot < k) ⊎ (k ≤ slot) → IsPathTo shape base paths k end
      by k end low at (inl l) =
          let in_set = slice_get_within (set ends slot last) k end at in
          let size = length-set ends slot last in
          let other : get_or (set ends slot last) k end ≡ get_or ends k end = get_or-set_other ends slot k last end (λ e. absurd (omega (arith, l, e))) in
          let there : slice_get ends k ≡ Some end = slice_get-get_or ends k end (omega (arith, in_set, size)) ∙ ap (λ (n : ℕ). Some n) (sym other ∙ get_or_from_slice_get (set ends slot last) k end end at) in
          behind.each k end (omega arith) there
      by k end low at (inr l) =
          let same : slot ≡ k = omega arith in
          let is : last ≡ end = sym (get_or-set_same ends slot last end within) ∙ ap (λ (n : ℕ). get_or (set ends slot last) n end) same ∙ get_or_from_slice_get (set ends slot last) k end end at in
          subst (λ (n : ℕ). IsPathTo shape base paths n end) same (subst (λ (n : ℕ). IsPathTo shape base paths slot n) is run)

  pub no_ends : (paths : List R) (ends : List ℕ) (from : ℕ) → length ends ≤ from → AreEnds shape base from paths ends
  no_ends paths ends from past = record { each = λ slot last low at. (let l = slice_get_within ends slot last at in absurd (omega (arith, l, low, past))) }

  module _ {F : Type 0} (field : R → List ℕ → Option F) where
    -- if no record of a path after an index has the field, none up to there has it
    pub lacks_on : (paths : List R) (es : List FieldEntry) (name : List ℕ) (slot k : ℕ) (r : R) → HasAllFields shape base field paths es → slice_get paths slot ≡ Some r → field r name ≡ None
        → ((j : ℕ) → slot ≤ j → j < slot + k → ContinuesPath shape base paths j) → ((j : ℕ) → slot < j → j ≤ slot + k → HasFieldAt es name j → ⊥)
        → (s : R) × (slice_get paths (slot + k) ≡ Some s) × Lacks shape base (λ (t : R). field t name) r s
    lacks_on paths es name slot zero r field_entries at none leads clear = (r, ap (slice_get paths) (let z : slot + zero ≡ slot = omega arith in z) ∙ at, lacks_itself shape base (λ (t : R). field t name) r none)
    lacks_on paths es name slot (suc k) r field_entries at none leads clear =
        let (s, at_s, lacks) = lacks_on paths es name slot k r field_entries at none (λ j low high. leads j low (omega arith)) (λ j low high. clear j low (omega arith)) in
        let on = leads (slot + k) (omega arith) (omega arith) in
        let one : on.lower ≡ s = (let e : Some on.lower ≡ Some s = sym on.here ∙ at_s in cc) in
        let z : suc (slot + k) ≡ slot + suc k = omega arith in
        let at_t : slice_get paths (slot + suc k) ≡ Some on.upper = ap (slice_get paths) (sym z) ∙ on.next in
        let extends : Extends shape base s on.upper = subst (λ (t : R). Extends shape base t on.upper) one on.extends in
        let none_t : field on.upper name ≡ None = lacking on.upper (field on.upper name) refl at_t in
        (on.upper, at_t, record { bases = suc lacks.bases; rises = higher lacks.rises lacks.none extends; none = none_t })
      where
        lacking : (t : R) (o : Option F) → field t name ≡ o → slice_get paths (slot + suc k) ≡ Some t → field t name ≡ None
        lacking t None e at_t = e
        lacking t (Some f) e at_t = absurd (clear (slot + suc k) (omega arith) (omega arith) (field_entries.each (slot + suc k) t name f at_t e))

    past_next : (es : List FieldEntry) (name : List ℕ) (slot : ℕ) (o : Option ℕ) (j : ℕ) → IsSlotAfter es name slot o → slot < j → ((q : ℕ) → o ≡ Some q → j < q) → HasFieldAt es name j → ⊥
    past_next es name slot None j next behind before has = next.least j behind has
    past_next es name slot (Some q) j next behind before has = let a : q ≤ j = next.least j behind has in let b = before q refl in omega (arith, a, b)

    -- a jump to the end of a path
    pub hop_to_end : (paths : List R) (ends : List ℕ) (es : List FieldEntry) (name : List ℕ) (slot last : ℕ) (r s : R) (o : Option ℕ) → ArePaths shape base field paths ends es → slice_get paths slot ≡ Some r → slice_get ends slot ≡ Some last → field r name ≡ None
        → IsSlotAfter es name slot o → ((q : ℕ) → o ≡ Some q → last < q) → slice_get paths last ≡ Some s → Lacks shape base (λ (t : R). field t name) r s
    hop_to_end paths ends es name slot last r s o is at end none next beyond at_s =
        let run = is.are_ends.each slot last (omega arith) end in
        let up : slot ≤ last = run.up in
        let z : slot + (last - slot) ≡ last = omega arith in
        let (t, at_t, lacks) = lacks_on paths es name slot (last - slot) r is.are_owned at none (λ j low high. run.each j low (omega arith))
        (λ j low high. past_next es name slot o j next low (λ q e. let b = beyond q e in omega arith)) in
        let one : t ≡ s = (let e : Some t ≡ Some s = sym at_t ∙ ap (slice_get paths) z ∙ at_s in cc) in
        subst (λ (x : R). Lacks shape base (λ (y : R). field y name) r x) one lacks

    -- a jump to a record on the path
    pub hop_onto : (paths : List R) (ends : List ℕ) (es : List FieldEntry) (name : List ℕ) (slot last q : ℕ) (r s : R) → ArePaths shape base field paths ends es → slice_get paths slot ≡ Some r → slice_get ends slot ≡ Some last → field r name ≡ None
        → IsSlotAfter es name slot (Some q) → q ≤ last → slice_get paths q ≡ Some s → (below : R) × Lacks shape base (λ (t : R). field t name) r below × Extends shape base below s
    hop_onto paths ends es name slot last q r s is at end none next within at_s =
        let run = is.are_ends.each slot last (omega arith) end in
        let behind : slot < q = next.behind in
        let z : slot + (q - 1 - slot) ≡ q - 1 = omega arith in
        let y : suc (q - 1) ≡ q = omega arith in
        let (t, at_t, lacks) = lacks_on paths es name slot (q - 1 - slot) r is.are_owned at none (λ j low high. run.each j low (omega arith))
        (λ j low high. past_next es name slot (Some q) j next low (λ p e. let same : q ≡ p = cc in omega arith)) in
        let on = run.each (q - 1) (omega arith) (omega arith) in
        let lower : on.lower ≡ t = (let e : Some on.lower ≡ Some t = sym on.here ∙ ap (slice_get paths) (sym z) ∙ at_t in cc) in
        let upper : on.upper ≡ s = (let e : Some on.upper ≡ Some s = sym on.next ∙ ap (slice_get paths) y ∙ at_s in cc) in
        (t, lacks, subst (λ (x : R). Extends shape base x s) lower (subst (λ (x : R). Extends shape base on.lower x) upper on.extends))

    -- ---- fields

    -- the fields of the first k listed fields are in the list
    abbrev pub AreAdded : (R → R → Bool) → List R → List (RecordField R) → ℕ → List FieldEntry → Type 0
    AreAdded same paths listed count es = (k : ℕ) (it : RecordField R) → k < count → slice_get listed k ≡ Some it → (slot : ℕ) → position (same it.of_record) paths ≡ Some slot → HasFieldAt es it.name.now slot

    pub one_more : (same : R → R → Bool) (paths : List R) (listed : List (RecordField R)) (count : ℕ) (it : RecordField R) (before after : List FieldEntry) → slice_get listed count ≡ Some it → AreAdded same paths listed count before → AddsField same paths it before after
        → AreAdded same paths listed (count + 1) after
    one_more same paths listed count it before after at added adds k other below is slot found = by (cases_lt k count)
      where
        by : (k < count) ⊎ (count ≤ k) → HasFieldAt after other.name.now slot
        by (inl l) = adds.stays other.name.now slot (added k other l is slot found)
        by (inr l) =
            let last : k ≡ count = omega arith in
            let one : it ≡ other = (let e : Some it ≡ Some other = sym at ∙ ap (slice_get listed) (sym last) ∙ is in cc) in
            subst (λ (x : RecordField R). HasFieldAt after x.name.now slot) one (adds.added slot (subst (λ (x : RecordField R). position (same x.of_record) paths ≡ Some slot) (sym one) found))

    -- all listed fields are in the list
    pub all_added : (same : R → R → Bool) (apart : (r s : R) → same r s ≡ true → r ≡ s) (itself : (r : R) → same r r ≡ true) (paths : List R) (listed : List (RecordField R)) (es : List FieldEntry) → IsDistinct same paths → AreAllFields field listed
        → AreAdded same paths listed (length listed) es → HasAllFields shape base field paths es
    all_added same apart itself paths listed es distinct all added = record {
      each = λ slot r name f at has. (
          let it = all.each r name f has in
          let there : slice_get listed it.among.0 ≡ Some it.entry = slice_get-get_or listed it.among.0 it.entry it.among.1 ∙ ap (λ (x : RecordField R). Some x) it.among.2 in
          let found : position (same it.entry.of_record) paths ≡ Some slot = ap (λ (x : R). position (same x) paths) it.of ∙ found_at same apart itself paths r slot distinct at in
          subst (λ (x : List ℕ). HasFieldAt es x slot) it.named (added it.among.0 it.entry it.among.1 there slot found));
    }

    pub still_owned : (paths : List R) (es fs : List FieldEntry) → IsPermutation es fs → HasAllFields shape base field paths es → HasAllFields shape base field paths fs
    still_owned paths es fs same field_entries = record { each = λ slot r name f at has. still_has es fs name slot same (field_entries.each slot r name f at has) }
