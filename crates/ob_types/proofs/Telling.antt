-- Lists of fields.
use Rattle.std.proofs.Common.{◌≡◌, ℕ, zero, suc, cond, ◌+◌, ◌<◌, ◌≤◌, List, [], ◌∷◌, ◌++◌, length, get_or, Bool, true, false, Option, Some, None, refl, sym, ap, ◌∙◌, subst, arith, ◌⊎◌, inl, inr}
use Rattle.std.specs.Prelude.{Contains, find, nat_eq, slice_get, ◌&&◌}
use Rattle.std.specs.Option.{option_and_then, option_eq, option_map}
use Rattle.std.specs.Str.{bytes_eq}
use Rattle.std.proofs.lemmas.Bool.{cases_lt, eqb-true}
use Rattle.std.proofs.lemmas.List.Elements.{Contains-append_left, Contains-push}
use Rattle.std.proofs.lemmas.List.Quantifiers.{position-Some}
use Rattle.std.proofs.lemmas.Option.{cond_some, get_or_from_slice_get, option_and_then_some, slice_get_within}
use Rattle.std.proofs.lemmas.Slice.Eq.{bytes_eq-Decides}
use Rattle.module_table.specs.declared.rows.Declared.{Declared}
use Rattle.ob_interface.specs.Interfaces.{Declaration, ModuleInterface}
use Rattle.ob_interface.specs.Placed.{declaration_at, is_member, index_of}
use Rattle.type_graph.specs.declared.listed.RecordField.{RecordField}
use Rattle.type_graph.specs.ListedFields.{AreAllFields, IsListedField}
use Rattle.ob_types.specs.declared.nodes.Field.{Field}
use Rattle.ob_types.specs.declared.nodes.Field.TheVariants as fields
use Rattle.ob_types.specs.declared.nodes.Record.{Record}
use Rattle.ob_types.specs.declared.nodes.Record.TheVariants as records
use Rattle.ob_types.specs.Shapes.{field_of}
use Rattle.ob_types.specs.FieldLists.{Fields, StayListed, ListsDeclaration, ListsModule, ListsLocal, ListsReached, ListsRow}
use Rattle.ob_view.specs.World.{World, exported_at, field_at, if_exported, is_of_record, text}

both_true : (a b : Bool) → a && b ≡ true → (a ≡ true) × (b ≡ true)
both_true true true e = (refl, refl)
both_true true false e = absurd cc
both_true false b e = absurd cc

-- ---- one more field

pub stay_all : (fields : Fields) → StayListed fields fields
stay_all fields r name h = h

pub stay_on : (a b c : Fields) → StayListed a b → StayListed b c → StayListed a c
stay_on a b c first then r name h = then r name (first r name h)

pub stay_pushed : (before after : Fields) (e : RecordField Record) → after ≡ before ++ e ∷ [] → StayListed before after
stay_pushed before after e is r name h = record { entry = h.entry; among = subst (λ (fs : Fields). Contains fs h.entry) (sym is) (Contains-append_left before (e ∷ []) h.entry h.among); of = h.of; named = h.named }

pub told_pushed : (before after : Fields) (e : RecordField Record) → after ≡ before ++ e ∷ [] → IsListedField after e.of_record e.name.now
told_pushed before after e is = record { entry = e; among = subst (λ (fs : Fields). Contains fs e) (sym is) (Contains-push before e); of = refl; named = refl }

-- ---- the module's own

abbrev pub RowsTold : World → List Declared → ℕ → Fields → Type 0
RowsTold w rows count fields = (k : ℕ) (row : Declared) → k < count → slice_get rows k ≡ Some row → (r : ℕ) → is_of_record w r row ≡ true → IsListedField fields (records.Own r) (text w row.number)

pub row_more : (w : World) (rows : List Declared) (count : ℕ) (row : Declared) (before after : Fields) → slice_get rows count ≡ Some row → RowsTold w rows count before → ListsRow w row before after → RowsTold w rows (count + 1) after
row_more w rows count row before after at listed tells k other below is r of = by (cases_lt k count)
  where
    by : (k < count) ⊎ (count ≤ k) → IsListedField after (records.Own r) (text w other.number)
    by (inl l) = tells.stay (records.Own r) (text w other.number) (listed k other l is r of)
    by (inr l) =
        let last : k ≡ count = omega arith in
        let one : row ≡ other = (let e : Some row ≡ Some other = sym at ∙ ap (slice_get rows) (sym last) ∙ is in cc) in
        subst (λ (x : Declared). IsListedField after (records.Own r) (text w x.number)) one (tells.listed r (subst (λ (x : Declared). is_of_record w r x ≡ true) (sym one) of))

found_at : {X : Type 0} (p : X → Bool) (xs : List X) (x : X) → find p xs ≡ Some x → (k : ℕ) × (slice_get xs k ≡ Some x) × (p x ≡ true)
found_at p [] x e = absurd (let f : None ≡ Some x = e in cc)
found_at {X} p (y ∷ ys) x e = by (p y) refl e (found_at p ys x)
  where
    by : (b : Bool) → p y ≡ b → cond b (Some y) (find p ys) ≡ Some x → (find p ys ≡ Some x → (k : ℕ) × (slice_get ys k ≡ Some x) × (p x ≡ true)) → (k : ℕ) × (slice_get (y ∷ ys) k ≡ Some x) × (p x ≡ true)
    by true is found later = (zero, found, (let one : y ≡ x = cc in ap p (sym one) ∙ is))
    by false is found later = let rest = later found in (suc rest.0, rest.1, rest.2)

mapped : {X Y : Type 0} (f : X → Y) (o : Option X) (y : Y) → option_map f o ≡ Some y → (x : X) × (o ≡ Some x)
mapped f None y e = absurd (let g : None ≡ Some y = e in cc)
mapped f (Some x) y e = (x, refl)

pub own_told : (w : World) (before after : Fields) → StayListed before after → RowsTold w w.rows.declared (length w.rows.declared) after → ListsLocal w before after
unfolding field_at
own_told w before after stay listed = record {
  stay = stay;
  listed = λ r name k e. (
      let row = mapped (λ (d : Declared). d.number) (find (λ (d : Declared). is_of_record w r d && bytes_eq (text w d.number) name) w.rows.declared) k e in
      let found = found_at (λ (d : Declared). is_of_record w r d && bytes_eq (text w d.number) name) w.rows.declared row.0 row.1 in
      let both = both_true (is_of_record w r row.0) (bytes_eq (text w row.0.number) name) found.2 in
      subst (λ (n : List ℕ). IsListedField after (records.Own r) n) ((bytes_eq-Decides (text w row.0.number) name).0 both.1)
      (listed found.0 row.0 (slice_get_within w.rows.declared found.0 row.0 found.1) found.1 r both.0));
}

-- ---- a module that is reached

abbrev pub DeclarationsTold : ℕ → ModuleInterface → ℕ → Fields → Type 0
DeclarationsTold i m count fields = (k : ℕ) (d : Declaration) (r : ℕ) → k < count → slice_get m.declarations k ≡ Some d → d.exported ≡ true → d.of_record ≡ Some r → IsListedField fields (records.Other i r) d.name

pub declaration_more : (i : ℕ) (m : ModuleInterface) (count : ℕ) (d : Declaration) (before after : Fields) → slice_get m.declarations count ≡ Some d → DeclarationsTold i m count before → ListsDeclaration i d before after
    → DeclarationsTold i m (count + 1) after
declaration_more i m count d before after at listed tells k other r below is marked of = by (cases_lt k count)
  where
    by : (k < count) ⊎ (count ≤ k) → IsListedField after (records.Other i r) other.name
    by (inl l) = tells.stay (records.Other i r) other.name (listed k other r l is marked of)
    by (inr l) =
        let last : k ≡ count = omega arith in
        let one : d ≡ other = (let e : Some d ≡ Some other = sym at ∙ ap (slice_get m.declarations) (sym last) ∙ is in cc) in
        subst (λ (x : Declaration). IsListedField after (records.Other i r) x.name) one
        (tells.listed r (subst (λ (x : Declaration). x.exported ≡ true) (sym one) marked) (subst (λ (x : Declaration). x.of_record ≡ Some r) (sym one) of))

pub past : {X : Type 0} (xs : List X) (k : ℕ) → slice_get xs k ≡ None → length xs ≤ k
past [] k e = omega arith
past (x ∷ xs) zero e = absurd (let f : Some x ≡ None = e in cc)
past (x ∷ xs) (suc k) e = let rest = past xs k e in omega (arith, rest)

same_record : (o : Option ℕ) (r : ℕ) → option_eq nat_eq o (Some r) ≡ true → o ≡ Some r
same_record None r e = absurd (let f : false ≡ true = e in cc)
same_record (Some k) r e = ap (λ (n : ℕ). Some n) (eqb-true k r e)

pub module_told : (i : ℕ) (m : ModuleInterface) (count : ℕ) (before after : Fields) → StayListed before after → DeclarationsTold i m count after → length m.declarations ≤ count → ListsModule i m before after
unfolding exported_at
module_told i m count before after stay listed all = record {
  stay = stay;
  listed = λ r name d e.
      option_and_then_some (λ (p : ℕ). option_and_then (if_exported p) (declaration_at m p)) (index_of m (Some r) name) d e (λ p index is.
      option_and_then_some (if_exported p) (declaration_at m p) d is (λ it at marked.
      let exported : it.exported ≡ true = (cond_some it.exported p d marked).0 in
      let first = position-Some (is_member (Some r) name) m.declarations p it index in
      let here : get_or m.declarations p it ≡ it = get_or_from_slice_get m.declarations p it it at in
      let member : is_member (Some r) name it ≡ true = ap (is_member (Some r) name) (sym here) ∙ first.1 in
      let both = both_true (option_eq nat_eq it.of_record (Some r)) (bytes_eq it.name name) member in
      let within = slice_get_within m.declarations p it at in
      subst (λ (n : List ℕ). IsListedField after (records.Other i r) n) ((bytes_eq-Decides it.name name).0 both.1) (listed p it r (omega (arith, within, all)) at exported (same_record it.of_record r both.0))));
}

-- ---- all modules that are reached

abbrev pub ModulesTold : List ModuleInterface → ℕ → Fields → Type 0
ModulesTold ms count fields = (i : ℕ) (m : ModuleInterface) (r : ℕ) (name : List ℕ) (d : ℕ) → i < count → slice_get ms i ≡ Some m → exported_at m (Some r) name ≡ Some d → IsListedField fields (records.Other i r) name

pub module_more : (ms : List ModuleInterface) (count : ℕ) (m : ModuleInterface) (before after : Fields) → slice_get ms count ≡ Some m → ModulesTold ms count before → ListsModule count m before after → ModulesTold ms (count + 1) after
module_more ms count m before after at listed tells i other r name d below is exported = by (cases_lt i count)
  where
    by : (i < count) ⊎ (count ≤ i) → IsListedField after (records.Other i r) name
    by (inl l) = tells.stay (records.Other i r) name (listed i other r name d l is exported)
    by (inr l) =
        let last : count ≡ i = omega arith in
        let one : m ≡ other = (let e : Some m ≡ Some other = sym at ∙ ap (slice_get ms) last ∙ is in cc) in
        subst (λ (n : ℕ). IsListedField after (records.Other n r) name) last (tells.listed r name d (ap (λ (x : ModuleInterface). exported_at x (Some r) name) one ∙ exported))

pub reached_told : (ms : List ModuleInterface) (count : ℕ) (before after : Fields) → StayListed before after → ModulesTold ms count after → length ms ≤ count → ListsReached ms before after
reached_told ms count before after stay listed all = record {
  stay = stay;
  listed = λ i m r name d at exported. (let within = slice_get_within ms i m at in listed i m r name d (omega (arith, within, all)) at exported);
}

pub all_told : (w : World) (before mid after : Fields) → ListsLocal w before mid → ListsReached w.reached mid after → AreAllFields (field_of w) after
unfolding field_of
all_told w before mid after own others = record { each = each }
  where
    each : (r : Record) (name : List ℕ) (f : Field) → field_of w r name ≡ Some f → IsListedField after r name
    each (records.Own r) name f e = let k = mapped fields.Own (field_at w r name) f e in others.stay (records.Own r) name (own.listed r name k.0 k.1)
    each (records.Other i r) name f e =
        let k = mapped (fields.Other i) (option_and_then (λ (m : ModuleInterface). exported_at m (Some r) name) (slice_get w.reached i)) f e in
        option_and_then_some (λ (m : ModuleInterface). exported_at m (Some r) name) (slice_get w.reached i) k.0 k.1 (λ m at exported. others.listed i m r name k.0 at exported)
