-- A symbol can be written exactly if it has a string.
use Rattle.std.proofs.Common.{◌≡◌, ◌≢◌, ◌⊎◌, ℕ, ◌+◌, Bool, true, false, cond, List, [], ◌∷◌, codes, Option, Some, None, Result, Ok, Err, refl, subst, inl, inr}
use Rattle.std.specs.Prelude.{◌||◌, not}
use Rattle.std.specs.List.{list_any, flat_map, position_from, AllByRecursion}
use Rattle.std.proofs.lemmas.Bool.{eqb-false, cases_Bool, or_parts, not-false}
use Rattle.scip_symbol.specs.declared.fault.SymbolFault.{SymbolFault}
use Rattle.scip_symbol.specs.declared.fault.SymbolFault.TheVariants as faults
use Rattle.scip_symbol.specs.declared.descriptor.Descriptor.{Descriptor}
use Rattle.scip_symbol.specs.declared.symbol.Symbol.{Symbol}
use Rattle.scip_symbol.specs.declared.symbol.Symbol.TheVariants as symbols
use Rattle.scip_symbol.specs.Bytes.{IsNotFirst}
use Rattle.scip_symbol.specs.SymbolTexts.{DescriptorModel, SymbolModel, Local, Global, are_simple, NameText, canonical_name, IsOfMethod, DescriptorTexts, canonical_descriptor_text, IsPackagePart, IsOptionalPart, BeginsLocal, SymbolText, canonical_text}
use Rattle.scip_symbol.specs.Views.{descriptor_models, symbol_model}
use Rattle.scip_symbol.specs.Reading.{after_bytes}
use Rattle.scip_symbol.proofs.TextCuts.{after_bytes_some, not_word}
use Rattle.scip_symbol.specs.Outcomes.{is_empty, has_empty, HasLocalScheme, begins_with_space, is_stop, is_wrong_part, wrong_part_of, is_wrong_descriptor, wrong_descriptor_of, AreOfMethods, IsWritable, IsWriteOutcome}

-- ---- the type of descriptors guarantees that only methods have a disambiguator

abbrev AreKept : List DescriptorModel → Type 0
AreKept ds = AllByRecursion (λ d. IsOfMethod d.kind d.disambiguator) ds

are_kept : (ds : List Descriptor) → AreKept (descriptor_models ds)
are_kept [] = tt
are_kept (d ∷ ds) = (d.of_method, are_kept ds)

pub are_of_methods : (s : Symbol) → AreOfMethods (symbol_model s)
are_of_methods (symbols.Local id) = tt
are_of_methods (symbols.Global scheme m p v ds) = are_kept ds.items

-- ---- a writable symbol has its canonical string

some_of : {X : Type 0} (xs : List X) → is_empty xs ≡ false → xs ≢ []
some_of [] e = absurd cc
some_of (x ∷ xs) e = λ s. absurd cc

pub plain_name_text : (name : List ℕ) → name ≢ [] → NameText name (canonical_name name)
plain_name_text name some =
    elim (cases_Bool (are_simple name)) [
      | inl e ↦ rw e (record { some = some; written = inl (record { some = some; simple = e }, refl) })
      | inr e ↦ rw e (record { some = some; written = inr refl })
    ]

none_from : (b : Bool) (i : ℕ) (o : Option ℕ) → cond b (Some i) o ≡ None → (b ≡ false) × (o ≡ None)
none_from true i o e = absurd cc
none_from false i o e = (refl, e)

plain_row : (ds : List DescriptorModel) (i : ℕ) → AreKept ds → list_any (λ d. is_empty d.name) ds ≡ false → position_from is_wrong_descriptor i ds ≡ None → DescriptorTexts ds (flat_map canonical_descriptor_text ds)
plain_row [] i k n w = refl
plain_row (d ∷ ds) i k n w =
    let names = or_parts (is_empty d.name) (list_any (λ x. is_empty x.name) ds) n in
    let first = none_from (is_wrong_descriptor d) i (position_from is_wrong_descriptor (i + 1) ds) w in (
      canonical_descriptor_text d,
      flat_map canonical_descriptor_text ds,
      record { name = canonical_name d.name; name_is = plain_name_text d.name (some_of d.name names.0); of_method = k.0; simple = not-false (are_simple d.disambiguator) first.0; whole = refl },
      plain_row ds (i + 1) k.1 names.1 first.1,
      refl,
    )

no_space : (part : List ℕ) → begins_with_space part ≡ false → IsNotFirst 32 part
no_space [] e = tt
no_space (b ∷ part) e = eqb-false b 32 e

is_part : (part : List ℕ) → is_empty part ≡ false → begins_with_space part ≡ false → IsPackagePart part
is_part [] e s = absurd cc
is_part (b ∷ part) e s = eqb-false b 32 s

is_optional : (part : List ℕ) → is_wrong_part part ≡ false → IsOptionalPart part
is_optional part e =
    let p = or_parts (begins_with_space part) (is_stop part) e in
    record { next = no_space part p.0; no_stop = λ s. stop part p.1 s }
  where
    stop : (part : List ℕ) → is_stop part ≡ false → part ≡ codes "." → ⊥
    stop part e s = let k : is_stop (codes ".") ≡ false = subst (λ (x : List ℕ). is_stop x ≡ false) s e in absurd cc

pub writable_text : (s : SymbolModel) → AreOfMethods s → IsWritable s → SymbolText s (canonical_text s)
writable_text (Local id) k w =
    let simple = none_from (not (are_simple id)) 0 None w.descriptors in
    (record { some = some_of id w.no_empty; simple = not-false (are_simple id) simple.0 }, refl)
writable_text (Global scheme m p v ds) k w =
    let some = or_parts (is_empty scheme) (is_empty ds || list_any (λ d. is_empty d.name) ds) w.no_empty in
    let rows = or_parts (is_empty ds) (list_any (λ d. is_empty d.name) ds) some.1 in
    let a = none_from (begins_with_space scheme) 0 _ w.parts in
    let b = none_from (is_wrong_part m) 1 _ a.1 in
    let c = none_from (is_wrong_part p) 2 _ b.1 in
    let d = none_from (is_wrong_part v) 3 _ c.1 in
    record {
      scheme_is = is_part scheme some.0 a.0;
      not_local = w.not_local;
      manager_is = is_optional m b.0;
      package_is = is_optional p c.0;
      version_is = is_optional v d.0;
      some = some_of ds rows.0;
      rest = flat_map canonical_descriptor_text ds;
      rest_is = plain_row ds 0 k rows.1 w.descriptors;
      whole = refl;
    }

pub writable_outcome : (s : SymbolModel) → AreOfMethods s → IsWritable s → IsWriteOutcome s (Ok (canonical_text s))
writable_outcome s k w = (writable_text s k w, refl)

pub symbol_text : (s : Symbol) → IsWritable (symbol_model s) → SymbolText (symbol_model s) (canonical_text (symbol_model s))
symbol_text s w = writable_text (symbol_model s) (are_of_methods s) w

-- ---- every symbol has an outcome of writing

abbrev SomeOutcome : SymbolModel → Type 0
SomeOutcome s = (o : Result (List ℕ) SymbolFault) × IsWriteOutcome s o

by_descriptors : (s : SymbolModel) (at : Option ℕ) → AreOfMethods s → has_empty s ≡ false → (HasLocalScheme s → ⊥) → wrong_part_of s ≡ None → wrong_descriptor_of s ≡ at → SomeOutcome s
by_descriptors s None k e l p d = (Ok (canonical_text s), (writable_text s k (record { no_empty = e; not_local = l; parts = p; descriptors = d }), refl))
by_descriptors s (Some at) k e l p d = (Err (faults.BadDescriptor at), (e, l, p, d))

by_part : (s : SymbolModel) (part : Option ℕ) → AreOfMethods s → has_empty s ≡ false → (HasLocalScheme s → ⊥) → wrong_part_of s ≡ part → SomeOutcome s
by_part s None k e l p = by_descriptors s (wrong_descriptor_of s) k e l p refl
by_part s (Some part) k e l p = (Err (faults.BadPart part), (e, l, p))

has_local_or_not : (s : SymbolModel) → HasLocalScheme s ⊎ (HasLocalScheme s → ⊥)
has_local_or_not (Local id) = inr (λ h. h)
has_local_or_not (Global scheme m p v ds) = go (after_bytes (codes "local") scheme) refl
  where
    go : (o : Option (List ℕ)) → after_bytes (codes "local") scheme ≡ o → BeginsLocal scheme ⊎ (BeginsLocal scheme → ⊥)
    go (Some rest) e = inl (rest, after_bytes_some (codes "local") scheme rest e)
    go None e = inr (λ l. not_word (codes "local") scheme e l.0 l.1)

write_outcome_exists : (s : SymbolModel) → AreOfMethods s → SomeOutcome s
write_outcome_exists s k =
    elim (cases_Bool (has_empty s)) [
      | inl e ↦ (Err faults.Empty, e)
      | inr e ↦ elim (has_local_or_not s) [
        | inl l ↦ (Err faults.LocalScheme, (e, l))
        | inr l ↦ by_part s (wrong_part_of s) k e l refl
      ]
    ]

pub symbol_outcome : (s : Symbol) → (o : Result (List ℕ) SymbolFault) × IsWriteOutcome (symbol_model s) o
symbol_outcome s = write_outcome_exists (symbol_model s) (are_of_methods s)
