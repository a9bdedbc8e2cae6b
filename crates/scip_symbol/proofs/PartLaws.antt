-- Parts are read exactly as they are written.
use Rattle.std.proofs.Common.{◌≡◌, ◌≢◌, ℕ, ◌<◌, List, [], ◌∷◌, ◌++◌, length, Option, Some, None, Result, Ok, Err, refl, sym, ap, subst, ◌∙◌, inl, inr, arith, append_assoc}
use Rattle.std.specs.Option.{ok_or}
use Rattle.std.specs.List.{flat_map, AllByRecursion}
use Rattle.std.proofs.lemmas.Bool.{cases_eq, eq-eqb, ne_eqb, eqb-false}
use Rattle.std.proofs.lemmas.List.{append-nil}
use Rattle.std.proofs.lemmas.Grind.{flat_map-append}
use Rattle.scip_symbol.specs.declared.fault.SymbolFault.{SymbolFault}
use Rattle.scip_symbol.specs.declared.fault.SymbolFault.TheVariants as faults
use Rattle.scip_symbol.specs.Bytes.{doubled, IsNotFirst, IsEnded}
use Rattle.scip_symbol.specs.SymbolTexts.{IsPackagePart, IsOptionalPart, part_shown, ended_part, shown_parts, BeginsLocal}
use Rattle.scip_symbol.specs.Outcomes.{BeginsWithParts, IsBadPart, IsReadError}
use Rattle.scip_symbol.specs.Reading.{delimited_prefix, first_part_at, part_from_text, optional_part_at, PartsModel, parts_at, ◌>>=◌}
use Rattle.scip_symbol.proofs.Ends.{ended-said, unended}

-- ---- parts in the string, and the values that they denote

pub shown_is_part : (part : List ℕ) → IsOptionalPart part → IsPackagePart (part_shown part)
shown_is_part [] h = eqb-false 46 32 refl
shown_is_part (b ∷ part) h = h.next

pub shown_meant : (part : List ℕ) → IsOptionalPart part → part_from_text (part_shown part) ≡ part
shown_meant [] h = refl
shown_meant (b ∷ []) h = rw (ne_eqb b 46 (λ e. h.no_stop (ap (λ (x : ℕ). x ∷ []) e))) refl
shown_meant (b ∷ c ∷ part) h = refl

pub meant_shown : (part : List ℕ) → IsPackagePart part → part_shown (part_from_text part) ≡ part
meant_shown [] h = absurd h
meant_shown (b ∷ []) h =
    elim (cases_eq b 46) [
      | inl e ↦ rw (eq-eqb b 46 e) (ap (λ (x : ℕ). x ∷ []) (sym e))
      | inr ne ↦ rw (ne_eqb b 46 ne) refl
    ]
meant_shown (b ∷ c ∷ part) h = refl

pub meant_is : (part : List ℕ) → IsPackagePart part → IsOptionalPart (part_from_text part)
meant_is [] h = absurd h
meant_is (b ∷ []) h =
    elim (cases_eq b 46) [
      | inl e ↦ rw (eq-eqb b 46 e) (record { next = tt; no_stop = λ s. absurd cc })
      | inr ne ↦ rw (ne_eqb b 46 ne) (record { next = h; no_stop = λ s. let same : b ≡ 46 = cc in ne same })
    ]
meant_is (b ∷ c ∷ part) h = record { next = h; no_stop = λ s. absurd cc }

-- ---- one more part

all-push : (parts : List (List ℕ)) (part : List ℕ) → AllByRecursion IsPackagePart parts → IsPackagePart part → AllByRecursion IsPackagePart (parts ++ part ∷ [])
all-push [] part a h = (h, tt)
all-push (p ∷ parts) part a h = (a.0, all-push parts part a.1 h)

ended_is_part : (text part rest : List ℕ) → IsNotFirst 32 text → IsEnded 32 text part rest → IsPackagePart part
ended_is_part text [] rest n e = let m : IsNotFirst 32 (32 ∷ rest) = subst (λ (t : List ℕ). IsNotFirst 32 t) e.whole n in m refl
ended_is_part text (b ∷ part) rest n e = by_first text n e.whole
  where
    by_first : (text : List ℕ) → IsNotFirst 32 text → text ≡ doubled 32 (b ∷ part) ++ 32 ∷ rest → b ≢ 32
    by_first text n w same =
        let m : IsNotFirst 32 (doubled 32 (b ∷ part) ++ 32 ∷ rest) = subst (λ (t : List ℕ). IsNotFirst 32 t) w n in
        let k = rw (eq-eqb b 32 same) at m in
        k same

pub part_more : (text : List ℕ) (parts : List (List ℕ)) (rest : List ℕ) (x : List ℕ × List ℕ) → BeginsWithParts text parts rest → delimited_prefix 32 rest ≡ Some x → IsPackagePart x.0 × BeginsWithParts text (parts ++ x.0 ∷ []) x.1
part_more text parts rest x h e =
    let i = ended-said 32 rest x e in
    let p = ended_is_part rest x.0 x.1 h.next i in (
      p,
      record {
        not_local = h.not_local;
        each = all-push parts x.0 h.each p;
        whole = h.whole ∙ ap (λ (t : List ℕ). flat_map ended_part parts ++ t) (i.whole ∙ sym (append_assoc (doubled 32 x.0) (32 ∷ []) x.1))
            ∙ sym (append_assoc (flat_map ended_part parts) (ended_part x.0) x.1)
            ∙ ap (λ (t : List ℕ). t ++ x.1) (ap (λ (t : List ℕ). flat_map ended_part parts ++ t) (sym (append-nil (ended_part x.0))) ∙ sym (flat_map-append ended_part parts (x.0 ∷ [])));
        next = i.next;
      },
    )

part_lacks : (text : List ℕ) (parts : List (List ℕ)) (rest : List ℕ) (count : ℕ) → text ≢ [] → BeginsWithParts text parts rest → length parts ≡ count → count < 4 → delimited_prefix 32 rest ≡ None → IsBadPart text count
part_lacks text parts rest count some h n few e =
    record { some = some; wrong = inr (record { parts = parts; rest = rest; has_parts = h; count_is = n; few = few; unended = unended 32 rest e }) }

-- ---- four parts

-- four parts that are read, and what follows them
pub record ArePartsRead (text : List ℕ) (x : PartsModel × List ℕ) : Type 0 where
  pub scheme_is : IsPackagePart x.0.scheme
  pub manager_is : IsOptionalPart x.0.manager
  pub package_is : IsOptionalPart x.0.package_name
  pub version_is : IsOptionalPart x.0.version
  pub has_parts : BeginsWithParts text (shown_parts x.0.scheme x.0.manager x.0.package_name x.0.version) x.1

-- the result of reading the parts of a string
abbrev pub ArePartsOf : List ℕ → Result (PartsModel × List ℕ) SymbolFault → Type 0
ArePartsOf text (Ok x) = ArePartsRead text x
ArePartsOf text (Err fault) = IsReadError text fault

first_parts : (text : List ℕ) → IsPackagePart text → (BeginsLocal text → ⊥) → BeginsWithParts text [] text
first_parts [] p n = absurd p
first_parts (b ∷ text) p n = record { not_local = n; each = tt; whole = refl; next = p }

part_some : (text : List ℕ) → IsPackagePart text → text ≢ []
part_some [] p = absurd p
part_some (b ∷ text) p = λ e. absurd cc

-- a part is read, or the string has too few parts
with_part : (text : List ℕ) (parts : List (List ℕ)) (rest : List ℕ) (n : ℕ) (o : Option (List ℕ × List ℕ)) (go : List ℕ × List ℕ → Result (PartsModel × List ℕ) SymbolFault)
    → text ≢ [] → BeginsWithParts text parts rest → length parts ≡ n → n < 4 → delimited_prefix 32 rest ≡ o
    → ((x : List ℕ × List ℕ) → IsPackagePart x.0 → BeginsWithParts text (parts ++ x.0 ∷ []) x.1 → ArePartsOf text (go x))
    → ArePartsOf text (ok_or o (faults.BadPart n) >>= go)
with_part text parts rest n None go some h count few e then = part_lacks text parts rest n some h count few e
with_part text parts rest n (Some x) go some h count few e then = let m = part_more text parts rest x h e in then x m.0 m.1

abbrev as_meant : List ℕ × List ℕ → Result (List ℕ × List ℕ) SymbolFault
as_meant x = Ok (part_from_text x.0, x.1)

with_optional : (text : List ℕ) (parts : List (List ℕ)) (rest : List ℕ) (n : ℕ) (o : Option (List ℕ × List ℕ)) (go : List ℕ × List ℕ → Result (PartsModel × List ℕ) SymbolFault)
    → text ≢ [] → BeginsWithParts text parts rest → length parts ≡ n → n < 4 → delimited_prefix 32 rest ≡ o
    → ((x : List ℕ × List ℕ) → IsPackagePart x.0 → BeginsWithParts text (parts ++ x.0 ∷ []) x.1 → ArePartsOf text (go (part_from_text x.0, x.1)))
    → ArePartsOf text ((ok_or o (faults.BadPart n) >>= as_meant) >>= go)
with_optional text parts rest n None go some h count few e then = part_lacks text parts rest n some h count few e
with_optional text parts rest n (Some x) go some h count few e then = let m = part_more text parts rest x h e in then x m.0 m.1

pub parts_of : (text : List ℕ) → IsPackagePart text → (BeginsLocal text → ⊥) → ArePartsOf text (parts_at text)
unfolding parts_at optional_part_at first_part_at
parts_of text p not_local =
    let some = part_some text p in
    with_part text [] text 0 (delimited_prefix 32 text) _ some (first_parts text p not_local) refl (omega arith) refl (λ s is_s hs.
    with_optional text (s.0 ∷ []) s.1 1 (delimited_prefix 32 s.1) _ some hs refl (omega arith) refl (λ m is_m hm.
    with_optional text (s.0 ∷ m.0 ∷ []) m.1 2 (delimited_prefix 32 m.1) _ some hm refl (omega arith) refl (λ k is_k hk.
    with_optional text (s.0 ∷ m.0 ∷ k.0 ∷ []) k.1 3 (delimited_prefix 32 k.1) _ some hk refl (omega arith) refl (λ v is_v hv.
    record {
      scheme_is = is_s;
      manager_is = meant_is m.0 is_m;
      package_is = meant_is k.0 is_k;
      version_is = meant_is v.0 is_v;
      has_parts = rw (meant_shown m.0 is_m, meant_shown k.0 is_k, meant_shown v.0 is_v) hv;
    }))))

pub parts_ok : (text : List ℕ) (x : PartsModel × List ℕ) → IsPackagePart text → (BeginsLocal text → ⊥) → parts_at text ≡ Ok x → ArePartsRead text x
parts_ok text x p n e = subst (ArePartsOf text) e (parts_of text p n)

pub parts_err : (text : List ℕ) (fault : SymbolFault) → IsPackagePart text → (BeginsLocal text → ⊥) → parts_at text ≡ Err fault → IsReadError text fault
parts_err text fault p n e = subst (ArePartsOf text) e (parts_of text p n)
