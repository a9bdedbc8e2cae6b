-- Every string has an outcome of reading.
use Rattle.std.proofs.Common.{◌≡◌, ◌≢◌, ℕ, zero, suc, ◌<◌, ◌≤◌, ◌-◌, List, [], ◌∷◌, ◌++◌, codes, length, Option, Some, None, Result, Ok, Err, refl, sym, ap, ◌∙◌, inl, inr, arith, append_assoc}
use Rattle.std.proofs.lemmas.Bool.{cases_eq, eq-eqb}
use Rattle.scip_symbol.specs.declared.fault.SymbolFault.{SymbolFault}
use Rattle.scip_symbol.specs.declared.fault.SymbolFault.TheVariants as faults
use Rattle.scip_symbol.specs.SymbolTexts.{DescriptorModel, SymbolModel, DescriptorText, IsPackagePart, BeginsLocal}
use Rattle.scip_symbol.specs.Outcomes.{IsReadOutcome}
use Rattle.scip_symbol.specs.Reading.{after_bytes, descriptor_at, IsDescriptorsOutcome, PartsModel, parts_at, local_symbol_of}
use Rattle.scip_symbol.proofs.TextCuts.{after_bytes_some, not_word}
use Rattle.scip_symbol.proofs.DescriptorLaws.{read_of, descriptor_shortens}
use Rattle.scip_symbol.proofs.PartLaws.{ArePartsRead, parts_ok, parts_err}
use Rattle.scip_symbol.proofs.GlobalLaws.{global_of, global_text, nothing_behind, wrong_refused}
use Rattle.scip_symbol.proofs.LocalLaws.{local_read}

-- ---- descriptors

abbrev SomeRow : ℕ → List ℕ → Type 0
SomeRow whole text = (o : Result (List DescriptorModel) SymbolFault) × IsDescriptorsOutcome whole text o

row_more : (whole : ℕ) (text first rest : List ℕ) (d : DescriptorModel) (o : Result (List DescriptorModel) SymbolFault) → DescriptorText d first → text ≡ first ++ rest → IsDescriptorsOutcome whole rest o → SomeRow whole text
row_more whole text first rest d (Ok ds) t e i = (Ok (d ∷ ds), (first, rest, t, i, e))
row_more whole text first rest d (Err fault) t e w = (
  Err fault,
  record {
    descriptors = d ∷ w.descriptors;
    front = first ++ w.front;
    rest = w.rest;
    front_is = (first, w.front, t, w.front_is, refl);
    split = e ∙ ap (λ (xs : List ℕ). first ++ xs) w.split ∙ sym (append_assoc first w.front w.rest);
    some = w.some;
    answer = w.answer;
  },
)

row_step : (whole : ℕ) (text : List ℕ) → text ≢ [] → ((rest : List ℕ) → length rest < length text → SomeRow whole rest) → SomeRow whole text
row_step whole text some again = go (descriptor_at (whole - length text) text) refl
  where
    go : (o : Result (DescriptorModel × List ℕ) SymbolFault) → descriptor_at (whole - length text) text ≡ o → SomeRow whole text
    go (Err fault) e = (Err fault, record { descriptors = []; front = []; rest = text; front_is = refl; split = refl; some = some; answer = e })
    go (Ok x) e =
        let r = read_of (whole - length text) text x e in
        let more = again x.1 (descriptor_shortens (whole - length text) text x.0 x.1 e) in
        row_more whole text r.first x.1 x.0 more.0 r.first_is r.split more.1

some_row : (n whole : ℕ) (text : List ℕ) → length text ≤ n → SomeRow whole text
some_row n whole [] le = (Ok [], refl)
some_row zero whole (b ∷ text) le = absurd (omega arith)
some_row (suc n) whole (b ∷ text) le = row_step whole (b ∷ text) (λ e. absurd cc) (λ rest shorter. some_row n whole rest (omega arith))

-- ---- strings

abbrev SomeOutcome : List ℕ → Type 0
SomeOutcome text = (o : Result SymbolModel SymbolFault) × IsReadOutcome text o

behind_parts : (text : List ℕ) (x : PartsModel) (rest : List ℕ) → ArePartsRead text (x, rest) → SomeRow (length text) rest → SomeOutcome text
behind_parts text x [] r row = (Err faults.Empty, nothing_behind text (x, []) r refl)
behind_parts text x (b ∷ rest) r row = go row.0 row.1
  where
    go : (o : Result (List DescriptorModel) SymbolFault) → IsDescriptorsOutcome (length text) (b ∷ rest) o → SomeOutcome text
    go (Ok ds) i = (Ok (global_of x ds), global_text text (x, b ∷ rest) ds r (λ e. absurd cc) i)
    go (Err fault) w = (Err fault, wrong_refused text (x, b ∷ rest) fault r w)

some_global : (text : List ℕ) → IsPackagePart text → (BeginsLocal text → ⊥) → SomeOutcome text
some_global text p n = go (parts_at text) refl
  where
    go : (o : Result (PartsModel × List ℕ) SymbolFault) → parts_at text ≡ o → SomeOutcome text
    go (Ok x) e = behind_parts text x.0 x.1 (parts_ok text x p n e) (some_row (length x.1) (length text) x.1 (omega arith))
    go (Err fault) e = (Err fault, parts_err text fault p n e)

by_words : (text : List ℕ) (o p : Option (List ℕ)) → after_bytes (codes "local ") text ≡ o → after_bytes (codes "local") text ≡ p → SomeOutcome text
by_words text (Some id) p e f = (local_symbol_of id, local_read text id e)
by_words text None (Some rest) e f = (Err faults.LocalScheme, ((rest, after_bytes_some (codes "local") text rest f), not_word (codes "local ") text e))
by_words [] None None e f = (Err faults.Empty, inl refl)
by_words (b ∷ text) None None e f =
    elim (cases_eq b 32) [
      | inl s ↦ (Err (faults.BadPart 0), record { some = λ h. absurd cc; wrong = inl (eq-eqb b 32 s, refl) })
      | inr ne ↦ some_global (b ∷ text) ne (λ l. not_word (codes "local") (b ∷ text) f l.0 l.1)
    ]

pub some_outcome : (text : List ℕ) → (o : Result SymbolModel SymbolFault) × IsReadOutcome text o
some_outcome text = by_words text (after_bytes (codes "local ") text) (after_bytes (codes "local") text) refl refl
