-- A string has one outcome of reading.
use Rattle.std.proofs.Common.{◌≡◌, ◌≢◌, ◌⊎◌, ℕ, ◌<◌, ◌-◌, true, eqb, List, [], ◌∷◌, ◌++◌, codes, length, Result, Ok, Err, refl, sym, ap, subst, ◌∙◌, inl, inr, arith, append_assoc, length-append}
use Rattle.std.specs.Prelude.{unwrap_or, not}
use Rattle.std.specs.List.{slice_get, flat_map, list_all}
use Rattle.std.proofs.lemmas.Bool.{cases_eq, ne_eqb, eq-eqb, and_parts}
use Rattle.std.proofs.lemmas.List.{append-nil}
use Rattle.scip_symbol.specs.declared.fault.SymbolFault.{SymbolFault}
use Rattle.scip_symbol.specs.declared.fault.SymbolFault.TheVariants as faults
use Rattle.scip_symbol.specs.Bytes.{doubled}
use Rattle.scip_symbol.specs.SymbolTexts.{DescriptorModel, SymbolModel, Local, Global, before_name, DescriptorTexts, part_shown, ended_part, shown_parts, parts_text, GlobalText, SymbolText}
use Rattle.scip_symbol.specs.Outcomes.{begins_with_space, BeginsWithParts, LacksPart, IsBadPart, HasDescriptorPrefix, HasOpenQuote, HasNoDescriptor, IsReadError, IsReadOutcome}
use Rattle.scip_symbol.specs.Reading.{local_symbol_of, part_from_text, descriptor_at, IsFirstWrong}
use Rattle.scip_symbol.proofs.Answered.{err_same}
use Rattle.scip_symbol.proofs.PartLaws.{shown_is_part, shown_meant}
use Rattle.scip_symbol.proofs.DescriptorLaws.{IsWrong, read_of, descriptor_open, descriptor_fails}
use Rattle.scip_symbol.proofs.GlobalLaws.{no_descriptor}
use Rattle.scip_symbol.proofs.LocalLaws.{local_ok, local_bad, local_none}
use Rattle.scip_symbol.proofs.OneRow.{nothing_begins, row_once, row_first}
use Rattle.scip_symbol.proofs.Starts.{Start, Nothing, LocalId, LocalWord, Space, Lacks, Four, start_of, starts_local, starts_word, starts_space, starts_nothing, starts_four, starts_lacking}

-- ---- the outcomes that each start allows

abbrev read_part : ℕ → List (List ℕ) → List ℕ
read_part number parts = unwrap_or (slice_get parts number) []

abbrev global_by : List (List ℕ) → List DescriptorModel → SymbolModel
global_by parts ds = Global (read_part 0 parts) (part_from_text (read_part 1 parts)) (part_from_text (read_part 2 parts)) (part_from_text (read_part 3 parts)) ds

record IsGlobalBy (parts : List (List ℕ)) (rest : List ℕ) (s : SymbolModel) : Type 0 where
  descriptors : List DescriptorModel
  row : DescriptorTexts descriptors rest
  some : descriptors ≢ []
  same : s ≡ global_by parts descriptors

abbrev IsFourOutcome : ℕ → List (List ℕ) → List ℕ → Result SymbolModel SymbolFault → Type 0
IsFourOutcome whole parts rest (Ok s) = IsGlobalBy parts rest s
IsFourOutcome whole parts rest (Err fault) = ((rest ≡ []) × (fault ≡ faults.Empty)) ⊎ IsFirstWrong whole rest fault

abbrev IsOutcomeFrom : ℕ → Start → Result SymbolModel SymbolFault → Type 0
IsOutcomeFrom whole Nothing o = o ≡ Err faults.Empty
IsOutcomeFrom whole (LocalId id) o = o ≡ local_symbol_of id
IsOutcomeFrom whole LocalWord o = o ≡ Err faults.LocalScheme
IsOutcomeFrom whole Space o = o ≡ Err (faults.BadPart 0)
IsOutcomeFrom whole (Lacks n) o = o ≡ Err (faults.BadPart n)
IsOutcomeFrom whole (Four parts rest) o = IsFourOutcome whole parts rest o

-- ---- the outcome is unique

wrong_stuck : (whole : ℕ) (rest : List ℕ) (fault : SymbolFault) → (w : IsFirstWrong whole rest fault) → HasNoDescriptor w.rest
wrong_stuck whole rest fault w = no_descriptor (whole - length w.rest) w.rest fault w.answer

all_or_wrong : (whole : ℕ) (rest : List ℕ) (ds : List DescriptorModel) (fault : SymbolFault) → DescriptorTexts ds rest → IsFirstWrong whole rest fault → ⊥
all_or_wrong whole rest ds fault t w =
    let once = row_once ds w.descriptors rest w.front [] w.rest t w.front_is (append-nil rest ∙ w.split) nothing_begins (wrong_stuck whole rest fault w) in
    w.some (sym once.1)

row_empty : (ds : List DescriptorModel) (rest : List ℕ) → DescriptorTexts ds rest → rest ≡ [] → ds ≡ []
row_empty ds rest t e = (row_once ds [] rest [] [] [] t refl (append-nil rest ∙ e) nothing_begins nothing_begins).0

wrong_once : (whole : ℕ) (rest : List ℕ) (e f : SymbolFault) → IsFirstWrong whole rest e → IsFirstWrong whole rest f → e ≡ f
wrong_once whole rest e f v w =
    let once = row_once v.descriptors w.descriptors v.front w.front v.rest w.rest v.front_is w.front_is (sym v.split ∙ w.split) (wrong_stuck whole rest e v) (wrong_stuck whole rest f w) in
    err_same e f (sym v.answer ∙ ap (λ (r : List ℕ). descriptor_at (whole - length r) r) once.1 ∙ w.answer)

wrong_some : (whole : ℕ) (rest : List ℕ) (fault : SymbolFault) → IsFirstWrong whole rest fault → rest ≡ [] → ⊥
wrong_some whole rest fault w e = all_or_wrong whole rest [] fault e w

four_once : (whole : ℕ) (parts : List (List ℕ)) (rest : List ℕ) (o p : Result SymbolModel SymbolFault) → IsFourOutcome whole parts rest o → IsFourOutcome whole parts rest p → o ≡ p
four_once whole parts rest (Ok s) (Ok t) i k =
    let once = row_once i.descriptors k.descriptors rest rest [] [] i.row k.row refl nothing_begins nothing_begins in
    let same : s ≡ t = i.same ∙ ap (global_by parts) once.0 ∙ sym k.same in
    ap (λ (x : SymbolModel). Ok x) same
four_once whole parts rest (Ok s) (Err e) i (inl k) = absurd (i.some (row_empty i.descriptors rest i.row k.0))
four_once whole parts rest (Ok s) (Err e) i (inr w) = absurd (all_or_wrong whole rest i.descriptors e i.row w)
four_once whole parts rest (Err e) (Ok s) (inl k) i = absurd (i.some (row_empty i.descriptors rest i.row k.0))
four_once whole parts rest (Err e) (Ok s) (inr w) i = absurd (all_or_wrong whole rest i.descriptors e i.row w)
four_once whole parts rest (Err e) (Err f) (inl i) (inl k) = ap (λ (x : SymbolFault). Err x) (i.1 ∙ sym k.1)
four_once whole parts rest (Err e) (Err f) (inl i) (inr w) = absurd (wrong_some whole rest f w i.0)
four_once whole parts rest (Err e) (Err f) (inr w) (inl k) = absurd (wrong_some whole rest e w k.0)
four_once whole parts rest (Err e) (Err f) (inr v) (inr w) = ap (λ (x : SymbolFault). Err x) (wrong_once whole rest e f v w)

once : (whole : ℕ) (start : Start) (o p : Result SymbolModel SymbolFault) → IsOutcomeFrom whole start o → IsOutcomeFrom whole start p → o ≡ p
once whole Nothing o p i k = i ∙ sym k
once whole (LocalId id) o p i k = i ∙ sym k
once whole LocalWord o p i k = i ∙ sym k
once whole Space o p i k = i ∙ sym k
once whole (Lacks n) o p i k = i ∙ sym k
once whole (Four parts rest) o p i k = four_once whole parts rest o p i k

-- ---- from the string

from_start : (text : List ℕ) (start : Start) (o : Result SymbolModel SymbolFault) → start_of text ≡ start → IsOutcomeFrom (length text) start o → IsOutcomeFrom (length text) (start_of text) o
from_start text start o e i = subst (λ (s : Start). IsOutcomeFrom (length text) s o) (sym e) i

begins_more : (w b : ℕ) (word scheme : List ℕ) → b ≡ w → (others : List ℕ) × (scheme ≡ word ++ others) → (others : List ℕ) × (b ∷ scheme ≡ w ∷ (word ++ others))
begins_more w b word scheme same i = (i.0, ap (λ (x : ℕ). x ∷ scheme) same ∙ ap (λ (xs : List ℕ). w ∷ xs) i.1)

-- a word without spaces is a prefix of a scheme exactly if it is a prefix of the string
scheme_begins : (word scheme rest more : List ℕ) → list_all (λ b. not (eqb b 32)) word ≡ true → doubled 32 scheme ++ 32 ∷ rest ≡ word ++ more → (others : List ℕ) × (scheme ≡ word ++ others)
scheme_begins [] scheme rest more n e = (scheme, refl)
scheme_begins (w ∷ word) [] rest more n e =
    let same : 32 ≡ w = cc in
    let p = and_parts (not (eqb w 32)) (list_all (λ b. not (eqb b 32)) word) n in
    absurd (let k = rw (eq-eqb w 32 (sym same)) at p.0 in cc)
scheme_begins (w ∷ word) (b ∷ scheme) rest more n e =
    let p = and_parts (not (eqb w 32)) (list_all (λ b. not (eqb b 32)) word) n in
    elim (cases_eq b 32) [
      | inl s ↦ let f = rw (eq-eqb b 32 s) at e in
          let same : b ≡ w = cc in
          absurd (let k = rw (eq-eqb w 32 (sym same ∙ s)) at p.0 in cc)
      | inr ne ↦ let f = rw (ne_eqb b 32 ne) at e in
          let same : b ≡ w = cc in
          let more_same : doubled 32 scheme ++ 32 ∷ rest ≡ word ++ more = cc in
          begins_more w b word scheme same (scheme_begins word scheme rest more p.1 more_same)
    ]

has_parts : (scheme manager package_name version text : List ℕ) (ds : List DescriptorModel) → (g : GlobalText scheme manager package_name version ds text) → BeginsWithParts text (shown_parts scheme manager package_name version) g.rest
has_parts scheme m p v text ds g = record {
  not_local = λ b. g.not_local (scheme_begins (codes "local") scheme (flat_map ended_part (part_shown m ∷ part_shown p ∷ part_shown v ∷ []) ++ g.rest) b.0 refl (split ∙ sym g.whole ∙ b.1));
  each = (g.scheme_is, (shown_is_part m g.manager_is, (shown_is_part p g.package_is, (shown_is_part v g.version_is, tt))));
  whole = g.whole;
  next = row_first ds g.rest g.rest_is;
}
  where
    behind : List ℕ
    behind = flat_map ended_part (part_shown m ∷ part_shown p ∷ part_shown v ∷ [])

    split : doubled 32 scheme ++ 32 ∷ (behind ++ g.rest) ≡ parts_text scheme m p v ++ g.rest
    split = sym (append_assoc (ended_part scheme) behind g.rest ∙ append_assoc (doubled 32 scheme) (32 ∷ []) (behind ++ g.rest))

parts_some : (text : List ℕ) (parts : List (List ℕ)) (rest : List ℕ) → BeginsWithParts text parts rest → length parts ≡ 4 → text ≢ []
parts_some text [] rest h n = absurd (omega arith)
parts_some text (part ∷ parts) rest h n = λ e.
    absurd (omega (arith, ap length (sym e ∙ h.whole), length-append (ended_part part ++ flat_map ended_part parts) rest, length-append (ended_part part) (flat_map ended_part parts), length-append (doubled 32 part) (32 ∷ [])))

front_place : (text : List ℕ) (at : ℕ) (rest : List ℕ) → HasDescriptorPrefix text at rest → length text - length rest ≡ at
front_place text at rest f = omega (arith, f.offset)

from_front : (text : List ℕ) (at : ℕ) (rest : List ℕ) (fault : SymbolFault) → HasDescriptorPrefix text at rest → rest ≢ [] → descriptor_at at rest ≡ Err fault → IsOutcomeFrom (length text) (start_of text) (Err fault)
from_front text at rest fault f some e =
    from_start text (Four f.parts (f.front ++ rest)) (Err fault) (starts_four text f.parts (f.front ++ rest) (parts_some text f.parts (f.front ++ rest) f.has_parts f.four) f.has_parts f.four)
    (inr (record {
      descriptors = f.descriptors;
      front = f.front;
      rest = rest;
      front_is = f.front_is;
      split = refl;
      some = some;
      answer = ap (λ (n : ℕ). descriptor_at n rest) (front_place text at rest f) ∙ e;
    }))

bad_answer : (at : ℕ) (rest : List ℕ) → HasNoDescriptor rest → (HasOpenQuote rest → ⊥) → descriptor_at at rest ≡ Err (faults.BadDescriptor at)
bad_answer at rest none no_quote = go (descriptor_at at rest) refl
  where
    wrong : (fault : SymbolFault) → IsWrong at rest fault → ◌≡◌ {A = Result (DescriptorModel × List ℕ) SymbolFault} (Err fault) (Err (faults.BadDescriptor at))
    wrong fault (inl e) = ap (λ (x : SymbolFault). Err x) e
    wrong fault (inr q) = absurd (no_quote q.1)

    go : (o : Result (DescriptorModel × List ℕ) SymbolFault) → descriptor_at at rest ≡ o → o ≡ Err (faults.BadDescriptor at)
    go (Ok x) e = let r = read_of at rest x e in absurd (none x.0 r.first x.1 r.first_is r.split)
    go (Err fault) e = wrong fault (descriptor_fails at rest fault e)

quote_some : (rest : List ℕ) → HasOpenQuote rest → rest ≢ []
quote_some rest q = λ e. absurd (omega (arith, ap length (sym e ∙ q.begins), length-append (before_name q.kind) (96 ∷ q.inside)))

from_local : (text id : List ℕ) (o : Result SymbolModel SymbolFault) → text ≡ codes "local " ++ id → o ≡ local_symbol_of id → IsOutcomeFrom (length text) (start_of text) o
from_local text id o e i = from_start text (LocalId id) o (ap start_of e ∙ starts_local id) i

from_symbol : (text : List ℕ) (s : SymbolModel) → SymbolText s text → IsOutcomeFrom (length text) (start_of text) (Ok s)
from_symbol text (Local id) t = from_local text id (Ok (Local id)) t.1 (sym (local_ok id t.0))
from_symbol text (Global scheme m p v ds) g =
    let h = has_parts scheme m p v text ds g in
    from_start text (Four (shown_parts scheme m p v) g.rest) (Ok (Global scheme m p v ds)) (starts_four text (shown_parts scheme m p v) g.rest (parts_some text (shown_parts scheme m p v) g.rest h refl) h refl)
    (record {
      descriptors = ds;
      row = g.rest_is;
      some = g.some;
      same = rw (shown_meant m g.manager_is, shown_meant p g.package_is, shown_meant v g.version_is) refl;
    })

from_bad_part : (text : List ℕ) (part : ℕ) → IsBadPart text part → IsOutcomeFrom (length text) (start_of text) (Err (faults.BadPart part))
from_bad_part text part b = go b.wrong
  where
    go : ((begins_with_space text ≡ true) × (part ≡ 0)) ⊎ LacksPart text part → IsOutcomeFrom (length text) (start_of text) (Err (faults.BadPart part))
    go (inl s) = from_start text Space (Err (faults.BadPart part)) (starts_space text s.0) (ap (λ (n : ℕ). Err (faults.BadPart n)) s.1)
    go (inr l) =
        let few : length l.parts < 4 = omega (arith, l.few, l.count_is) in
        from_start text (Lacks (length l.parts)) (Err (faults.BadPart part)) (starts_lacking text l.parts l.rest b.some l.has_parts few l.unended) (ap (λ (n : ℕ). Err (faults.BadPart n)) (sym l.count_is))

from_refusal : (text : List ℕ) (fault : SymbolFault) → IsReadError text fault → IsOutcomeFrom (length text) (start_of text) (Err fault)
from_refusal text faults.Empty (inl e) = from_start text Nothing (Err faults.Empty) (ap start_of e ∙ starts_nothing) refl
from_refusal text faults.Empty (inr (inl e)) = from_local text [] (Err faults.Empty) e (sym local_none)
from_refusal text faults.Empty (inr (inr h)) =
    from_start text (Four h.0 []) (Err faults.Empty) (starts_four text h.0 [] (parts_some text h.0 [] h.1 h.2) h.1 h.2) (inl (refl, refl))
from_refusal text (faults.BadDescriptor at) (inl b) =
    from_local text (b.front ++ b.b ∷ b.others) (Err (faults.BadDescriptor at)) b.whole (ap (λ (n : ℕ). Err (faults.BadDescriptor n)) b.offset ∙ sym (local_bad b.front b.b b.others b.simple b.wrong))
from_refusal text (faults.BadDescriptor at) (inr b) = from_front text at b.rest (faults.BadDescriptor at) b.front b.some (bad_answer at b.rest b.none b.no_quote)
from_refusal text faults.LocalScheme h = from_start text LocalWord (Err faults.LocalScheme) (starts_word text h.0 h.1) refl
from_refusal text faults.OpenQuote h = from_front text h.0 h.1 faults.OpenQuote h.2 (quote_some h.1 h.3) (descriptor_open h.0 h.1 h.3)
from_refusal text faults.Memory h = absurd h
from_refusal text (faults.BadPart part) h = from_bad_part text part h

from_outcome : (text : List ℕ) (o : Result SymbolModel SymbolFault) → IsReadOutcome text o → IsOutcomeFrom (length text) (start_of text) o
from_outcome text (Ok s) i = from_symbol text s i
from_outcome text (Err fault) i = from_refusal text fault i

pub outcome_once : (text : List ℕ) (o p : Result SymbolModel SymbolFault) → IsReadOutcome text o → IsReadOutcome text p → o ≡ p
outcome_once text o p i k = once (length text) (start_of text) o p (from_outcome text o i) (from_outcome text p k)
