-- The outcomes that the first bytes of a string allow.
use Rattle.std.proofs.Common.{◌≡◌, ◌≢◌, ◌⊎◌, ℕ, zero, suc, ◌<◌, true, List, [], ◌∷◌, ◌++◌, codes, length, Option, Some, None, refl, sym, ap, subst, ◌∙◌, inl, inr, arith, append_assoc}
use Rattle.std.specs.Prelude.{◌==◌, if◌then◌else◌}
use Rattle.std.specs.List.{flat_map, AllByRecursion}
use Rattle.std.proofs.lemmas.Bool.{eq-eqb, ne_eqb, eqb-true}
use Rattle.scip_symbol.specs.Bytes.{doubled, IsNotFirst, IsUnended}
use Rattle.scip_symbol.specs.SymbolTexts.{IsPackagePart, ended_part, BeginsLocal}
use Rattle.scip_symbol.specs.Outcomes.{begins_with_space, BeginsWithParts}
use Rattle.scip_symbol.specs.Reading.{after_bytes, delimited_prefix}
use Rattle.scip_symbol.proofs.TextCuts.{after_bytes-again, none_after_word}
use Rattle.scip_symbol.proofs.Ends.{ended-again, unended-none}

pub data Start : Type 0 where
  Nothing : Start
  LocalId : List ℕ → Start
  LocalWord : Start
  Space : Start
  Lacks : ℕ → Start
  Four : List (List ℕ) → List ℕ → Start

-- at most this many parts at the start, and what follows them
abbrev taken_by : Option (List ℕ × List ℕ) → List ℕ → (List ℕ → List (List ℕ) × List ℕ) → List (List ℕ) × List ℕ
taken_by None text more = ([], text)
taken_by (Some x) text more = (x.0 ∷ (more x.1).0, (more x.1).1)

taken : ℕ → List ℕ → List (List ℕ) × List ℕ
taken zero text = ([], text)
taken (suc n) text = taken_by (delimited_prefix 32 text) text (λ rest. taken n rest)

by_parts : List (List ℕ) × List ℕ → Start
by_parts x = if length x.0 == 4 then Four x.0 x.1 else Lacks (length x.0)

by_space : List ℕ → Start
by_space [] = Nothing
by_space (b ∷ text) = if b == 32 then Space else by_parts (taken 4 (b ∷ text))

by_local : Option (List ℕ) → Option (List ℕ) → List ℕ → Start
by_local (Some id) o text = LocalId id
by_local None (Some rest) text = LocalWord
by_local None None text = by_space text

pub start_of : List ℕ → Start
start_of text = by_local (after_bytes (codes "local ") text) (after_bytes (codes "local") text) text

-- ---- a sequence of parts

not_first : (parts : List (List ℕ)) (rest : List ℕ) → AllByRecursion IsPackagePart parts → IsNotFirst 32 rest → IsNotFirst 32 (flat_map ended_part parts ++ rest)
not_first [] rest a h = h
not_first ([] ∷ parts) rest a h = absurd a.0
not_first ((b ∷ part) ∷ parts) rest a h = rw (ne_eqb b 32 a.0) a.0

taken_is : (n : ℕ) (parts : List (List ℕ)) (rest : List ℕ) → AllByRecursion IsPackagePart parts → IsNotFirst 32 rest → (length parts ≡ n) ⊎ ((length parts < n) × IsUnended 32 rest) → taken n (flat_map ended_part parts ++ rest) ≡ (parts, rest)
unfolding taken
taken_is zero [] rest a h count = refl
taken_is zero (p ∷ parts) rest a h (inl e) = absurd (omega arith)
taken_is zero (p ∷ parts) rest a h (inr u) = absurd (omega arith)
taken_is (suc n) [] rest a h (inl e) = absurd (omega arith)
taken_is (suc n) [] rest a h (inr u) = ap (λ (o : Option (List ℕ × List ℕ)). taken_by o rest (λ t. taken n t)) (unended-none 32 rest u.1)
taken_is (suc n) (p ∷ parts) rest a h count =
    let split : flat_map ended_part (p ∷ parts) ++ rest ≡ doubled 32 p ++ 32 ∷ (flat_map ended_part parts ++ rest) =
    append_assoc (ended_part p) (flat_map ended_part parts) rest ∙ append_assoc (doubled 32 p) (32 ∷ []) (flat_map ended_part parts ++ rest) in
    let one = ended-again 32 p (flat_map ended_part parts ++ rest) (not_first parts rest a.1 h) in
    let more = taken_is n parts rest a.1 h (elim count [ inl e ↦ inl (omega arith) | inr u ↦ inr (omega arith, u.1) ]) in
    ap (taken (suc n)) split
    ∙ ap (λ (o : Option (List ℕ × List ℕ)). taken_by o (doubled 32 p ++ 32 ∷ (flat_map ended_part parts ++ rest)) (λ t. taken n t)) one
    ∙ ap (λ (x : List (List ℕ) × List ℕ). (p ∷ x.0, x.1)) more

-- ---- each start

pub starts_local : (id : List ℕ) → start_of (codes "local " ++ id) ≡ LocalId id
unfolding start_of by_local
starts_local id = refl

pub starts_word : (text : List ℕ) → BeginsLocal text → ((id : List ℕ) → text ≢ codes "local " ++ id) → start_of text ≡ LocalWord
unfolding start_of by_local
starts_word text b h =
    let word : after_bytes (codes "local") text ≡ Some b.0 = ap (after_bytes (codes "local")) b.1 ∙ after_bytes-again (codes "local") b.0 in
    let none : after_bytes (codes "local ") text ≡ None = sym (none_after_word (codes "local ") text h) in
    rw (none, word) refl

pub starts_space : (text : List ℕ) → begins_with_space text ≡ true → start_of text ≡ Space
unfolding start_of by_local by_space
starts_space [] e = absurd cc
starts_space (b ∷ text) e = subst (λ (x : ℕ). start_of (x ∷ text) ≡ Space) (sym (eqb-true b 32 e)) refl

pub starts_nothing : start_of [] ≡ Nothing
unfolding start_of by_local by_space
starts_nothing = refl

local_longer : (text id : List ℕ) → text ≡ codes "local " ++ id → BeginsLocal text
local_longer text id e = (32 ∷ id, e)

starts_parts : (text : List ℕ) (parts : List (List ℕ)) (rest : List ℕ) → text ≢ [] → BeginsWithParts text parts rest → start_of text ≡ by_parts (taken 4 text)
unfolding start_of by_local by_space
starts_parts text parts rest some h =
    let none : after_bytes (codes "local ") text ≡ None = sym (none_after_word (codes "local ") text (λ id e. h.not_local (local_longer text id e))) in
    let word : after_bytes (codes "local") text ≡ None = sym (none_after_word (codes "local") text (λ r e. h.not_local (r, e))) in
    rw (none, word) (go text some (subst (λ (t : List ℕ). IsNotFirst 32 t) (sym h.whole) (not_first parts rest h.each h.next)))
  where
    go : (text : List ℕ) → text ≢ [] → IsNotFirst 32 text → by_space text ≡ by_parts (taken 4 text)
    go [] some n = absurd (some refl)
    go (b ∷ text) some n = rw (ne_eqb b 32 n) refl

pub starts_four : (text : List ℕ) (parts : List (List ℕ)) (rest : List ℕ) → text ≢ [] → BeginsWithParts text parts rest → length parts ≡ 4 → start_of text ≡ Four parts rest
unfolding by_parts
starts_four text parts rest some h n =
    starts_parts text parts rest some h ∙ ap by_parts (ap (taken 4) h.whole ∙ taken_is 4 parts rest h.each h.next (inl n)) ∙ rw (eq-eqb (length parts) 4 n) refl

pub starts_lacking : (text : List ℕ) (parts : List (List ℕ)) (rest : List ℕ) → text ≢ [] → BeginsWithParts text parts rest → length parts < 4 → IsUnended 32 rest → start_of text ≡ Lacks (length parts)
unfolding by_parts
starts_lacking text parts rest some h n u =
    starts_parts text parts rest some h ∙ ap by_parts (ap (taken 4) h.whole ∙ taken_is 4 parts rest h.each h.next (inr (n, u))) ∙ rw (ne_eqb (length parts) 4 (omega arith)) refl
