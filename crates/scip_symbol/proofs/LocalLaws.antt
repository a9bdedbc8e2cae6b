-- The ids of local symbols.
use Rattle.std.proofs.Common.{◌≡◌, ℕ, ◌+◌, true, false, List, [], ◌∷◌, ◌++◌, codes, length, Some, Ok, Err, refl, sym, ap, subst, ◌∙◌, inl, inr}
use Rattle.std.proofs.lemmas.List.{append-nil}
use Rattle.scip_symbol.specs.declared.fault.SymbolFault.TheVariants as faults
use Rattle.scip_symbol.specs.SymbolTexts.{is_simple, are_simple, Local, IsSimple}
use Rattle.scip_symbol.specs.Outcomes.{IsReadOutcome}
use Rattle.scip_symbol.specs.Reading.{after_bytes, simple_prefix, local_by, local_symbol_of}
use Rattle.scip_symbol.proofs.TextCuts.{after_bytes_some}
use Rattle.scip_symbol.proofs.Names.{EndsSimple, front_joins, front_simple, front_ends, front-again}

pub local_is : (id : List ℕ) → IsReadOutcome (codes "local " ++ id) (local_symbol_of id)
unfolding local_symbol_of
local_is [] = inr (inl refl)
local_is (b ∷ id) = by_rest (simple_prefix (b ∷ id)).1 refl
  where
    by_rest : (rest : List ℕ) → (simple_prefix (b ∷ id)).1 ≡ rest → IsReadOutcome (codes "local " ++ b ∷ id) (local_by (b ∷ id) rest)
    by_rest [] e =
        let whole : b ∷ id ≡ (simple_prefix (b ∷ id)).0 = front_joins (b ∷ id) ∙ ap (λ (t : List ℕ). (simple_prefix (b ∷ id)).0 ++ t) e ∙ append-nil (simple_prefix (b ∷ id)).0 in
        (record { some = λ s. absurd cc; simple = subst (λ (t : List ℕ). are_simple t ≡ true) (sym whole) (front_simple (b ∷ id)) }, refl)
    by_rest (c ∷ rest) e =
        let ends : EndsSimple (c ∷ rest) = subst EndsSimple e (front_ends (b ∷ id)) in
        inl (record {
          front = (simple_prefix (b ∷ id)).0;
          b = c;
          others = rest;
          whole = ap (λ (t : List ℕ). codes "local " ++ t) (front_joins (b ∷ id) ∙ ap (λ (t : List ℕ). (simple_prefix (b ∷ id)).0 ++ t) e);
          simple = front_simple (b ∷ id);
          wrong = ends;
          offset = refl;
        })

pub local_read : (text id : List ℕ) → after_bytes (codes "local ") text ≡ Some id → IsReadOutcome text (local_symbol_of id)
local_read text id e = subst (λ (t : List ℕ). IsReadOutcome t (local_symbol_of id)) (sym (after_bytes_some (codes "local ") text id e)) (local_is id)

-- an id of identifier characters, and an id with another byte
pub local_ok : (id : List ℕ) → IsSimple id → local_symbol_of id ≡ Ok (Local id)
unfolding local_symbol_of
local_ok [] s = absurd (s.some refl)
local_ok (b ∷ id) s =
    let e : simple_prefix (b ∷ id) ≡ (b ∷ id, []) = ap simple_prefix (sym (append-nil (b ∷ id))) ∙ front-again (b ∷ id) [] s.simple tt in
    rw e refl

bad_by : (id front : List ℕ) (b : ℕ) (others : List ℕ) → simple_prefix id ≡ (front, b ∷ others) → local_by id (simple_prefix id).1 ≡ Err (faults.BadDescriptor (6 + length front))
bad_by id front b others e =
    let stops : local_by id (simple_prefix id).1 ≡ local_by id (b ∷ others) = ap (λ (x : List ℕ × List ℕ). local_by id x.1) e in
    let offset : local_by id (b ∷ others) ≡ Err (faults.BadDescriptor (6 + length front)) = ap (λ (x : List ℕ × List ℕ). Err (faults.BadDescriptor (6 + length x.0))) e in
    stops ∙ offset

pub local_bad : (front : List ℕ) (b : ℕ) (others : List ℕ) → are_simple front ≡ true → is_simple b ≡ false → local_symbol_of (front ++ b ∷ others) ≡ Err (faults.BadDescriptor (6 + length front))
unfolding local_symbol_of
local_bad [] b others s w = bad_by (b ∷ others) [] b others (front-again [] (b ∷ others) refl w)
local_bad (x ∷ front) b others s w = bad_by (x ∷ front ++ b ∷ others) (x ∷ front) b others (front-again (x ∷ front) (b ∷ others) s w)

pub local_none : local_symbol_of [] ≡ Err faults.Empty
unfolding local_symbol_of
local_none = refl
