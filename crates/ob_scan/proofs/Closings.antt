-- Counting brackets finds the end of a comment.
use Rattle.std.proofs.Common.{◌≡◌, ℕ, zero, suc, ◌≤◌, true, false, ◌&&◌, ◌||◌, eqb, List, [], ◌∷◌, length, Some, None, refl, ap, ◌∙◌, inl, inr, arith}
use Rattle.std.proofs.lemmas.Bool.{cases_Bool, and_parts, or_parts, or_from, eqb-true}
use Rattle.ob_scan.specs.Comments.{begins_comment, ends_comment, Closes, closed, nested, other}
use Rattle.ob_scan.specs.Lexemes.{after_comment}

-- this many comments are closed, and then this rest follows
data ClosesAll : ℕ → List ℕ → List ℕ → Type 0 where
  none : {bs : List ℕ} → ClosesAll zero bs bs
  more : {n : ℕ} {bs after rest : List ℕ} → Closes bs after → ClosesAll n after rest → ClosesAll (suc n) bs rest

one : {bs rest : List ℕ} → ClosesAll (suc zero) bs rest → Closes bs rest
one (more c none) = c

on_nested : {n : ℕ} {bs rest : List ℕ} (b c : ℕ) → b ≡ 40 → c ≡ 42 → ClosesAll (suc (suc n)) bs rest → ClosesAll (suc n) (b ∷ c ∷ bs) rest
on_nested b c p q (more x (more y r)) = more (nested (rw (p, q) refl) x y) r

on_other : {n : ℕ} {b : ℕ} {bs rest : List ℕ} → begins_comment (b ∷ bs) || ends_comment (b ∷ bs) ≡ false → ClosesAll (suc n) bs rest → ClosesAll (suc n) (b ∷ bs) rest
on_other e (more x r) = more (other refl e x) r

found : (n : ℕ) (bs rest : List ℕ) → after_comment n bs ≡ Some rest → ClosesAll n bs rest
found zero bs rest e = let same : bs ≡ rest = cc in rw same none
found (suc n) [] rest e = absurd cc
found (suc n) (b ∷ []) rest e = absurd cc
found (suc n) (b ∷ c ∷ bs) rest e =
    elim (cases_Bool (eqb b 40 && eqb c 42)) [
      | inl opens ↦
          let p = and_parts _ _ opens in
          on_nested b c (eqb-true b 40 p.0) (eqb-true c 42 p.1) (found (suc (suc n)) bs rest (rw opens at e))
      | inr differs ↦
          elim (cases_Bool (eqb b 42 && eqb c 41)) [
            | inl closes ↦
                let p = and_parts _ _ closes in
                let same : b ∷ c ∷ bs ≡ 42 ∷ 41 ∷ bs = rw (eqb-true b 42 p.0, eqb-true c 41 p.1) refl in
                more (closed same) (found n bs rest (rw (differs, closes) at e))
            | inr neither ↦ on_other (or_from _ _ differs neither) (found (suc n) (c ∷ bs) rest (rw (differs, neither) at e))
          ]
    ]

-- if this many brackets are open and one comment is closed, one fewer is open after it
counted : {bs rest : List ℕ} → Closes bs rest → (n : ℕ) → after_comment (suc n) bs ≡ after_comment n rest
counted (closed e) n = rw e refl
counted (nested e x y) n = rw e (counted x (suc n) ∙ counted y n)
counted {bs} {rest} (other {after = after} {b = b} e unmarked x) n = ap (after_comment (suc n)) e ∙ skip after (rw e at unmarked) x ∙ counted x n
  where
    skip : (after : List ℕ) → begins_comment (b ∷ after) || ends_comment (b ∷ after) ≡ false → Closes after rest → after_comment (suc n) (b ∷ after) ≡ after_comment (suc n) after
    skip [] u x = refl
    skip (c ∷ after) u x = let p : (eqb b 40 && eqb c 42 ≡ false) × (eqb b 42 && eqb c 41 ≡ false) = or_parts _ _ u in rw (p.0, p.1) refl

-- the end that is found is the comment's
pub closes_from : (bs rest : List ℕ) → after_comment 1 bs ≡ Some rest → Closes bs rest
closes_from bs rest e = one (found (suc zero) bs rest e)

pub closes_is : (bs rest : List ℕ) → Closes bs rest → after_comment 1 bs ≡ Some rest
closes_is bs rest c = counted c 0

-- if none is found, there is none
pub closes_none : (bs : List ℕ) → after_comment 1 bs ≡ None → (rest : List ℕ) → Closes bs rest → ⊥
closes_none bs e rest c = let f = closes_is bs rest c in cc

pub one_close : (bs r s : List ℕ) → Closes bs r → Closes bs s → r ≡ s
one_close bs r s c d = let e = closes_is bs r c in let f = closes_is bs s d in cc

pub comment_long : (bs : List ℕ) → begins_comment bs ≡ true → 2 ≤ length bs
comment_long [] e = absurd cc
comment_long (b ∷ []) e = absurd cc
comment_long (b ∷ c ∷ bs) e = omega arith
