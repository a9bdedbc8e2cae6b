-- One bracket further in a comment.
use Rattle.std.proofs.Common.{◌≡◌, ℕ, zero, suc, ◌+◌, ◌-◌, ◌<◌, ◌≤◌, List, [], ◌∷◌, length, drop, take, Option, Some, refl, sym, ap, ◌∙◌, arith, length-drop}
use Rattle.std.proofs.lemmas.Grind.{common_steps}
use Rattle.ob_scan.specs.declared.comment.CommentBracket.{CommentBracket}
use Rattle.ob_scan.specs.declared.comment.CommentBracket.TheVariants.{Opens, Closes, Neither}
use Rattle.ob_scan.specs.Lexemes.{bracket_at, after_comment}
use Rattle.ob_scan.proofs.Lexemes.{rest_is}

some_is : (x y : CommentBracket) → Some x ≡ Some y → x ≡ y
some_is x y e = cc

-- there are at least two bytes if a bracket is read
pub long : (bs : List ℕ) (m : CommentBracket) → bracket_at bs ≡ Some m → 2 ≤ length bs
long [] m e = absurd cc
long (b ∷ []) m e = absurd cc
long (b ∷ c ∷ bs) m e = omega arith

opens_at : (n : ℕ) (bs : List ℕ) → bracket_at bs ≡ Some Opens → 0 < n → after_comment n bs ≡ after_comment (n + 1) (drop 2 bs)
opens_at zero bs e h = absurd (omega arith)
opens_at (suc n) [] e h = absurd cc
opens_at (suc n) (b ∷ []) e h = absurd cc
opens_at (suc n) (b ∷ c ∷ bs) e h =
    let k : suc n + 1 ≡ suc (suc n) = omega arith in
    rw (some_is _ _ e, k) refl

closes_at : (n : ℕ) (bs : List ℕ) → bracket_at bs ≡ Some Closes → 0 < n → after_comment n bs ≡ after_comment (n - 1) (drop 2 bs)
closes_at zero bs e h = absurd (omega arith)
closes_at (suc n) [] e h = absurd cc
closes_at (suc n) (b ∷ []) e h = absurd cc
closes_at (suc n) (b ∷ c ∷ bs) e h =
    let k : suc n - 1 ≡ n = omega arith in
    rw (some_is _ _ e, k) refl

passes_at : (n : ℕ) (bs : List ℕ) → bracket_at bs ≡ Some Neither → 0 < n → after_comment n bs ≡ after_comment n (drop 1 bs)
passes_at zero bs e h = absurd (omega arith)
passes_at (suc n) [] e h = absurd cc
passes_at (suc n) (b ∷ []) e h = absurd cc
passes_at (suc n) (b ∷ c ∷ bs) e h = rw (some_is _ _ e) refl

-- bytes dropped in two steps
pub drop-drop : (a b : ℕ) (bs : List ℕ) → drop b (drop a bs) ≡ drop (a + b) bs
drop-drop a b bs = grind (arith, common_steps)

pub opens_on : (n at : ℕ) (bs : List ℕ) (total : Option (List ℕ)) → at ≤ length bs → 0 < n → bracket_at (take (length bs - at) (drop at bs)) ≡ Some Opens → after_comment n (drop at bs) ≡ total → (at + 2 ≤ length bs) × (after_comment (n + 1) (drop (at + 2) bs) ≡ total)
opens_on n at bs total le pos e h =
    let here : bracket_at (drop at bs) ≡ Some Opens = ap bracket_at (sym (rest_is bs at le)) ∙ e in (
      omega (arith, long (drop at bs) Opens here, length-drop at bs),
      ap (after_comment (n + 1)) (sym (drop-drop at 2 bs)) ∙ sym (opens_at n (drop at bs) here pos) ∙ h,
    )

pub closes_on : (n at : ℕ) (bs : List ℕ) (total : Option (List ℕ)) → at ≤ length bs → 0 < n → bracket_at (take (length bs - at) (drop at bs)) ≡ Some Closes → after_comment n (drop at bs) ≡ total → (at + 2 ≤ length bs) × (after_comment (n - 1) (drop (at + 2) bs) ≡ total)
closes_on n at bs total le pos e h =
    let here : bracket_at (drop at bs) ≡ Some Closes = ap bracket_at (sym (rest_is bs at le)) ∙ e in (
      omega (arith, long (drop at bs) Closes here, length-drop at bs),
      ap (after_comment (n - 1)) (sym (drop-drop at 2 bs)) ∙ sym (closes_at n (drop at bs) here pos) ∙ h,
    )

pub passes_on : (n at : ℕ) (bs : List ℕ) (total : Option (List ℕ)) → at ≤ length bs → 0 < n → bracket_at (take (length bs - at) (drop at bs)) ≡ Some Neither → after_comment n (drop at bs) ≡ total → (at + 1 ≤ length bs) × (after_comment n (drop (at + 1) bs) ≡ total)
passes_on n at bs total le pos e h =
    let here : bracket_at (drop at bs) ≡ Some Neither = ap bracket_at (sym (rest_is bs at le)) ∙ e in (
      omega (arith, long (drop at bs) Neither here, length-drop at bs),
      ap (after_comment n) (sym (drop-drop at 1 bs)) ∙ sym (passes_at n (drop at bs) here pos) ∙ h,
    )
