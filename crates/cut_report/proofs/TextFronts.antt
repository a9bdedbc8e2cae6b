-- What a text begins with: a line and its end.
use Rattle.std.proofs.Common.{◌≡◌, ℕ, true, false, not, eqb, List, [], ◌∷◌, ◌++◌, Some, refl, sym, ap, ◌∙◌, append_assoc}
use Rattle.std.proofs.lemmas.Bool.{and_from, and_parts, not-true, or_parts}
use Rattle.texts.specs.Fields.{split_at_first, ended}
use Rattle.cut_report.specs.ReportLines.{has_line_end}
use Rattle.texts.proofs.FieldCuts.{cut_again, without, some_is}

pub without_end : (bytes : List ℕ) → has_line_end bytes ≡ false → without 10 bytes ≡ true
without_end [] e = refl
without_end (b ∷ bytes) e =
    let p = or_parts (eqb b 10) (has_line_end bytes) e in
    and_from (not (eqb b 10)) (without 10 bytes) (rw p.0 refl) (without_end bytes p.1)

pub end_without : (bytes : List ℕ) → without 10 bytes ≡ true → has_line_end bytes ≡ false
end_without [] e = refl
end_without (b ∷ bytes) e =
    let p = and_parts (not (eqb b 10)) (without 10 bytes) e in
    rw (not-true (eqb b 10) p.0, end_without bytes p.1) refl

pub ended_cut : (line more : List ℕ) → without 10 line ≡ true → split_at_first 10 (ended line ++ more) ≡ Some (line, more)
ended_cut line more h = rw (append_assoc line (10 ∷ []) more) (cut_again 10 line more h)

-- what begins with two lines, begins with one
pub same_first : (a b x y : List ℕ) → without 10 a ≡ true → without 10 b ≡ true → ended a ++ x ≡ ended b ++ y → (a ≡ b) × (x ≡ y)
same_first a b x y h k e =
    let first : split_at_first 10 (ended a ++ x) ≡ Some (a, x) = ended_cut a x h in
    let second : split_at_first 10 (ended a ++ x) ≡ Some (b, y) = rw e (ended_cut b y k) in
    let pair : (a, x) ≡ (b, y) = some_is _ _ (sym first ∙ second) in
    (ap (λ (p : List ℕ × List ℕ). p.0) pair, ap (λ (p : List ℕ × List ℕ). p.1) pair)
