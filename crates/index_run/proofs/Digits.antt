-- Hexadecimal digits of bytes, chunk by chunk.
use Rattle.std.proofs.Common.{◌≡◌, ◌++◌, ◌-◌, ◌/◌, ◌%◌, ℕ, List, [], ◌∷◌, length, take, drop, slice_index, append_assoc, refl, sym, ap, ◌∙◌, arith}
use Rattle.std.proofs.lemmas.List.{take-append-drop, take_all, length-drop}
use Rattle.hex.specs.Hex.{encode_lower, encode_with, lower_digits}

digits_with : (table xs ys : List ℕ) → encode_with table (xs ++ ys) ≡ encode_with table xs ++ encode_with table ys
unfolding encode_with
digits_with table [] ys = refl
digits_with table (b ∷ rest) ys = ap (λ (t : List ℕ). slice_index table (b / 16) ∷ slice_index table (b % 16) ∷ t) (digits_with table rest ys)

-- the digits of one list after another
pub digits_of_both : (xs ys : List ℕ) → encode_lower (xs ++ ys) ≡ encode_lower xs ++ encode_lower ys
digits_of_both xs ys = digits_with lower_digits xs ys

-- what is left of the bytes after k more
pub part_more : (bytes done rest : List ℕ) (k : ℕ) → bytes ≡ done ++ rest → bytes ≡ (done ++ take k rest) ++ take (length rest - k) (drop k rest)
part_more bytes done rest k e = rw (take_all (length rest - k) (drop k rest) (omega (arith, length-drop k rest)), append_assoc, take-append-drop k rest) e

-- the line of digits, by those of the bytes so far
pub line_so_far : (bytes done rest end : List ℕ) → bytes ≡ done ++ rest → encode_lower bytes ++ end ≡ encode_lower done ++ (encode_lower rest ++ end)
line_so_far bytes done rest end e = ap (λ (t : List ℕ). t ++ end) (ap encode_lower e ∙ digits_of_both done rest) ∙ append_assoc (encode_lower done) (encode_lower rest) end

-- and of k bytes more
pub line_around : (bytes done rest end : List ℕ) (k : ℕ) → bytes ≡ done ++ rest
    → encode_lower bytes ++ end ≡ (encode_lower done ++ encode_lower (take k rest)) ++ (encode_lower (drop k rest) ++ end)
line_around bytes done rest end k e =
    line_so_far bytes (done ++ take k rest) (drop k rest) end (e ∙ ap (λ (t : List ℕ). done ++ t) (sym (take-append-drop k rest)) ∙ sym (append_assoc done (take k rest) (drop k rest)))
    ∙ ap (λ (t : List ℕ). t ++ (encode_lower (drop k rest) ++ end)) (digits_of_both done (take k rest))
