-- Prefixes of bytes that pass a test.
use Rattle.std.proofs.Common.{◌≡◌, ℕ, suc, ◌+◌, ◌≤◌, Bool, true, false, List, [], ◌∷◌, ◌++◌, length, refl, inl, inr, zero-le, one-add, arith}
use Rattle.std.specs.List.{list_all, prefix_len}
use Rattle.std.proofs.lemmas.Bool.{and_parts, and_from, cases_Bool}

-- a prefix that passes is no longer than the longest one
pub run_covers : (p : ℕ → Bool) (xs rest : List ℕ) → list_all p xs ≡ true → length xs ≤ prefix_len p (xs ++ rest)
run_covers p [] rest e = zero-le
run_covers p (x ∷ xs) rest e =
    let h = and_parts (p x) (list_all p xs) e in
    rw h.0 (omega (arith, run_covers p xs rest h.1))

-- a prefix that passes is the longest one, if the next byte doesn't pass
pub run_stops : (p : ℕ → Bool) (xs : List ℕ) (x : ℕ) (rest : List ℕ) → list_all p xs ≡ true → p x ≡ false → prefix_len p (xs ++ x ∷ rest) ≡ length xs
run_stops p [] x rest e f = rw f refl
run_stops p (y ∷ xs) x rest e f =
    let h = and_parts (p y) (list_all p xs) e in
    rw (h.0, run_stops p xs x rest h.1 f) (one-add (length xs))

-- if the longest prefix is the whole list, all bytes pass
pub run_whole : (p : ℕ → Bool) (xs : List ℕ) → length xs ≤ prefix_len p xs → list_all p xs ≡ true
run_whole p [] h = refl
run_whole p (x ∷ xs) h =
    elim (cases_Bool (p x)) [
      | inl passes ↦ let g : suc (length xs) ≤ 1 + prefix_len p xs = rw passes at h in and_from _ _ passes (run_whole p xs (omega arith))
      | inr stops ↦ let g : suc (length xs) ≤ 0 = rw stops at h in absurd (omega arith)
    ]
