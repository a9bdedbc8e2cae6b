-- A name that a text begins with.
use Rattle.std.proofs.Common.{◌≡◌, ℕ, suc, ◌+◌, Bool, true, false, cond, List, [], ◌∷◌, take, refl, sym, subst, ◌∙◌, arith}
use Rattle.std.specs.Char.{is_ascii_alphabetic, is_ascii_alphanumeric}
use Rattle.std.specs.List.{list_all, prefix_len}
use Rattle.std.proofs.lemmas.Bool.{and_parts, and_from}
use Rattle.texts.specs.Fields.{is_name}

-- the elements of the prefix all pass the test
pub run_passes : (p : ℕ → Bool) (bytes : List ℕ) → list_all p (take (prefix_len p bytes) bytes) ≡ true
run_passes p [] = refl
run_passes p (b ∷ bytes) = by (p b) refl (run_passes p bytes)
  where
    by : (v : Bool) → p b ≡ v → list_all p (take (prefix_len p bytes) bytes) ≡ true → list_all p (take (cond v (1 + prefix_len p bytes) 0) (b ∷ bytes)) ≡ true
    by true e rest =
        let more : 1 + prefix_len p bytes ≡ suc (prefix_len p bytes) = omega arith in
        subst (λ n. list_all p (take n (b ∷ bytes)) ≡ true) (sym more) (and_from (p b) (list_all p (take (prefix_len p bytes) bytes)) e rest)
    by false e rest = refl

-- the prefix is a name, if its first byte is a letter
pub run_is_name : (bytes name rest : List ℕ) (b : ℕ) → name ≡ take (prefix_len is_ascii_alphanumeric bytes) bytes → name ≡ b ∷ rest → is_ascii_alphabetic b ≡ true → is_name name ≡ true
run_is_name bytes name rest b is parts letter =
    let all : list_all is_ascii_alphanumeric (b ∷ rest) ≡ true = subst (λ v. list_all is_ascii_alphanumeric v ≡ true) (sym is ∙ parts) (run_passes is_ascii_alphanumeric bytes) in
    subst (λ v. is_name v ≡ true) (sym parts) (and_from _ _ letter (and_parts _ _ all).1)
