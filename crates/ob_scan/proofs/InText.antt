-- The ends of tokens are in the bounds of their text; a token beyond the last one begins and ends at its start.
use Rattle.std.proofs.Common.{◌≡◌, ◌≤◌, ◌<◌, ℕ, List, length, Some, inl, inr, subst, arith}
use Rattle.std.specs.Prelude.{slice_get}
use Rattle.std.proofs.lemmas.Bool.{cases_lt}
use Rattle.std.proofs.lemmas.List.{get_or_past}
use Rattle.std.proofs.lemmas.List.Elements.{All-get_or}
use Rattle.std.proofs.lemmas.Option.{get_or_from_slice_get}
use Rattle.ob_scan.specs.Spelling.{AreInText}
use Rattle.ob_scan.specs.Texts.{no_token, token_at}
use Rattle.ob_scan.specs.declared.token.Token.{Token}

pub start_in_text : (bytes : List ℕ) (ts : List Token) (k : ℕ) → AreInText bytes ts → (token_at ts k).start ≤ length bytes
start_in_text bytes ts k stand = elim (cases_lt k (length ts)) [
  | inl within ↦
      let some : (token_at ts k).start < (token_at ts k).end = All-get_or (λ t. t.start < t.end) ts k no_token within stand.some in
      let ended : (token_at ts k).end ≤ length bytes = All-get_or (λ t. t.end ≤ length bytes) ts k no_token within stand.within in
      omega arith
  | inr past ↦ rw (get_or_past ts k no_token past) (omega arith)
]

pub end_in_text : (bytes : List ℕ) (ts : List Token) (k : ℕ) → AreInText bytes ts → (token_at ts k).end ≤ length bytes
end_in_text bytes ts k stand = elim (cases_lt k (length ts)) [
  | inl within ↦ All-get_or (λ t. t.end ≤ length bytes) ts k no_token within stand.within
  | inr past ↦ rw (get_or_past ts k no_token past) (omega arith)
]

-- so does a token that is found by its number
pub found_in_text : (bytes : List ℕ) (ts : List Token) (k : ℕ) (t : Token) → AreInText bytes ts → slice_get ts k ≡ Some t → t.start ≤ length bytes
found_in_text bytes ts k t stand there =
    let is : token_at ts k ≡ t = get_or_from_slice_get ts k t no_token there in
    subst (λ (u : Token). u.start ≤ length bytes) is (start_in_text bytes ts k stand)
