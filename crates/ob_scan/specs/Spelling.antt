-- The tokens that a text spells: it is a sequence of blanks, closed comments and tokens, to its end or to the offset at which none begins
-- (Oberon-07 report, section 3).
use Rattle.std.specs.Prelude.{◌≡◌, ◌+◌, ◌≤◌, ◌<◌, ℕ, List, [], ◌∷◌, ◌++◌, length, drop, None, Bool, true, false, nat_lt, ◌==◌, Result, Ok, Err}
use Rattle.std.specs.List.{list_all, All, AllPairs}
use Rattle.ob_scan.specs.declared.kind.Kind.{Kind}
use Rattle.ob_scan.specs.declared.token.Token.{Token}
use Rattle.ob_scan.specs.declared.fault.ScanFault.{ScanFault}
use Rattle.ob_scan.specs.declared.fault.ScanFault.TheVariants as faults
use Rattle.ob_scan.specs.Comments.{begins_comment, Closes}
use Rattle.ob_scan.specs.Numbers.{first_passes, begins_digit, number_token}
use Rattle.ob_scan.specs.Tokens.{is_no_quote, StartsWith, IsToken}

-- the first byte is a blank: a byte from 0 to 32
abbrev pub begins_blank : List ℕ → Bool
begins_blank bs = first_passes (λ b. nat_lt b 33) bs

-- the first byte is a double quote
abbrev pub begins_quote : List ℕ → Bool
begins_quote bs = first_passes (λ b. b == 34) bs

-- the bytes begin with n bytes that are no token: a blank, or a closed comment
pub data IsGap : ℕ → List ℕ → Type 0 where
  blank : {bs : List ℕ} → begins_blank bs ≡ true → IsGap 1 bs
  comment : {n : ℕ} {bs : List ℕ} → begins_comment bs ≡ true → n ≤ length bs → Closes (drop 2 bs) (drop n bs) → IsGap n bs

-- the bytes before this offset are a sequence of blanks, closed comments and these tokens
pub data Scanned (bytes : List ℕ) : List Token → ℕ → Type 0 where
  start : Scanned bytes [] 0
  gap : {ts : List Token} {at n : ℕ} → Scanned bytes ts at → IsGap n (drop at bytes) → Scanned bytes ts (at + n)
  token : {ts : List Token} {at n : ℕ} {k : Kind} → Scanned bytes ts at → IsToken k n (drop at bytes) → Scanned bytes (ts ++ record { kind = k; start = at; end = at + n } ∷ []) (at + n)

-- the bytes are a sequence of blanks, closed comments and these tokens
abbrev pub Spells : List ℕ → List Token → Type 0
Spells bytes ts = Scanned bytes ts (length bytes)

-- the tokens are in bounds, in order and disjoint, and none is empty
pub record AreInText (bytes : List ℕ) (ts : List Token) : Type 0 where
  pub some : All (λ t. t.start < t.end) ts
  pub within : All (λ t. t.end ≤ length bytes) ts
  pub apart : AllPairs (λ t u. t.end ≤ u.start) ts
  pub few : length ts ≤ length bytes

-- the first byte begins no blank, comment, number, string or other token
pub record IsBadByte (bs : List ℕ) : Type 0 where
  pub some : 0 < length bs
  pub no_blank : begins_blank bs ≡ false
  pub no_comment : begins_comment bs ≡ false
  pub no_digit : begins_digit bs ≡ false
  pub no_quote : begins_quote bs ≡ false
  pub no_text : (k : Kind) (text : List ℕ) → StartsWith k text bs → ⊥

-- digits that form no number
pub record IsBadNumber (bs : List ℕ) : Type 0 where
  pub digit : begins_digit bs ≡ true
  pub no_number : number_token bs ≡ None

-- an opening quote without a closing one
pub record IsOpenString (bs : List ℕ) : Type 0 where
  pub quote : begins_quote bs ≡ true
  pub no_other : list_all is_no_quote (drop 1 bs) ≡ true

-- a `(*` that is not closed
pub record IsOpenComment (bs : List ℕ) : Type 0 where
  pub opens : begins_comment bs ≡ true
  pub no_end : (rest : List ℕ) → Closes (drop 2 bs) rest → ⊥

-- blanks, closed comments and tokens lead to this offset, and no blank, closed comment or token begins there, for this reason
pub record Stuck (IsReason : List ℕ → Type 0) (bytes : List ℕ) (at : ℕ) : Type 0 where
  pub before : List Token
  pub scanned : Scanned bytes before at
  pub reason : IsReason (drop at bytes)

-- the text has at most 16,777,216 bytes
abbrev pub IsWithinLimit : List ℕ → Type 0
IsWithinLimit bytes = length bytes ≤ 16777216

-- the text has these tokens, or this error; its length is tested first, and a failed allocation is no error of a text
abbrev pub IsOutcome : List ℕ → Result (List Token) ScanFault → Type 0
IsOutcome bytes (Ok ts) = IsWithinLimit bytes × Spells bytes ts
IsOutcome bytes (Err (faults.BadByte at)) = IsWithinLimit bytes × Stuck IsBadByte bytes at
IsOutcome bytes (Err (faults.BadNumber at)) = IsWithinLimit bytes × Stuck IsBadNumber bytes at
IsOutcome bytes (Err (faults.OpenString at)) = IsWithinLimit bytes × Stuck IsOpenString bytes at
IsOutcome bytes (Err (faults.OpenComment at)) = IsWithinLimit bytes × Stuck IsOpenComment bytes at
IsOutcome bytes (Err faults.TooLong) = 16777216 < length bytes
IsOutcome bytes (Err faults.Memory) = ⊥
