-- The results of the private functions of the scanner.
use Rattle.std.specs.Prelude.{◌≡◌, ◌+◌, ◌≤◌, ◌<◌, ℕ, zero, suc, List, [], ◌∷◌, length, drop, Option, Some, None, option_map, Bool, false, ◌==◌, ◌&&◌, ◌||◌, not, if◌then◌else◌}
use Rattle.std.specs.List.{position}
use Rattle.std.specs.Char.{is_ascii_uppercase}
use Rattle.ob_scan.specs.declared.kind.Kind.{Kind}
use Rattle.ob_scan.specs.declared.comment.CommentBracket.{CommentBracket}
use Rattle.ob_scan.specs.declared.comment.CommentBracket.TheVariants.{Opens, Closes, Neither}
use Rattle.ob_scan.specs.declared.lexeme.Lexeme.{Lexeme}
use Rattle.ob_scan.specs.declared.lexeme.Lexeme.TheVariants as lexemes
use Rattle.ob_scan.specs.declared.fault.Reason.{Reason}
use Rattle.ob_scan.specs.declared.fault.Reason.TheVariants as reasons
use Rattle.ob_scan.specs.declared.fault.ScanFault.{ScanFault}
use Rattle.ob_scan.specs.declared.fault.ScanFault.TheVariants as faults
use Rattle.ob_scan.specs.Spelling.{IsGap, IsBadByte, IsBadNumber, IsOpenString, IsOpenComment}
use Rattle.ob_scan.specs.Tables.{two_byte_delimiter, one_byte_delimiter}
use Rattle.ob_scan.specs.Tokens.{IsToken}

-- what these two bytes are inside a comment
abbrev pub bracket_of : ℕ → ℕ → CommentBracket
bracket_of b c = if (b == 40) && (c == 42) then Opens else if (b == 42) && (c == 41) then Closes else Neither

-- what the first two bytes are
abbrev pub bracket_at : List ℕ → Option CommentBracket
bracket_at [] = None
bracket_at (b ∷ []) = None
bracket_at (b ∷ c ∷ bs) = Some (bracket_of b c)

-- the first, second or third of the values, by the case of the comment bracket
abbrev pub by_bracket : {X : Type 0} → CommentBracket → X → X → X → X
by_bracket Opens x y z = x
by_bracket Closes x y z = y
by_bracket Neither x y z = z

-- the bytes after a comment, given the bytes in it from where n opening brackets are not closed yet; None if the comment has no end
abbrev pub after_comment : ℕ → List ℕ → Option (List ℕ)
after_comment zero bs = Some bs
after_comment (suc n) [] = None
after_comment (suc n) (b ∷ []) = None
after_comment (suc n) (b ∷ c ∷ bs) = by_bracket (bracket_of b c) (after_comment (suc (suc n)) bs) (after_comment n bs) (after_comment (suc n) (c ∷ bs))

-- the length of the comment that the bytes begin with, whose first bracket is not tested
abbrev pub IsCommentLen : List ℕ → Option ℕ → Type 0
IsCommentLen bs None = after_comment 1 (drop 2 bs) ≡ None
IsCommentLen bs (Some n) = (2 ≤ n) × (n ≤ length bs) × (after_comment 1 (drop 2 bs) ≡ Some (drop n bs))

-- the first value, or the second one if the first is missing
abbrev pub first_of : {X : Type 0} → Option X → Option X → Option X
first_of None y = y
first_of (Some x) y = Some x

-- the second letter is a capital
abbrev pub has_second_capital : List ℕ → Bool
has_second_capital [] = false
has_second_capital (b ∷ []) = false
has_second_capital (b ∷ c ∷ bs) = is_ascii_uppercase c

-- the byte is neither LF nor CR
abbrev pub ends_no_line : ℕ → Bool
ends_no_line b = not ((b == 10) || (b == 13))

-- the length of the string that the bytes begin with, whose opening quote is not tested
abbrev pub string_len : List ℕ → Option ℕ
string_len bs = option_map (λ i. i + 2) (position (λ b. b == 34) (drop 1 bs))

-- the delimiter of one byte, and its length
abbrev pub one_byte_delimiter_token : ℕ → Option (Kind × ℕ)
one_byte_delimiter_token b = option_map (λ k. (k, 1)) (one_byte_delimiter b)

-- the delimiter that the bytes begin with, and its length; a delimiter of two bytes wins over a delimiter of one byte
abbrev pub delimiter_of : List ℕ → Option (Kind × ℕ)
delimiter_of [] = None
delimiter_of (b ∷ []) = one_byte_delimiter_token b
delimiter_of (b ∷ c ∷ bs) = first_of (option_map (λ k. (k, 2)) (two_byte_delimiter b c)) (one_byte_delimiter_token b)

-- the bytes begin with no blank, closed comment or token, for this reason
abbrev pub BeginsNothing : Reason → List ℕ → Type 0
BeginsNothing reasons.Byte bs = IsBadByte bs
BeginsNothing reasons.Number bs = IsBadNumber bs
BeginsNothing reasons.String bs = IsOpenString bs
BeginsNothing reasons.Comment bs = IsOpenComment bs

-- the bytes begin with this blank, comment or token, whose length is in bounds; or with none, for this reason
abbrev pub IsLexeme : List ℕ → Lexeme → Type 0
IsLexeme bs (lexemes.Gap n) = IsGap n bs × (0 < n) × (n ≤ length bs)
IsLexeme bs (lexemes.Token k n) = IsToken k n bs × (0 < n) × (n ≤ length bs)
IsLexeme bs (lexemes.Nothing reason) = BeginsNothing reason bs

-- the error with this reason at this offset
abbrev pub fault_of_reason : ℕ → Reason → ScanFault
fault_of_reason at reasons.Byte = faults.BadByte at
fault_of_reason at reasons.Number = faults.BadNumber at
fault_of_reason at reasons.String = faults.OpenString at
fault_of_reason at reasons.Comment = faults.OpenComment at
