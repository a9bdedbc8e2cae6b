-- Tokens that begin with a digit: integers, real numbers, and strings by the number of their character (Oberon-07 report, section 3).
use Rattle.std.specs.Prelude.{ℕ, ◌+◌, List, [], ◌∷◌, length, drop, take_while, Option, Some, None, Bool, false, ◌==◌, ◌||◌, if◌then◌else◌}
use Rattle.std.specs.Char.{is_ascii_digit}
use Rattle.std.specs.Int.{is_in_range}
use Rattle.ob_scan.specs.declared.kind.Kind.{Kind}
use Rattle.ob_scan.specs.declared.kind.Kind.TheVariants.{Integer, Real, Text}

-- there is a first byte, and it passes this test
abbrev pub first_passes : (ℕ → Bool) → List ℕ → Bool
first_passes p [] = false
first_passes p (b ∷ bs) = p b

-- the first byte is a digit
abbrev pub begins_digit : List ℕ → Bool
begins_digit bs = first_passes is_ascii_digit bs

-- a digit, or a letter from `A` to `F`
abbrev pub is_hex_digit : ℕ → Bool
is_hex_digit b = is_ascii_digit b || is_in_range 65 70 b

-- the bytes begin with this byte
abbrev pub begins_with_byte : ℕ → List ℕ → Bool
begins_with_byte c bs = first_passes (λ b. b == c) bs

-- the number of digits, and of hexadecimal digits, that the bytes begin with
abbrev pub digit_count : List ℕ → ℕ
digit_count bs = length (take_while is_ascii_digit bs)

abbrev pub hex_digit_count : List ℕ → ℕ
hex_digit_count bs = length (take_while is_hex_digit bs)

-- the length of the sign that the bytes begin with, 0 if there is none
abbrev pub sign_len : List ℕ → ℕ
sign_len bs = if begins_with_byte 43 bs || begins_with_byte 45 bs then 1 else 0

-- the length of the scale factor that the bytes begin with: an `E`, a sign or none, and one digit or more
abbrev pub scale_of : List ℕ → Option ℕ
scale_of bs = if digit_count (drop (1 + sign_len (drop 1 bs)) bs) == 0 then None else Some (1 + sign_len (drop 1 bs) + digit_count (drop (1 + sign_len (drop 1 bs)) bs))

-- a real number of n bytes before its scale factor
abbrev pub with_scale : ℕ → Option ℕ → Option (Kind × ℕ)
with_scale n None = None
with_scale n (Some m) = Some (Real, n + m)

-- a real number whose digits and point are the first n bytes: if an `E` follows, it begins a complete scale factor
abbrev pub fraction_of : ℕ → List ℕ → Option (Kind × ℕ)
fraction_of n bs = if begins_with_byte 69 (drop n bs) then with_scale n (scale_of (drop n bs)) else Some (Real, n)

-- n digits and no letter: a real number if exactly one point follows, else an integer
abbrev pub decimal_of : ℕ → List ℕ → Option (Kind × ℕ)
decimal_of n bs =
    if begins_with_byte 46 (drop n bs) then
    (if begins_with_byte 46 (drop (n + 1) bs) then Some (Integer, n) else fraction_of (n + 1 + digit_count (drop (n + 1) bs)) bs)
    else Some (Integer, n)

-- the kind and the length of the token that the bytes begin with. After the longest prefix of hexadecimal digits an `H` makes it an
-- integer and an `X` a string; without either a prefix with a letter is no token
abbrev pub number_token : List ℕ → Option (Kind × ℕ)
number_token bs =
    if begins_with_byte 72 (drop (hex_digit_count bs) bs) then Some (Integer, hex_digit_count bs + 1)
    else if begins_with_byte 88 (drop (hex_digit_count bs) bs) then Some (Text, hex_digit_count bs + 1)
    else if digit_count bs == hex_digit_count bs then decimal_of (hex_digit_count bs) bs
    else None
