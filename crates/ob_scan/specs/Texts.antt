-- The bytes of tokens.
use Rattle.std.specs.Prelude.{ℕ, ◌-◌, List, drop, take, slice_index_or}
use Rattle.ob_scan.specs.declared.kind.Kind.TheVariants as kinds
use Rattle.ob_scan.specs.declared.token.Token.{Token}

-- the bytes of a token
abbrev pub bytes_of : List ℕ → Token → List ℕ
bytes_of bytes t = take (t.end - t.start) (drop t.start bytes)

-- the token for an index beyond the last one
abbrev pub no_token : Token
no_token = record { kind = kinds.Dot; start = 0; end = 0 }

-- the token with this index
abbrev pub token_at : List Token → ℕ → Token
token_at ts k = slice_index_or ts k no_token

-- the bytes of the token with this index
abbrev pub text_at : List ℕ → List Token → ℕ → List ℕ
text_at bytes ts k = bytes_of bytes (token_at ts k)
