-- Monadic parser combinators (Hutton and Meijer 1998), deterministic and with errors: a reader returns the events of a construct at the
-- start of the tokens, and the tokens after it.
use Rattle.std.specs.Prelude.{ℕ, zero, suc, List, [], ◌∷◌, ◌++◌, length, Option, Some, None, Result, Ok, Err, Bool, true, false, if◌then◌else◌}
use Rattle.ob_scan.specs.declared.kind.Kind.{Kind}
use Rattle.ob_tree.specs.declared.token.Leaf.{Leaf}
use Rattle.ob_tree.specs.declared.token.Leaf.TheVariants as leafs
use Rattle.ob_tree.specs.Leaves.{kind_eq}
use Rattle.ob_tree.specs.Constructs.{Construct}
use Rattle.ob_tree.specs.TreeEvents.{Events, construct, word}
use Rattle.ob_grammar.specs.Lookahead.{uncons, head_is, is_word}

-- why a reader fails: the next token is wrong or missing, or it begins a construct that is nested too deep. The error has this token and
-- the tokens after it
pub data ReadError : Type 0 where
  Unexpected : Option (Leaf × List Leaf) → ReadError
  TooDeep : Leaf × List Leaf → ReadError

-- the error if a construct that would begin here is nested too deep
abbrev pub too_deep_error : Option (Leaf × List Leaf) → ReadError
too_deep_error None = Unexpected None
too_deep_error (Some x) = TooDeep x

-- the second reader is applied to what the first one returned, unless that is an error
infixl 10 ◌>>=◌
abbrev pub ◌>>=◌ : {A B : Type 0} → Result A ReadError → (A → Result B ReadError) → Result B ReadError
(Ok x) >>= f = f x
(Err e) >>= f = Err e

-- the result of a reader: events and the tokens after them, or an error
abbrev pub Read : Type 0
Read = Result (Events × List Leaf) ReadError

-- a reader: a function on the remaining tokens
abbrev pub Reader : Type 0
Reader = List Leaf → Read

-- an optional value at the start of the tokens, and the tokens after it
abbrev pub Lookahead : Type 0 → Type 0
Lookahead X = Option (X × List Leaf)

-- an optional start of a construct: its first events and the tokens after them, or nothing
abbrev pub Start : Type 0
Start = List Leaf → Lookahead Events

-- ---- one token

-- a token of kind k, which is required
abbrev pub expected : Kind → Option (Leaf × List Leaf) → Read
expected k (Some (leafs.Word j, rest)) = if kind_eq j k then Ok (word k, rest) else Err (Unexpected (Some (leafs.Word j, rest)))
expected k o = Err (Unexpected o)

unfoldable pub expect_at : Kind → Reader
expect_at k ls = expected k (uncons ls)

-- a token of kind k, which is optional
abbrev pub accepted : Kind → Option (Leaf × List Leaf) → Lookahead Events
accepted k (Some (leafs.Word j, rest)) = if kind_eq j k then Some (word k, rest) else None
accepted k _ = None

unfoldable pub accept_at : Kind → Start
accept_at k ls = accepted k (uncons ls)

-- the index of an identifier, which is required
abbrev pub identified : Option (Leaf × List Leaf) → Result (ℕ × List Leaf) ReadError
identified (Some (leafs.Name n, rest)) = Ok (n, rest)
identified o = Err (Unexpected o)

unfoldable pub identifier_at : List Leaf → Result (ℕ × List Leaf) ReadError
identifier_at ls = identified (uncons ls)

-- an identifier, with the event of this role
unfoldable pub name_at : (ℕ → Events) → Reader
name_at role ls = do
  a ← identifier_at ls
  Ok (role a.0, a.1)

-- the start of a construct whose first token satisfies p; the token isn't read yet
unfoldable pub begins : (Leaf → Bool) → Start
begins p ls = if head_is p (uncons ls) then Some ([], ls) else None

-- the start of a construct, unless the next token is of kind k; no token is read yet
unfoldable pub unless : Kind → Start
unless k ls = if head_is (is_word k) (uncons ls) then None else Some ([], ls)

-- ---- combinators

-- no token
abbrev pub nothing : Reader
nothing ls = Ok ([], ls)

-- the first reader, and then the second reader on the tokens that are left
abbrev pub seq : Reader → Reader → Reader
seq r s ls = do
  a ← r ls
  b ← s a.1
  Ok (a.0 ++ b.0, b.1)

-- these events, and then the events of r
abbrev pub prefixed : Events → Reader → Reader
prefixed ms r ls = do
  a ← r ls
  Ok (ms ++ a.0, a.1)

-- the events of r, preceded by events that are a function of them
abbrev pub led_by : (Events → Events) → Reader → Reader
led_by ms r ls = do
  a ← r ls
  Ok (ms a.0 ++ a.0, a.1)

-- whether the list has an event
abbrev pub is_something : Events → Bool
is_something [] = false
is_something (m ∷ ms) = true

-- an identifier, and a reader that depends on its index
abbrev pub after_name : (ℕ → Reader) → Reader
after_name r ls = do
  a ← identifier_at ls
  r a.0 a.1

-- what r reads, as one construct
abbrev pub node : Construct → Reader → Reader
node c r ls = do
  a ← r ls
  Ok (construct c a.0, a.1)

-- r after the start of a construct, or nothing if there is no start
abbrev pub after_start : Reader → List Leaf → Lookahead Events → Read
after_start r ls None = Ok ([], ls)
after_start r ls (Some s) = prefixed s.0 r s.1

-- r if the construct starts here, else nothing
abbrev pub optional : Start → Reader → Reader
optional start r ls = after_start r ls (start ls)

-- r as often as the construct starts, at most n times
abbrev pub repeat_up_to : Start → Reader → ℕ → Reader
repeat_up_to start r zero = λ ls. Ok ([], ls)
repeat_up_to start r (suc n) = optional start (seq r (repeat_up_to start r n))

-- r as often as the construct starts, at most as often as there are tokens: each item of a production takes one token or more
unfoldable pub many : Start → Reader → Reader
many start r ls = repeat_up_to start r (length ls) ls

-- one item or more, separated by tokens of kind k
unfoldable pub several : Kind → Reader → Reader
several k item = seq item (many (accept_at k) item)

-- ---- the limit of depth

-- no level is left: if a construct begins here it is nested too deep, else the next token is wrong
abbrev pub limited : Bool → Option (Leaf × List Leaf) → Read
limited begun o = if begun then Err (too_deep_error o) else Err (Unexpected o)

abbrev pub limit : (Leaf → Bool) → Option (Leaf × List Leaf) → Read
limit p o = limited (head_is p o) o

unfoldable pub limit_at : (Leaf → Bool) → Reader
limit_at p ls = limit p (uncons ls)
