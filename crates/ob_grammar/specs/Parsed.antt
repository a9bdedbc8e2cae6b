-- The tree of a text, and the errors of a text that has none (Oberon-07 report, appendix).
use Rattle.std.specs.Prelude.{◌≡◌, ◌≢◌, ◌≤◌, ◌<◌, ℕ, List, ◌∷◌, ◌++◌, map, drop, Option, Some, None, Result, Err, slice_get, length, ◌⊎◌}
use Rattle.std.specs.List.{All}
use Rattle.ob_scan.specs.declared.kind.Kind.{Kind}
use Rattle.ob_scan.specs.declared.token.Token.{Token}
use Rattle.ob_scan.specs.Texts.{bytes_of}
use Rattle.ob_tree.specs.declared.declaration.Module.{Module}
use Rattle.ob_tree.specs.Declaring.{module_events}
use Rattle.ob_tree.specs.Derives.{Derives, depth, end_names_in}
use Rattle.ob_tree.specs.declared.token.Leaf.{Leaf}
use Rattle.ob_tree.specs.Leaves.{leaves_from}
use Rattle.ob_tree.specs.TreeEvents.{Events}
use Rattle.ob_grammar.specs.Lookahead.{uncons}
use Rattle.ob_grammar.specs.Combinators.{ReadError, Unexpected, TooDeep}
use Rattle.ob_grammar.specs.ReadModules.{read_all}
use Rattle.ob_grammar.specs.declared.fault.ParseFault.{ParseFault}
use Rattle.ob_grammar.specs.declared.fault.ParseFault.TheVariants as faults

-- the kinds of the tokens
abbrev pub kinds_of : List Token → List Kind
kinds_of ts = map (λ t. t.kind) ts

-- a pair of tokens, by their indices: an identifier, and the name after END that has to repeat it
pub record EndPair (ts : List Token) (e : ℕ × ℕ) : Type 0 where
  pub name : Token
  pub end : Token
  pub is_name : slice_get ts e.0 ≡ Some name
  pub is_end : slice_get ts e.1 ≡ Some end

-- the name after END is right: it repeats the identifier
pub record IsRightEnd (bytes : List ℕ) (ts : List Token) (e : ℕ × ℕ) : Type 0 where
  pub pair : EndPair ts e
  pub same : bytes_of bytes pair.name ≡ bytes_of bytes pair.end

-- the name after END is wrong, and begins at this offset
pub record IsWrongEnd (bytes : List ℕ) (ts : List Token) (at : ℕ) (e : ℕ × ℕ) : Type 0 where
  pub pair : EndPair ts e
  pub differ : bytes_of bytes pair.name ≢ bytes_of bytes pair.end
  pub begins : pair.end.start ≡ at

-- a tree of at most 200 levels derives the tokens, and each tree that does has its event sequence
pub record IsOneTree (ts : List Token) (m : Module) : Type 0 where
  pub derived : Derives (kinds_of ts) m
  pub shallow : depth m ≤ 200
  pub only : (other : Module) → Derives (kinds_of ts) other → module_events other ≡ module_events m

-- the one tree of the tokens, whose names after END are right
pub record IsTheTree (bytes : List ℕ) (ts : List Token) (m : Module) : Type 0 where
  pub tree : IsOneTree ts m
  pub ended : All (IsRightEnd bytes ts) (end_names_in (module_events m))

-- the first wrong name after END begins at this offset
pub record IsFirstWrong (bytes : List ℕ) (ts : List Token) (ends : List (ℕ × ℕ)) (at : ℕ) : Type 0 where
  pub before : List (ℕ × ℕ)
  pub wrong : ℕ × ℕ
  pub after : List (ℕ × ℕ)
  pub split : ends ≡ before ++ wrong ∷ after
  pub right_before : All (IsRightEnd bytes ts) before
  pub is_wrong : IsWrongEnd bytes ts at wrong

-- the one tree of the tokens has a wrong name after END, the first of which begins at this offset
pub record IsEndFault (bytes : List ℕ) (ts : List Token) (at : ℕ) : Type 0 where
  pub of : Module
  pub tree : IsOneTree ts of
  pub first : IsFirstWrong bytes ts (end_names_in (module_events of)) at

-- a token begins at this offset
pub record IsTokenStart (ts : List Token) (at : ℕ) : Type 0 where
  pub number : ℕ
  pub token : Token
  pub is_token : slice_get ts number ≡ Some token
  pub begins : token.start ≡ at

-- a token begins at this offset, or the text ends there
abbrev pub IsStartOrEnd : List ℕ → List Token → ℕ → Type 0
IsStartOrEnd bytes ts at = IsTokenStart ts at ⊎ (at ≡ length bytes)

-- the offset of a token, or the end of the text if there is none
abbrev pub start_or : ℕ → Option Token → ℕ
start_or end None = end
start_or end (Some t) = t.start

-- the token with this index and the tokens after it; None after the last token
abbrev pub remaining_from : List Token → ℕ → Option (Leaf × List Leaf)
remaining_from ts n = uncons (leaves_from n (kinds_of (drop n ts)))

-- the events that the grammar reads from the tokens as one module of at most 200 levels, or its error
abbrev pub read_as_module : List Token → Result Events ReadError
read_as_module ts = read_all 200 (leaves_from 0 (kinds_of ts))

-- the reader comes to the token at this offset, or to the end of the text, and it is wrong there
pub record IsWrongToken (bytes : List ℕ) (ts : List Token) (at : ℕ) : Type 0 where
  pub number : ℕ
  pub begins : start_or (length bytes) (slice_get ts number) ≡ at
  pub stops : read_as_module ts ≡ Err (Unexpected (remaining_from ts number))

-- the reader comes to the token at this offset, which begins a construct for which no level is left
pub record IsDeepToken (ts : List Token) (at : ℕ) : Type 0 where
  pub number : ℕ
  pub token : Token
  pub is_token : slice_get ts number ≡ Some token
  pub begins : token.start ≡ at
  pub remaining : Leaf × List Leaf
  pub is_remaining : remaining_from ts number ≡ Some remaining
  pub stops : read_as_module ts ≡ Err (TooDeep remaining)

-- Syntax: no tree derives the tokens, and the reader comes to a wrong one. TooDeep: no tree of at most 200 levels derives them, and the
-- reader comes to a construct for which no level is left. EndName: the first wrong name after END
abbrev pub IsFaultOf : List ℕ → List Token → ParseFault → Type 0
IsFaultOf bytes ts (faults.Syntax at) = IsWrongToken bytes ts at × ((other : Module) → Derives (kinds_of ts) other → ⊥)
IsFaultOf bytes ts (faults.EndName at) = IsEndFault bytes ts at
IsFaultOf bytes ts (faults.TooDeep at) = IsDeepToken ts at × ((other : Module) → Derives (kinds_of ts) other → 200 < depth other)
IsFaultOf bytes ts faults.Memory = Unit {0}
