-- The event sequence of a tree: its tokens in order, and the begin and end of each construct.
use Rattle.std.specs.Prelude.{ℕ, zero, suc, max, Bool, if◌then◌else◌, List, [], ◌∷◌, ◌++◌, Option, Some, None}
use Rattle.ob_scan.specs.declared.kind.Kind.{Kind}
use Rattle.ob_tree.specs.declared.expression.Literal.{Literal}
use Rattle.ob_tree.specs.declared.name.OneOrMore.{OneOrMore}
use Rattle.ob_tree.specs.declared.role.Role.{Role}
use Rattle.ob_tree.specs.declared.role.Role.TheVariants.{Declares, Aliases, Imports, Uses, Completes, Selects, Names, Repeats}
use Rattle.ob_tree.specs.declared.token.Leaf.{Leaf}
use Rattle.ob_tree.specs.declared.token.Leaf.TheVariants as leafs
use Rattle.ob_tree.specs.Constructs.{Construct, is_level}

-- an event: the begin or the end of a construct, or a token
pub data TreeEvent : Type 0 where
  Begins : Construct → ℕ → TreeEvent  -- a construct, and its number of levels
  Ends : Construct → TreeEvent
  Identifier : Role → ℕ → TreeEvent  -- its role, and its token number
  Value : Literal → ℕ → TreeEvent
  Word : Kind → TreeEvent

-- an event sequence
abbrev pub Events : Type 0
Events = List TreeEvent

-- the tokens of an event sequence, in order
abbrev pub tokens_of : Events → List Leaf
tokens_of [] = []
tokens_of (Begins c n ∷ ms) = tokens_of ms
tokens_of (Ends c ∷ ms) = tokens_of ms
tokens_of (Identifier r n ∷ ms) = leafs.Name n ∷ tokens_of ms
tokens_of (Value k n ∷ ms) = leafs.Value k n ∷ tokens_of ms
tokens_of (Word k ∷ ms) = leafs.Word k ∷ tokens_of ms

-- the height of an event sequence: the largest number of levels that one of its constructs has
abbrev pub height : Events → ℕ
height [] = 0
height (Begins c n ∷ ms) = max n (height ms)
height (Ends c ∷ ms) = height ms
height (Identifier r n ∷ ms) = height ms
height (Value k n ∷ ms) = height ms
height (Word k ∷ ms) = height ms

-- a construct: its begin with the number of its levels, the events of its children, its end
unfoldable pub construct : Construct → Events → Events
construct c parts = Begins c (if is_level c then suc (height parts) else height parts) ∷ (parts ++ Ends c ∷ [])

-- a reserved word, an operator or a delimiter: its event has a kind, but no token number
abbrev pub word : Kind → Events
word k = Word k ∷ []

-- an identifier that is declared, with whether it is exported
abbrev pub declared : Bool → ℕ → Events
declared is_exported n = Identifier (Declares is_exported) n ∷ []

-- an identifier in each of the other roles, by its token number
abbrev pub aliased : ℕ → Events
aliased n = Identifier Aliases n ∷ []

abbrev pub imported : ℕ → Events
imported n = Identifier Imports n ∷ []

abbrev pub used : ℕ → Events
used n = Identifier Uses n ∷ []

abbrev pub completed : ℕ → Events
completed n = Identifier Completes n ∷ []

abbrev pub selected : ℕ → Events
selected n = Identifier Selects n ∷ []

abbrev pub named : ℕ → Events
named n = Identifier Names n ∷ []

abbrev pub repeated : ℕ → ℕ → Events
repeated name n = Identifier (Repeats name) n ∷ []

-- the events of an optional child
abbrev pub if_present : {X : Type 0} → (X → Events) → Option X → Events
if_present f None = []
if_present f (Some x) = f x

-- these events if the flag is set
abbrev pub if_true : Bool → Events → Events
if_true b o = if b then o else []

-- the events of all elements, in order
abbrev pub each : {X : Type 0} → (X → Events) → List X → Events
each f [] = []
each f (x ∷ xs) = f x ++ each f xs

-- the events of all elements, with a token of this kind before each
abbrev pub each_after : {X : Type 0} → Kind → (X → Events) → List X → Events
each_after k f = each (λ x. word k ++ f x)

-- a list of one or more elements, with a token of this kind between each two
abbrev pub separated : {X : Type 0} → Kind → (X → Events) → OneOrMore X → Events
separated k f l = f l.first ++ each_after k f l.rest.items

-- the events o, n times
abbrev pub times : ℕ → Events → Events
times zero o = []
times (suc n) o = o ++ times n o
