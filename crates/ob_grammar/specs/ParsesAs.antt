-- The results of the functions of the parser, in terms of the readers.
use Rattle.std.specs.Prelude.{◌≡◌, List, [], ◌∷◌, ◌++◌, map, drop, take, Option, Some, None, Result, Ok, Err}
use Rattle.ob_scan.specs.declared.kind.Kind.{Kind}
use Rattle.ob_scan.specs.declared.token.Token.{Token}
use Rattle.ob_tree.specs.declared.token.Leaf.{Leaf}
use Rattle.ob_tree.specs.Leaves.{leaves_from}
use Rattle.ob_tree.specs.TreeEvents.{Events, word}
use Rattle.ob_grammar.specs.declared.stop.Stop.{Stop}
use Rattle.ob_grammar.specs.declared.stop.Stop.TheVariants as stops
use Rattle.ob_grammar.specs.declared.cursor.Cursor.{Cursor}
use Rattle.ob_grammar.specs.Lookahead.{uncons}
use Rattle.ob_grammar.specs.Combinators.{ReadError, Unexpected, too_deep_error}

-- the kind of a token
abbrev pub kind_of : Token → Kind
kind_of t = t.kind

-- the tokens from the cursor on; tokens from index 2^32 - 1 on are left out
unfoldable pub remaining : List Token → Cursor → List Leaf
remaining ts i = leaves_from i.at (map kind_of (drop i.at (take 4294967295 ts)))

-- a value, and the remaining tokens instead of the cursor
abbrev pub with_remaining : {X : Type 0} → List Token → Option (X × Cursor) → Option (X × List Leaf)
with_remaining ts None = None
with_remaining ts (Some x) = Some (x.0, remaining ts x.1)

-- the event of a token of this kind if it was accepted, and the remaining tokens
abbrev pub skipped : List Token → Kind → Option Cursor → Option (Events × List Leaf)
skipped ts k None = None
skipped ts k (Some i) = Some (word k, remaining ts i)

-- the parser stopped for the reason for which the reader fails; nothing is claimed if an allocation failed
abbrev pub Fails : {Y : Type 0} → List Token → Stop → Result Y ReadError → Type 0
Fails ts (stops.Unexpected i) read = read ≡ Err (Unexpected (uncons (remaining ts i)))
Fails ts (stops.TooDeep i) read = read ≡ Err (too_deep_error (uncons (remaining ts i)))
Fails ts stops.Memory read = Unit {0}

-- the parser's result, mapped by `view`, is what the grammar's reader `read` returns; nothing is claimed if an allocation failed
abbrev pub ParsesAs : {X Y : Type 0} → List Token → (X → Y) → Result X Stop → Result Y ReadError → Type 0
ParsesAs ts view (Ok x) read = read ≡ Ok (view x)
ParsesAs ts view (Err e) read = Fails ts e read

-- the item that was read was appended to the list, and the cursor after it is returned; else the error is passed on
abbrev pub AppendsItem : {X T : Type 0} → (X → T) → List T → List T → Result (X × Cursor) Stop → Result Cursor Stop → Type 0
AppendsItem value old new (Ok x) (Ok rest) = (new ≡ old ++ value x.0 ∷ []) × (x.1 ≡ rest)
AppendsItem value old new (Ok x) (Err stop) = stop ≡ stops.Memory
AppendsItem value old new (Err e) (Ok rest) = ⊥
AppendsItem value old new (Err e) (Err stop) = e ≡ stop

-- the item that was read, wrapped in `Some`
abbrev pub some_of : {X : Type 0} → Result (X × Cursor) Stop → Result (Option X × Cursor) Stop
some_of (Ok x) = Ok (Some x.0, x.1)
some_of (Err e) = Err e
