-- The repetitions of the grammar, and a loop that appends the items that it reads to a list.
use Rattle.std.proofs.Common.{◌≡◌, ◌<◌, List, [], ◌∷◌, ◌++◌, length, Some, None, Ok, Err, refl}
use Rattle.std.specs.Prelude.{Result}
use Rattle.ob_scan.specs.declared.kind.Kind.{Kind}
use Rattle.ob_scan.specs.declared.token.Token.{Token}
use Rattle.ob_tree.specs.declared.token.Leaf.{Leaf}
use Rattle.ob_tree.specs.TreeEvents.{Events, each, word}
use Rattle.ob_grammar.specs.declared.cursor.Cursor.{Cursor}
use Rattle.ob_grammar.specs.declared.stop.Stop.{Stop}
use Rattle.ob_grammar.specs.Combinators.{Lookahead, Reader, Start, many}
use Rattle.ob_grammar.specs.ParsesAs.{ParsesAs, AppendsItem, Fails, remaining}
use Rattle.ob_grammar.specs.ReadExpressions.{as_word}
use Rattle.ob_grammar.proofs.Kept.{kept, unkept}
use Rattle.ob_grammar.proofs.LoopEnds.{ends}
use Rattle.ob_grammar.proofs.Loops.{Advances, with_front, pushed, is_done, marked_some, marked_none}

-- items one after the other: the events of each prefix, how the prefix and the item are read, and their event sequence
pub record Repetition (T : Type 0) : Type 0 where
  pub marks : Events
  pub start : Start
  pub read : Reader
  pub advances : Advances start read
  pub shown : T → Events

-- the event sequence of this many items
abbrev pub all_shown : {T : Type 0} → Repetition T → List T → Events
all_shown r xs = each (λ x. r.marks ++ r.shown x) xs

-- these items were read from the one cursor up to the other
abbrev pub AreTurnsRead : {T : Type 0} → List Token → Repetition T → List T → Cursor → Cursor → Type 0
AreTurnsRead ts r xs input here = with_front (all_shown r xs) (many r.start r.read (remaining ts here)) ≡ many r.start r.read (remaining ts input)

module _ {X T : Type 0} (ts : List Token) (r : Repetition T) (result : Result (X × Cursor) Stop) (value : X → T) (here behind : Cursor) (old new : List T) where
  -- a turn takes tokens
  pub turn_shorter : (next : Cursor) → r.start (remaining ts here) ≡ Some (r.marks, remaining ts behind) → ParsesAs ts (λ x. (r.shown (value x.0), remaining ts x.1)) result (r.read (remaining ts behind)) →
      AppendsItem value old new result (Ok next) → length (remaining ts next) < length (remaining ts here)
  turn_shorter next found gives invariants =
      let k = kept ts r.shown result value old new next (r.read (remaining ts behind)) gives invariants in
      r.advances.shorter (remaining ts here) (r.marks, remaining ts behind) (r.shown k.item, remaining ts next) found k.is_read

  -- the list has one more
  pub turn_kept : (next input : Cursor) → r.start (remaining ts here) ≡ Some (r.marks, remaining ts behind) → ParsesAs ts (λ x. (r.shown (value x.0), remaining ts x.1)) result (r.read (remaining ts behind)) →
      AppendsItem value old new result (Ok next) → AreTurnsRead ts r old input here → AreTurnsRead ts r new input next
  turn_kept next input found gives invariants h =
      let k = kept ts r.shown result value old new next (r.read (remaining ts behind)) gives invariants in
      pushed r.start r.read r.advances (λ x. r.marks ++ r.shown x) old new k.item (remaining ts here) (r.marks, remaining ts behind) (r.shown k.item, remaining ts next) _ k.items found k.is_read refl h

  -- a turn that fails: the loop fails with it
  pub turn_failed : (stop : Stop) (input : Cursor) → r.start (remaining ts here) ≡ Some (r.marks, remaining ts behind) → ParsesAs ts (λ x. (r.shown (value x.0), remaining ts x.1)) result (r.read (remaining ts behind)) →
      AppendsItem value old new result (Err stop) → AreTurnsRead ts r old input here → Fails ts stop (many r.start r.read (remaining ts input))
  turn_failed stop input found gives invariants h =
      ends r.start r.read r.advances ts stop (all_shown r old) (remaining ts here) (r.marks, remaining ts behind) _ found (unkept ts r.shown result value old new stop (r.read (remaining ts behind)) gives invariants) h

-- after the last turn
pub turns_done : {T : Type 0} (ts : List Token) (r : Repetition T) (xs : List T) (here input : Cursor) → r.start (remaining ts here) ≡ None → AreTurnsRead ts r xs input here →
    many r.start r.read (remaining ts input) ≡ Ok (all_shown r xs, remaining ts here)
turns_done ts r xs here input none h = is_done r.start r.read r.advances (all_shown r xs) (remaining ts here) _ none h

-- ---- operators, and what is after each

pub record Operation (Op X : Type 0) : Type 0 where
  pub kind : Op → Kind
  pub at : List Leaf → Lookahead Op
  pub read : Reader
  pub advances : Advances (λ ls. as_word kind (at ls)) read
  pub shown : X → Events

abbrev pub operation_start : {Op X : Type 0} → Operation Op X → Start
operation_start o ls = as_word o.kind (o.at ls)

abbrev pub operation_shown : {Op X : Type 0} → Operation Op X → Op × X → Events
operation_shown o p = word (o.kind p.0) ++ o.shown p.1

-- these were read from the one place up to the other
abbrev pub AreOperationsRead : {Op X : Type 0} → List Token → Operation Op X → List (Op × X) → Cursor → Cursor → Type 0
AreOperationsRead ts o xs input here = with_front (each (operation_shown o) xs) (many (operation_start o) o.read (remaining ts here)) ≡ many (operation_start o) o.read (remaining ts input)

module _ {Op X : Type 0} (ts : List Token) (o : Operation Op X) (op : Op) (here behind : Cursor) where
  pub operation_shorter : (x : X) (next : Cursor) → Some (op, remaining ts behind) ≡ o.at (remaining ts here) → o.read (remaining ts behind) ≡ Ok (o.shown x, remaining ts next) → length (remaining ts next) < length (remaining ts here)
  operation_shorter x next found e = o.advances.shorter (remaining ts here) (word (o.kind op), remaining ts behind) (o.shown x, remaining ts next) (marked_some o.kind op (remaining ts behind) _ found) e

  pub operation_kept : (old new : List (Op × X)) (x : X) (next input : Cursor) → Some (op, remaining ts behind) ≡ o.at (remaining ts here) → o.read (remaining ts behind) ≡ Ok (o.shown x, remaining ts next) →
      new ≡ old ++ (op, x) ∷ [] → AreOperationsRead ts o old input here → AreOperationsRead ts o new input next
  operation_kept old new x next input found e items h =
      pushed (operation_start o) o.read o.advances (operation_shown o) old new (op, x) (remaining ts here) (word (o.kind op), remaining ts behind) (o.shown x, remaining ts next) _ items (marked_some o.kind op (remaining ts behind) _ found) e refl h

  pub operation_failed : (old : List (Op × X)) (stop : Stop) (input : Cursor) → Some (op, remaining ts behind) ≡ o.at (remaining ts here) → Fails ts stop (o.read (remaining ts behind)) →
      AreOperationsRead ts o old input here → Fails ts stop (many (operation_start o) o.read (remaining ts input))
  operation_failed old stop input found e h =
      ends (operation_start o) o.read o.advances ts stop (each (operation_shown o) old) (remaining ts here) (word (o.kind op), remaining ts behind) _ (marked_some o.kind op (remaining ts behind) _ found) e h

pub operations_done : {Op X : Type 0} (ts : List Token) (o : Operation Op X) (xs : List (Op × X)) (here input : Cursor) → None ≡ o.at (remaining ts here) → AreOperationsRead ts o xs input here →
    many (operation_start o) o.read (remaining ts input) ≡ Ok (each (operation_shown o) xs, remaining ts here)
operations_done ts o xs here input none h = is_done (operation_start o) o.read o.advances (each (operation_shown o) xs) (remaining ts here) _ (marked_none o.kind _ none) h
