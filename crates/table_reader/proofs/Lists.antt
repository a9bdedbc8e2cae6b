-- Lists whose items a loop reads and tabulates, one after the other.
use Rattle.std.proofs.Common.{◌≡◌, ℕ, ◌≤◌, ◌<◌, ◌+◌, false, List, [], ◌∷◌, ◌++◌, length, Ok, Err, Some, None, refl, sym, ap, ◌∙◌, arith, length-append}
use Rattle.std.specs.Global.{Vec}
use Rattle.ob_scan.specs.declared.token.Token.{Token}
use Rattle.ob_tree.specs.TreeEvents.{Events, each, word}
use Rattle.ob_tree.proofs.Eaches.{each_push}
use Rattle.ob_grammar.specs.declared.cursor.Cursor.{Cursor}
use Rattle.ob_grammar.specs.declared.stop.Stop.{Stop}
use Rattle.ob_grammar.specs.Combinators.{Read, Reader, Start, many}
use Rattle.ob_grammar.specs.ParsesAs.{Fails, remaining}
use Rattle.ob_grammar.proofs.Arrays.{few_ahead}
use Rattle.ob_grammar.proofs.Loops.{Advances, with_front, goes_on, is_done, marked_some, marked_none}
use Rattle.ob_grammar.proofs.LoopEnds.{ends}
use Rattle.ob_grammar.proofs.Turns.{Operation, Repetition, operation_shown, operation_start}
use Rattle.module_table.specs.declared.builder.TableBuilder.{TableBuilder}
use Rattle.module_table.specs.declared.builder.Context.{Context}
use Rattle.module_table.specs.Parts.{Fragment, token, both}
use Rattle.module_table.specs.Parts.{each as pieces}
use Rattle.module_table.specs.TableStages.{Stage, stage_of, after, advanced, PerformsStep}
use Rattle.module_table.proofs.Steps.{after_both, after_each, after_nothing, after_token}
use Rattle.table_reader.specs.Tabulating.{AppendsEntriesBy, AppendsEntries}
use Rattle.table_reader.proofs.Combine.{told_as, told_behind}
use Rattle.table_reader.proofs.Made.{list_phrase}

-- after a token
pub word_after : (p : Fragment) (c : Context) (s : Stage) → after (both token p) c s ≡ after p c (advanced s)
word_after p c s = after_both token p c s ∙ ap (after p c) (after_token c s)

---- the invariant of a loop

-- a list that the program doesn't build: its events were read, its entries were appended, and a property holds of it
pub record IsListed {X : Type 0} (f : X → Events) (step : List X → Stage → Stage) (So : List X → Type 0) (head_is : Events) (left : ℕ) (old now : TableBuilder) : Type 0 where
  pub list : List X
  pub has_events : each f list ≡ head_is
  pub comes : stage_of now ≡ step list (stage_of old)
  pub so : So list
  pub few : length list + left ≤ 4294967295

-- this part of a list has been read
pub record Listing {X : Type 0} (ts : List Token) (start : Start) (r : Reader) (f : X → Events) (step : List X → Stage → Stage) (So : List X → Type 0) (old now : TableBuilder) (input here : Cursor) : Type 0 where
  pub head_is : Events
  pub is_read : with_front head_is (many start r (remaining ts here)) ≡ many start r (remaining ts input)
  pub tabulates : now.failed ≡ false → (old.failed ≡ false) × IsListed f step So head_is (length (remaining ts here)) old now

-- a list with this property
pub record Gathered {X : Type 0} (So : List X → Type 0) : Type 0 where
  pub list : Vec X
  pub so : So list.items

no_front : (m : Read) → with_front [] m ≡ m
no_front (Ok x) = refl
no_front (Err e) = refl

module _ {X : Type 0} (ts : List Token) (start : Start) (r : Reader) (f : X → Events) (step : List X → Stage → Stage) where
  -- before the first iteration
  pub listing_begun : (So : List X → Type 0) (d : TableBuilder) (input : Cursor) → ((s : Stage) → step [] s ≡ s) → So [] → Listing ts start r f step So d d input input
  listing_begun So d input h k = record {
    head_is = [];
    is_read = no_front (many start r (remaining ts input));
    tabulates = λ e. (e, record { list = []; has_events = refl; comes = sym (h (stage_of d)); so = k; few = let few = few_ahead ts input in omega (arith, few) });
  }

  -- one iteration: these events come first, and then an item is read and tabulated
  pub listing_more : {A : Type 0} (So Still : List X → Type 0) (g : A → Events) (q : A → Stage → Stage) (make : A → X) (ms : Events) → Advances start r → ((a : A) → f (make a) ≡ ms ++ g a) →
      (old now new : TableBuilder) (input here following next : Cursor) → (new.failed ≡ false → (xs : List X) (a : A) → So xs → Still (xs ++ make a ∷ []) × ((s : Stage) → step (xs ++ make a ∷ []) s ≡ q a (step xs s))) →
      start (remaining ts here) ≡ Some (ms, remaining ts following) → Listing ts start r f step So old now input here →
      AppendsEntriesBy ts g q now new (Ok next) (r (remaining ts following)) → Listing ts start r f step Still old new input next
  listing_more So Still g q make ms adv events old now new input here following next grows found l t = record {
    head_is = l.head_is ++ (ms ++ t.out);
    is_read = goes_on start r adv l.head_is (remaining ts here) (ms, remaining ts following) (t.out, remaining ts next) (many start r (remaining ts input)) found t.is_read l.is_read;
    tabulates = λ e.
        let b = t.tabulates e in
        let a = l.tabulates b.0 in
        let x : X = make b.1.tree in
        let grown = grows e a.1.list b.1.tree a.1.so in
        let less = adv.shorter (remaining ts here) (ms, remaining ts following) (t.out, remaining ts next) found t.is_read in (
          a.0,
          record {
            list = a.1.list ++ x ∷ [];
            has_events = each_push f a.1.list x ∙ ap (λ (o : Events). each f a.1.list ++ o) (events b.1.tree) ∙ ap (λ (o : Events). o ++ (ms ++ g b.1.tree)) a.1.has_events ∙ ap (λ (o : Events). l.head_is ++ (ms ++ o)) b.1.has_events;
            comes = b.1.comes ∙ ap (q b.1.tree) a.1.comes ∙ sym (grown.1 (stage_of old));
            so = grown.0;
            few = let h = a.1.few in omega (arith, h, less, length-append a.1.list (x ∷ []));
          },
        );
  }

  -- between two iterations the entries are corrected, by what is known then
  pub listing_mended : (mended : List X → Stage → Stage) (So Still : List X → Type 0) (old now new : TableBuilder) (input here : Cursor) →
      (new.failed ≡ false → (now.failed ≡ false) × ((xs : List X) → So xs → stage_of now ≡ step xs (stage_of old) → Still xs × (stage_of new ≡ mended xs (stage_of old)))) →
      Listing ts start r f step So old now input here → Listing ts start r f mended Still old new input here
  listing_mended mended So Still old now new input here h l = record {
    head_is = l.head_is;
    is_read = l.is_read;
    tabulates = λ e.
        let k = h e in
        let a = l.tabulates k.0 in
        let m = k.1 a.1.list a.1.so a.1.comes in (a.0, record { list = a.1.list; has_events = a.1.has_events; comes = m.1; so = m.0; few = a.1.few });
  }

  -- the property of the list, if no allocation of the builder failed
  pub listing_known : {Fact : Type 0} (So : List X → Type 0) (old now : TableBuilder) (input here : Cursor) → ((xs : List X) → So xs → stage_of now ≡ step xs (stage_of old) → Fact) →
      Listing ts start r f step So old now input here → now.failed ≡ false → Fact
  listing_known So old now input here h l e = let a = l.tabulates e in h a.1.list a.1.so a.1.comes

  -- an iteration that fails
  pub listing_failed : (So : List X → Type 0) (e : Stop) (ms : Events) → Advances start r → (old now : TableBuilder) (input here following : Cursor) → start (remaining ts here) ≡ Some (ms, remaining ts following) →
      Listing ts start r f step So old now input here → Fails ts e (r (remaining ts following)) → Fails ts e (many start r (remaining ts input))
  listing_failed So e ms adv old now input here following found l h =
      ends start r adv ts e l.head_is (remaining ts here) (ms, remaining ts following) (many start r (remaining ts input)) found h l.is_read

  -- after the last iteration
  pub listing_done : (So : List X → Type 0) → Advances start r → (old now : TableBuilder) (input here : Cursor) → start (remaining ts here) ≡ None → Listing ts start r f step So old now input here →
      AppendsEntriesBy ts (λ (v : Gathered So). each f v.list.items) (λ v. step v.list.items) old now (Ok here) (many start r (remaining ts input))
  listing_done So adv old now input here none l = record {
    out = l.head_is;
    is_read = is_done start r adv l.head_is (remaining ts here) (many start r (remaining ts input)) none l.is_read;
    tabulates = λ e. let a = l.tabulates e in (
      a.0,
      record {
        tree = record { list = list_phrase old.uses.alloc a.1.list (let h = a.1.few in omega (arith, h)); so = a.1.so };
        has_events = a.1.has_events;
        comes = a.1.comes;
      },
    );
  }

-- an iteration takes tokens
pub listing_smaller : {A : Type 0} (ts : List Token) (start : Start) (r : Reader) (g : A → Events) (q : A → Stage → Stage) (ms : Events) → Advances start r → (now new : TableBuilder) (here following next : Cursor) →
    start (remaining ts here) ≡ Some (ms, remaining ts following) → AppendsEntriesBy ts g q now new (Ok next) (r (remaining ts following)) → length (remaining ts next) < length (remaining ts here)
listing_smaller ts start r g q ms adv now new here following next found t = adv.shorter (remaining ts here) (ms, remaining ts following) (t.out, remaining ts next) found t.is_read

---- lists without a further property

abbrev pub Any : {X : Type 0} → List X → Type 0
Any xs = Unit {0}

abbrev pub PieceListing : {X : Type 0} → List Token → Start → Reader → (X → Events) → (X → Fragment) → Context → TableBuilder → TableBuilder → Cursor → Cursor → Type 0
PieceListing ts start r f p c old now input here = Listing ts start r f (λ xs. after (pieces p xs) c) Any old now input here

module _ {X : Type 0} (ts : List Token) (start : Start) (r : Reader) (f : X → Events) (p : X → Fragment) (c : Context) where
  pub pieces_begun : (d : TableBuilder) (input : Cursor) → PieceListing ts start r f p c d d input input
  pieces_begun d input = listing_begun ts start r f (λ xs. after (pieces p xs) c) Any d input (λ s. after_nothing c s) tt

  pub pieces_more : {A : Type 0} (g : A → Events) (q : A → Stage → Stage) (make : A → X) (ms : Events) → Advances start r →
      ((a : A) → f (make a) ≡ ms ++ g a) → ((a : A) (s : Stage) → after (p (make a)) c s ≡ q a s) →
      (old now new : TableBuilder) (input here following next : Cursor) → start (remaining ts here) ≡ Some (ms, remaining ts following) → PieceListing ts start r f p c old now input here →
      AppendsEntriesBy ts g q now new (Ok next) (r (remaining ts following)) → PieceListing ts start r f p c old new input next
  pieces_more g q make ms adv events stepped old now new input here following next found l t =
      listing_more ts start r f (λ xs. after (pieces p xs) c) Any Any g q make ms adv events old now new input here following next
      (λ e xs a so. (tt, λ s. after_each p xs (make a) c s ∙ stepped a (after (pieces p xs) c s))) found l t

  -- the same after a token, by which the builder advances
  pub pieces_behind : {A : Type 0} (g : A → Events) (q : A → Fragment) (make : A → X) (ms : Events) → Advances start r →
      ((a : A) → f (make a) ≡ ms ++ g a) → ((a : A) → p (make a) ≡ both token (q a)) →
      (old now mid new : TableBuilder) (input here following next : Cursor) → start (remaining ts here) ≡ Some (ms, remaining ts following) → PieceListing ts start r f p c old now input here →
      PerformsStep advanced now mid → AppendsEntries ts g q c mid new (Ok next) (r (remaining ts following)) → PieceListing ts start r f p c old new input next
  pieces_behind g q make ms adv events stepped old now mid new input here following next found l h t =
      pieces_more g (λ a s. after (q a) c (advanced s)) make ms adv events (λ a s. ap (λ (x : Fragment). after x c s) (stepped a) ∙ word_after (q a) c s) old now new input here following next found l
      (told_behind ts g (λ a. after (q a) c) advanced now mid new (Ok next) (r (remaining ts following)) h t)

  pub pieces_done : Advances start r → (old now : TableBuilder) (input here : Cursor) → start (remaining ts here) ≡ None → PieceListing ts start r f p c old now input here →
      AppendsEntriesBy ts (λ (v : Vec X). each f v.items) (λ v. after (pieces p v.items) c) old now (Ok here) (many start r (remaining ts input))
  pieces_done adv old now input here none l =
      told_as ts (λ (v : Gathered {X = X} Any). each f v.list.items) (λ v. after (pieces p v.list.items) c) (λ v. each f v.items) (λ v. after (pieces p v.items) c) (λ v. v.list) (λ v. refl) (λ v s. refl)
      old now (Ok here) _ (listing_done ts start r f (λ xs. after (pieces p xs) c) Any adv old now input here none l)

---- repetitions in the grammar

-- after a token
abbrev pub behind_token : {X : Type 0} → (X → Fragment) → X → Fragment
behind_token p x = both token (p x)

abbrev pub RepeatListing : {X : Type 0} → List Token → Repetition X → (X → Fragment) → Context → TableBuilder → TableBuilder → Cursor → Cursor → Type 0
RepeatListing ts r p c old now input here = PieceListing ts r.start r.read (λ x. r.marks ++ r.shown x) p c old now input here

module _ {X : Type 0} (ts : List Token) (r : Repetition X) (p : X → Fragment) (c : Context) where
  pub repeat_begun : (d : TableBuilder) (input : Cursor) → RepeatListing ts r p c d d input input
  repeat_begun d input = pieces_begun ts r.start r.read (λ x. r.marks ++ r.shown x) p c d input

  -- an iteration takes tokens
  pub repeat_shorter : (now new : TableBuilder) (here following next : Cursor) → r.start (remaining ts here) ≡ Some (r.marks, remaining ts following) → AppendsEntries ts r.shown p c now new (Ok next) (r.read (remaining ts following)) →
      length (remaining ts next) < length (remaining ts here)
  repeat_shorter now new here following next found t = listing_smaller ts r.start r.read r.shown (λ x. after (p x) c) r.marks r.advances now new here following next found t

  pub repeat_more : (old now new : TableBuilder) (input here following next : Cursor) → r.start (remaining ts here) ≡ Some (r.marks, remaining ts following) → RepeatListing ts r p c old now input here →
      AppendsEntries ts r.shown p c now new (Ok next) (r.read (remaining ts following)) → RepeatListing ts r p c old new input next
  repeat_more old now new input here following next found l t =
      pieces_more ts r.start r.read (λ x. r.marks ++ r.shown x) p c r.shown (λ x. after (p x) c) (λ x. x) r.marks r.advances (λ x. refl) (λ x s. refl) old now new input here following next found l t

  pub repeat_behind : (old now mid new : TableBuilder) (input here following next : Cursor) → r.start (remaining ts here) ≡ Some (r.marks, remaining ts following) → RepeatListing ts r (behind_token p) c old now input here →
      PerformsStep advanced now mid → AppendsEntries ts r.shown p c mid new (Ok next) (r.read (remaining ts following)) → RepeatListing ts r (behind_token p) c old new input next
  repeat_behind old now mid new input here following next found l h t =
      pieces_behind ts r.start r.read (λ x. r.marks ++ r.shown x) (behind_token p) c r.shown p (λ x. x) r.marks r.advances (λ x. refl) (λ x. refl) old now mid new input here following next found l h t

  -- an iteration that fails
  pub repeat_failed : (e : Stop) (old now : TableBuilder) (input here following : Cursor) → r.start (remaining ts here) ≡ Some (r.marks, remaining ts following) → RepeatListing ts r p c old now input here →
      Fails ts e (r.read (remaining ts following)) → Fails ts e (many r.start r.read (remaining ts input))
  repeat_failed e old now input here following found l h = listing_failed ts r.start r.read (λ x. r.marks ++ r.shown x) (λ xs. after (pieces p xs) c) Any e r.marks r.advances old now input here following found l h

  pub repeat_done : (old now : TableBuilder) (input here : Cursor) → r.start (remaining ts here) ≡ None → RepeatListing ts r p c old now input here →
      AppendsEntriesBy ts (λ (v : Vec X). each (λ x. r.marks ++ r.shown x) v.items) (λ v. after (pieces p v.items) c) old now (Ok here) (many r.start r.read (remaining ts input))
  repeat_done old now input here none l = pieces_done ts r.start r.read (λ x. r.marks ++ r.shown x) p c r.advances old now input here none l

---- operators, and the operand after each

abbrev pub OperationListing : {Op X : Type 0} → List Token → Operation Op X → (X → Fragment) → Context → TableBuilder → TableBuilder → Cursor → Cursor → Type 0
OperationListing ts o p c old now input here = PieceListing ts (operation_start o) o.read (operation_shown o) (λ x. both token (p x.1)) c old now input here

module _ {Op X : Type 0} (ts : List Token) (o : Operation Op X) (p : X → Fragment) (c : Context) where
  pub operations_begun : (d : TableBuilder) (input : Cursor) → OperationListing ts o p c d d input input
  operations_begun d input = pieces_begun ts (operation_start o) o.read (operation_shown o) (λ x. both token (p x.1)) c d input

  pub operation_shorter : (op : Op) (now new : TableBuilder) (here following next : Cursor) → Some (op, remaining ts following) ≡ o.at (remaining ts here) → AppendsEntries ts o.shown p c now new (Ok next) (o.read (remaining ts following)) →
      length (remaining ts next) < length (remaining ts here)
  operation_shorter op now new here following next found t =
      listing_smaller ts (operation_start o) o.read o.shown (λ x. after (p x) c) (word (o.kind op)) o.advances now new here following next (marked_some o.kind op (remaining ts following) _ found) t

  pub operation_told : (op : Op) (old now mid new : TableBuilder) (input here following next : Cursor) → Some (op, remaining ts following) ≡ o.at (remaining ts here) → OperationListing ts o p c old now input here →
      PerformsStep advanced now mid → AppendsEntries ts o.shown p c mid new (Ok next) (o.read (remaining ts following)) → OperationListing ts o p c old new input next
  operation_told op old now mid new input here following next found l h t =
      pieces_behind ts (operation_start o) o.read (operation_shown o) (λ x. both token (p x.1)) c o.shown p (λ x. (op, x)) (word (o.kind op)) o.advances (λ x. refl) (λ x. refl) old now mid new input here following next (marked_some o.kind op (remaining ts following) _ found) l h t

  pub operation_failed : (op : Op) (e : Stop) (old now : TableBuilder) (input here following : Cursor) → Some (op, remaining ts following) ≡ o.at (remaining ts here) → OperationListing ts o p c old now input here →
      Fails ts e (o.read (remaining ts following)) → Fails ts e (many (operation_start o) o.read (remaining ts input))
  operation_failed op e old now input here following found l h =
      listing_failed ts (operation_start o) o.read (operation_shown o) (λ xs. after (pieces (λ x. both token (p x.1)) xs) c) Any e (word (o.kind op)) o.advances old now input here following (marked_some o.kind op (remaining ts following) _ found) l h

  pub operations_done : (old now : TableBuilder) (input here : Cursor) → None ≡ o.at (remaining ts here) → OperationListing ts o p c old now input here →
      AppendsEntriesBy ts (λ (v : Vec (Op × X)). each (operation_shown o) v.items) (λ v. after (pieces (λ x. both token (p x.1)) v.items) c) old now (Ok here) (many (operation_start o) o.read (remaining ts input))
  operations_done old now input here none l =
      pieces_done ts (operation_start o) o.read (operation_shown o) (λ x. both token (p x.1)) c o.advances old now input here (marked_none o.kind _ none) l
