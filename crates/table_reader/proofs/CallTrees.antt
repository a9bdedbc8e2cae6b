-- Lists of expressions, and the arguments of a call, from their tabulated parts.
use Rattle.std.proofs.Common.{◌≡◌, ℕ, suc, ◌+◌, ◌<◌, false, List, [], ◌∷◌, ◌++◌, length, Option, Some, None, Ok, Err, refl, sym, ap, ◌∙◌, arith, length-append, ◌≤◌, ◌-◌, ◌^◌, min}
use Rattle.std.specs.Global.{Box, Vec}
use Rattle.std.specs.Prelude.{Result}
use Rattle.ob_scan.specs.declared.kind.Kind.{Kind}
use Rattle.ob_scan.specs.declared.kind.Kind.TheVariants as kinds
use Rattle.ob_scan.specs.declared.token.Token.{Token}
use Rattle.ob_tree.specs.declared.token.Leaf.{Leaf}
use Rattle.ob_tree.specs.declared.expression.Factor.TheOpen as layers
use Rattle.ob_tree.specs.declared.expression.Selector.TheVariants as selectors
use Rattle.ob_tree.specs.declared.expression.Expr.{Expr}
use Rattle.ob_tree.specs.declared.expression.ExprList.{ExprList, roll-ExprList, out-roll-ExprList}
use Rattle.ob_tree.specs.Constructs as constructs
use Rattle.ob_tree.specs.TreeEvents.{Events, construct, word, each, tokens_of}
use Rattle.ob_tree.specs.Expressions.{expr_events, expr_list_events}
use Rattle.ob_tree.proofs.ExpressionLayers as events
use Rattle.module_table.specs.declared.rows.Selector.{Selector as SelectorRow}
use Rattle.module_table.specs.declared.rows.Step.TheVariants as steps
use Rattle.module_table.specs.declared.rows.TypeName.{TypeName}
use Rattle.module_table.specs.declared.builder.Context.{Context}
use Rattle.module_table.specs.declared.builder.TableBuilder.{TableBuilder}
use Rattle.module_table.specs.TableStages.{Stage, stage_of, after, advanced, with_selector, PerformsStep}
use Rattle.module_table.specs.Parts.{Fragment, token, both}
use Rattle.module_table.specs.Parts.{each as pieces}
use Rattle.table_rules.specs.Expressions.{SelectorPhrase, between, list_phrase, expr_rows, expr_list_rows}
use Rattle.table_rules.proofs.ExpressionLayers as effect
use Rattle.module_table.proofs.Steps.{after_each, after_nothing, number_of}
use Rattle.ob_grammar.specs.declared.cursor.Cursor.{Cursor}
use Rattle.ob_grammar.specs.declared.stop.Stop.{Stop}
use Rattle.ob_grammar.specs.Combinators.{Read, Reader, seq, node, prefixed, optional, unless, many, several, accept_at, expect_at}
use Rattle.ob_grammar.specs.ParsesAs.{remaining}
use Rattle.ob_grammar.specs.ReadExpressions.{expr_at}
use Rattle.ob_grammar.proofs.Loops.{Advances, shortens_expect}
use Rattle.ob_grammar.proofs.Compatible.{optional_held, several_held, unless_starts}
use Rattle.ob_grammar.proofs.Sound.{Sound, Takes, sound, expr_at_sound}
use Rattle.ob_grammar.proofs.Taking.{given}
use Rattle.table_reader.specs.SelectorShapes.{is_present, SelectorShape, selector_shape_events, selector_stage, Counted, counted_events, Counts, MoreExprs, more_events, CountsMore}
use Rattle.table_reader.specs.SoleNames.{sole_name_of}
use Rattle.table_reader.specs.Shapes.{exprs_events, exprs_rows, arguments_events, arguments_rows}
use Rattle.table_reader.specs.Tabulating.{HasAppendedEntries, AppendsEntries, AppendsEntriesBy}
use Rattle.table_reader.proofs.Combine.{told_as, told_at, told_then, told_there, told_behind, told_with}
use Rattle.table_reader.proofs.DesignatorTrees.{picking_shown, told_settled}
use Rattle.table_reader.proofs.ExpressionTrees.{both_after}
use Rattle.table_reader.proofs.Lists.{Gathered, Listing, listing_begun, listing_more, listing_done, word_after}
use Rattle.table_reader.proofs.SoleTokens.{lone_between}
use Rattle.table_reader.proofs.Made.{boxed}

-- ---- list = expression {"," expression}

abbrev list_of : Expr × Vec Expr → ExprList
list_of x = roll-ExprList (record { first = x.0; rest = x.1 })

list_parts : (x : Expr × Vec Expr) → expr_list_rows (list_of x) ≡ both (expr_rows x.0) (exprs_rows x.1)
list_parts x = effect.expr_list_out (list_of x) ∙ ap (λ y. both (expr_rows y.first) (exprs_rows y.rest)) (out-roll-ExprList (record { first = x.0; rest = x.1 }))

list_count : (x : Expr × Vec Expr) → (list_phrase (list_of x)).count ≡ suc (length x.1.items)
list_count x = effect.expr_list_count (list_of x) ∙ ap (λ y. suc (length y.rest.items)) (out-roll-ExprList (record { first = x.0; rest = x.1 }))

pub list_told : (ts : List Token) (c : Context) (r : Reader) (old mid new : TableBuilder) (input here : Cursor) (result : Result (Cursor × ℕ) Stop) →
    AppendsEntries ts expr_events expr_rows c old mid (Ok here) (r (remaining ts input)) → CountsMore ts c mid new result (many (accept_at kinds.Comma) r (remaining ts here)) →
    Counts ts c old new result (several kinds.Comma r (remaining ts input))
unfolding several
list_told ts c r old mid new input here (Ok y) a b =
    told_as ts (λ (x : Expr × MoreExprs y.1). expr_events x.0 ++ exprs_events x.1.list) (λ x s. after (exprs_rows x.1.list) c (after (expr_rows x.0) c s))
    (counted_events {n = y.1}) (λ l. after (expr_list_rows l.list) c) (λ x. record { list = list_of (x.0, x.1.list); counted = list_count (x.0, x.1.list) ∙ x.1.counted })
    (λ x. events.expr_list_made (record { first = x.0; rest = x.1.list })) (λ x s. both_after _ _ _ c s (list_parts (x.0, x.1.list))) old new (Ok y.0) (seq r (many (accept_at kinds.Comma) r) (remaining ts input))
    (told_then ts expr_events (λ x. after (expr_rows x) c) (more_events {n = y.1}) (λ x. after (exprs_rows x.list) c) r (many (accept_at kinds.Comma) r) old mid new here (Ok y.0) (remaining ts input) a b)
list_told ts c r old mid new input here (Err e) a b =
    told_then ts expr_events (λ x. after (expr_rows x) c) (λ (x : Unit {0}). []) (λ x s. s) r (many (accept_at kinds.Comma) r) old mid new here (Err e) (remaining ts input) a b

-- each expression begins with a token
each_long : {X : Type 0} (f : X → Fragment) (xs : List X) → length xs ≤ (pieces (λ x. both token (f x)) xs).width
unfolding both token
each_long f [] = omega arith
each_long f (x ∷ xs) = omega (arith, each_long f xs)

after_number : (p : Fragment) (c : Context) (s : Stage) → (after p c s).number ≡ s.number + p.width
unfolding after
after_number p c s = refl

-- the invariant of the loop over the expressions after the first one
abbrev pub FurtherListing : List Token → Reader → Context → ℕ → TableBuilder → TableBuilder → Cursor → Cursor → Type 0
FurtherListing ts r c count old now input here =
    Listing {X = Expr} ts (accept_at kinds.Comma) r (λ e. word kinds.Comma ++ expr_events e) (λ xs. after (pieces (λ e. both token (expr_rows e)) xs) c) (λ xs. suc (length xs) ≡ count) old now input here

pub further_begun : (ts : List Token) (r : Reader) (c : Context) (d : TableBuilder) (input : Cursor) → FurtherListing ts r c 1 d d input input
further_begun ts r c d input =
    listing_begun ts (accept_at kinds.Comma) r (λ e. word kinds.Comma ++ expr_events e) (λ xs. after (pieces (λ e. both token (expr_rows e)) xs) c) (λ xs. suc (length xs) ≡ 1) d input (λ s. after_nothing c s) refl

-- after a comma more tokens have been read than expressions are counted
turns_few : (ts : List Token) (r : Reader) (c : Context) (count : ℕ) (old now : TableBuilder) (input here : Cursor) → (old.failed ≡ false → 0 < old.number) →
    FurtherListing ts r c count old now input here → now.failed ≡ false → count ≤ now.number
turns_few ts r c count old now input here begun l e =
    let a = l.tabulates e in
    let p : Fragment = pieces (λ (x : Expr). both token (expr_rows x)) a.1.list in
    omega (arith, begun a.0, a.1.so, each_long (λ (x : Expr). expr_rows x) a.1.list, ap (λ (s : Stage). s.number) a.1.comes, number_of now, after_number p c (stage_of old), number_of old)

-- after a first expression there is still a token before the cursor
pub still_begun : (ts : List Token) (c : Context) (old new : TableBuilder) (rest : Cursor) (read : Read) → (old.failed ≡ false → 0 < old.number) →
    HasAppendedEntries ts expr_events (λ x. after (expr_rows x) c) old new rest read → new.failed ≡ false → 0 < new.number
still_begun ts c old new rest read begun t e =
    let k = t.tabulates e in
    omega (arith, begun k.0, ap (λ (s : Stage). s.number) k.1.comes, number_of new, after_number (expr_rows k.1.tree) c (stage_of old), number_of old)

pub further_more : (ts : List Token) (r : Reader) (c : Context) (count later : ℕ) → Advances (accept_at kinds.Comma) r → (old now mid new : TableBuilder) (input here following next : Cursor) →
    accept_at kinds.Comma (remaining ts here) ≡ Some (word kinds.Comma, remaining ts following) → FurtherListing ts r c count old now input here → PerformsStep advanced now mid →
    AppendsEntries ts expr_events expr_rows c mid new (Ok next) (r (remaining ts following)) →
    (old.failed ≡ false → 0 < old.number) → now.number + 1 < 2 ^ 32 → later ≡ min (count + 1) (2 ^ 32 - 1) → FurtherListing ts r c later old new input next
further_more ts r c count later adv old now mid new input here following next found l h t begun small counts =
    listing_more ts (accept_at kinds.Comma) r (λ e. word kinds.Comma ++ expr_events e) (λ xs. after (pieces (λ e. both token (expr_rows e)) xs) c)
    (λ xs. suc (length xs) ≡ count) (λ xs. suc (length xs) ≡ later) expr_events (λ a s. after (expr_rows a) c (advanced s)) (λ a. a) (word kinds.Comma) adv (λ a. refl) old now new input here following next
    (λ e xs a so. (omega (arith, counts, small, turns_few ts r c count old now input here begun l (h (t.tabulates e).0).0, so, length-append xs (a ∷ [])), λ s. after_each (λ e. both token (expr_rows e)) xs a c s ∙ word_after (expr_rows a) c (after (pieces (λ e. both token (expr_rows e)) xs) c s)))
    found l
    (told_behind ts expr_events (λ a. after (expr_rows a) c) advanced now mid new (Ok next) (r (remaining ts following)) h t)

pub further_done : (ts : List Token) (r : Reader) (c : Context) (count : ℕ) → Advances (accept_at kinds.Comma) r → (old now : TableBuilder) (input here : Cursor) →
    accept_at kinds.Comma (remaining ts here) ≡ None → FurtherListing ts r c count old now input here → CountsMore ts c old now (Ok (here, count)) (many (accept_at kinds.Comma) r (remaining ts input))
further_done ts r c count adv old now input here none l =
    let So : List Expr → Type 0 = λ xs. suc (length xs) ≡ count in
    told_as ts (λ (v : Gathered So). each (λ e. word kinds.Comma ++ expr_events e) v.list.items) (λ v. after (pieces (λ e. both token (expr_rows e)) v.list.items) c)
    (more_events {n = count}) (λ v. after (exprs_rows v.list) c) (λ v. record { list = v.list; counted = v.so }) (λ v. refl) (λ v s. refl) old now (Ok here) _
    (listing_done ts (accept_at kinds.Comma) r (λ e. word kinds.Comma ++ expr_events e) (λ xs. after (pieces (λ e. both token (expr_rows e)) xs) c) So adv old now input here none l)

-- ---- "(" [list] ")"

pub some_arguments_told : (ts : List Token) (c : Context) (r : Reader) (count : ℕ) (old new : TableBuilder) (input rest : Cursor) →
    unless kinds.RightParen (remaining ts input) ≡ Some ([], remaining ts input) → HasAppendedEntries {T = Counted count} ts counted_events (λ l. after (expr_list_rows l.list) c) old new rest (r (remaining ts input)) →
    HasAppendedEntries ts arguments_events (λ x. after (arguments_rows x) c) old new rest (optional (unless kinds.RightParen) r (remaining ts input))
some_arguments_told ts c r count old new input rest found t =
    told_as ts (λ (x : Counted count). [] ++ expr_list_events x.list) (λ x. after (expr_list_rows x.list) c) arguments_events (λ x. after (arguments_rows x) c)
    (λ x. Some (boxed old.uses.alloc x.list)) (λ x. refl) (λ x s. refl) old new (Ok rest) (optional (unless kinds.RightParen) r (remaining ts input))
    (told_there ts (counted_events {n = count}) (λ x. after (expr_list_rows x.list) c) (unless kinds.RightParen) r [] old new input (Ok rest) (remaining ts input) found t)

-- a tree whose tokens are those between two cursors
record Spelt {A : Type 0} (ts : List Token) (f : A → Events) (input here : Cursor) : Type 0 where
  tree : A
  spelt : remaining ts input ≡ tokens_of (f tree) ++ remaining ts here

told_spelt : {A : Type 0} (ts : List Token) (f : A → Events) (p : A → Stage → Stage) (d : ℕ) (r : Reader) (old new : TableBuilder) (input rest : Cursor) → Sound d r → HasAppendedEntries ts f p old new rest (r (remaining ts input)) →
    HasAppendedEntries {T = Spelt ts f input rest} ts (λ x. f x.tree) (λ x. p x.tree) old new rest (r (remaining ts input))
told_spelt ts f p d r old new input rest h t = record {
  out = t.out;
  is_read = t.is_read;
  tabulates = λ e. let k = t.tabulates e in (
    k.0,
    record {
      tree = record { tree = k.1.tree; spelt = (given Takes h (remaining ts input) (t.out, remaining ts rest) t.is_read).parts ∙ ap (λ (o : Events). tokens_of o ++ remaining ts rest) (sym k.1.has_events) };
      has_events = k.1.has_events;
      comes = k.1.comes;
    },
  );
}

-- if a token was read, one was there
told_left : (ts : List Token) (k : Kind) (old new : TableBuilder) (here : Cursor) (result : Result Cursor Stop) →
    AppendsEntriesBy ts (λ (x : Unit {0}). word k) (λ x s. advanced s) old new result (expect_at k (remaining ts here)) →
    AppendsEntriesBy {T = 0 < length (remaining ts here)} ts (λ x. word k) (λ x s. advanced s) old new result (expect_at k (remaining ts here))
told_left ts k old new here (Ok rest) t = record {
  out = t.out;
  is_read = t.is_read;
  tabulates = λ e. let z = t.tabulates e in let less = shortens_expect k (remaining ts here) (t.out, remaining ts rest) t.is_read in (z.0, record { tree = omega (arith, less); has_events = z.1.has_events; comes = z.1.comes });
}
told_left ts k old new here (Err e) t = t

-- the name that the tokens between two cursors form
abbrev LoneSeen : List Token → Cursor → Cursor → Option TypeName → Type 0
LoneSeen ts input here name = (ls : List Leaf) → remaining ts input ≡ ls ++ remaining ts here → 0 < length (remaining ts here) → name ≡ sole_name_of ls input.at

call_picked : Option (Box ExprList) → SelectorShape false
call_picked o = record { selector = selectors.Arguments o; named = ap (λ (x : SelectorPhrase). is_present x.name) (effect.arguments_made o) }

pub call_told : (ts : List Token) (c : Context) (d : ℕ) (head at : ℕ) (name : Option TypeName) (old mid list late new : TableBuilder) (input here : Cursor) (result : Result Cursor Stop) →
    old.number + 1 ≡ input.at → (old.failed ≡ false → at < length old.selectors.items) → PerformsStep advanced old mid →
    HasAppendedEntries ts arguments_events (λ x. after (arguments_rows x) c) mid list here (optional (unless kinds.RightParen) (several kinds.Comma (expr_at d)) (remaining ts input)) →
    LoneSeen ts input here name → PerformsStep (with_selector at (record { of = head; step = steps.Arguments name })) list late →
    AppendsEntriesBy ts (λ (x : Unit {0}). word kinds.RightParen) (λ x s. advanced s) late new result (expect_at kinds.RightParen (remaining ts here)) →
    AppendsEntriesBy {T = SelectorShape false} ts selector_shape_events (selector_stage head at c) old new result
    (node constructs.Selector (prefixed (word kinds.LeftParen) (seq (optional (unless kinds.RightParen) (several kinds.Comma (expr_at d))) (expect_at kinds.RightParen))) (remaining ts input))
unfolding call_picked
call_told ts c d head at name old mid list late new input here result opens in_range h a with_remaining k b =
    let r : Reader = optional (unless kinds.RightParen) (several kinds.Comma (expr_at d)) in
    let row : SelectorRow = record { of = head; step = steps.Arguments name } in
    let Seen : Type 0 = Spelt ts arguments_events input here × LoneSeen ts input here name in
    let Left : Type 0 = 0 < length (remaining ts here) in
    told_at ts (λ (x : Seen × Left). construct constructs.Selector (word kinds.LeftParen ++ (arguments_events x.0.0.tree ++ word kinds.RightParen)))
    (λ x s. after (both token (both (arguments_rows x.0.0.tree) token)) c (with_selector at row s)) selector_shape_events (selector_stage head at c) (λ x. call_picked x.0.0.tree)
    (λ x. events.arguments_made x.0.0.tree) old new result _
    (λ x.
    let s = stage_of old in
    let o = x.0.0.tree in
    let same : between o s.number ≡ name =
    lone_between o s.number ∙ ap (λ (n : ℕ). sole_name_of (tokens_of (arguments_events o)) (n + 1)) (number_of old) ∙ ap (sole_name_of (tokens_of (arguments_events o))) opens ∙ sym (x.0.1 (tokens_of (arguments_events o)) x.0.0.spelt x.1) in
    picking_shown head at c (call_picked o) (effect.selector_shown (layers.Arguments o)) s (effect.arguments_made o)
    ∙ ap (λ (n : Option TypeName). after (both token (both (arguments_rows o) token)) c (with_selector at (record { of = head; step = steps.Arguments n }) s)) same)
    (told_settled Left ts (λ (x : Seen). arguments_events x.0.tree) (λ x. arguments_rows x.0.tree) c kinds.LeftParen kinds.RightParen r at row old mid list late new input here result in_range h
    (told_with ts (λ (x : Spelt ts arguments_events input here). arguments_events x.tree) (λ x. after (arguments_rows x.tree) c) mid list here (r (remaining ts input))
    (told_spelt ts arguments_events (λ x. after (arguments_rows x) c) d r mid list input here (optional_held sound (unless_starts sound kinds.RightParen) (several_held sound kinds.Comma (expr_at_sound d))) a) with_remaining)
    k (told_left ts kinds.RightParen late new here result b))
