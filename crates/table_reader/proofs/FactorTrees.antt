-- Factors, sets and elements from their tabulated parts.
use Rattle.std.proofs.Common.{◌≡◌, ℕ, zero, suc, ◌-◌, false, true, List, [], ◌++◌, Option, Some, None, Ok, refl, sym, ap, subst, ◌∙◌, arith}
use Rattle.std.specs.Global.{Box, Vec}
use Rattle.std.specs.Prelude.{Result}
use Rattle.ob_scan.specs.declared.kind.Kind.{Kind}
use Rattle.ob_scan.specs.declared.kind.Kind.TheVariants as kinds
use Rattle.ob_scan.specs.declared.token.Token.{Token}
use Rattle.ob_tree.specs.declared.token.Leaf.{Leaf}
use Rattle.ob_tree.specs.declared.expression.Factor.{Factor}
use Rattle.ob_tree.specs.declared.expression.Factor.TheVariants as factors
use Rattle.ob_tree.specs.declared.expression.Expr.{Expr}
use Rattle.ob_tree.specs.declared.expression.Designator.{Designator}
use Rattle.ob_tree.specs.declared.expression.Element.{Element, roll-Element, out-roll-Element}
use Rattle.ob_tree.specs.declared.expression.ElementList.{ElementList, roll-ElementList, out-roll-ElementList}
use Rattle.ob_tree.specs.Constructs.{Construct}
use Rattle.ob_tree.specs.Constructs as constructs
use Rattle.ob_tree.specs.TreeEvents.{Events, construct, word}
use Rattle.ob_tree.specs.Expressions.{expr_events, factor_events, element_events, element_list_events, designator_events}
use Rattle.ob_tree.proofs.ExpressionLayers.{set_made, name_made, group_made, not_made, element_made, element_list_made}
use Rattle.module_table.specs.declared.builder.Context.{Context}
use Rattle.module_table.specs.declared.builder.TableBuilder.{TableBuilder}
use Rattle.module_table.specs.TableStages.{Stage, stage_of, after, advanced, PerformsStep}
use Rattle.module_table.specs.Parts.{Fragment, token, both}
use Rattle.table_rules.specs.Expressions.{expr_rows, factor_rows, element_rows, element_list_rows, designator_rows}
use Rattle.module_table.proofs.Steps.{after_both, after_token}
use Rattle.table_rules.proofs.ExpressionLayers as effect
use Rattle.ob_grammar.specs.declared.cursor.Cursor.{Cursor}
use Rattle.ob_grammar.specs.declared.stop.Stop.{Stop}
use Rattle.ob_grammar.specs.Lookahead.{uncons, head_is, is_word}
use Rattle.ob_grammar.specs.Combinators.{Reader, seq, node, prefixed, optional, unless, several, many, accept_at, expect_at}
use Rattle.ob_grammar.specs.ParsesAs.{remaining, Fails}
use Rattle.ob_grammar.specs.ReadExpressions.{factor_from, factor_with, element_with, expr_at, negated_at, factor_at}
use Rattle.table_reader.specs.Shapes.{set_events, set_rows, elements_events, elements_rows, high_events, high_rows}
use Rattle.table_reader.specs.Tabulating.{AppendsEntries, AppendsEntriesBy}
use Rattle.table_reader.proofs.Made.{boxed}
use Rattle.table_reader.proofs.Combine.{told_as, told_node, told_then, told_prefixed, told_behind, told_there, failed_node, failed_prefixed, failed_then}
use Rattle.table_reader.proofs.ExpressionTrees.{both_after}
use Rattle.table_reader.proofs.Lists.{word_after}

-- ---- between two words

pub bracket_after : (p : Fragment) (c : Context) (s : Stage) → after (both token (both p token)) c s ≡ advanced (after p c (advanced s))
bracket_after p c s =
    after_both token (both p token) c s ∙ after_both p token c (after token c s) ∙ after_token c (after p c (after token c s)) ∙ ap (λ (t : Stage). advanced (after p c t)) (after_token c s)

-- the part between two words, the first of which the builder has passed
pub told_between : {A : Type 0} (ts : List Token) (f : A → Events) (q : A → Fragment) (c : Context) (begin end : Kind) (r : Reader) (old mid last new : TableBuilder) (input here : Cursor) (result : Result Cursor Stop) →
    PerformsStep advanced old mid → AppendsEntries ts f q c mid last (Ok here) (r (remaining ts input)) →
    AppendsEntriesBy ts (λ (x : Unit {0}). word end) (λ x s. advanced s) last new result (expect_at end (remaining ts here)) →
    AppendsEntriesBy ts (λ x. word begin ++ (f x ++ word end)) (λ x. after (both token (both (q x) token)) c) old new result (prefixed (word begin) (seq r (expect_at end)) (remaining ts input))
told_between {A} ts f q c begin end r old mid last new input here result h a b =
    told_as ts (λ (x : A × Unit {0}). word begin ++ (f x.0 ++ word end)) (λ x s. advanced (after (q x.0) c (advanced s))) _ _ (λ x. x.0) (λ x. refl) (λ x s. bracket_after (q x.0) c s) old new result _
    (told_prefixed ts (λ (x : A × Unit {0}). f x.0 ++ word end) _ (word begin) (seq r (expect_at end)) old new result (remaining ts input)
    (told_behind ts (λ (x : A × Unit {0}). f x.0 ++ word end) (λ x s. advanced (after (q x.0) c s)) advanced old mid new result (seq r (expect_at end) (remaining ts input)) h
    (told_then ts f (λ x. after (q x) c) (λ (x : Unit {0}). word end) (λ x s. advanced s) r (expect_at end) mid last new here result (remaining ts input) a b)))

-- ---- factors

-- a factor with this first token
pub told_factor : {A : Type 0} (ts : List Token) (f : A → Events) (p : A → Stage → Stage) (d : ℕ) (old new : TableBuilder) (result : Result Cursor Stop) (ls : List Leaf) (o : Option (Leaf × List Leaf)) → uncons ls ≡ o →
    AppendsEntriesBy ts f p old new result (node constructs.Factor (λ z. factor_from (expr_at d) (negated_at d) o) ls) → AppendsEntriesBy ts f p old new result (factor_at d ls)
unfolding factor_with
told_factor ts f p d old new result ls o e t = rw e t

-- one token
pub leaf_told : (ts : List Token) (c : Context) (old new : TableBuilder) (rest : Cursor) (r : Reader) (ls : List Leaf) (ms : Events) (tree : Factor) →
    r ls ≡ Ok (ms, remaining ts rest) → factor_events tree ≡ construct constructs.Factor ms → factor_rows tree ≡ token → PerformsStep advanced old new →
    AppendsEntries ts factor_events factor_rows c old new (Ok rest) (node constructs.Factor r ls)
leaf_told ts c old new rest r ls ms tree e events effect h = record {
  out = construct constructs.Factor ms;
  is_read = rw e refl;
  tabulates = λ q. let k = h q in (k.0, record { tree = tree; has_events = events; comes = k.1 ∙ sym (after_token c (stage_of old)) ∙ ap (λ (p : Fragment). after p c (stage_of old)) (sym effect) });
}

-- a designator
pub name_told : (ts : List Token) (c : Context) (r : Reader) (old new : TableBuilder) (result : Result Cursor Stop) (ls : List Leaf) →
    AppendsEntries ts designator_events (designator_rows false) c old new result (r ls) → AppendsEntries ts factor_events factor_rows c old new result (node constructs.Factor r ls)
name_told ts c r old new result ls t =
    told_as ts (λ (x : Designator). construct constructs.Factor (designator_events x)) (λ x. after (designator_rows false x) c) factor_events (λ x. after (factor_rows x) c) (λ x. factors.Name x)
    (λ x. name_made x) (λ x s. ap (λ (p : Fragment). after p c s) (effect.name_made x)) old new result _
    (told_node ts designator_events (λ x. after (designator_rows false x) c) constructs.Factor r old new result ls t)

-- a set
pub set_told : (ts : List Token) (c : Context) (r : Reader) (old mid last new : TableBuilder) (input here : Cursor) (result : Result Cursor Stop) →
    PerformsStep advanced old mid → AppendsEntries ts set_events set_rows c mid last (Ok here) (r (remaining ts input)) →
    AppendsEntriesBy ts (λ (x : Unit {0}). word kinds.RightBrace) (λ x s. advanced s) last new result (expect_at kinds.RightBrace (remaining ts here)) →
    AppendsEntries ts factor_events factor_rows c old new result (node constructs.Factor (prefixed (word kinds.LeftBrace) (seq r (expect_at kinds.RightBrace))) (remaining ts input))
set_told ts c r old mid last new input here result h a b =
    told_as ts (λ (x : Option (Box ElementList)). construct constructs.Factor (word kinds.LeftBrace ++ (set_events x ++ word kinds.RightBrace))) (λ x. after (both token (both (set_rows x) token)) c)
    factor_events (λ x. after (factor_rows x) c) (λ x. factors.Set x) (λ x. set_made x) (λ x s. ap (λ (p : Fragment). after p c s) (effect.set_made x)) old new result _
    (told_node ts _ _ constructs.Factor (prefixed (word kinds.LeftBrace) (seq r (expect_at kinds.RightBrace))) old new result (remaining ts input) (told_between ts set_events set_rows c kinds.LeftBrace kinds.RightBrace r old mid last new input here result h a b))

-- an expression in parentheses
pub group_told : (ts : List Token) (c : Context) (r : Reader) (old mid last new : TableBuilder) (input here : Cursor) (result : Result Cursor Stop) →
    PerformsStep advanced old mid → AppendsEntries ts expr_events expr_rows c mid last (Ok here) (r (remaining ts input)) →
    AppendsEntriesBy ts (λ (x : Unit {0}). word kinds.RightParen) (λ x s. advanced s) last new result (expect_at kinds.RightParen (remaining ts here)) →
    AppendsEntries ts factor_events factor_rows c old new result (node constructs.Factor (prefixed (word kinds.LeftParen) (seq r (expect_at kinds.RightParen))) (remaining ts input))
group_told ts c r old mid last new input here result h a b =
    told_as ts (λ (x : Expr). construct constructs.Factor (word kinds.LeftParen ++ (expr_events x ++ word kinds.RightParen))) (λ x. after (both token (both (expr_rows x) token)) c)
    factor_events (λ x. after (factor_rows x) c) (λ x. factors.Group (boxed old.uses.alloc x)) (λ x. group_made (boxed old.uses.alloc x)) (λ x s. ap (λ (p : Fragment). after p c s) (effect.group_made (boxed old.uses.alloc x))) old new result _
    (told_node ts _ _ constructs.Factor (prefixed (word kinds.LeftParen) (seq r (expect_at kinds.RightParen))) old new result (remaining ts input) (told_between ts expr_events expr_rows c kinds.LeftParen kinds.RightParen r old mid last new input here result h a b))

-- if the part between two words fails
pub between_failed : (ts : List Token) (c : Construct) (ms : Events) (r s : Reader) (e : Stop) (ls : List Leaf) → Fails ts e (r ls) → Fails ts e (node c (prefixed ms (seq r s)) ls)
between_failed ts c ms r s e ls h = failed_node ts c (prefixed ms (seq r s)) e ls (failed_prefixed ts ms (seq r s) e ls (failed_then ts r s e ls h))

-- `~` and a factor
pub not_told : (ts : List Token) (c : Context) (d : ℕ) (old mid new : TableBuilder) (input : Cursor) (result : Result Cursor Stop) → (d ≡ 0 → ⊥) →
    PerformsStep advanced old mid → AppendsEntries ts factor_events factor_rows c mid new result (factor_at (d - 1) (remaining ts input)) →
    AppendsEntries ts factor_events factor_rows c old new result (node constructs.Factor (prefixed (word kinds.Tilde) (negated_at d)) (remaining ts input))
unfolding negated_at
not_told ts c zero old mid new input result h k t = absurd (h refl)
not_told ts c (suc n) old mid new input result h k t =
    let e : suc n - 1 ≡ n = omega arith in
    told_as ts (λ (x : Factor). construct constructs.Factor (word kinds.Tilde ++ construct constructs.Negated (factor_events x))) (λ x s. after (factor_rows x) c (advanced s))
    factor_events (λ x. after (factor_rows x) c) (λ x. factors.Not (boxed old.uses.alloc x)) (λ x. not_made (boxed old.uses.alloc x))
    (λ x s. ap (λ (p : Fragment). after p c s) (effect.not_made (boxed old.uses.alloc x)) ∙ after_both token (factor_rows x) c s ∙ ap (after (factor_rows x) c) (after_token c s)) old new result _
    (told_node ts _ _ constructs.Factor (prefixed (word kinds.Tilde) (negated_at (suc n))) old new result (remaining ts input)
    (told_prefixed ts _ _ (word kinds.Tilde) (negated_at (suc n)) old new result (remaining ts input)
    (told_behind ts (λ (x : Factor). construct constructs.Negated (factor_events x)) (λ x. after (factor_rows x) c) advanced old mid new result (negated_at (suc n) (remaining ts input)) k
    (told_node ts factor_events (λ x. after (factor_rows x) c) constructs.Negated (factor_at n) mid new result (remaining ts input)
    (subst (λ (m : ℕ). AppendsEntries ts factor_events factor_rows c mid new result (factor_at m (remaining ts input))) e t)))))

-- ---- elements

abbrev element_of : Expr × Option Expr → Element
element_of x = roll-Element (record { low = x.0; high = x.1 })

element_parts : (x : Expr × Option Expr) → element_rows (element_of x) ≡ both (expr_rows x.0) (high_rows x.1)
element_parts x = effect.element_out (element_of x) ∙ ap (λ y. both (expr_rows y.low) (high_rows y.high)) (out-roll-Element (record { low = x.0; high = x.1 }))

pub element_told : (ts : List Token) (c : Context) (d : ℕ) (old mid new : TableBuilder) (input here : Cursor) (result : Result Cursor Stop) →
    AppendsEntries ts expr_events expr_rows c old mid (Ok here) (expr_at d (remaining ts input)) →
    AppendsEntries ts high_events high_rows c mid new result (optional (accept_at kinds.DotDot) (expr_at d) (remaining ts here)) →
    AppendsEntries ts element_events element_rows c old new result (element_with (expr_at d) (remaining ts input))
unfolding element_with
element_told ts c d old mid new input here result a b =
    told_as ts (λ (x : Expr × Option Expr). construct constructs.Element (expr_events x.0 ++ high_events x.1)) (λ x s. after (high_rows x.1) c (after (expr_rows x.0) c s))
    element_events (λ e. after (element_rows e) c) element_of (λ x. element_made (record { low = x.0; high = x.1 })) (λ x s. both_after _ _ _ c s (element_parts x)) old new result _
    (told_node ts _ _ constructs.Element (seq (expr_at d) (optional (accept_at kinds.DotDot) (expr_at d))) old new result (remaining ts input)
    (told_then ts expr_events (λ x. after (expr_rows x) c) high_events (λ x. after (high_rows x) c) (expr_at d) (optional (accept_at kinds.DotDot) (expr_at d)) old mid new here result (remaining ts input) a b))

pub element_failed : (ts : List Token) (d : ℕ) (e : Stop) (input : Cursor) → Fails ts e (expr_at d (remaining ts input)) → Fails ts e (element_with (expr_at d) (remaining ts input))
unfolding element_with
element_failed ts d e input h = failed_node ts constructs.Element (seq (expr_at d) (optional (accept_at kinds.DotDot) (expr_at d))) e (remaining ts input) (failed_then ts (expr_at d) (optional (accept_at kinds.DotDot) (expr_at d)) e (remaining ts input) h)

abbrev element_list_of : Element × Vec Element → ElementList
element_list_of x = roll-ElementList (record { first = x.0; rest = x.1 })

element_list_parts : (x : Element × Vec Element) → element_list_rows (element_list_of x) ≡ both (element_rows x.0) (elements_rows x.1)
element_list_parts x = effect.element_list_out (element_list_of x) ∙ ap (λ y. both (element_rows y.first) (elements_rows y.rest)) (out-roll-ElementList (record { first = x.0; rest = x.1 }))

pub element_list_told : (ts : List Token) (c : Context) (r : Reader) (old mid new : TableBuilder) (input here : Cursor) (result : Result Cursor Stop) →
    AppendsEntries ts element_events element_rows c old mid (Ok here) (r (remaining ts input)) →
    AppendsEntries ts elements_events elements_rows c mid new result (many (accept_at kinds.Comma) r (remaining ts here)) →
    AppendsEntries ts element_list_events element_list_rows c old new result (several kinds.Comma r (remaining ts input))
unfolding several
element_list_told ts c r old mid new input here result a b =
    told_as ts (λ (x : Element × Vec Element). element_events x.0 ++ elements_events x.1) (λ x s. after (elements_rows x.1) c (after (element_rows x.0) c s))
    element_list_events (λ e. after (element_list_rows e) c) element_list_of (λ x. element_list_made (record { first = x.0; rest = x.1 })) (λ x s. both_after _ _ _ c s (element_list_parts x)) old new result _
    (told_then ts element_events (λ x. after (element_rows x) c) elements_events (λ x. after (elements_rows x) c) r (many (accept_at kinds.Comma) r) old mid new here result (remaining ts input) a b)

pub several_failed : (ts : List Token) (k : Kind) (r : Reader) (e : Stop) (ls : List Leaf) → Fails ts e (r ls) → Fails ts e (several k r ls)
unfolding several
several_failed ts k r e ls h = failed_then ts r (many (accept_at k) r) e ls h

---- optional parts

-- a token of this kind closes an empty part
pub closed : (k : Kind) (ls : List Leaf) → head_is (is_word k) (uncons ls) ≡ true → unless k ls ≡ None
unfolding unless
closed k ls e = rw e refl

pub some_elements_told : (ts : List Token) (c : Context) (r : Reader) (old new : TableBuilder) (input : Cursor) (result : Result Cursor Stop) →
    unless kinds.RightBrace (remaining ts input) ≡ Some ([], remaining ts input) → AppendsEntries ts element_list_events element_list_rows c old new result (r (remaining ts input)) →
    AppendsEntries ts set_events set_rows c old new result (optional (unless kinds.RightBrace) r (remaining ts input))
some_elements_told ts c r old new input result found t =
    told_as ts (λ (x : ElementList). [] ++ element_list_events x) (λ x. after (element_list_rows x) c) set_events (λ x. after (set_rows x) c)
    (λ x. Some (boxed old.uses.alloc x)) (λ x. refl) (λ x s. refl) old new result (optional (unless kinds.RightBrace) r (remaining ts input))
    (told_there ts element_list_events (λ x. after (element_list_rows x) c) (unless kinds.RightBrace) r [] old new input result (remaining ts input) found t)

-- the end of a range
pub high_told : (ts : List Token) (c : Context) (d : ℕ) (old mid new : TableBuilder) (input rest : Cursor) (result : Result Cursor Stop) →
    accept_at kinds.DotDot (remaining ts input) ≡ Some (word kinds.DotDot, remaining ts rest) → PerformsStep advanced old mid → AppendsEntries ts expr_events expr_rows c mid new result (expr_at d (remaining ts rest)) →
    AppendsEntries ts high_events high_rows c old new result (optional (accept_at kinds.DotDot) (expr_at d) (remaining ts input))
high_told ts c d old mid new input rest result found h t =
    told_as ts (λ (x : Expr). word kinds.DotDot ++ expr_events x) (λ x s. after (expr_rows x) c (advanced s)) high_events (λ x. after (high_rows x) c)
    (λ x. Some x) (λ x. refl) (λ x s. word_after (expr_rows x) c s) old new result (optional (accept_at kinds.DotDot) (expr_at d) (remaining ts input))
    (told_there ts expr_events (λ x s. after (expr_rows x) c (advanced s)) (accept_at kinds.DotDot) (expr_at d) (word kinds.DotDot) old new rest result (remaining ts input) found
    (told_behind ts expr_events (λ x. after (expr_rows x) c) advanced old mid new result (expr_at d (remaining ts rest)) h t))
