-- The entries of an element, a list, a designator and a selector are determined by their event sequences, if those of their parts are.
use Rattle.std.proofs.Common.{◌≡◌, ℕ, suc, ◌+◌, true, List, [], ◌++◌, length, map, Option, Some, None, refl, ap, ◌∙◌}
use Rattle.std.specs.declared.boxed.Box.{Box}
use Rattle.std.specs.declared.alloc.Global.{Global}
use Rattle.ob_scan.specs.declared.kind.Kind.TheVariants as kinds
use Rattle.ob_tree.specs.declared.expression.Factor.TheShapes as shapes
use Rattle.ob_tree.specs.declared.expression.Factor.TheOpen as layers
use Rattle.ob_tree.specs.declared.expression.Selector.{Selector, roll-Selector, out-Selector, out-roll-Selector}
use Rattle.ob_tree.specs.declared.expression.Designator.{Designator, fold_out-Designator, roll-Designator, out-Designator, out-roll-Designator}
use Rattle.ob_tree.specs.declared.expression.Element.{Element, fold_out-Element, roll-Element, out-Element, out-roll-Element}
use Rattle.ob_tree.specs.declared.expression.ElementList.{ElementList, fold_out-ElementList, roll-ElementList, out-ElementList, out-roll-ElementList}
use Rattle.ob_tree.specs.declared.expression.Expr.{Expr}
use Rattle.ob_tree.specs.declared.expression.ExprList.{ExprList, fold_out-ExprList, roll-ExprList, out-ExprList, out-roll-ExprList}
use Rattle.ob_tree.specs.Constructs as constructs
use Rattle.ob_tree.specs.TreeEvents.{Events, construct, word, if_present, each}
use Rattle.ob_tree.specs.TreeEvents.{selected as selected_name}
use Rattle.ob_tree.specs.Expressions.{selector_events, element_events, expr_events, expr_list_events}
use Rattle.ob_tree.proofs.ExpressionLayers.{selector_shown, element_shown, element_list_shown, expr_list_shown, selector_out, designator_out, element_out, element_list_out, expr_out, expr_list_out, designator_shown}
use Rattle.ob_tree.proofs.ExpressionInduction.{With, SelectorLayer, DesignatorLayer, ElementLayer, ElementListLayer, ExprListLayer, WithSelector, WithDesignator, WithElement, WithElementList, WithExprList, selector_of, designator_of, element_of, element_list_of, expr_list_of}
use Rattle.module_table.specs.declared.rows.Step.TheVariants as steps_of
use Rattle.module_table.specs.declared.rows.TypeName.{TypeName}
use Rattle.module_table.specs.Parts.{Fragment, token, both, with_rows}
use Rattle.module_table.specs.Parts.{if_present as there, each as pieces}
use Rattle.table_rules.specs.Expressions.{Phrase, ListPhrase, SelectorPhrase, DesignatorPhrase, each_after, if_single, first_name, name_with, designator_row, its_selectors}
use Rattle.table_rules.specs.Expressions.{used as uses}
use Rattle.table_rules.specs.Expressions.{selected, designator_phrase, element_rows, element_list_rows, expr_list_rows, expr_phrase, list_phrase, factor_step, selector_step, designator_step, element_step, element_list_step, expr_step, expr_list_step, sum_step, term_step}
use Rattle.table_rules.proofs.ExpressionLayers as told
use Rattle.table_rules.proofs.Reading.{tail_is, Reads, never, on_word, on_any_word, on_construct, on_list, no_word, maybe, r-use, r-both, r-past, r-then, r-held, r-at, r-none, r-some, r-layer}
use Rattle.table_rules.proofs.ReadingLists.{r-map}
use Rattle.table_rules.proofs.ReadingExpressionParts.{readable}

-- ---- elements and lists

abbrev element_parts : ElementLayer → Phrase × Option Phrase
element_parts z = (expr_phrase z.low, maybe expr_phrase z.high)

abbrev element_told : Phrase × Option Phrase → Fragment
element_told p = both p.0.piece (there (λ h. both token h.piece) p.1)

high_seen : (o : Option Expr) → there (λ h. both token h.piece) ((shapes.former-Element-high).map Expr Phrase expr_phrase o) ≡ there (λ h. both token h.piece) (maybe expr_phrase o)
high_seen None = refl
high_seen (Some h) = refl

element_tells : (e : Element) → element_rows e ≡ element_told (element_parts (out-Element e))
unfolding element_rows expr_phrase
element_tells e = fold_out-Element Phrase SelectorPhrase DesignatorPhrase Fragment Fragment Phrase ListPhrase Phrase Phrase factor_step selector_step designator_step element_step element_list_step expr_step expr_list_step sum_step term_step e ∙ ap (λ (o : Fragment). both (expr_phrase (out-Element e).low).piece o) (high_seen (out-Element e).high)

abbrev high_shown : Option Expr → Events
high_shown o = if_present (λ h. word kinds.DotDot ++ expr_events h) o

abbrev high_of : Option (With readable.expr) → Option Expr
high_of = (shapes.former-Element-high).map (With readable.expr) Expr (λ e. e.0)

high_held : (o : Option (With readable.expr)) → Reads {Z = ElementLayer} (λ z. maybe expr_phrase z.high) (λ z. high_shown z.high) on_any_word (maybe expr_phrase (high_of o)) (high_shown (high_of o))
high_held None = r-none expr_phrase (λ h. word kinds.DotDot ++ expr_events h) on_any_word (λ c s. refl) (λ z. z.high)
high_held (Some e) = r-some (r-past kinds.DotDot e.1) (λ s i. refl) (λ s. refl) (λ z. z.high)

element_held : (y : WithElement readable) → Reads element_parts (λ z. construct constructs.Element (element_shown z)) never (element_parts (element_of readable y)) (construct constructs.Element (element_shown (element_of readable y)))
element_held y = r-held constructs.Element (r-both (r-at (λ z. z.low) y.low.1) (high_held y.high)) (λ s. refl)

pub element_layer : (y : WithElement readable) → readable.element (roll-Element (element_of readable y))
element_layer y = r-layer out-Element element_parts (λ z. construct constructs.Element (element_shown z)) element_told element_tells element_out _ _ (out-roll-Element (element_of readable y)) (element_held y)

abbrev element_list_parts : ElementListLayer → Fragment × List Fragment
element_list_parts z = (element_rows z.first, map element_rows z.rest.items)

abbrev element_list_told : Fragment × List Fragment → Fragment
element_list_told p = both p.0 (each_after (λ e. e) p.1)

element_list_tells : (l : ElementList) → element_list_rows l ≡ element_list_told (element_list_parts (out-ElementList l))
unfolding element_list_rows element_rows
element_list_tells l = fold_out-ElementList Phrase SelectorPhrase DesignatorPhrase Fragment Fragment Phrase ListPhrase Phrase Phrase factor_step selector_step designator_step element_step element_list_step expr_step expr_list_step sum_step term_step l

element_list_held : (y : WithElementList readable) → Reads element_list_parts element_list_shown (on_word kinds.Comma) (element_list_parts (element_list_of readable y)) (element_list_shown (element_list_of readable y))
element_list_held y = r-both (r-at (λ z. z.first) y.first.1) (r-at (λ z. z.rest.items) (r-map element_rows (λ e. word kinds.Comma ++ element_events e) never (on_word kinds.Comma) (λ p s. refl) (λ s i. refl) (λ p s. refl) _ y.rest.items (λ e. r-past kinds.Comma e.1)))

pub element_list_layer : (y : WithElementList readable) → readable.element_list (roll-ElementList (element_list_of readable y))
element_list_layer y = r-layer out-ElementList element_list_parts element_list_shown element_list_told element_list_tells element_list_out _ _ (out-roll-ElementList (element_list_of readable y)) (element_list_held y)

abbrev expr_list_parts : ExprListLayer → Phrase × List Phrase
expr_list_parts z = (expr_phrase z.first, map expr_phrase z.rest.items)

abbrev expr_list_told : Phrase × List Phrase → ListPhrase
expr_list_told p = record { piece = both p.0.piece (each_after (λ e. e.piece) p.1); count = suc (length p.1); name = if_single p.1 p.0.name }

expr_list_tells : (l : ExprList) → list_phrase l ≡ expr_list_told (expr_list_parts (out-ExprList l))
unfolding list_phrase expr_phrase
expr_list_tells l = fold_out-ExprList Phrase SelectorPhrase DesignatorPhrase Fragment Fragment Phrase ListPhrase Phrase Phrase factor_step selector_step designator_step element_step element_list_step expr_step expr_list_step sum_step term_step l

expr_list_held : (y : WithExprList readable) → Reads expr_list_parts expr_list_shown (on_word kinds.Comma) (expr_list_parts (expr_list_of readable y)) (expr_list_shown (expr_list_of readable y))
expr_list_held y = r-both (r-at (λ z. z.first) y.first.1) (r-at (λ z. z.rest.items) (r-map expr_phrase (λ e. word kinds.Comma ++ expr_events e) never (on_word kinds.Comma) (λ p s. refl) (λ s i. refl) (λ p s. refl) _ y.rest.items (λ e. r-past kinds.Comma e.1)))

pub expr_list_layer : (y : WithExprList readable) → readable.expr_list (roll-ExprList (expr_list_of readable y))
expr_list_layer y = r-layer out-ExprList expr_list_parts expr_list_shown expr_list_told expr_list_tells expr_list_out _ _ (out-roll-ExprList (expr_list_of readable y)) (expr_list_held y)

-- ---- designators

abbrev designator_parts : DesignatorLayer → ℕ × List SelectorPhrase
designator_parts z = (z.head, map selected z.selectors.items)

abbrev designator_told : ℕ × List SelectorPhrase → DesignatorPhrase
designator_told p = record {
  piece = λ is_written. with_rows (designator_row is_written) (with_rows (its_selectors p.1) (both (uses (first_name p.1)) (pieces (λ s. s.piece) p.1)));
  name = name_with p.1;
}

designator_tells : (d : Designator) → designator_phrase d ≡ designator_told (designator_parts (out-Designator d))
unfolding designator_phrase selected
designator_tells d = fold_out-Designator Phrase SelectorPhrase DesignatorPhrase Fragment Fragment Phrase ListPhrase Phrase Phrase factor_step selector_step designator_step element_step element_list_step expr_step expr_list_step sum_step term_step d

selector_begins : (x : Selector) (s : Events) → on_construct (selector_events x ++ s) ≡ true
unfolding construct
selector_begins x s = ap (λ (o : Events). on_construct (o ++ s)) (selector_out x)

designator_held : (y : WithDesignator readable) → Reads designator_parts (λ z. construct constructs.Designator (designator_shown z)) never (designator_parts (designator_of readable y)) (construct constructs.Designator (designator_shown (designator_of readable y)))
designator_held y = r-held constructs.Designator (r-both (r-use (λ z. z.head) y.head) (r-at (λ z. z.selectors.items) (r-map selected selector_events never on_construct selector_begins (λ s i. refl) (λ p s. refl) _ y.selectors.items (λ s. s.1)))) (λ s. refl)

pub designator_layer : (y : WithDesignator readable) → readable.designator (roll-Designator (designator_of readable y))
designator_layer y = r-layer out-Designator designator_parts (λ z. construct constructs.Designator (designator_shown z)) designator_told designator_tells designator_out _ _ (out-roll-Designator (designator_of readable y)) (designator_held y)

-- ---- selectors

-- a list in parentheses, which may be empty

abbrev list_shown : Option (Box ExprList Global) → Events
list_shown o = if_present (λ l. expr_list_events l.value) o

abbrev list_parts : Option (Box ExprList Global) → Option ListPhrase
list_parts o = maybe (λ l. list_phrase l.value) o

abbrev inner_of : Option ListPhrase → ℕ → Option TypeName
inner_of None k = None
inner_of (Some l) k = l.name (k + 1)

abbrev arguments_told : Option ListPhrase → SelectorPhrase
arguments_told o = record { name = None; step = λ k. steps_of.Arguments (inner_of o k); piece = both token (both (there (λ l. l.piece) o) token) }

abbrev index_told : ListPhrase → SelectorPhrase
index_told l = record { name = None; step = λ k. steps_of.Elements l.count; piece = both token (both l.piece token) }

arguments_seen : (o : Option (Box ExprList Global)) → arguments_told (list_parts o) ≡ told.selector_shown (layers.Arguments o)
unfolding expr_list_rows
arguments_seen None = refl
arguments_seen (Some l) = refl

expr_list_begins : (l : ExprList) (s : Events) → on_list kinds.Comma (expr_list_events l ++ s) ≡ true
unfolding construct
expr_list_begins l s =
    ap (λ (o : Events). on_list kinds.Comma (o ++ s)) (expr_list_out l) ∙
    ap (λ (o : Events). on_list kinds.Comma ((o ++ each (λ e. word kinds.Comma ++ expr_events e) (out-ExprList l).rest.items) ++ s)) (expr_out (out-ExprList l).first)

field_is : (m n : ℕ) (r s : Events) → (word kinds.Dot ++ selected_name m) ++ r ≡ (word kinds.Dot ++ selected_name n) ++ s → m ≡ n
field_is m n r s e = cc

field_tail : (m n : ℕ) (r s : Events) → (word kinds.Dot ++ selected_name m) ++ r ≡ (word kinds.Dot ++ selected_name n) ++ s → r ≡ s
field_tail m n r s e = cc

field_same : (m : ℕ) (z : SelectorLayer) (r s : Events) → (word kinds.Dot ++ selected_name m) ++ r ≡ selector_shown z ++ s → (told.selector_shown (layers.Field m) ≡ told.selector_shown z) × (r ≡ s)
unfolding expr_list_rows
field_same m (layers.Field n) r s e = (ap (λ (k : ℕ). told.selector_shown (layers.Field k)) (field_is m n r s e), field_tail m n r s e)
field_same m (layers.Index l) r s e = absurd cc
field_same m layers.Target r s e = absurd cc
field_same m (layers.Arguments l) r s e = absurd cc

index_same : (a : ListPhrase) (o : Events) → Reads list_phrase expr_list_events (on_word kinds.Comma) a o → (z : SelectorLayer) (r s : Events) → (word kinds.LeftBracket ++ (o ++ word kinds.RightBracket)) ++ r ≡ selector_shown z ++ s → (index_told a ≡ told.selector_shown z) × (r ≡ s)
unfolding expr_list_rows
index_same a o x (layers.Field n) r s e = absurd cc
index_same a o x (layers.Index l) r s e = (let h = (r-past kinds.LeftBracket (r-then kinds.RightBracket (r-at (λ (b : Box ExprList Global). b.value) x) (λ s. refl))).same l r s refl refl e in (ap index_told h.0, h.1))
index_same a o x layers.Target r s e = absurd cc
index_same a o x (layers.Arguments l) r s e = absurd cc

target_same : (z : SelectorLayer) (r s : Events) → word kinds.Caret ++ r ≡ selector_shown z ++ s → (told.selector_shown layers.Target ≡ told.selector_shown z) × (r ≡ s)
unfolding expr_list_rows
target_same (layers.Field n) r s e = absurd cc
target_same (layers.Index l) r s e = absurd cc
target_same layers.Target r s e = (refl, tail_is _ _ r s e)
target_same (layers.Arguments l) r s e = absurd cc

arguments_same : (a : Option ListPhrase) (o : Events) → Reads list_parts list_shown (on_list kinds.Comma) a o → (z : SelectorLayer) (r s : Events) → (word kinds.LeftParen ++ (o ++ word kinds.RightParen)) ++ r ≡ selector_shown z ++ s → (arguments_told a ≡ told.selector_shown z) × (r ≡ s)
unfolding expr_list_rows
arguments_same a o x (layers.Field n) r s e = absurd cc
arguments_same a o x (layers.Index l) r s e = absurd cc
arguments_same a o x layers.Target r s e = absurd cc
arguments_same a o x (layers.Arguments l) r s e = (let h = (r-past kinds.LeftParen (r-then kinds.RightParen x (λ s. refl))).same l r s refl refl e in (ap arguments_told h.0 ∙ arguments_seen l, h.1))

selector_held : (y : WithSelector readable) → Reads told.selector_shown selector_shown never (told.selector_shown (selector_of readable y)) (selector_shown (selector_of readable y))
unfolding expr_list_rows
selector_held (layers.Field n) = record { same = λ z r s i j e. field_same n z r s e }
selector_held (layers.Index l) = record { same = λ z r s i j e. index_same _ _ l.value.1 z r s e }
selector_held layers.Target = record { same = λ z r s i j e. target_same z r s e }
selector_held (layers.Arguments None) = record { same = λ z r s i j e. arguments_same None [] (r-none (λ l. list_phrase l.value) (λ l. expr_list_events l.value) (on_list kinds.Comma) (λ l s. expr_list_begins l.value s) (λ z. z)) z r s e }
selector_held (layers.Arguments (Some l)) = record { same = λ z r s i j e. arguments_same _ _ (r-some (r-at (λ b. b.value) l.value.1) (λ s i. no_word kinds.Comma s i) (λ s. expr_list_begins l.value.0 s) (λ z. z)) z r s e }

selector_tells : (x : Selector) → selected x ≡ told.selector_shown (out-Selector x)
selector_tells x = told.selector_out x

pub selector_layer : (y : WithSelector readable) → readable.selector (roll-Selector (selector_of readable y))
selector_layer y = r-layer out-Selector told.selector_shown (λ z. construct constructs.Selector (selector_shown z)) (λ a. a) selector_tells selector_out _ _ (out-roll-Selector (selector_of readable y)) (r-held constructs.Selector (selector_held y) (λ s. refl))
