-- The entries of expressions, layer by layer.
use Rattle.std.proofs.Common.{◌≡◌, ℕ, suc, ◌+◌, Bool, false, List, [], ◌∷◌, length, map, Option, Some, None, refl, ap, ◌∙◌}
use Rattle.std.specs.declared.boxed.Box.{Box}
use Rattle.std.specs.declared.alloc.Global.{Global}
use Rattle.ob_tree.specs.declared.expression.Relation.{Relation}
use Rattle.ob_tree.specs.declared.expression.AddOperator.{AddOperator}
use Rattle.ob_tree.specs.declared.expression.MulOperator.{MulOperator}
use Rattle.ob_tree.specs.declared.expression.Literal.{Literal}
use Rattle.ob_tree.specs.declared.expression.Factor.TheShapes as shapes
use Rattle.ob_tree.specs.declared.expression.Factor.TheOpen as layers
use Rattle.ob_tree.specs.declared.expression.Factor.TheVariants as factors
use Rattle.ob_tree.specs.declared.expression.Selector.TheVariants as selectors
use Rattle.ob_tree.specs.declared.expression.Factor.{Factor, fold_out-Factor, roll-Factor, out-Factor, out-roll-Factor, map-Factor}
use Rattle.ob_tree.specs.declared.expression.Selector.{Selector, fold_out-Selector, roll-Selector, out-Selector, out-roll-Selector, map-Selector}
use Rattle.ob_tree.specs.declared.expression.Designator.{Designator, fold_out-Designator, roll-Designator, out-roll-Designator}
use Rattle.ob_tree.specs.declared.expression.Element.{Element, fold_out-Element, roll-Element, out-Element, out-roll-Element}
use Rattle.ob_tree.specs.declared.expression.ElementList.{ElementList, fold_out-ElementList, roll-ElementList, out-ElementList, out-roll-ElementList}
use Rattle.ob_tree.specs.declared.expression.Expr.{Expr, fold_out-Expr, roll-Expr, out-Expr, out-roll-Expr}
use Rattle.ob_tree.specs.declared.expression.ExprList.{ExprList, fold_out-ExprList, roll-ExprList, out-ExprList, out-roll-ExprList}
use Rattle.ob_tree.specs.declared.expression.SimpleExpression.{SimpleExpression, fold_out-SimpleExpression, roll-SimpleExpression, out-SimpleExpression, out-roll-SimpleExpression}
use Rattle.ob_tree.specs.declared.expression.Term.{Term, fold_out-Term, roll-Term, out-roll-Term}
use Rattle.ob_tree.proofs.ExpressionInduction.{FactorLayer, SelectorLayer, DesignatorLayer, ElementLayer, ElementListLayer, ExprLayer, ExprListLayer, SumLayer, TermLayer}
use Rattle.module_table.specs.declared.rows.Step.TheVariants as steps_of
use Rattle.module_table.specs.Parts.{Fragment, token, both, with_rows, if_present, each}
use Rattle.table_rules.specs.Expressions.{Phrase, ListPhrase, SelectorPhrase, DesignatorPhrase, SoleName, between, no_name, used, first_name, name_with, if_single, if_absent, its_selectors, designator_row, each_after, factor_rows, designator_rows, element_rows, element_list_rows, expr_rows, expr_list_rows, sum_rows, term_rows}
use Rattle.table_rules.specs.Expressions.{factor_phrase, selected, designator_phrase, expr_phrase, list_phrase, sum_phrase, term_phrase, factor_step, selector_step, designator_step, element_step, element_list_step, expr_step, expr_list_step, sum_step, term_step}
use Rattle.module_table.proofs.Steps.{each-map}

there : (o : Option (Relation × Box SimpleExpression Global)) →
    if_present (λ c. both token c.1.value.piece) ((shapes.former-Expr-compared).map SimpleExpression Phrase sum_phrase o) ≡ if_present (λ c. both token (sum_rows c.1.value)) o
unfolding sum_rows
there None = refl
there (Some c) = refl

bare : (f : SimpleExpression → Phrase) (o : Option (Relation × Box SimpleExpression Global)) (n : SoleName) → if_absent ((shapes.former-Expr-compared).map SimpleExpression Phrase f o) n ≡ if_absent o n
bare f None n = refl
bare f (Some c) n = refl

high_there : (o : Option Expr) →
    if_present (λ h. both token h.piece) ((shapes.former-Element-high).map Expr Phrase expr_phrase o) ≡ if_present (λ h. both token (expr_rows h)) o
unfolding expr_rows
high_there None = refl
high_there (Some c) = refl

alone : {X Y : Type 0} (f : X → Y) (xs : List X) (n : SoleName) → if_single (map f xs) n ≡ if_single xs n
alone f [] n = refl
alone f (x ∷ xs) n = refl

pub length_map : {X Y : Type 0} (f : X → Y) (xs : List X) → length (map f xs) ≡ length xs
length_map f [] = refl
length_map f (x ∷ xs) = ap suc (length_map f xs)

-- each layer, with what each part contributes in its place

abbrev pub factor_shown : FactorLayer → Phrase
factor_shown (layers.Value k n) = record { piece = token; name = no_name }
factor_shown layers.Nil = record { piece = token; name = no_name }
factor_shown layers.True = record { piece = token; name = no_name }
factor_shown layers.False = record { piece = token; name = no_name }
factor_shown (layers.Set elements) = record { piece = both token (both (if_present (λ l. element_list_rows l.value) elements) token); name = no_name }
factor_shown (layers.Name d) = record { piece = designator_rows false d; name = (designator_phrase d).name }
factor_shown (layers.Group e) = record { piece = both token (both (expr_rows e.value) token); name = no_name }
factor_shown (layers.Not f) = record { piece = both token (factor_rows f.value); name = no_name }

abbrev pub selector_shown : SelectorLayer → SelectorPhrase
selector_shown (layers.Field n) = record { name = Some n; step = λ k. steps_of.Field (k + 1); piece = both token token }
selector_shown (layers.Index list) = record { name = None; step = λ k. steps_of.Elements (list_phrase list.value).count; piece = both token (both (expr_list_rows list.value) token) }
selector_shown layers.Target = record { name = None; step = λ k. steps_of.Target; piece = token }
selector_shown (layers.Arguments list) = record {
  name = None;
  step = λ k. steps_of.Arguments (between list k);
  piece = both token (both (if_present (λ l. expr_list_rows l.value) list) token);
}

-- the entries of a designator, and what its selectors contribute
abbrev pub selectors_shown : Bool → List SelectorPhrase → Fragment
selectors_shown w ss = with_rows (designator_row w) (with_rows (its_selectors ss) (both (used (first_name ss)) (each (λ s. s.piece) ss)))

abbrev pub designator_shown : Bool → DesignatorLayer → Fragment
designator_shown w d = selectors_shown w (map selected d.selectors.items)

abbrev pub element_shown : ElementLayer → Fragment
element_shown e = both (expr_rows e.low) (if_present (λ h. both token (expr_rows h)) e.high)

abbrev pub element_list_shown : ElementListLayer → Fragment
element_list_shown l = both (element_rows l.first) (each_after element_rows l.rest.items)

abbrev pub expr_shown : ExprLayer → Fragment
expr_shown e = both (sum_rows e.left) (if_present (λ c. both token (sum_rows c.1.value)) e.compared)

abbrev pub expr_list_shown : ExprListLayer → Fragment
expr_list_shown l = both (expr_rows l.first) (each_after expr_rows l.rest.items)

abbrev pub sum_shown : SumLayer → Fragment
sum_shown s = both (if_present (λ x. token) s.sign) (both (term_rows s.first) (each (λ p. both token (term_rows p.1)) s.rest.items))

abbrev pub term_shown : TermLayer → Fragment
term_shown t = both (factor_rows t.first) (each (λ p. both token (factor_rows p.1)) t.rest.items)

pub expr_out : (e : Expr) → expr_rows e ≡ expr_shown (out-Expr e)
unfolding expr_rows sum_rows expr_phrase sum_phrase
expr_out e =
    ap (λ (p : Phrase). p.piece) (fold_out-Expr Phrase SelectorPhrase DesignatorPhrase Fragment Fragment Phrase ListPhrase Phrase Phrase factor_step selector_step designator_step element_step element_list_step expr_step expr_list_step sum_step term_step e) ∙
    ap (λ (o : Fragment). both (sum_rows (out-Expr e).left) o) (there (out-Expr e).compared)

pub expr_name : (e : Expr) (k : ℕ) → (expr_phrase e).name k ≡ if_absent (out-Expr e).compared (sum_phrase (out-Expr e).left).name k
unfolding expr_phrase sum_phrase
expr_name e k =
    ap (λ (p : Phrase). p.name k) (fold_out-Expr Phrase SelectorPhrase DesignatorPhrase Fragment Fragment Phrase ListPhrase Phrase Phrase factor_step selector_step designator_step element_step element_list_step expr_step expr_list_step sum_step term_step e) ∙
    ap (λ (n : SoleName). n k) (bare sum_phrase (out-Expr e).compared (sum_phrase (out-Expr e).left).name)

pub sum_out : (s : SimpleExpression) → sum_rows s ≡ sum_shown (out-SimpleExpression s)
unfolding sum_rows term_rows sum_phrase term_phrase
sum_out s =
    ap (λ (p : Phrase). p.piece) (fold_out-SimpleExpression Phrase SelectorPhrase DesignatorPhrase Fragment Fragment Phrase ListPhrase Phrase Phrase factor_step selector_step designator_step element_step element_list_step expr_step expr_list_step sum_step term_step s) ∙
    ap (λ (o : Fragment). both (if_present (λ x. token) (out-SimpleExpression s).sign) (both (term_rows (out-SimpleExpression s).first) o)) (each-map (λ (p : AddOperator × Phrase). both token p.1.piece) _ (out-SimpleExpression s).rest.items)

pub sum_name : (s : SimpleExpression) (k : ℕ) → (sum_phrase s).name k ≡ if_absent (out-SimpleExpression s).sign (if_single (out-SimpleExpression s).rest.items (term_phrase (out-SimpleExpression s).first).name) k
unfolding sum_phrase term_phrase
sum_name s k =
    ap (λ (p : Phrase). p.name k) (fold_out-SimpleExpression Phrase SelectorPhrase DesignatorPhrase Fragment Fragment Phrase ListPhrase Phrase Phrase factor_step selector_step designator_step element_step element_list_step expr_step expr_list_step sum_step term_step s) ∙
    ap (λ (n : SoleName). if_absent (out-SimpleExpression s).sign n k) (alone _ (out-SimpleExpression s).rest.items (term_phrase (out-SimpleExpression s).first).name)

pub term_out : (t : Term) → term_rows t ≡ both (factor_rows t.first) (each (λ p. both token (factor_rows p.1)) t.rest.items)
unfolding term_rows factor_rows term_phrase factor_phrase
term_out t =
    ap (λ (p : Phrase). p.piece) (fold_out-Term Phrase SelectorPhrase DesignatorPhrase Fragment Fragment Phrase ListPhrase Phrase Phrase factor_step selector_step designator_step element_step element_list_step expr_step expr_list_step sum_step term_step t) ∙
    ap (λ (o : Fragment). both (factor_rows t.first) o) (each-map (λ (p : MulOperator × Phrase). both token p.1.piece) _ t.rest.items)

pub term_name : (t : Term) (k : ℕ) → (term_phrase t).name k ≡ if_single t.rest.items (factor_phrase t.first).name k
unfolding term_phrase factor_phrase
term_name t k =
    ap (λ (p : Phrase). p.name k) (fold_out-Term Phrase SelectorPhrase DesignatorPhrase Fragment Fragment Phrase ListPhrase Phrase Phrase factor_step selector_step designator_step element_step element_list_step expr_step expr_list_step sum_step term_step t) ∙
    ap (λ (n : SoleName). n k) (alone _ t.rest.items (factor_phrase t.first).name)

pub element_out : (e : Element) → element_rows e ≡ element_shown (out-Element e)
unfolding element_rows expr_rows expr_phrase
element_out e =
    fold_out-Element Phrase SelectorPhrase DesignatorPhrase Fragment Fragment Phrase ListPhrase Phrase Phrase factor_step selector_step designator_step element_step element_list_step expr_step expr_list_step sum_step term_step e ∙
    ap (λ (o : Fragment). both (expr_rows (out-Element e).low) o) (high_there (out-Element e).high)

pub element_list_out : (l : ElementList) → element_list_rows l ≡ element_list_shown (out-ElementList l)
unfolding element_list_rows element_rows
element_list_out l =
    fold_out-ElementList Phrase SelectorPhrase DesignatorPhrase Fragment Fragment Phrase ListPhrase Phrase Phrase factor_step selector_step designator_step element_step element_list_step expr_step expr_list_step sum_step term_step l ∙
    ap (λ (o : Fragment). both (element_rows (out-ElementList l).first) o) (each-map (λ (e : Fragment). both token e) _ (out-ElementList l).rest.items)

pub expr_list_out : (l : ExprList) → expr_list_rows l ≡ expr_list_shown (out-ExprList l)
unfolding expr_list_rows expr_rows list_phrase expr_phrase
expr_list_out l =
    ap (λ (p : ListPhrase). p.piece) (fold_out-ExprList Phrase SelectorPhrase DesignatorPhrase Fragment Fragment Phrase ListPhrase Phrase Phrase factor_step selector_step designator_step element_step element_list_step expr_step expr_list_step sum_step term_step l) ∙
    ap (λ (o : Fragment). both (expr_rows (out-ExprList l).first) o) (each-map (λ (e : Phrase). both token e.piece) _ (out-ExprList l).rest.items)

pub expr_list_count : (l : ExprList) → (list_phrase l).count ≡ suc (length (out-ExprList l).rest.items)
unfolding list_phrase
expr_list_count l =
    ap (λ (p : ListPhrase). p.count) (fold_out-ExprList Phrase SelectorPhrase DesignatorPhrase Fragment Fragment Phrase ListPhrase Phrase Phrase factor_step selector_step designator_step element_step element_list_step expr_step expr_list_step sum_step term_step l) ∙
    ap suc (length_map _ (out-ExprList l).rest.items)

pub expr_list_name : (l : ExprList) (k : ℕ) → (list_phrase l).name k ≡ if_single (out-ExprList l).rest.items (expr_phrase (out-ExprList l).first).name k
unfolding list_phrase expr_phrase
expr_list_name l k =
    ap (λ (p : ListPhrase). p.name k) (fold_out-ExprList Phrase SelectorPhrase DesignatorPhrase Fragment Fragment Phrase ListPhrase Phrase Phrase factor_step selector_step designator_step element_step element_list_step expr_step expr_list_step sum_step term_step l) ∙
    ap (λ (n : SoleName). n k) (alone _ (out-ExprList l).rest.items (expr_phrase (out-ExprList l).first).name)

pub designator_out : (w : Bool) (d : Designator) → designator_rows w d ≡ with_rows (designator_row w) (with_rows (its_selectors (map selected d.selectors.items))
    (both (used (first_name (map selected d.selectors.items))) (each (λ s. s.piece) (map selected d.selectors.items))))
unfolding designator_rows designator_phrase selected
designator_out w d = ap (λ (p : DesignatorPhrase). p.piece w) (fold_out-Designator Phrase SelectorPhrase DesignatorPhrase Fragment Fragment Phrase ListPhrase Phrase Phrase factor_step selector_step designator_step element_step element_list_step expr_step expr_list_step sum_step term_step d)

pub designator_name : (d : Designator) (k : ℕ) → (designator_phrase d).name k ≡ name_with (map selected d.selectors.items) k
unfolding designator_phrase selected
designator_name d k = ap (λ (p : DesignatorPhrase). p.name k) (fold_out-Designator Phrase SelectorPhrase DesignatorPhrase Fragment Fragment Phrase ListPhrase Phrase Phrase factor_step selector_step designator_step element_step element_list_step expr_step expr_list_step sum_step term_step d)

factor_seen : (x : FactorLayer) →
    factor_step (map-Factor Factor Selector Designator Element ElementList Expr ExprList SimpleExpression Term Phrase SelectorPhrase DesignatorPhrase Fragment Fragment Phrase ListPhrase Phrase Phrase factor_phrase selected designator_phrase element_rows element_list_rows expr_phrase list_phrase sum_phrase term_phrase x) ≡ factor_shown x
unfolding factor_rows designator_rows expr_rows expr_list_rows sum_rows term_rows
factor_seen (layers.Value k n) = refl
factor_seen layers.Nil = refl
factor_seen layers.True = refl
factor_seen layers.False = refl
factor_seen (layers.Set None) = refl
factor_seen (layers.Set (Some elements)) = refl
factor_seen (layers.Name d) = refl
factor_seen (layers.Group e) = refl
factor_seen (layers.Not f) = refl

pub factor_out : (f : Factor) → factor_phrase f ≡ factor_shown (out-Factor f)
unfolding factor_phrase selected designator_phrase element_rows element_list_rows expr_phrase list_phrase sum_phrase term_phrase
factor_out f = fold_out-Factor Phrase SelectorPhrase DesignatorPhrase Fragment Fragment Phrase ListPhrase Phrase Phrase factor_step selector_step designator_step element_step element_list_step expr_step expr_list_step sum_step term_step f ∙ factor_seen (out-Factor f)

selector_seen : (x : SelectorLayer) →
    selector_step (map-Selector Factor Selector Designator Element ElementList Expr ExprList SimpleExpression Term Phrase SelectorPhrase DesignatorPhrase Fragment Fragment Phrase ListPhrase Phrase Phrase factor_phrase selected designator_phrase element_rows element_list_rows expr_phrase list_phrase sum_phrase term_phrase x) ≡ selector_shown x
unfolding factor_rows designator_rows expr_rows expr_list_rows sum_rows term_rows
selector_seen (layers.Field n) = refl
selector_seen (layers.Index list) = refl
selector_seen layers.Target = refl
selector_seen (layers.Arguments None) = refl
selector_seen (layers.Arguments (Some list)) = refl

pub selector_out : (s : Selector) → selected s ≡ selector_shown (out-Selector s)
unfolding factor_phrase selected designator_phrase element_rows element_list_rows expr_phrase list_phrase sum_phrase term_phrase
selector_out s = fold_out-Selector Phrase SelectorPhrase DesignatorPhrase Fragment Fragment Phrase ListPhrase Phrase Phrase factor_step selector_step designator_step element_step element_list_step expr_step expr_list_step sum_step term_step s ∙ selector_seen (out-Selector s)

-- the same at a constructed value

pub designator_made : (w : Bool) (x : DesignatorLayer) → designator_rows w (roll-Designator x) ≡ designator_shown w x
designator_made w x = designator_out w (roll-Designator x) ∙ ap (λ y. designator_shown w y) (out-roll-Designator x)

pub element_made : (x : ElementLayer) → element_rows (roll-Element x) ≡ element_shown x
element_made x = element_out (roll-Element x) ∙ ap (λ y. element_shown y) (out-roll-Element x)

pub element_list_made : (x : ElementListLayer) → element_list_rows (roll-ElementList x) ≡ element_list_shown x
element_list_made x = element_list_out (roll-ElementList x) ∙ ap (λ y. element_list_shown y) (out-roll-ElementList x)

pub expr_made : (x : ExprLayer) → expr_rows (roll-Expr x) ≡ expr_shown x
expr_made x = expr_out (roll-Expr x) ∙ ap (λ y. expr_shown y) (out-roll-Expr x)

pub expr_list_made : (x : ExprListLayer) → expr_list_rows (roll-ExprList x) ≡ expr_list_shown x
expr_list_made x = expr_list_out (roll-ExprList x) ∙ ap (λ y. expr_list_shown y) (out-roll-ExprList x)

pub sum_made : (x : SumLayer) → sum_rows (roll-SimpleExpression x) ≡ sum_shown x
sum_made x = sum_out (roll-SimpleExpression x) ∙ ap (λ y. sum_shown y) (out-roll-SimpleExpression x)

pub term_made : (x : TermLayer) → term_rows (roll-Term x) ≡ term_shown x
term_made x = term_out (roll-Term x) ∙ ap (λ y. term_shown y) (out-roll-Term x)

factor_of : (f : Factor) (x : FactorLayer) → out-Factor f ≡ x → factor_rows f ≡ (factor_shown x).piece
unfolding factor_rows
factor_of f x e = ap (λ (p : Phrase). p.piece) (factor_out f) ∙ ap (λ y. (factor_shown y).piece) e

pub factor_made : (x : FactorLayer) → factor_rows (roll-Factor x) ≡ (factor_shown x).piece
factor_made x = factor_of (roll-Factor x) x (out-roll-Factor x)

pub value_made : (k : Literal) (n : ℕ) → factor_rows (factors.Value k n) ≡ token
value_made k n = factor_of _ _ (factors.outs-Value k n)

pub nil_made : factor_rows factors.Nil ≡ token
nil_made = factor_of _ _ factors.outs-Nil

pub true_made : factor_rows factors.True ≡ token
true_made = factor_of _ _ factors.outs-True

pub false_made : factor_rows factors.False ≡ token
false_made = factor_of _ _ factors.outs-False

pub set_made : (o : Option (Box ElementList Global)) → factor_rows (factors.Set o) ≡ both token (both (if_present (λ l. element_list_rows l.value) o) token)
set_made o = factor_of _ _ (factors.outs-Set o)

pub name_made : (d : Designator) → factor_rows (factors.Name d) ≡ designator_rows false d
name_made d = factor_of _ _ (factors.outs-Name d)

pub group_made : (b : Box Expr Global) → factor_rows (factors.Group b) ≡ both token (both (expr_rows b.value) token)
group_made b = factor_of _ _ (factors.outs-Group b)

pub not_made : (b : Box Factor Global) → factor_rows (factors.Not b) ≡ both token (factor_rows b.value)
not_made b = factor_of _ _ (factors.outs-Not b)

selector_of : (s : Selector) (x : SelectorLayer) → out-Selector s ≡ x → selected s ≡ selector_shown x
selector_of s x e = selector_out s ∙ ap (λ y. selector_shown y) e

pub selector_made : (x : SelectorLayer) → selected (roll-Selector x) ≡ selector_shown x
selector_made x = selector_of (roll-Selector x) x (out-roll-Selector x)

pub field_made : (n : ℕ) → selected (selectors.Field n) ≡ selector_shown (layers.Field n)
field_made n = selector_of _ _ (selectors.outs-Field n)

pub index_made : (b : Box ExprList Global) → selected (selectors.Index b) ≡ selector_shown (layers.Index b)
index_made b = selector_of _ _ (selectors.outs-Index b)

pub target_made : selected selectors.Target ≡ selector_shown layers.Target
target_made = selector_of _ _ selectors.outs-Target

pub arguments_made : (o : Option (Box ExprList Global)) → selected (selectors.Arguments o) ≡ selector_shown (layers.Arguments o)
arguments_made o = selector_of _ _ (selectors.outs-Arguments o)
