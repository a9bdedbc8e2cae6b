-- The entries of an expression, a sum and a term are determined by their event sequences, if those of their parts are.
use Rattle.std.proofs.Common.{◌≡◌, Bool, true, false, List, [], ◌∷◌, ◌++◌, map, Option, Some, None, refl, ap, ◌∙◌}
use Rattle.std.specs.declared.boxed.Box.{Box}
use Rattle.std.specs.declared.alloc.Global.{Global}
use Rattle.ob_tree.specs.declared.expression.Relation.{Relation}
use Rattle.ob_tree.specs.declared.expression.Sign.{Sign}
use Rattle.ob_tree.specs.declared.expression.AddOperator.{AddOperator}
use Rattle.ob_tree.specs.declared.expression.MulOperator.{MulOperator}
use Rattle.ob_tree.specs.declared.expression.Factor.TheShapes as shapes
use Rattle.ob_tree.specs.declared.expression.Factor.{Factor}
use Rattle.ob_tree.specs.declared.expression.Expr.{Expr, fold_out-Expr, roll-Expr, out-Expr, out-roll-Expr}
use Rattle.ob_tree.specs.declared.expression.SimpleExpression.{SimpleExpression, fold_out-SimpleExpression, roll-SimpleExpression, out-SimpleExpression, out-roll-SimpleExpression}
use Rattle.ob_tree.specs.declared.expression.Term.{Term, fold_out-Term, roll-Term, out-Term, out-roll-Term}
use Rattle.ob_tree.specs.Constructs as constructs
use Rattle.ob_tree.specs.TreeEvents.{Events, construct, word, if_present}
use Rattle.ob_tree.specs.Expressions.{relation_kind, sign_kind, add_kind, mul_kind, factor_events, sum_events, term_events}
use Rattle.ob_tree.proofs.ExpressionLayers.{expr_shown, sum_shown, expr_out, sum_out, term_out, term_shown}
use Rattle.ob_tree.proofs.ExpressionInduction.{With, ExprLayer, SumLayer, TermLayer, WithExpr, WithSum, WithTerm, expr_of, sum_of, term_of}
use Rattle.module_table.specs.Parts.{Fragment, token, both}
use Rattle.module_table.specs.Parts.{if_present as there, each as pieces}
use Rattle.table_rules.specs.Expressions.{Phrase, ListPhrase, SelectorPhrase, DesignatorPhrase, SoleName, if_single, if_absent}
use Rattle.table_rules.specs.Expressions.{factor_phrase, expr_phrase, sum_phrase, term_phrase, factor_step, selector_step, designator_step, element_step, element_list_step, expr_step, expr_list_step, sum_step, term_step}
use Rattle.module_table.proofs.Steps.{each-map}
use Rattle.table_rules.proofs.Reading.{Reads, never, on_any_word, maybe, r-until, r-both, r-held, r-at, r-none, r-some, r-any, r-past_any, r-layer}
use Rattle.table_rules.proofs.ReadingLists.{r-map, each_told}
use Rattle.table_rules.proofs.ReadingExpressionParts.{readable}

-- ---- expressions

abbrev expr_parts : ExprLayer → Phrase × Option Phrase
expr_parts z = (sum_phrase z.left, maybe (λ c. sum_phrase c.1.value) z.compared)

abbrev expr_told : Phrase × Option Phrase → Phrase
expr_told p = record { piece = both p.0.piece (there (λ c. both token c.piece) p.1); name = if_absent p.1 p.0.name }

expr_seen : (l : Phrase) (o : Option (Relation × Box SimpleExpression Global)) →
    (let p : Phrase = record { piece = both l.piece (there (λ c. both token c.1.value.piece) ((shapes.former-Expr-compared).map SimpleExpression Phrase sum_phrase o)); name = if_absent ((shapes.former-Expr-compared).map SimpleExpression Phrase sum_phrase o) l.name } in p)
    ≡ expr_told (l, maybe (λ c. sum_phrase c.1.value) o)
expr_seen l None = refl
expr_seen l (Some c) = refl

expr_tells : (e : Expr) → expr_phrase e ≡ expr_told (expr_parts (out-Expr e))
unfolding expr_phrase sum_phrase
expr_tells e = fold_out-Expr Phrase SelectorPhrase DesignatorPhrase Fragment Fragment Phrase ListPhrase Phrase Phrase factor_step selector_step designator_step element_step element_list_step expr_step expr_list_step sum_step term_step e ∙ expr_seen (sum_phrase (out-Expr e).left) (out-Expr e).compared

abbrev compared_shown : Option (Relation × Box SimpleExpression Global) → Events
compared_shown o = if_present (λ c. word (relation_kind c.0) ++ sum_events c.1.value) o

abbrev compared_of : Option (Relation × Box (With readable.sum) Global) → Option (Relation × Box SimpleExpression Global)
compared_of = (shapes.former-Expr-compared).map (With readable.sum) SimpleExpression (λ e. e.0)

compared_held : (o : Option (Relation × Box (With readable.sum) Global)) →
    Reads {Z = ExprLayer} (λ z. maybe (λ c. sum_phrase c.1.value) z.compared) (λ z. compared_shown z.compared) on_any_word (maybe (λ c. sum_phrase c.1.value) (compared_of o)) (compared_shown (compared_of o))
compared_held None = r-none (λ c. sum_phrase c.1.value) (λ c. word (relation_kind c.0) ++ sum_events c.1.value) on_any_word (λ c s. refl) (λ z. z.compared)
compared_held (Some c) = r-some (r-past_any (λ d. relation_kind d.0) (relation_kind c.0) (r-at (λ d. d.1.value) c.1.value.1)) (λ s i. refl) (λ s. refl) (λ z. z.compared)

expr_held : (y : WithExpr readable) → Reads expr_parts (λ z. construct constructs.Expression (expr_shown z)) never (expr_parts (expr_of readable y)) (construct constructs.Expression (expr_shown (expr_of readable y)))
expr_held y = r-held constructs.Expression (r-both (r-at (λ z. z.left) y.left.1) (compared_held y.compared)) (λ s. refl)

pub expr_layer : (y : WithExpr readable) → readable.expr (roll-Expr (expr_of readable y))
expr_layer y = r-layer out-Expr expr_parts (λ z. construct constructs.Expression (expr_shown z)) expr_told expr_tells expr_out _ _ (out-roll-Expr (expr_of readable y)) (expr_held y)

-- ---- terms and sums

alone : {X A B : Type 0} (f : X → A) (g : X → B) (xs : List X) (n : SoleName) → if_single (map f xs) n ≡ if_single (map g xs) n
alone f g [] n = refl
alone f g (x ∷ xs) n = refl

abbrev term_parts : TermLayer → Phrase × List Phrase
term_parts z = (factor_phrase z.first, map (λ p. factor_phrase p.1) z.rest.items)

abbrev term_told : Phrase × List Phrase → Phrase
term_told p = record { piece = both p.0.piece (pieces (λ q. both token q.piece) p.1); name = if_single p.1 p.0.name }

phrase : (p q : Fragment) (m n : SoleName) → p ≡ q → m ≡ n → (let x : Phrase = record { piece = p; name = m } in x) ≡ record { piece = q; name = n }
phrase p q m n e f = rw (e, f) refl

term_tells : (t : Term) → term_phrase t ≡ term_told (term_parts (out-Term t))
unfolding term_phrase factor_phrase
term_tells t = fold_out-Term Phrase SelectorPhrase DesignatorPhrase Fragment Fragment Phrase ListPhrase Phrase Phrase factor_step selector_step designator_step element_step element_list_step expr_step expr_list_step sum_step term_step t ∙ phrase _ _ _ _
    (ap (λ (o : Fragment). both (factor_phrase (out-Term t).first).piece o) (each-map (λ (p : MulOperator × Phrase). both token p.1.piece) _ (out-Term t).rest.items ∙ each_told (λ (p : MulOperator × Factor). factor_phrase p.1) (λ q. both token q.piece) (out-Term t).rest.items))
    (alone _ (λ (p : MulOperator × Factor). factor_phrase p.1) (out-Term t).rest.items (factor_phrase (out-Term t).first).name)

term_held : (y : WithTerm readable) → Reads term_parts (λ z. construct constructs.Term (term_shown z)) never (term_parts (term_of readable y)) (construct constructs.Term (term_shown (term_of readable y)))
term_held y = r-held constructs.Term (r-both (r-at (λ z. z.first) y.first.1) (r-at (λ z. z.rest.items) (r-map (λ p. factor_phrase p.1) (λ p. word (mul_kind p.0) ++ factor_events p.1) never on_any_word (λ p s. refl) (λ s i. refl) (λ p s. refl) _ y.rest.items (λ p. r-past_any (λ q. mul_kind q.0) (mul_kind p.0) (r-at (λ q. q.1) p.1.1))))) (λ s. refl)

pub term_layer : (y : WithTerm readable) → readable.term (roll-Term (term_of readable y))
term_layer y = r-layer out-Term term_parts (λ z. construct constructs.Term (term_shown z)) term_told term_tells term_out _ _ (out-roll-Term (term_of readable y)) (term_held y)

abbrev sum_parts : SumLayer → Option Bool × (Phrase × List Phrase)
sum_parts z = (maybe (λ x. true) z.sign, (term_phrase z.first, map (λ p. term_phrase p.1) z.rest.items))

abbrev sum_told : Option Bool × (Phrase × List Phrase) → Phrase
sum_told p = record { piece = both (there (λ x. token) p.0) (both p.1.0.piece (pieces (λ q. both token q.piece) p.1.1)); name = if_absent p.0 (if_single p.1.1 p.1.0.name) }

signed : (g : Option Sign) (p q : Fragment) (m n : SoleName) → p ≡ q → m ≡ n →
    (let x : Phrase = record { piece = both (there (λ x. token) g) p; name = if_absent g m } in x) ≡ record { piece = both (there (λ x. token) (maybe (λ x. true) g)) q; name = if_absent (maybe (λ x. true) g) n }
signed None p q m n e f = rw (e, f) refl
signed (Some g) p q m n e f = rw e refl

sum_tells : (s : SimpleExpression) → sum_phrase s ≡ sum_told (sum_parts (out-SimpleExpression s))
unfolding sum_phrase term_phrase
sum_tells s = fold_out-SimpleExpression Phrase SelectorPhrase DesignatorPhrase Fragment Fragment Phrase ListPhrase Phrase Phrase factor_step selector_step designator_step element_step element_list_step expr_step expr_list_step sum_step term_step s ∙ signed (out-SimpleExpression s).sign _ _ _ _
    (ap (λ (o : Fragment). both (term_phrase (out-SimpleExpression s).first).piece o) (each-map (λ (p : AddOperator × Phrase). both token p.1.piece) _ (out-SimpleExpression s).rest.items ∙ each_told (λ (p : AddOperator × Term). term_phrase p.1) (λ q. both token q.piece) (out-SimpleExpression s).rest.items))
    (alone _ (λ (p : AddOperator × Term). term_phrase p.1) (out-SimpleExpression s).rest.items (term_phrase (out-SimpleExpression s).first).name)

term_begins : (t : Term) (r s : Events) → on_any_word ((term_events t ++ r) ++ s) ≡ false
unfolding construct
term_begins t r s = ap (λ (o : Events). on_any_word ((o ++ r) ++ s)) (term_out t)

sign_held : (g : Option Sign) → Reads {Z = SumLayer} (λ z. maybe (λ x. true) z.sign) (λ z. if_present (λ x. word (sign_kind x)) z.sign) on_any_word (maybe (λ x. true) g) (if_present (λ x. word (sign_kind x)) g)
sign_held None = r-none (λ x. true) (λ x. word (sign_kind x)) on_any_word (λ x s. refl) (λ z. z.sign)
sign_held (Some g) = r-some (r-any sign_kind (sign_kind g)) (λ s i. refl) (λ s. refl) (λ z. z.sign)

sum_held : (y : WithSum readable) → Reads sum_parts (λ z. construct constructs.SimpleExpression (sum_shown z)) never (sum_parts (sum_of readable y)) (construct constructs.SimpleExpression (sum_shown (sum_of readable y)))
sum_held y = r-held constructs.SimpleExpression (r-until (sign_held y.sign) (λ s i. term_begins y.first.0 _ s) (λ z s i. term_begins z.first _ s) (r-both (r-at (λ z. z.first) y.first.1) (r-at (λ z. z.rest.items) (r-map (λ p. term_phrase p.1) (λ p. word (add_kind p.0) ++ term_events p.1) never on_any_word (λ p s. refl) (λ s i. refl) (λ p s. refl) _ y.rest.items (λ p. r-past_any (λ q. add_kind q.0) (add_kind p.0) (r-at (λ q. q.1) p.1.1)))))) (λ s. refl)

pub sum_layer : (y : WithSum readable) → readable.sum (roll-SimpleExpression (sum_of readable y))
sum_layer y = r-layer out-SimpleExpression sum_parts (λ z. construct constructs.SimpleExpression (sum_shown z)) sum_told sum_tells sum_out _ _ (out-roll-SimpleExpression (sum_of readable y)) (sum_held y)
