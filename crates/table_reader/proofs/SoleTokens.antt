-- The tokens of an expression determine whether it is a single name.
use Rattle.std.proofs.Common.{◌≡◌, ℕ, ◌+◌, List, [], ◌∷◌, ◌++◌, map, Option, Some, None, refl, sym, ap, ◌∙◌}
use Rattle.std.proofs.lemmas.List.{append-nil}
use Rattle.std.specs.Global.{Box}
use Rattle.ob_scan.specs.declared.kind.Kind.{Kind}
use Rattle.ob_scan.specs.declared.kind.Kind.TheVariants as kinds
use Rattle.ob_tree.specs.declared.token.Leaf.{Leaf}
use Rattle.ob_tree.specs.declared.token.Leaf.TheVariants as leafs
use Rattle.ob_tree.specs.declared.expression.Relation.{Relation}
use Rattle.ob_tree.specs.declared.expression.Relation.TheVariants as relations
use Rattle.ob_tree.specs.declared.expression.Sign.{Sign}
use Rattle.ob_tree.specs.declared.expression.AddOperator.{AddOperator}
use Rattle.ob_tree.specs.declared.expression.AddOperator.TheVariants as sums
use Rattle.ob_tree.specs.declared.expression.MulOperator.{MulOperator}
use Rattle.ob_tree.specs.declared.expression.MulOperator.TheVariants as products
use Rattle.ob_tree.specs.declared.expression.Factor.TheOpen as layers
use Rattle.ob_tree.specs.declared.expression.Factor.{Factor, Factor-F, out-Factor}
use Rattle.ob_tree.specs.declared.expression.Selector.{Selector, Selector-F, out-Selector}
use Rattle.ob_tree.specs.declared.expression.Designator.{Designator}
use Rattle.ob_tree.specs.declared.expression.Element.{Element}
use Rattle.ob_tree.specs.declared.expression.ElementList.{ElementList}
use Rattle.ob_tree.specs.declared.expression.Expr.{Expr, out-Expr}
use Rattle.ob_tree.specs.declared.expression.ExprList.{ExprList, out-ExprList}
use Rattle.ob_tree.specs.declared.expression.SimpleExpression.{SimpleExpression, out-SimpleExpression}
use Rattle.ob_tree.specs.declared.expression.Term.{Term}
use Rattle.ob_tree.specs.Constructs.{Construct}
use Rattle.ob_tree.specs.Constructs as constructs
use Rattle.ob_tree.specs.TreeEvents.{Events, construct, word, used, each, tokens_of}
use Rattle.ob_tree.specs.Expressions.{relation_kind, add_kind, mul_kind, selector_events, designator_events, factor_events, term_events, sum_events, expr_events, expr_list_events}
use Rattle.ob_tree.proofs.ExpressionLayers as events
use Rattle.module_table.specs.declared.rows.TypeName.{TypeName}
use Rattle.table_rules.specs.Expressions.{Phrase, SelectorPhrase, SoleName, between, if_single, if_absent, selected, designator_phrase, name_with, dotted, factor_phrase, term_phrase, sum_phrase, expr_phrase, list_phrase}
use Rattle.table_rules.proofs.ExpressionLayers as effect
use Rattle.ob_grammar.proofs.Sound.{tokens_of-append, tokens_of-construct}
use Rattle.table_reader.specs.SoleNames.{sole_name_of}
use Rattle.table_reader.specs.Shapes.{Compared, compared_events, sign_events, arguments_events}

-- four tokens or more are no name
pub lone_long : (a b c d : Leaf) (ls : List Leaf) (k : ℕ) → sole_name_of (a ∷ b ∷ c ∷ d ∷ ls) k ≡ None
lone_long (leafs.Name n) (leafs.Word kinds.Dot) (leafs.Name m) d ls k = refl
lone_long a b c d ls k = refl

-- tokens with a word other than a dot are no name
lone_word : (xs ys : List Leaf) (w : Kind) (k : ℕ) → (w ≡ kinds.Dot → ⊥) → sole_name_of (xs ++ leafs.Word w ∷ ys) k ≡ None
lone_word [] ys w k h = refl
lone_word (leafs.Name n ∷ []) ys kinds.Dot k h = absurd (h refl)
lone_word (leafs.Name n ∷ []) ys w k h = refl
lone_word (x ∷ []) ys w k h = refl
lone_word (leafs.Name n ∷ leafs.Word kinds.Dot ∷ []) ys w k h = refl
lone_word (x ∷ y ∷ []) ys w k h = refl
lone_word (x ∷ y ∷ z ∷ []) ys w k h = lone_long x y z (leafs.Word w) ys k
lone_word (x ∷ y ∷ z ∷ a ∷ zs) ys w k h = lone_long x y z a (zs ++ leafs.Word w ∷ ys) k

-- ---- designators

lone_one : (h k : ℕ) (y : Selector-F Factor Selector Designator Element ElementList Expr ExprList SimpleExpression Term) →
    dotted (effect.selector_shown y).name k ≡ sole_name_of (leafs.Name h ∷ tokens_of (construct constructs.Selector (events.selector_shown y) ++ [])) k
unfolding construct
lone_one h k (layers.Field n) = refl
lone_one h k (layers.Index l) = refl
lone_one h k layers.Target = refl
lone_one h k (layers.Arguments l) = refl

lone_two : (h k : ℕ) (y z : Selector-F Factor Selector Designator Element ElementList Expr ExprList SimpleExpression Term) (o : Events) →
    sole_name_of (leafs.Name h ∷ tokens_of (construct constructs.Selector (events.selector_shown y) ++ (construct constructs.Selector (events.selector_shown z) ++ o))) k ≡ None
unfolding construct
lone_two h k (layers.Field n) (layers.Field m) o = refl
lone_two h k (layers.Field n) (layers.Index l) o = refl
lone_two h k (layers.Field n) layers.Target o = refl
lone_two h k (layers.Field n) (layers.Arguments l) o = refl
lone_two h k (layers.Index l) z o = refl
lone_two h k layers.Target z o = refl
lone_two h k (layers.Arguments l) z o = refl

lone_selectors : (h k : ℕ) (ss : List Selector) → name_with (map selected ss) k ≡ sole_name_of (leafs.Name h ∷ tokens_of (each selector_events ss)) k
lone_selectors h k [] = refl
lone_selectors h k (s ∷ []) =
    ap (λ (x : SelectorPhrase). dotted x.name k) (effect.selector_out s) ∙ lone_one h k (out-Selector s) ∙ ap (λ (o : Events). sole_name_of (leafs.Name h ∷ tokens_of (o ++ [])) k) (sym (events.selector_out s))
lone_selectors h k (s ∷ t ∷ ss) =
    sym (ap (λ (o : Events). sole_name_of (leafs.Name h ∷ tokens_of (o ++ (selector_events t ++ each selector_events ss))) k) (events.selector_out s)
    ∙ ap (λ (o : Events). sole_name_of (leafs.Name h ∷ tokens_of (construct constructs.Selector (events.selector_shown (out-Selector s)) ++ (o ++ each selector_events ss))) k) (events.selector_out t)
    ∙ lone_two h k (out-Selector s) (out-Selector t) (each selector_events ss))

lone_designator : (d : Designator) (k : ℕ) → (designator_phrase d).name k ≡ sole_name_of (tokens_of (designator_events d)) k
lone_designator d k =
    effect.designator_name d k ∙ lone_selectors d.head k d.selectors.items
    ∙ ap (λ (ls : List Leaf). sole_name_of ls k) (sym (ap tokens_of (events.designator_out d) ∙ tokens_of-construct constructs.Designator (used d.head ++ each selector_events d.selectors.items)))

---- constructs that may be a single name

lone_shown : (k : ℕ) (y : Factor-F Factor Selector Designator Element ElementList Expr ExprList SimpleExpression Term) → (effect.factor_shown y).name k ≡ sole_name_of (tokens_of (events.factor_shown y)) k
lone_shown k (layers.Value l n) = refl
lone_shown k layers.Nil = refl
lone_shown k layers.True = refl
lone_shown k layers.False = refl
lone_shown k (layers.Set l) = refl
lone_shown k (layers.Name d) = lone_designator d k
lone_shown k (layers.Group e) = refl
lone_shown k (layers.Not f) = refl

-- the content of a construct is a single name, or isn't
in_construct : (c : Construct) (all_tokens parts : Events) (n : Option TypeName) (k : ℕ) → all_tokens ≡ construct c parts → n ≡ sole_name_of (tokens_of parts) k → n ≡ sole_name_of (tokens_of all_tokens) k
in_construct c all_tokens parts n k e h = h ∙ ap (λ (ls : List Leaf). sole_name_of ls k) (sym (ap tokens_of e ∙ tokens_of-construct c parts))

lone_factor : (f : Factor) (k : ℕ) → (factor_phrase f).name k ≡ sole_name_of (tokens_of (factor_events f)) k
lone_factor f k = in_construct constructs.Factor (factor_events f) (events.factor_shown (out-Factor f)) _ k (events.factor_out f) (ap (λ (p : Phrase). p.name k) (effect.factor_out f) ∙ lone_shown k (out-Factor f))

-- a list after a construct that may be a single name: each item comes after a word other than a dot
lone_list : {X : Type 0} (w : X → Kind) (g : X → Events) (first : Events) (xs : List X) (n : SoleName) (k : ℕ) → ((x : X) → w x ≡ kinds.Dot → ⊥) → n k ≡ sole_name_of (tokens_of first) k →
    if_single xs n k ≡ sole_name_of (tokens_of (first ++ each (λ x. word (w x) ++ g x) xs)) k
lone_list w g first [] n k h e = e ∙ ap (λ (o : Events). sole_name_of (tokens_of o) k) (sym (append-nil first))
lone_list w g first (x ∷ xs) n k h e =
    sym (ap (λ (ls : List Leaf). sole_name_of ls k) (tokens_of-append first ((word (w x) ++ g x) ++ each (λ x. word (w x) ++ g x) xs))
    ∙ lone_word (tokens_of first) (tokens_of (g x ++ each (λ x. word (w x) ++ g x) xs)) (w x) k (h x))

mul_no_dot : (x : MulOperator) → mul_kind x ≡ kinds.Dot → ⊥
mul_no_dot products.Times e = cc
mul_no_dot products.Divide e = cc
mul_no_dot products.Div e = cc
mul_no_dot products.Mod e = cc
mul_no_dot products.And e = cc

add_no_dot : (x : AddOperator) → add_kind x ≡ kinds.Dot → ⊥
add_no_dot sums.Plus e = cc
add_no_dot sums.Minus e = cc
add_no_dot sums.Or e = cc

relation_no_dot : (x : Relation) → relation_kind x ≡ kinds.Dot → ⊥
relation_no_dot relations.Equal e = cc
relation_no_dot relations.Unequal e = cc
relation_no_dot relations.Less e = cc
relation_no_dot relations.LessEqual e = cc
relation_no_dot relations.Greater e = cc
relation_no_dot relations.GreaterEqual e = cc
relation_no_dot relations.In e = cc
relation_no_dot relations.Is e = cc

lone_term : (t : Term) (k : ℕ) → (term_phrase t).name k ≡ sole_name_of (tokens_of (term_events t)) k
lone_term t k = in_construct constructs.Term (term_events t) (factor_events t.first ++ each (λ p. word (mul_kind p.0) ++ factor_events p.1) t.rest.items) _ k (events.term_out t)
    (effect.term_name t k ∙ lone_list {X = MulOperator × Factor} (λ p. mul_kind p.0) (λ p. factor_events p.1) (factor_events t.first) t.rest.items (factor_phrase t.first).name k (λ p. mul_no_dot p.0) (lone_factor t.first k))

lone_signed : (o : Option Sign) (rest : Events) (n : SoleName) (k : ℕ) → n k ≡ sole_name_of (tokens_of rest) k → if_absent o n k ≡ sole_name_of (tokens_of (sign_events o ++ rest)) k
lone_signed None rest n k e = e
lone_signed (Some x) rest n k e = refl

lone_sum : (s : SimpleExpression) (k : ℕ) → (sum_phrase s).name k ≡ sole_name_of (tokens_of (sum_events s)) k
lone_sum s k =
    let y = out-SimpleExpression s in
    in_construct constructs.SimpleExpression (sum_events s) (events.sum_shown y) _ k (events.sum_out s)
    (effect.sum_name s k ∙ lone_signed y.sign (term_events y.first ++ each (λ p. word (add_kind p.0) ++ term_events p.1) y.rest.items) (if_single y.rest.items (term_phrase y.first).name) k
    (lone_list {X = AddOperator × Term} (λ p. add_kind p.0) (λ p. term_events p.1) (term_events y.first) y.rest.items (term_phrase y.first).name k (λ p. add_no_dot p.0) (lone_term y.first k)))

lone_compared : (first : Events) (o : Compared) (n : SoleName) (k : ℕ) → n k ≡ sole_name_of (tokens_of first) k → if_absent o n k ≡ sole_name_of (tokens_of (first ++ compared_events o)) k
lone_compared first None n k e = e ∙ ap (λ (o : Events). sole_name_of (tokens_of o) k) (sym (append-nil first))
lone_compared first (Some x) n k e =
    sym (ap (λ (ls : List Leaf). sole_name_of ls k) (tokens_of-append first (compared_events (Some x)))
    ∙ lone_word (tokens_of first) (tokens_of (sum_events x.1.value)) (relation_kind x.0) k (relation_no_dot x.0))

lone_expr : (e : Expr) (k : ℕ) → (expr_phrase e).name k ≡ sole_name_of (tokens_of (expr_events e)) k
lone_expr e k =
    let y = out-Expr e in
    in_construct constructs.Expression (expr_events e) (events.expr_shown y) _ k (events.expr_out e)
    (effect.expr_name e k ∙ lone_compared (sum_events y.left) y.compared (sum_phrase y.left).name k (lone_sum y.left k))

comma_no_dot : (x : Expr) → kinds.Comma ≡ kinds.Dot → ⊥
comma_no_dot x e = cc

lone_exprs : (l : ExprList) (k : ℕ) → (list_phrase l).name k ≡ sole_name_of (tokens_of (expr_list_events l)) k
lone_exprs l k =
    let y = out-ExprList l in
    effect.expr_list_name l k
    ∙ lone_list {X = Expr} (λ e. kinds.Comma) expr_events (expr_events y.first) y.rest.items (expr_phrase y.first).name k comma_no_dot (lone_expr y.first k)
    ∙ ap (λ (o : Events). sole_name_of (tokens_of o) k) (sym (events.expr_list_out l))

-- the tokens between parentheses, the first of which has this number
pub lone_between : (o : Option (Box ExprList)) (k : ℕ) → between o k ≡ sole_name_of (tokens_of (arguments_events o)) (k + 1)
lone_between None k = refl
lone_between (Some l) k = lone_exprs l.value (k + 1)
