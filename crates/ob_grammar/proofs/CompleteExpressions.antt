-- The tokens of an expression are read as that expression, if they are followed by tokens that can't continue it.
use Rattle.std.proofs.Common.{◌≡◌, ℕ, zero, suc, true, false, ◌≤◌, List, [], ◌∷◌, ◌++◌, Option, Some, None, Ok, refl, ap, subst, ◌∙◌, arith}
use Rattle.std.specs.declared.boxed.Box.{Box}
use Rattle.std.specs.declared.alloc.Global.{Global}
use Rattle.ob_scan.specs.declared.kind.Kind.TheVariants as kinds
use Rattle.ob_tree.specs.declared.token.Leaf.{Leaf}
use Rattle.ob_tree.specs.declared.token.Leaf.TheVariants as leafs
use Rattle.ob_tree.specs.declared.expression.Relation.{Relation}
use Rattle.ob_tree.specs.declared.expression.Relation.TheVariants as relations
use Rattle.ob_tree.specs.declared.expression.Sign.{Sign}
use Rattle.ob_tree.specs.declared.expression.Sign.TheVariants as signs
use Rattle.ob_tree.specs.declared.expression.AddOperator.{AddOperator}
use Rattle.ob_tree.specs.declared.expression.AddOperator.TheVariants as sums
use Rattle.ob_tree.specs.declared.expression.MulOperator.{MulOperator}
use Rattle.ob_tree.specs.declared.expression.MulOperator.TheVariants as products
use Rattle.ob_tree.specs.declared.expression.Factor.{Factor, Factor-F, out-Factor}
use Rattle.ob_tree.specs.declared.expression.Factor.TheOpen as layers
use Rattle.ob_tree.specs.declared.expression.Selector.{Selector, Selector-F, out-Selector}
use Rattle.ob_tree.specs.declared.expression.Designator.{Designator}
use Rattle.ob_tree.specs.declared.expression.Element.{Element, out-Element}
use Rattle.ob_tree.specs.declared.expression.ElementList.{ElementList, out-ElementList}
use Rattle.ob_tree.specs.declared.expression.Expr.{Expr, out-Expr}
use Rattle.ob_tree.specs.declared.expression.ExprList.{ExprList, out-ExprList}
use Rattle.ob_tree.specs.declared.expression.SimpleExpression.{SimpleExpression, out-SimpleExpression}
use Rattle.ob_tree.specs.declared.expression.Term.{Term}
use Rattle.ob_tree.specs.Constructs as constructs
use Rattle.ob_tree.specs.TreeEvents.{Events, construct, word, used, selected, if_present, each, each_after, tokens_of, height}
use Rattle.ob_tree.specs.Expressions.{relation_kind, sign_kind, add_kind, mul_kind, factor_events, selector_events, designator_events, element_events, element_list_events, expr_events, expr_list_events, sum_events, term_events}
use Rattle.ob_tree.proofs.ExpressionLayers.{factor_shown, selector_shown, element_shown, expr_shown, sum_shown, expr_out, sum_out, term_out, element_out, element_list_out, expr_list_out, designator_out, factor_out, selector_out}
use Rattle.ob_grammar.specs.Lookahead.{uncons, is_word}
use Rattle.ob_grammar.specs.Combinators.{Reader, expect_at, accept_at, name_at, begins, seq, optional, many, several, nothing}
use Rattle.ob_grammar.specs.ReadExpressions.{mul_start, add_start, relation_start, sign_start, mul_at, add_at, relation_at, sign_at, selector_first, factor_first, expr_first, term_with, sum_with, expr_with, element_with, selector_from, selector_with, designator_with, factor_from, factor_with, expr_at, negated_at, factor_at, term_at}
use Rattle.ob_grammar.proofs.ReadsBack.{Reads, low_left, low_right, low_within, low_level, low_same, reads_same, reads_closed, reads_seq, reads_node, reads_after, reads_nothing, reads_something, reads_each, reads_several, reads_word, reads_name, accepts_word, follows, Opens, opens_node, opens_front, opens_same, opens_weaker, begins_there}
use Rattle.ob_grammar.proofs.CompatibleProductions.{element_held}
use Rattle.ob_grammar.proofs.Sound.{sound, tokens_of-construct, expr_at_sound, factor_at_sound, term_at_sound}
use Rattle.ob_grammar.proofs.Loops.{Advances, mul_advances, add_advances, accept_advances, selector_advances}

---- tokens that can't continue an expression

pub record EndsFactor (rest : List Leaf) : Type 0 where
  pub selector : begins selector_first rest ≡ None

pub record EndsTerm (rest : List Leaf) : Type 0 where
  pub factor : EndsFactor rest
  pub mul : mul_start rest ≡ None

pub record EndsSum (rest : List Leaf) : Type 0 where
  pub term : EndsTerm rest
  pub add : add_start rest ≡ None

pub record EndsExpr (rest : List Leaf) : Type 0 where
  pub sum : EndsSum rest
  pub relation : relation_start rest ≡ None

pub record EndsElement (rest : List Leaf) : Type 0 where
  pub expr : EndsExpr rest
  pub range : accept_at kinds.DotDot rest ≡ None

pub ends_factor : (rest : List Leaf) → begins selector_first rest ≡ None → EndsFactor rest
ends_factor rest a = record { selector = a }

pub ends_term : (rest : List Leaf) → begins selector_first rest ≡ None → mul_start rest ≡ None → EndsTerm rest
ends_term rest a b = record { factor = ends_factor rest a; mul = b }

pub ends_sum : (rest : List Leaf) → begins selector_first rest ≡ None → mul_start rest ≡ None → add_start rest ≡ None → EndsSum rest
ends_sum rest a b c = record { term = ends_term rest a b; add = c }

pub ends_expr : (rest : List Leaf) → begins selector_first rest ≡ None → mul_start rest ≡ None → add_start rest ≡ None → relation_start rest ≡ None → EndsExpr rest
ends_expr rest a b c d = record { sum = ends_sum rest a b c; relation = d }

mul_begins : (op : MulOperator) (rest : List Leaf) → (mul_start (leafs.Word (mul_kind op) ∷ rest) ≡ Some (word (mul_kind op), rest)) × EndsFactor (leafs.Word (mul_kind op) ∷ rest)
unfolding mul_at begins
mul_begins products.Times rest = (refl, ends_factor _ refl)
mul_begins products.Divide rest = (refl, ends_factor _ refl)
mul_begins products.Div rest = (refl, ends_factor _ refl)
mul_begins products.Mod rest = (refl, ends_factor _ refl)
mul_begins products.And rest = (refl, ends_factor _ refl)

add_begins : (op : AddOperator) (rest : List Leaf) → (add_start (leafs.Word (add_kind op) ∷ rest) ≡ Some (word (add_kind op), rest)) × EndsTerm (leafs.Word (add_kind op) ∷ rest)
unfolding mul_at add_at begins
add_begins sums.Plus rest = (refl, ends_term _ refl refl)
add_begins sums.Minus rest = (refl, ends_term _ refl refl)
add_begins sums.Or rest = (refl, ends_term _ refl refl)

relation_begins : (op : Relation) (rest : List Leaf) →
    (relation_start (leafs.Word (relation_kind op) ∷ rest) ≡ Some (word (relation_kind op), rest)) × EndsSum (leafs.Word (relation_kind op) ∷ rest)
unfolding mul_at add_at relation_at begins
relation_begins relations.Equal rest = (refl, ends_sum _ refl refl refl)
relation_begins relations.Unequal rest = (refl, ends_sum _ refl refl refl)
relation_begins relations.Less rest = (refl, ends_sum _ refl refl refl)
relation_begins relations.LessEqual rest = (refl, ends_sum _ refl refl refl)
relation_begins relations.Greater rest = (refl, ends_sum _ refl refl refl)
relation_begins relations.GreaterEqual rest = (refl, ends_sum _ refl refl refl)
relation_begins relations.In rest = (refl, ends_sum _ refl refl refl)
relation_begins relations.Is rest = (refl, ends_sum _ refl refl refl)

sign_begins : (s : Sign) (rest : List Leaf) → sign_start (leafs.Word (sign_kind s) ∷ rest) ≡ Some (word (sign_kind s), rest)
unfolding sign_at
sign_begins signs.Plus rest = refl
sign_begins signs.Minus rest = refl

dots_end : (rest : List Leaf) → EndsExpr (leafs.Word kinds.DotDot ∷ rest)
unfolding mul_at add_at relation_at begins
dots_end rest = ends_expr _ refl refl refl refl

pub comma_ends : (rest : List Leaf) → EndsExpr (leafs.Word kinds.Comma ∷ rest)
unfolding mul_at add_at relation_at begins
comma_ends rest = ends_expr _ refl refl refl refl

comma_ends_element : (rest : List Leaf) → EndsElement (leafs.Word kinds.Comma ∷ rest)
unfolding accept_at
comma_ends_element rest = record { expr = comma_ends rest; range = refl }

bracket_ends : (rest : List Leaf) → EndsExpr (leafs.Word kinds.RightBracket ∷ rest) × (accept_at kinds.Comma (leafs.Word kinds.RightBracket ∷ rest) ≡ None)
unfolding mul_at add_at relation_at begins accept_at
bracket_ends rest = (ends_expr _ refl refl refl refl, refl)

paren_ends : (rest : List Leaf) → EndsExpr (leafs.Word kinds.RightParen ∷ rest) × (accept_at kinds.Comma (leafs.Word kinds.RightParen ∷ rest) ≡ None)
unfolding mul_at add_at relation_at begins accept_at
paren_ends rest = (ends_expr _ refl refl refl refl, refl)

brace_ends : (rest : List Leaf) → EndsElement (leafs.Word kinds.RightBrace ∷ rest) × (accept_at kinds.Comma (leafs.Word kinds.RightBrace ∷ rest) ≡ None)
unfolding mul_at add_at relation_at begins accept_at
brace_ends rest = (record { expr = ends_expr _ refl refl refl refl; range = refl }, refl)

---- the first tokens of a factor or an expression

abbrev Layer : Type 0
Layer = Factor-F Factor Selector Designator Element ElementList Expr ExprList SimpleExpression Term

abbrev SelectorLayer : Type 0
SelectorLayer = Selector-F Factor Selector Designator Element ElementList Expr ExprList SimpleExpression Term

abbrev factor_part : MulOperator × Factor → Events
factor_part p = word (mul_kind p.0) ++ factor_events p.1

abbrev term_part : AddOperator × Term → Events
term_part p = word (add_kind p.0) ++ term_events p.1

abbrev compared_part : Relation × Box SimpleExpression Global → Events
compared_part c = word (relation_kind c.0) ++ sum_events c.1.value

abbrev high_part : Expr → Events
high_part h = word kinds.DotDot ++ expr_events h

-- the tokens of a designator are its name and its selectors
pub designator_spelled : (d : Designator) (rest : List Leaf) →
    tokens_of (designator_events d) ++ rest ≡ leafs.Name d.head ∷ (tokens_of (each selector_events d.selectors.items) ++ rest)
designator_spelled d rest =
    let shown : Events = used d.head ++ each selector_events d.selectors.items in
    ap (λ (o : Events). tokens_of o ++ rest) (designator_out d) ∙ ap (λ (t : List Leaf). t ++ rest) (tokens_of-construct constructs.Designator shown)

designator_opens : (d : Designator) (x : List Leaf) → Opens factor_first (tokens_of (designator_events d) ++ x)
designator_opens d x = record { leaf = leafs.Name d.head; tail = tokens_of (each selector_events d.selectors.items) ++ x; is = designator_spelled d x; good = refl }

layer_opens : (l : Layer) (x : List Leaf) → Opens factor_first (tokens_of (factor_shown l) ++ x)
layer_opens (layers.Value k n) x = record { leaf = leafs.Value k n; tail = x; is = refl; good = refl }
layer_opens layers.Nil x = record { leaf = leafs.Word kinds.Nil; tail = x; is = refl; good = refl }
layer_opens layers.True x = record { leaf = leafs.Word kinds.True; tail = x; is = refl; good = refl }
layer_opens layers.False x = record { leaf = leafs.Word kinds.False; tail = x; is = refl; good = refl }
layer_opens (layers.Set o) x = record {
  leaf = leafs.Word kinds.LeftBrace;
  tail = tokens_of
      (if_present (λ l. element_list_events l.value) o ++ word kinds.RightBrace) ++ x;
  is = refl;
  good = refl;
}
layer_opens (layers.Name d) x = designator_opens d x
layer_opens (layers.Group e) x = record { leaf = leafs.Word kinds.LeftParen; tail = tokens_of (expr_events e.value ++ word kinds.RightParen) ++ x; is = refl; good = refl }
layer_opens (layers.Not f) x = record { leaf = leafs.Word kinds.Tilde; tail = tokens_of (construct constructs.Negated (factor_events f.value)) ++ x; is = refl; good = refl }

factor_opens : (f : Factor) (x : List Leaf) → Opens factor_first (tokens_of (factor_events f) ++ x)
factor_opens f x = opens_same _ _ _ x (factor_out f) (opens_node factor_first constructs.Factor (factor_shown (out-Factor f)) x (layer_opens (out-Factor f) x))

term_opens : (t : Term) (x : List Leaf) → Opens factor_first (tokens_of (term_events t) ++ x)
term_opens t x =
    let head_is = opens_front factor_first (factor_events t.first) (each factor_part t.rest.items) x (factor_opens t.first) in
    opens_same _ _ _ x (term_out t) (opens_node factor_first constructs.Term (factor_events t.first ++ each factor_part t.rest.items) x head_is)

first_is : (l : Leaf) → factor_first l ≡ true → expr_first l ≡ true
first_is (leafs.Word kinds.Plus) e = refl
first_is (leafs.Word kinds.Minus) e = refl
first_is l e = e

signed_opens : (o : Option Sign) (b : Events) (x : List Leaf) → ((y : List Leaf) → Opens factor_first (tokens_of b ++ y)) →
    Opens expr_first (tokens_of (if_present (λ s. word (sign_kind s)) o ++ b) ++ x)
signed_opens None b x h = opens_weaker factor_first expr_first first_is _ (h x)
signed_opens (Some signs.Plus) b x h = record { leaf = leafs.Word kinds.Plus; tail = tokens_of b ++ x; is = refl; good = refl }
signed_opens (Some signs.Minus) b x h = record { leaf = leafs.Word kinds.Minus; tail = tokens_of b ++ x; is = refl; good = refl }

-- the terms of a sum, after its sign
abbrev terms_shown : SimpleExpression → Events
terms_shown s = term_events (out-SimpleExpression s).first ++ each term_part (out-SimpleExpression s).rest.items

terms_open : (s : SimpleExpression) (x : List Leaf) → Opens factor_first (tokens_of (terms_shown s) ++ x)
terms_open s x = opens_front factor_first (term_events (out-SimpleExpression s).first) (each term_part (out-SimpleExpression s).rest.items) x (term_opens (out-SimpleExpression s).first)

sum_opens : (s : SimpleExpression) (x : List Leaf) → Opens expr_first (tokens_of (sum_events s) ++ x)
sum_opens s x = opens_same _ _ _ x (sum_out s) (opens_node expr_first constructs.SimpleExpression (sum_shown (out-SimpleExpression s)) x
    (signed_opens (out-SimpleExpression s).sign (terms_shown s) x (terms_open s)))

pub expr_opens : (e : Expr) (x : List Leaf) → Opens expr_first (tokens_of (expr_events e) ++ x)
expr_opens e x =
    let head_is = opens_front expr_first (sum_events (out-Expr e).left) (if_present compared_part (out-Expr e).compared) x (sum_opens (out-Expr e).left) in
    opens_same _ _ _ x (expr_out e) (opens_node expr_first constructs.Expression (expr_shown (out-Expr e)) x head_is)

element_opens : (e : Element) (x : List Leaf) → Opens expr_first (tokens_of (element_events e) ++ x)
element_opens e x =
    let head_is = opens_front expr_first (expr_events (out-Element e).low) (if_present high_part (out-Element e).high) x (expr_opens (out-Element e).low) in
    opens_same _ _ _ x (element_out e) (opens_node expr_first constructs.Element (element_shown (out-Element e)) x head_is)

pub expr_list_opens : (l : ExprList) (x : List Leaf) → Opens expr_first (tokens_of (expr_list_events l) ++ x)
expr_list_opens l x =
    let y = out-ExprList l in
    opens_same _ _ _ x (expr_list_out l) (opens_front expr_first (expr_events y.first) (each_after kinds.Comma expr_events y.rest.items) x (expr_opens y.first))

element_list_opens : (l : ElementList) (x : List Leaf) → Opens expr_first (tokens_of (element_list_events l) ++ x)
element_list_opens l x =
    let y = out-ElementList l in
    opens_same _ _ _ x (element_list_out l) (opens_front expr_first (element_events y.first) (each_after kinds.Comma element_events y.rest.items) x (element_opens y.first))

selector_layer_opens : (l : SelectorLayer) (x : List Leaf) → Opens selector_first (tokens_of (selector_shown l) ++ x)
selector_layer_opens (layers.Field n) x = record { leaf = leafs.Word kinds.Dot; tail = leafs.Name n ∷ x; is = refl; good = refl }
selector_layer_opens (layers.Index b) x = record {
  leaf = leafs.Word kinds.LeftBracket;
  tail = tokens_of (expr_list_events b.value ++ word kinds.RightBracket) ++ x;
  is = refl;
  good = refl;
}
selector_layer_opens layers.Target x = record { leaf = leafs.Word kinds.Caret; tail = x; is = refl; good = refl }
selector_layer_opens (layers.Arguments o) x = record {
  leaf = leafs.Word kinds.LeftParen;
  tail = tokens_of
      (if_present (λ l. expr_list_events l.value) o ++ word kinds.RightParen) ++ x;
  is = refl;
  good = refl;
}

selector_opens : (s : Selector) (x : List Leaf) → Opens selector_first (tokens_of (selector_events s) ++ x)
selector_opens s x = opens_same _ _ _ x (selector_out s) (opens_node selector_first constructs.Selector (selector_shown (out-Selector s)) x (selector_layer_opens (out-Selector s) x))

no_sign : (l : Leaf) (ls : List Leaf) → factor_first l ≡ true → sign_start (l ∷ ls) ≡ None
unfolding sign_at
no_sign (leafs.Word kinds.Plus) ls e = absurd cc
no_sign (leafs.Word kinds.Minus) ls e = absurd cc
no_sign l ls e = refl

unsigned : (ls : List Leaf) → Opens factor_first ls → sign_start ls ≡ None
unsigned ls h = rw h.is (no_sign h.leaf h.tail h.good)

no_paren : (l : Leaf) → expr_first l ≡ true → is_word kinds.RightParen l ≡ false
no_paren (leafs.Word kinds.RightParen) e = absurd cc
no_paren l e = refl

no_brace : (l : Leaf) → expr_first l ≡ true → is_word kinds.RightBrace l ≡ false
no_brace (leafs.Word kinds.RightBrace) e = absurd cc
no_brace l e = refl

-- ---- terms, sums and expressions

abbrev ReadsFactors : Reader → ℕ → Type 0
ReadsFactors r d = (f : Factor) (rest : List Leaf) → height (factor_events f) ≤ d → EndsFactor rest → Reads r (factor_events f) rest

abbrev ReadsTerms : Reader → ℕ → Type 0
ReadsTerms r d = (t : Term) (rest : List Leaf) → height (term_events t) ≤ d → EndsTerm rest → Reads r (term_events t) rest

abbrev ReadsSums : Reader → ℕ → Type 0
ReadsSums r d = (s : SimpleExpression) (rest : List Leaf) → height (sum_events s) ≤ d → EndsSum rest → Reads r (sum_events s) rest

abbrev pub ReadsNegated : Reader → ℕ → Type 0
ReadsNegated r d = (f : Factor) (rest : List Leaf) → height (construct constructs.Negated (factor_events f)) ≤ d → EndsFactor rest →
    Reads r (construct constructs.Negated (factor_events f)) rest

abbrev pub ReadsExprs : Reader → ℕ → Type 0
ReadsExprs r d = (e : Expr) (rest : List Leaf) → height (expr_events e) ≤ d → EndsExpr rest → Reads r (expr_events e) rest

term_again : (r : Reader) (d : ℕ) → Advances mul_start r → ReadsFactors r d → ReadsTerms (term_with r) d
unfolding term_with
term_again r d adv h t rest le end =
    let first : Events = factor_events t.first in
    let others : Events = each factor_part t.rest.items in
    let low : height (first ++ others) ≤ d = low_within constructs.Term _ d (low_same _ _ d (term_out t) le) in
    let one : Reads r first (tokens_of others ++ rest) =
    h t.first _ (low_left first others d low) (follows EndsFactor factor_part (λ p ls. (mul_begins p.0 _).1) t.rest.items rest end.factor) in
    let more : Reads (many mul_start r) others rest = reads_each mul_start r (λ p. word (mul_kind p.0)) (λ p. factor_events p.1) EndsFactor d adv
    (λ p ls. (mul_begins p.0 _).0) (λ p ls. (mul_begins p.0 _).1) (λ p ls. h p.1 ls) t.rest.items rest (low_right first others d low) end.factor end.mul in
    reads_same _ _ _ rest (term_out t) (reads_node constructs.Term (seq r (many mul_start r)) (first ++ others) rest (reads_seq r (many mul_start r) first others rest one more))

sign_again : (o : Option Sign) (ls : List Leaf) → Opens factor_first ls → Reads (optional sign_start nothing) (if_present (λ s. word (sign_kind s)) o) ls
sign_again None ls first = reads_nothing sign_start nothing ls (unsigned ls first)
sign_again (Some s) ls first = reads_something sign_start nothing (word (sign_kind s)) [] ls (sign_begins s ls) (record { is = refl })

sum_again : (r : Reader) (d : ℕ) → Advances add_start r → ReadsTerms r d → ReadsSums (sum_with r) d
unfolding sum_with
sum_again r d adv h s rest le end =
    let x = out-SimpleExpression s in
    let sign : Events = if_present (λ y. word (sign_kind y)) x.sign in
    let first : Events = term_events x.first in
    let others : Events = each term_part x.rest.items in
    let all : height (sign ++ (first ++ others)) ≤ d = low_within constructs.SimpleExpression _ d (low_same _ _ d (sum_out s) le) in
    let low : height (first ++ others) ≤ d = low_right sign (first ++ others) d all in
    let one : Reads r first (tokens_of others ++ rest) =
    h x.first _ (low_left first others d low) (follows EndsTerm term_part (λ p ls. (add_begins p.0 _).1) x.rest.items rest end.term) in
    let more : Reads (many add_start r) others rest = reads_each add_start r (λ p. word (add_kind p.0)) (λ p. term_events p.1) EndsTerm d adv
    (λ p ls. (add_begins p.0 _).0) (λ p ls. (add_begins p.0 _).1) (λ p ls. h p.1 ls) x.rest.items rest (low_right first others d low) end.term end.add in
    let inner = reads_seq r (many add_start r) first others rest one more in
    let it = reads_seq (optional sign_start nothing) (seq r (many add_start r)) sign (first ++ others) rest (sign_again x.sign _ (terms_open s rest)) inner in
    reads_same _ _ _ rest (sum_out s) (reads_node constructs.SimpleExpression (seq (optional sign_start nothing) (seq r (many add_start r))) (sign ++ (first ++ others)) rest it)

compared_again : (r : Reader) (d : ℕ) → ReadsSums r d → (o : Option (Relation × Box SimpleExpression Global)) (rest : List Leaf) → height (if_present compared_part o) ≤ d →
    EndsExpr rest → Reads (optional relation_start r) (if_present compared_part o) rest × EndsSum (tokens_of (if_present compared_part o) ++ rest)
compared_again r d h None rest le end = (reads_nothing relation_start r rest end.relation, end.sum)
compared_again r d h (Some c) rest le end = (
  reads_something relation_start r (word (relation_kind c.0)) (sum_events c.1.value) rest (relation_begins c.0 _).0
      (h c.1.value rest le end.sum),
  (relation_begins c.0 _).1,
)

expr_again : (r : Reader) (d : ℕ) → ReadsSums r d → ReadsExprs (expr_with r) (suc d)
unfolding expr_with
expr_again r d h e rest le end =
    let x = out-Expr e in
    let left : Events = sum_events x.left in
    let right : Events = if_present compared_part x.compared in
    let level : suc (height (left ++ right)) ≤ suc d = low_level constructs.Expression (left ++ right) (suc d) refl (low_same _ _ (suc d) (expr_out e) le) in
    let low : height (left ++ right) ≤ d = omega (arith, level) in
    let second = compared_again r d h x.compared rest (low_right left right d low) end in
    let it = reads_seq r (optional relation_start r) left right rest (h x.left _ (low_left left right d low) second.1) second.0 in
    reads_same _ _ _ rest (expr_out e) (reads_node constructs.Expression (seq r (optional relation_start r)) (left ++ right) rest it)

pub expr_list_again : (r : Reader) (d : ℕ) → Advances (accept_at kinds.Comma) r → ReadsExprs r d → (l : ExprList) (rest : List Leaf) → height (expr_list_events l) ≤ d →
    EndsExpr rest → accept_at kinds.Comma rest ≡ None → Reads (several kinds.Comma r) (expr_list_events l) rest
expr_list_again r d adv h l rest le end none =
    let x = out-ExprList l in
    reads_same _ _ _ rest (expr_list_out l) (reads_several kinds.Comma r expr_events EndsExpr d adv comma_ends h x.first x.rest.items rest
    (low_same _ _ d (expr_list_out l) le) end none)

-- ---- elements, selectors, designators and factors

high_again : (r : Reader) (d : ℕ) → ReadsExprs r d → (o : Option Expr) (rest : List Leaf) → height (if_present high_part o) ≤ d → EndsElement rest →
    Reads (optional (accept_at kinds.DotDot) r) (if_present high_part o) rest × EndsExpr (tokens_of (if_present high_part o) ++ rest)
high_again r d h None rest le end = (reads_nothing (accept_at kinds.DotDot) r rest end.range, end.expr)
high_again r d h (Some x) rest le end = (
  reads_something (accept_at kinds.DotDot) r (word kinds.DotDot) (expr_events x) rest (accepts_word kinds.DotDot _)
      (h x rest le end.expr),
  dots_end _,
)

element_again : (r : Reader) (d : ℕ) → ReadsExprs r d → (e : Element) (rest : List Leaf) → height (element_events e) ≤ d → EndsElement rest →
    Reads (element_with r) (element_events e) rest
unfolding element_with
element_again r d h e rest le end =
    let x = out-Element e in
    let left : Events = expr_events x.low in
    let right : Events = if_present high_part x.high in
    let low : height (left ++ right) ≤ d = low_within constructs.Element _ d (low_same _ _ d (element_out e) le) in
    let second = high_again r d h x.high rest (low_right left right d low) end in
    let it = reads_seq r (optional (accept_at kinds.DotDot) r) left right rest (h x.low _ (low_left left right d low) second.1) second.0 in
    reads_same _ _ _ rest (element_out e) (reads_node constructs.Element (seq r (optional (accept_at kinds.DotDot) r)) (left ++ right) rest it)

element_list_again : (r : Reader) (d : ℕ) → Advances (accept_at kinds.Comma) (element_with r) → ReadsExprs r d → (l : ElementList) (rest : List Leaf) →
    height (element_list_events l) ≤ d → EndsElement rest → accept_at kinds.Comma rest ≡ None →
    Reads (several kinds.Comma (element_with r)) (element_list_events l) rest
element_list_again r d adv h l rest le end none =
    let x = out-ElementList l in
    reads_same _ _ _ rest (element_list_out l) (reads_several kinds.Comma (element_with r) element_events EndsElement d adv comma_ends_element
    (element_again r d h) x.first x.rest.items rest (low_same _ _ d (element_list_out l) le) end none)

-- each loop of a reader ends, for a reader r of expressions
record Loops (r : Reader) : Type 0 where
  exprs : Advances (accept_at kinds.Comma) r
  elements : Advances (accept_at kinds.Comma) (element_with r)
  selectors : Advances (begins selector_first) (selector_with r)

selector_layer_again : (r : Reader) (d : ℕ) → Loops r → ReadsExprs r d → (x : SelectorLayer) (rest : List Leaf) → height (selector_shown x) ≤ d →
    Reads (λ ls. selector_from r (uncons ls)) (selector_shown x) rest
selector_layer_again r d adv h (layers.Field n) rest le = record { is = reads_after (word kinds.Dot) (name_at selected) (selected n) rest (reads_name selected n rest refl) }
selector_layer_again r d adv h (layers.Index b) rest le =
    let list : Events = expr_list_events b.value in
    let inner : Reads (several kinds.Comma r) list (leafs.Word kinds.RightBracket ∷ rest) =
    expr_list_again r d adv.exprs h b.value _ (low_left list (word kinds.RightBracket) d le) (bracket_ends rest).0 (bracket_ends rest).1 in
    let it = reads_seq (several kinds.Comma r) (expect_at kinds.RightBracket) list (word kinds.RightBracket) rest inner (reads_word kinds.RightBracket rest) in
    record { is = reads_after (word kinds.LeftBracket) (seq (several kinds.Comma r) (expect_at kinds.RightBracket)) _ rest it }
selector_layer_again r d adv h layers.Target rest le = record { is = refl }
selector_layer_again r d adv h (layers.Arguments o) rest le =
    let f : Box ExprList Global → Events = λ l. expr_list_events l.value in
    let low : height (if_present f o) ≤ d = low_left (if_present f o) (word kinds.RightParen) d le in
    let it = reads_closed kinds.RightParen (several kinds.Comma r) f expr_first no_paren (λ l x. expr_list_opens l.value x) o rest
    (λ l e. expr_list_again r d adv.exprs h l.value _ (subst (λ z. height (if_present f z) ≤ d) e low) (paren_ends rest).0 (paren_ends rest).1) in
    record { is = reads_after (word kinds.LeftParen) _ _ rest it }

selector_again : (r : Reader) (d : ℕ) → Loops r → ReadsExprs r d → (s : Selector) (rest : List Leaf) → height (selector_events s) ≤ d →
    Reads (selector_with r) (selector_events s) rest
unfolding selector_with
selector_again r d adv h s rest le =
    let x = out-Selector s in
    let low : height (selector_shown x) ≤ d = low_within constructs.Selector _ d (low_same _ _ d (selector_out s) le) in
    reads_same _ _ _ rest (selector_out s) (reads_node constructs.Selector (λ ls. selector_from r (uncons ls)) (selector_shown x) rest (selector_layer_again r d adv h x rest low))

selectors_again : (r : Reader) (d : ℕ) → Loops r → ReadsExprs r d → (xs : List Selector) (rest : List Leaf) → height (each selector_events xs) ≤ d → EndsFactor rest →
    Reads (many (begins selector_first) (selector_with r)) (each selector_events xs) rest
selectors_again r d adv h xs rest le end = reads_each (begins selector_first) (selector_with r) (λ s. []) selector_events (λ ls. Unit {0}) d adv.selectors
    (λ s ls. begins_there selector_first _ (selector_opens s ls)) (λ s ls. tt) (λ s ls low good. selector_again r d adv h s ls low) xs rest le tt end.selector

-- a designator, after its identifier
designator_after : (r : Reader) (d : ℕ) → Loops r → ReadsExprs r d → (x : Designator) (rest : List Leaf) → height (designator_events x) ≤ d → EndsFactor rest →
    designator_with r x.head (tokens_of (each selector_events x.selectors.items) ++ rest) ≡ Ok (designator_events x, rest)
unfolding designator_with
designator_after r d adv h x rest le end =
    let all : Events = each selector_events x.selectors.items in
    let low : height (used x.head ++ all) ≤ d = low_within constructs.Designator _ d (low_same _ _ d (designator_out x) le) in
    let it = selectors_again r d adv h x.selectors.items rest low end in
    rw (it.is, designator_out x) refl

layer_again : (r n : Reader) (d : ℕ) → Loops r → ReadsExprs r d → ReadsNegated n d → (x : Layer) (rest : List Leaf) → height (factor_shown x) ≤ d → EndsFactor rest →
    Reads (λ ls. factor_from r n (uncons ls)) (factor_shown x) rest
layer_again r n d adv h g (layers.Value k i) rest le end = record { is = refl }
layer_again r n d adv h g layers.Nil rest le end = record { is = refl }
layer_again r n d adv h g layers.True rest le end = record { is = refl }
layer_again r n d adv h g layers.False rest le end = record { is = refl }
layer_again r n d adv h g (layers.Set o) rest le end =
    let f : Box ElementList Global → Events = λ l. element_list_events l.value in
    let low : height (if_present f o) ≤ d = low_left (if_present f o) (word kinds.RightBrace) d le in
    let it = reads_closed kinds.RightBrace (several kinds.Comma (element_with r)) f expr_first no_brace (λ l x. element_list_opens l.value x) o rest
    (λ l e. element_list_again r d adv.elements h l.value _ (subst (λ z. height (if_present f z) ≤ d) e low) (brace_ends rest).0 (brace_ends rest).1) in
    record { is = reads_after (word kinds.LeftBrace) _ _ rest it }
layer_again r n d adv h g (layers.Name x) rest le end =
    record { is = ap (λ (t : List Leaf). factor_from r n (uncons t)) (designator_spelled x rest) ∙ designator_after r d adv h x rest le end }
layer_again r n d adv h g (layers.Group e) rest le end =
    let inner : Events = expr_events e.value in
    let it = reads_seq r (expect_at kinds.RightParen) inner (word kinds.RightParen) rest (h e.value _ (low_left inner (word kinds.RightParen) d le) (paren_ends rest).0)
    (reads_word kinds.RightParen rest) in
    record { is = reads_after (word kinds.LeftParen) (seq r (expect_at kinds.RightParen)) _ rest it }
layer_again r n d adv h g (layers.Not f) rest le end = record { is = reads_after (word kinds.Tilde) n _ rest (g f.value rest le end) }

factor_again : (r n : Reader) (d : ℕ) → Loops r → ReadsExprs r d → ReadsNegated n d → ReadsFactors (factor_with r n) d
unfolding factor_with
factor_again r n d adv h g f rest le end =
    let x = out-Factor f in
    let low : height (factor_shown x) ≤ d = low_within constructs.Factor _ d (low_same _ _ d (factor_out f) le) in
    reads_same _ _ _ rest (factor_out f) (reads_node constructs.Factor (λ ls. factor_from r n (uncons ls)) (factor_shown x) rest (layer_again r n d adv h g x rest low end))

-- ---- every depth

loops_end : (d : ℕ) → Loops (expr_at d)
loops_end d = record {
  exprs = accept_advances d kinds.Comma (expr_at d) (expr_at_sound d);
  elements = accept_advances d kinds.Comma (element_with (expr_at d)) (element_held sound (expr_at_sound d));
  selectors = selector_advances d (expr_at d) (expr_at_sound d);
}

mutual
  unfolding expr_at negated_at

  pub exprs_again : (d : ℕ) → ReadsExprs (expr_at d) d
  exprs_again zero = λ e rest le end. absurd (omega (arith, low_level constructs.Expression _ 0 refl (low_same _ _ 0 (expr_out e) le)))
  exprs_again (suc d) = expr_again _ d (sum_again _ d (add_advances d (term_at d) (term_at_sound d))
      (term_again _ d (mul_advances d (factor_at d) (factor_at_sound d)) (factor_again _ _ d (loops_end d) (exprs_again d) (negated_again d))))

  pub negated_again : (d : ℕ) → ReadsNegated (negated_at d) d
  negated_again zero = λ f rest le end. absurd (omega (arith, low_level constructs.Negated (factor_events f) 0 refl le))
  negated_again (suc d) = λ f rest le end.
      let level : suc (height (factor_events f)) ≤ suc d = low_level constructs.Negated (factor_events f) (suc d) refl le in
      reads_node constructs.Negated (factor_at d) (factor_events f) rest (factor_again _ _ d (loops_end d) (exprs_again d) (negated_again d) f rest (omega (arith, level)) end)

pub expr_lists_again : (d : ℕ) (l : ExprList) (rest : List Leaf) → height (expr_list_events l) ≤ d → EndsExpr rest → accept_at kinds.Comma rest ≡ None →
    Reads (several kinds.Comma (expr_at d)) (expr_list_events l) rest
expr_lists_again d = expr_list_again (expr_at d) d (loops_end d).exprs (exprs_again d)

-- a designator, after its identifier
pub designator_again : (d : ℕ) (x : Designator) (rest : List Leaf) → height (designator_events x) ≤ d → EndsFactor rest →
    designator_with (expr_at d) x.head (tokens_of (each selector_events x.selectors.items) ++ rest) ≡ Ok (designator_events x, rest)
designator_again d = designator_after (expr_at d) d (loops_end d) (exprs_again d)
