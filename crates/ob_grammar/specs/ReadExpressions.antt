-- The grammar of expressions and designators, a reader for each production (Oberon-07 report, section 8).
use Rattle.std.specs.Prelude.{ℕ, zero, suc, List, [], ◌∷◌, Option, Some, None, Ok, Err, Bool, true, false}
use Rattle.ob_scan.specs.declared.kind.Kind.{Kind}
use Rattle.ob_scan.specs.declared.kind.Kind.TheVariants as kinds
use Rattle.ob_tree.specs.declared.token.Leaf.{Leaf}
use Rattle.ob_tree.specs.declared.token.Leaf.TheVariants as leafs
use Rattle.ob_tree.specs.declared.expression.Relation.{Relation}
use Rattle.ob_tree.specs.declared.expression.Relation.TheVariants as relations
use Rattle.ob_tree.specs.declared.expression.Sign.{Sign}
use Rattle.ob_tree.specs.declared.expression.Sign.TheVariants as signs
use Rattle.ob_tree.specs.declared.expression.AddOperator.{AddOperator}
use Rattle.ob_tree.specs.declared.expression.AddOperator.TheVariants as sums
use Rattle.ob_tree.specs.declared.expression.MulOperator.{MulOperator}
use Rattle.ob_tree.specs.declared.expression.MulOperator.TheVariants as products
use Rattle.ob_tree.specs.Constructs as constructs
use Rattle.ob_tree.specs.TreeEvents.{Events, Value, word, used, selected}
use Rattle.ob_tree.specs.Expressions.{relation_kind, sign_kind, add_kind, mul_kind}
use Rattle.ob_grammar.specs.Lookahead.{uncons}
use Rattle.ob_grammar.specs.Combinators.{Unexpected, Read, Reader, Lookahead, Start, expect_at, accept_at, name_at, begins, unless, seq, prefixed, node, optional, many, several, limit_at, nothing}

-- ---- operators

-- the relation, sign or operator that the next token is, and the tokens after it
abbrev pub after_relation : Option (Leaf × List Leaf) → Lookahead Relation
after_relation (Some (leafs.Word kinds.Equals, rest)) = Some (relations.Equal, rest)
after_relation (Some (leafs.Word kinds.Hash, rest)) = Some (relations.Unequal, rest)
after_relation (Some (leafs.Word kinds.Less, rest)) = Some (relations.Less, rest)
after_relation (Some (leafs.Word kinds.LessEquals, rest)) = Some (relations.LessEqual, rest)
after_relation (Some (leafs.Word kinds.Greater, rest)) = Some (relations.Greater, rest)
after_relation (Some (leafs.Word kinds.GreaterEquals, rest)) = Some (relations.GreaterEqual, rest)
after_relation (Some (leafs.Word kinds.In, rest)) = Some (relations.In, rest)
after_relation (Some (leafs.Word kinds.Is, rest)) = Some (relations.Is, rest)
after_relation _ = None

abbrev pub after_sign : Option (Leaf × List Leaf) → Lookahead Sign
after_sign (Some (leafs.Word kinds.Plus, rest)) = Some (signs.Plus, rest)
after_sign (Some (leafs.Word kinds.Minus, rest)) = Some (signs.Minus, rest)
after_sign _ = None

abbrev pub after_add : Option (Leaf × List Leaf) → Lookahead AddOperator
after_add (Some (leafs.Word kinds.Plus, rest)) = Some (sums.Plus, rest)
after_add (Some (leafs.Word kinds.Minus, rest)) = Some (sums.Minus, rest)
after_add (Some (leafs.Word kinds.Or, rest)) = Some (sums.Or, rest)
after_add _ = None

abbrev pub after_mul : Option (Leaf × List Leaf) → Lookahead MulOperator
after_mul (Some (leafs.Word kinds.Star, rest)) = Some (products.Times, rest)
after_mul (Some (leafs.Word kinds.Slash, rest)) = Some (products.Divide, rest)
after_mul (Some (leafs.Word kinds.Div, rest)) = Some (products.Div, rest)
after_mul (Some (leafs.Word kinds.Mod, rest)) = Some (products.Mod, rest)
after_mul (Some (leafs.Word kinds.Ampersand, rest)) = Some (products.And, rest)
after_mul _ = None

-- the relation, sign or operator that is next, if one is
unfoldable pub relation_at : List Leaf → Lookahead Relation
relation_at ls = after_relation (uncons ls)

unfoldable pub sign_at : List Leaf → Lookahead Sign
sign_at ls = after_sign (uncons ls)

unfoldable pub add_at : List Leaf → Lookahead AddOperator
add_at ls = after_add (uncons ls)

unfoldable pub mul_at : List Leaf → Lookahead MulOperator
mul_at ls = after_mul (uncons ls)

-- the start of a construct whose first event is the keyword or delimiter of this value
abbrev pub as_word : {X : Type 0} → (X → Kind) → Lookahead X → Lookahead Events
as_word kind None = None
as_word kind (Some x) = Some (word (kind x.0), x.1)

-- the starts of a further factor, a further term, a right operand, and of a signed expression
abbrev pub mul_start : Start
mul_start ls = as_word mul_kind (mul_at ls)

abbrev pub add_start : Start
add_start ls = as_word add_kind (add_at ls)

abbrev pub relation_start : Start
relation_start ls = as_word relation_kind (relation_at ls)

abbrev pub sign_start : Start
sign_start ls = as_word sign_kind (sign_at ls)

-- ---- the tokens that a construct begins with

abbrev pub selector_first : Leaf → Bool
selector_first (leafs.Word kinds.Dot) = true
selector_first (leafs.Word kinds.LeftBracket) = true
selector_first (leafs.Word kinds.Caret) = true
selector_first (leafs.Word kinds.LeftParen) = true
selector_first l = false

abbrev pub factor_first : Leaf → Bool
factor_first (leafs.Name n) = true
factor_first (leafs.Value k n) = true
factor_first (leafs.Word kinds.Nil) = true
factor_first (leafs.Word kinds.True) = true
factor_first (leafs.Word kinds.False) = true
factor_first (leafs.Word kinds.LeftBrace) = true
factor_first (leafs.Word kinds.LeftParen) = true
factor_first (leafs.Word kinds.Tilde) = true
factor_first l = false

abbrev pub expr_first : Leaf → Bool
expr_first (leafs.Word kinds.Plus) = true
expr_first (leafs.Word kinds.Minus) = true
expr_first l = factor_first l

-- ---- productions

-- term = factor {("*" | "/" | DIV | MOD | "&") factor}
unfoldable pub term_with : Reader → Reader
term_with factor = node constructs.Term (seq factor (many mul_start factor))

-- SimpleExpression = ["+" | "-"] term {("+" | "-" | OR) term}
unfoldable pub sum_with : Reader → Reader
sum_with term = node constructs.SimpleExpression (seq (optional sign_start nothing) (seq term (many add_start term)))

-- expression = SimpleExpression [relation SimpleExpression]
unfoldable pub expr_with : Reader → Reader
expr_with sum = node constructs.Expression (seq sum (optional relation_start sum))

-- element = expression [".." expression]
unfoldable pub element_with : Reader → Reader
element_with expr = node constructs.Element (seq expr (optional (accept_at kinds.DotDot) expr))

-- selector = "." ident | "[" list "]" | "^" | "(" [list] ")"
abbrev pub selector_from : Reader → Option (Leaf × List Leaf) → Read
selector_from expr (Some (leafs.Word kinds.Dot, rest)) = prefixed (word kinds.Dot) (name_at selected) rest
selector_from expr (Some (leafs.Word kinds.LeftBracket, rest)) = prefixed (word kinds.LeftBracket) (seq (several kinds.Comma expr) (expect_at kinds.RightBracket)) rest
selector_from expr (Some (leafs.Word kinds.Caret, rest)) = Ok (word kinds.Caret, rest)
selector_from expr (Some (leafs.Word kinds.LeftParen, rest)) = prefixed (word kinds.LeftParen) (seq (optional (unless kinds.RightParen) (several kinds.Comma expr)) (expect_at kinds.RightParen)) rest
selector_from expr o = Err (Unexpected o)

unfoldable pub selector_with : Reader → Reader
selector_with expr = node constructs.Selector (λ ls. selector_from expr (uncons ls))

-- designator = ident {selector}, after its identifier
unfoldable pub designator_with : Reader → ℕ → Reader
designator_with expr n = node constructs.Designator (prefixed (used n) (many (begins selector_first) (selector_with expr)))

-- factor = integer | real | string | NIL | TRUE | FALSE | set | designator | "(" expression ")" | "~" factor
abbrev pub factor_from : Reader → Reader → Option (Leaf × List Leaf) → Read
factor_from expr negated (Some (leafs.Name n, rest)) = designator_with expr n rest
factor_from expr negated (Some (leafs.Value k n, rest)) = Ok (Value k n ∷ [], rest)
factor_from expr negated (Some (leafs.Word kinds.Nil, rest)) = Ok (word kinds.Nil, rest)
factor_from expr negated (Some (leafs.Word kinds.True, rest)) = Ok (word kinds.True, rest)
factor_from expr negated (Some (leafs.Word kinds.False, rest)) = Ok (word kinds.False, rest)
factor_from expr negated (Some (leafs.Word kinds.LeftBrace, rest)) = prefixed (word kinds.LeftBrace) (seq (optional (unless kinds.RightBrace) (several kinds.Comma (element_with expr))) (expect_at kinds.RightBrace)) rest
factor_from expr negated (Some (leafs.Word kinds.LeftParen, rest)) = prefixed (word kinds.LeftParen) (seq expr (expect_at kinds.RightParen)) rest
factor_from expr negated (Some (leafs.Word kinds.Tilde, rest)) = prefixed (word kinds.Tilde) negated rest
factor_from expr negated o = Err (Unexpected o)

-- a factor, in which expr and negated read the constructs one level deeper
unfoldable pub factor_with : Reader → Reader → Reader
factor_with expr negated = node constructs.Factor (λ ls. factor_from expr negated (uncons ls))

-- an expression for which n levels are left, itself one of them; and a factor after `~`, which is a level too
unfoldable mutual
  pub expr_at : ℕ → Reader
  expr_at zero = limit_at expr_first
  expr_at (suc d) = expr_with (sum_with (term_with (factor_with (expr_at d) (negated_at d))))

  pub negated_at : ℕ → Reader
  negated_at zero = limit_at factor_first
  negated_at (suc d) = node constructs.Negated (factor_with (expr_at d) (negated_at d))

-- constructs that are no level themselves; n levels are left for the constructs in them
abbrev pub factor_at : ℕ → Reader
factor_at d = factor_with (expr_at d) (negated_at d)

abbrev pub term_at : ℕ → Reader
term_at d = term_with (factor_at d)

abbrev pub sum_at : ℕ → Reader
sum_at d = sum_with (term_at d)
