-- The first token, as an arm of a match finds it, and the result of reading it.
use Rattle.std.proofs.Common.{◌≡◌, ℕ, List, Option, Some, refl, sym, ap, ◌∙◌}
use Rattle.ob_scan.specs.declared.kind.Kind.{Kind}
use Rattle.ob_scan.specs.declared.token.Token.{Token}
use Rattle.ob_tree.specs.declared.expression.Literal.{Literal}
use Rattle.ob_tree.specs.declared.token.Leaf.{Leaf}
use Rattle.ob_tree.specs.declared.token.Leaf.TheVariants as leafs
use Rattle.ob_tree.specs.Constructs as constructs
use Rattle.ob_grammar.specs.declared.cursor.Cursor.{Cursor}
use Rattle.ob_grammar.specs.Lookahead.{uncons}
use Rattle.ob_grammar.specs.Combinators.{Reader, node}
use Rattle.ob_grammar.specs.ParsesAs.{remaining, with_remaining}
use Rattle.ob_grammar.specs.ReadExpressions.{expr_at, factor_at, factor_from, factor_with, negated_at, selector_from, selector_with}
use Rattle.ob_grammar.specs.ReadStatements.{statement_from, statement_with}
use Rattle.ob_grammar.specs.ReadTypes.{type_from, type_with}

abbrev some : Leaf × List Leaf → Option (Leaf × List Leaf)
some x = Some x

pub leaf_stands : (ts : List Token) (found : Option (Leaf × Cursor)) (input rest : Cursor) (l m : Leaf) → found ≡ Some (l, rest) → l ≡ m → with_remaining ts found ≡ uncons (remaining ts input) →
    uncons (remaining ts input) ≡ Some (m, remaining ts rest)
leaf_stands ts found input rest l m is leaf next = sym next ∙ ap (with_remaining ts) is ∙ ap (λ (x : Leaf). some (x, remaining ts rest)) leaf

-- a token without an index
pub word_stands : (ts : List Token) (found : Option (Leaf × Cursor)) (input rest : Cursor) (l : Leaf) (k j : Kind) → found ≡ Some (l, rest) → l ≡ leafs.Word k → k ≡ j → with_remaining ts found ≡ uncons (remaining ts input) →
    uncons (remaining ts input) ≡ Some (leafs.Word j, remaining ts rest)
word_stands ts found input rest l k j is leaf kind next = leaf_stands ts found input rest l (leafs.Word k) is leaf next ∙ ap (λ (x : Kind). some (leafs.Word x, remaining ts rest)) kind

-- a literal
pub value_stands : (ts : List Token) (found : Option (Leaf × Cursor)) (input rest : Cursor) (l : Leaf) (k j : Literal) (n : ℕ) → found ≡ Some (l, rest) → l ≡ leafs.Value k n → k ≡ j → with_remaining ts found ≡ uncons (remaining ts input) →
    uncons (remaining ts input) ≡ Some (leafs.Value j n, remaining ts rest)
value_stands ts found input rest l k j n is leaf kind next = leaf_stands ts found input rest l (leafs.Value k n) is leaf next ∙ ap (λ (x : Literal). some (leafs.Value x n, remaining ts rest)) kind

---- the result if this token is first

pub factor_seen : (d : ℕ) (ls : List Leaf) (o : Option (Leaf × List Leaf)) → uncons ls ≡ o → factor_at d ls ≡ node constructs.Factor (λ z. factor_from (expr_at d) (negated_at d) o) ls
unfolding factor_with
factor_seen d ls o e = rw e refl

pub selector_seen : (expr : Reader) (ls : List Leaf) (o : Option (Leaf × List Leaf)) → uncons ls ≡ o → selector_with expr ls ≡ node constructs.Selector (λ z. selector_from expr o) ls
unfolding selector_with
selector_seen expr ls o e = rw e refl

pub statement_seen : (expr block : Reader) (ls : List Leaf) (o : Option (Leaf × List Leaf)) → uncons ls ≡ o → statement_with expr block ls ≡ statement_from expr block ls o
unfolding statement_with
statement_seen expr block ls o e = rw e refl

pub type_seen : (expr type : Reader) (ls : List Leaf) (o : Option (Leaf × List Leaf)) → uncons ls ≡ o → type_with expr type ls ≡ type_from expr type o
unfolding type_with
type_seen expr type ls o e = rw e refl
