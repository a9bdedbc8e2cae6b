-- Readers fail if none of these tokens is next.
use Rattle.std.proofs.Common.{◌≡◌, Bool, false, List, [], ◌∷◌, Ok, Err, refl}
use Rattle.ob_scan.specs.declared.kind.Kind.{Kind}
use Rattle.ob_scan.specs.declared.kind.Kind.TheVariants as kinds
use Rattle.ob_tree.specs.declared.token.Leaf.{Leaf}
use Rattle.ob_tree.specs.declared.token.Leaf.TheVariants as leafs
use Rattle.ob_tree.specs.Constructs as constructs
use Rattle.ob_tree.specs.Constructs.{Construct}
use Rattle.ob_tree.specs.TreeEvents.{construct}
use Rattle.ob_grammar.specs.Lookahead.{uncons, head_is, is_word}
use Rattle.ob_grammar.specs.Combinators.{Unexpected, Reader, expect_at, nothing, seq, node, optional, many, limit_at}
use Rattle.ob_grammar.specs.ReadExpressions.{add_start, sign_start, sign_at, factor_first, expr_first, term_with, sum_with, expr_with, factor_from, factor_with}
use Rattle.ob_grammar.specs.ReadStatements.{statement_first, statement_from, statement_with, empty_at}
use Rattle.ob_grammar.specs.ReadTypes.{type_first, type_from, type_with}
use Rattle.ob_grammar.specs.ReadModules.{procedure_with}

abbrev pub Needs : (Leaf → Bool) → Reader → Type 0
Needs p r = (ls : List Leaf) → head_is p (uncons ls) ≡ false → r ls ≡ Err (Unexpected (uncons ls))

seq_needs : (p : Leaf → Bool) (r s : Reader) → Needs p r → Needs p (seq r s)
seq_needs p r s h ls e = rw (h ls e) refl

pub node_needs : (p : Leaf → Bool) (c : Construct) (r : Reader) → Needs p r → Needs p (node c r)
node_needs p c r h ls e = rw (h ls e) refl

expect_needs : (k : Kind) → Needs (is_word k) (expect_at k)
unfolding expect_at
expect_needs k [] e = refl
expect_needs k (leafs.Name n ∷ rest) e = refl
expect_needs k (leafs.Value v n ∷ rest) e = refl
expect_needs k (leafs.Word j ∷ rest) e = rw e refl

pub limit_needs : (p : Leaf → Bool) → Needs p (limit_at p)
unfolding limit_at
limit_needs p ls e = rw e refl

factor_from_needs : (r f : Reader) → Needs factor_first (λ ls. factor_from r f (uncons ls))
factor_from_needs r f [] e = refl
factor_from_needs r f (leafs.Name n ∷ rest) e = absurd cc
factor_from_needs r f (leafs.Value k n ∷ rest) e = absurd cc
factor_from_needs r f (leafs.Word kinds.Nil ∷ rest) e = absurd cc
factor_from_needs r f (leafs.Word kinds.True ∷ rest) e = absurd cc
factor_from_needs r f (leafs.Word kinds.False ∷ rest) e = absurd cc
factor_from_needs r f (leafs.Word kinds.LeftBrace ∷ rest) e = absurd cc
factor_from_needs r f (leafs.Word kinds.LeftParen ∷ rest) e = absurd cc
factor_from_needs r f (leafs.Word kinds.Tilde ∷ rest) e = absurd cc
factor_from_needs r f (l ∷ rest) e = refl

pub factor_needs : (r f : Reader) → Needs factor_first (factor_with r f)
unfolding factor_with
factor_needs r f = node_needs _ _ _ (factor_from_needs r f)

term_needs : (f : Reader) → Needs factor_first f → Needs factor_first (term_with f)
unfolding term_with
term_needs f h = node_needs _ _ _ (seq_needs _ _ _ h)

-- no sign, and no term after it
signed_needs : (t : Reader) → Needs factor_first t → Needs expr_first (seq (optional sign_start nothing) (seq t (many add_start t)))
unfolding sign_at
signed_needs t h [] e = rw (h [] refl) refl
signed_needs t h (leafs.Word kinds.Plus ∷ rest) e = absurd cc
signed_needs t h (leafs.Word kinds.Minus ∷ rest) e = absurd cc
signed_needs t h (l ∷ rest) e = rw (h (l ∷ rest) e) refl

sum_needs : (t : Reader) → Needs factor_first t → Needs expr_first (sum_with t)
unfolding sum_with
sum_needs t h = node_needs _ _ _ (signed_needs t h)

pub expr_needs : (r f : Reader) → Needs expr_first (expr_with (sum_with (term_with (factor_with r f))))
unfolding expr_with
expr_needs r f = node_needs _ _ _ (seq_needs _ _ _ (sum_needs _ (term_needs _ (factor_needs r f))))

type_from_needs : (r t : Reader) → Needs type_first (λ ls. type_from r t (uncons ls))
type_from_needs r t [] e = refl
type_from_needs r t (leafs.Name n ∷ rest) e = absurd cc
type_from_needs r t (leafs.Word kinds.Array ∷ rest) e = absurd cc
type_from_needs r t (leafs.Word kinds.Record ∷ rest) e = absurd cc
type_from_needs r t (leafs.Word kinds.Pointer ∷ rest) e = absurd cc
type_from_needs r t (leafs.Word kinds.Procedure ∷ rest) e = absurd cc
type_from_needs r t (l ∷ rest) e = refl

pub type_needs : (r t : Reader) → Needs type_first (type_with r t)
unfolding type_with
type_needs r t = type_from_needs r t

pub procedure_needs : (e b r : Reader) → Needs (is_word kinds.Procedure) (procedure_with e b r)
unfolding procedure_with
procedure_needs e b r = node_needs _ _ _ (seq_needs _ _ _ (expect_needs kinds.Procedure))

---- the empty statement, which is read if none of these tokens is next

abbrev pub IsElseEmpty : Reader → Type 0
IsElseEmpty r = (ls : List Leaf) → head_is statement_first (uncons ls) ≡ false → r ls ≡ Ok (construct constructs.EmptyStatement [], ls)

pub empty_else : IsElseEmpty empty_at
unfolding empty_at
empty_else ls e = rw e refl

statement_from_else : (r b : Reader) → IsElseEmpty (λ ls. statement_from r b ls (uncons ls))
statement_from_else r b [] e = refl
statement_from_else r b (leafs.Name n ∷ rest) e = absurd cc
statement_from_else r b (leafs.Word kinds.If ∷ rest) e = absurd cc
statement_from_else r b (leafs.Word kinds.Case ∷ rest) e = absurd cc
statement_from_else r b (leafs.Word kinds.While ∷ rest) e = absurd cc
statement_from_else r b (leafs.Word kinds.Repeat ∷ rest) e = absurd cc
statement_from_else r b (leafs.Word kinds.For ∷ rest) e = absurd cc
statement_from_else r b (l ∷ rest) e = refl

pub statement_else : (r b : Reader) → IsElseEmpty (statement_with r b)
unfolding statement_with
statement_else r b = statement_from_else r b
