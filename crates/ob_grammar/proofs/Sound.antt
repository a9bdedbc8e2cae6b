-- Readers are sound: the tokens of the event sequence were read, and its depth is within the limit.
use Rattle.std.proofs.Common.{◌≡◌, ℕ, suc, ◌≤◌, true, false, List, [], ◌∷◌, ◌++◌, Some, Result, Ok, Err, refl, sym, ap, subst, ◌∙◌, append_assoc, arith}
use Rattle.std.specs.Prelude.{max}
use Rattle.std.proofs.Math.Nat.{max-zero, zero-max}
use Rattle.std.proofs.lemmas.List.{append-nil}
use Rattle.ob_tree.specs.declared.token.Leaf.{Leaf}
use Rattle.ob_tree.specs.declared.token.Leaf.TheVariants as leafs
use Rattle.ob_tree.specs.Constructs.{Construct, is_level}
use Rattle.ob_tree.specs.TreeEvents.{Begins, Ends, Identifier, Value, Word, Events, tokens_of, height, construct}
use Rattle.ob_grammar.specs.Lookahead.{uncons}
use Rattle.ob_grammar.specs.Combinators.{ReadError, ◌>>=◌, Reader, identifier_at}
use Rattle.ob_grammar.specs.ReadExpressions.{expr_at, factor_at, term_at}
use Rattle.ob_grammar.specs.ReadStatements.{statement_at, block_at}
use Rattle.ob_grammar.specs.ReadTypes.{type_at}
use Rattle.ob_grammar.specs.ReadModules.{declarations_at, module_at, nothing_left, read_all}
use Rattle.ob_grammar.proofs.Compatible.{IsCompatible, Related}
use Rattle.ob_grammar.proofs.CompatibleProductions.{term_held, factor_held, expr_at_held, negated_at_held, statement_at_held, block_at_held, type_at_held, declarations_at_held, module_at_held}
use Rattle.ob_grammar.proofs.Taking.{IsTaking, GivesBy, given, giving}

-- the tokens are those of the event sequence and then the rest; the event sequence has at most this many levels
pub record Takes (d : ℕ) (ls : List Leaf) (o : Events) (rest : List Leaf) : Type 0 where
  pub parts : ls ≡ tokens_of o ++ rest
  pub low : height o ≤ d

abbrev pub Sound : ℕ → Reader → Type 0
Sound d r = Related (GivesBy Takes) d [] r r

-- ---- event sequences

pub tokens_of-append : (a b : Events) → tokens_of (a ++ b) ≡ tokens_of a ++ tokens_of b
tokens_of-append [] b = refl
tokens_of-append (Begins c n ∷ a) b = tokens_of-append a b
tokens_of-append (Ends c ∷ a) b = tokens_of-append a b
tokens_of-append (Identifier r n ∷ a) b = ap (λ (x : List Leaf). leafs.Name n ∷ x) (tokens_of-append a b)
tokens_of-append (Value k n ∷ a) b = ap (λ (x : List Leaf). leafs.Value k n ∷ x) (tokens_of-append a b)
tokens_of-append (Word k ∷ a) b = ap (λ (x : List Leaf). leafs.Word k ∷ x) (tokens_of-append a b)

pub tokens_of-construct : (c : Construct) (o : Events) → tokens_of (construct c o) ≡ tokens_of o
unfolding construct
tokens_of-construct c o = tokens_of-append o (Ends c ∷ []) ∙ append-nil (tokens_of o)

max_assoc : (a b c : ℕ) → max a (max b c) ≡ max (max a b) c
max_assoc a b c = omega arith

pub height-append : (a b : Events) → height (a ++ b) ≡ max (height a) (height b)
height-append [] b = sym (zero-max (height b))
height-append (Begins c n ∷ a) b = ap (max n) (height-append a b) ∙ max_assoc n (height a) (height b)
height-append (Ends c ∷ a) b = height-append a b
height-append (Identifier r n ∷ a) b = height-append a b
height-append (Value k n ∷ a) b = height-append a b
height-append (Word k ∷ a) b = height-append a b

max_low : (a b d : ℕ) → a ≤ d → b ≤ d → max a b ≤ d
max_low a b d p q = omega arith

max_same : (a : ℕ) → max a a ≡ a
max_same a = omega arith

max_one_more : (a : ℕ) → max (suc a) a ≡ suc a
max_one_more a = omega arith

height_closed : (c : Construct) (o : Events) → height (o ++ Ends c ∷ []) ≡ height o
height_closed c o = height-append o (Ends c ∷ []) ∙ max-zero (height o)

-- a construct that is no level is as deep as its parts
pub height-flat : (c : Construct) (o : Events) → is_level c ≡ false → height (construct c o) ≡ height o
unfolding construct
height-flat c o e = rw (e, height_closed c o) (max_same (height o))

-- a construct that is a level is deeper by one
pub height-level : (c : Construct) (o : Events) → is_level c ≡ true → height (construct c o) ≡ suc (height o)
unfolding construct
height-level c o e = rw (e, height_closed c o) (max_one_more (height o))

takes_both : {d : ℕ} {a b c : List Leaf} {x y : Events} → Takes d a x b → Takes d b y c → Takes d a (x ++ y) c
takes_both {d} {a} {b} {c} {x} {y} p q = record {
  parts = p.parts ∙ ap (λ (t : List Leaf). tokens_of x ++ t) q.parts ∙ sym (append_assoc (tokens_of x) (tokens_of y) c) ∙ ap (λ (t : List Leaf). t ++ c) (sym (tokens_of-append x y));
  low = rw (height-append x y) (max_low (height x) (height y) d p.low q.low);
}

takes_flat : {d : ℕ} {a b : List Leaf} {x : Events} (c : Construct) → is_level c ≡ false → Takes d a x b → Takes d a (construct c x) b
takes_flat {d} {a} {b} {x} c e p = record {
  parts = p.parts ∙ ap (λ (t : List Leaf). t ++ b) (sym (tokens_of-construct c x));
  low = rw (height-flat c x e) p.low;
}

takes_level : {d : ℕ} {a b : List Leaf} {x : Events} (c : Construct) → is_level c ≡ true → Takes d a x b → Takes (suc d) a (construct c x) b
takes_level {d} {a} {b} {x} c e p = record {
  parts = p.parts ∙ ap (λ (t : List Leaf). t ++ b) (sym (tokens_of-construct c x));
  low = let low : height x ≤ d = p.low in rw (height-level c x e) (omega arith);
}

taking : IsTaking (λ n. Unit {0}) Takes
taking = record {
  nothing = λ ls. record { parts = refl; low = omega arith };
  one_after = λ p q. takes_both p q;
  flat = λ c e p. takes_flat c e p;
  level = λ c e p. takes_level c e p;
  a_word = λ k rest. record { parts = refl; low = omega arith };
  a_value = λ k n rest. record { parts = refl; low = omega arith };
  a_name = λ role fault_of_stop n rest. record { parts = refl; low = omega arith };
  in_range = λ p. p tt;
}

pub sound : IsCompatible (λ n. Unit {0}) (GivesBy Takes)
sound = giving taking

-- ---- steps

pub bind_ok : {A B : Type 0} (r : Result A ReadError) (f : A → Result B ReadError) (y : B) → (r >>= f) ≡ Ok y → (x : A) × (r ≡ Ok x) × (f x ≡ Ok y)
bind_ok (Ok x) f y e = (x, refl, e)
bind_ok (Err d) f y e = absurd cc

abbrev pub done : {A : Type 0} → A → Result A ReadError
done x = Ok x

pub ok_is : {A : Type 0} (x y : A) → done x ≡ done y → x ≡ y
ok_is x y e = cc

pub some_is : {A : Type 0} (x y : A) → Some x ≡ Some y → x ≡ y
some_is x y e = cc

pub identifier_spelt : (ls : List Leaf) (x : ℕ × List Leaf) → identifier_at ls ≡ Ok x → ls ≡ leafs.Name x.0 ∷ x.1
unfolding identifier_at
identifier_spelt [] x e = absurd cc
identifier_spelt (leafs.Name n ∷ rest) x e = ap (λ (y : ℕ × List Leaf). leafs.Name y.0 ∷ y.1) (ok_is (n, rest) x e)
identifier_spelt (leafs.Value v n ∷ rest) x e = absurd cc
identifier_spelt (leafs.Word j ∷ rest) x e = absurd cc

---- productions within this many levels

pub expr_at_sound : (d : ℕ) → Sound d (expr_at d)
expr_at_sound d = expr_at_held sound d d (omega arith)

pub factor_at_sound : (d : ℕ) → Sound d (factor_at d)
factor_at_sound d = factor_held sound (expr_at_sound d) (negated_at_held sound d d (omega arith))

pub term_at_sound : (d : ℕ) → Sound d (term_at d)
term_at_sound d = term_held sound (factor_at_sound d)

pub statement_at_sound : (d : ℕ) → Sound d (statement_at d)
statement_at_sound d = statement_at_held sound d d (omega arith)

pub block_at_sound : (d : ℕ) → Sound d (block_at d)
block_at_sound d = block_at_held sound d d (omega arith)

pub type_at_sound : (d : ℕ) → Sound d (type_at d)
type_at_sound d = type_at_held sound d d (omega arith)

pub declarations_at_sound : (d : ℕ) → Sound d (declarations_at d)
declarations_at_sound d = declarations_at_held sound d d (omega arith)

left_none : (o x : Events) (ls : List Leaf) → nothing_left o (uncons ls) ≡ Ok x → (ls ≡ []) × (o ≡ x)
left_none o x [] e = (refl, cc)
left_none o x (l ∷ ls) e = absurd cc

-- all tokens are those of the event sequence
pub all_sound : (d : ℕ) (ls : List Leaf) (o : Events) → read_all d ls ≡ Ok o → (ls ≡ tokens_of o) × (height o ≤ d)
unfolding read_all
all_sound d ls o e =
    let a = bind_ok (module_at d ls) (λ a. nothing_left a.0 (uncons a.1)) o e in
    let n = left_none a.0.0 o a.0.1 a.2 in
    let t : Takes d ls a.0.0 a.0.1 = given Takes (module_at_held sound d d (omega arith)) ls a.0 a.1 in
    (t.parts ∙ ap (λ (r : List Leaf). tokens_of a.0.0 ++ r) n.0 ∙ append-nil (tokens_of a.0.0) ∙ ap tokens_of n.1, subst (λ (z : Events). height z ≤ d) n.1 t.low)
