-- The tokens that reading takes: a relation of tokens, the event sequence that is read, and the tokens after it.
use Rattle.std.proofs.Common.{◌≡◌, ℕ, suc, true, false, List, [], ◌∷◌, ◌++◌, Ok, Err, subst}
use Rattle.ob_scan.specs.declared.kind.Kind.{Kind}
use Rattle.ob_tree.specs.declared.expression.Literal.{Literal}
use Rattle.ob_tree.specs.declared.role.Role.{Role}
use Rattle.ob_tree.specs.declared.token.Leaf.{Leaf}
use Rattle.ob_tree.specs.declared.token.Leaf.TheVariants as leafs
use Rattle.ob_tree.specs.Constructs.{Construct, is_level}
use Rattle.ob_tree.specs.TreeEvents.{Identifier, Value, Events, construct, word}
use Rattle.ob_grammar.specs.Combinators.{◌>>=◌, Read, Reader}
use Rattle.ob_grammar.proofs.Compatible.{IsTold, IsCompatible, Related}

-- T d from o rest: the event sequence o, of at most d levels, is read from these tokens, and the rest is left
pub record IsTaking (N : ℕ → Type 0) (T : ℕ → List Leaf → Events → List Leaf → Type 0) : Type 0 where
  pub nothing : {d : ℕ} (ls : List Leaf) → T d ls [] ls
  pub one_after : {d : ℕ} {from mid rest : List Leaf} {a b : Events} → T d from a mid → T d mid b rest → T d from (a ++ b) rest
  pub flat : {d : ℕ} {from rest : List Leaf} {o : Events} (k : Construct) → is_level k ≡ false → T d from o rest → T d from (construct k o) rest
  pub level : {d : ℕ} {from rest : List Leaf} {o : Events} (k : Construct) → is_level k ≡ true → T d from o rest → T (suc d) from (construct k o) rest
  pub a_word : {d : ℕ} (k : Kind) (rest : List Leaf) → T d (leafs.Word k ∷ rest) (word k) rest
  pub a_value : {d : ℕ} (k : Literal) (n : ℕ) (rest : List Leaf) → T d (leafs.Value k n ∷ rest) (Value k n ∷ []) rest
  pub a_name : {d : ℕ} (role : Role) → IsTold N role → (n : ℕ) (rest : List Leaf) → T d (leafs.Name n ∷ rest) (Identifier role n ∷ []) rest
  pub in_range : {d n : ℕ} {ls rest : List Leaf} {o : Events} → (N n → T d (leafs.Name n ∷ ls) o rest) → T d (leafs.Name n ∷ ls) o rest

-- the relation holds of a reader's result, if it has one
abbrev pub Gives : (ℕ → List Leaf → Events → List Leaf → Type 0) → ℕ → List Leaf → Read → Type 0
Gives T d from (Ok x) = T d from x.0 x.1
Gives T d from (Err e) = Unit {0}

-- the same as a relation to the result of another reader
abbrev pub GivesBy : (ℕ → List Leaf → Events → List Leaf → Type 0) → ℕ → List Leaf → Read → Read → Type 0
GivesBy T d from a b = Gives T d from a

pub given : (T : ℕ → List Leaf → Events → List Leaf → Type 0) {d : ℕ} {r s : Reader} → Related (GivesBy T) d [] r s → (ls : List Leaf) (x : Events × List Leaf) → r ls ≡ Ok x → T d ls x.0 x.1
given T {d} h ls x e = subst (λ (z : Read). Gives T d ls z) e (h.at ls)

module _ {N : ℕ → Type 0} {T : ℕ → List Leaf → Events → List Leaf → Type 0} (t : IsTaking N T) where
  gives_both : (d : ℕ) (from : List Leaf) (x : Events × List Leaf) (b : Read) → T d from x.0 x.1 → Gives T d x.1 b → Gives T d from (b >>= λ y. Ok (x.0 ++ y.0, y.1))
  gives_both d from x (Ok y) p q = t.one_after p q
  gives_both d from x (Err e) p q = tt

  gives_after : (d : ℕ) (from : List Leaf) (a : Read) (r : Reader) → Gives T d from a → ((ls : List Leaf) → Gives T d ls (r ls)) → Gives T d from (a >>= λ x. r x.1 >>= λ y. Ok (x.0 ++ y.0, y.1))
  gives_after d from (Ok x) r p q = gives_both d from x (r x.1) p (q x.1)
  gives_after d from (Err e) r p q = tt

  gives_flat : (d : ℕ) (from : List Leaf) (k : Construct) (a : Read) → is_level k ≡ false → Gives T d from a → Gives T d from (a >>= λ x. Ok (construct k x.0, x.1))
  gives_flat d from k (Ok x) e p = t.flat k e p
  gives_flat d from k (Err i) e p = tt

  gives_level : (d : ℕ) (from : List Leaf) (k : Construct) (a : Read) → is_level k ≡ true → Gives T d from a → Gives T (suc d) from (a >>= λ x. Ok (construct k x.0, x.1))
  gives_level d from k (Ok x) e p = t.level k e p
  gives_level d from k (Err i) e p = tt

  gives_known : (d n : ℕ) (ls : List Leaf) (a : Read) → (N n → Gives T d (leafs.Name n ∷ ls) a) → Gives T d (leafs.Name n ∷ ls) a
  gives_known d n ls (Ok x) p = t.in_range p
  gives_known d n ls (Err e) p = tt

  pub giving : IsCompatible N (GivesBy T)
  giving = record {
    wrong = λ o. tt;
    deep = λ x. tt;
    nothing = λ ls. t.nothing ls;
    one_after = λ p q. gives_after _ _ _ _ p q;
    flat = λ k e p. gives_flat _ _ k _ e p;
    level = λ k e p. gives_level _ _ k _ e p;
    a_word = λ k rest. t.a_word k rest;
    a_value = λ k n rest. t.a_value k n rest;
    a_name = λ role fault_of_stop n rest. t.a_name role fault_of_stop n rest;
    in_range = λ p. gives_known _ _ _ _ p;
  }
