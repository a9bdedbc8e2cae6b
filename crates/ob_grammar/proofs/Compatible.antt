-- Relations between the results of two readers that hold for composed readers if they hold for the parts: the forms of productions.
use Rattle.std.proofs.Common.{◌≡◌, ℕ, zero, suc, Bool, true, false, cond, List, [], ◌∷◌, ◌++◌, length, Option, Some, None, Ok, Err, refl, sym, subst}
use Rattle.ob_scan.specs.declared.kind.Kind.{Kind}
use Rattle.ob_tree.specs.declared.expression.Literal.{Literal}
use Rattle.ob_tree.specs.declared.role.Role.{Role}
use Rattle.ob_tree.specs.declared.role.Role.TheVariants.{Repeats}
use Rattle.ob_tree.specs.declared.token.Leaf.{Leaf}
use Rattle.ob_tree.specs.declared.token.Leaf.TheVariants as leafs
use Rattle.ob_tree.specs.Leaves.{kind_eq}
use Rattle.ob_tree.specs.Constructs.{Construct, is_level}
use Rattle.ob_tree.specs.TreeEvents.{Identifier, Value, Events, construct, word}
use Rattle.ob_tree.proofs.Same.{same_is}
use Rattle.ob_grammar.specs.Lookahead.{uncons, head_is, is_word}
use Rattle.ob_grammar.specs.Combinators.{Unexpected, TooDeep, ◌>>=◌, Read, Reader, Lookahead, Start, expect_at, accept_at, identifier_at, name_at, after_name, begins, unless, nothing, seq, prefixed, node, after_start, optional, repeat_up_to, many, several, limit_at}
use Rattle.ob_grammar.proofs.Needs.{Needs}

-- a name after END, if it is known that an identifier of this number was read before, or any other name
abbrev pub IsTold : (ℕ → Type 0) → Role → Type 0
IsTold N (Repeats m) = N m
IsTold N role = Unit {0}

-- Q d from a b: a was read from these tokens within d levels, b by a reader with as many levels or more. N holds of the index of each
-- identifier that was read
pub record IsCompatible (N : ℕ → Type 0) (Q : ℕ → List Leaf → Read → Read → Type 0) : Type 0 where
  pub wrong : {d : ℕ} {from : List Leaf} (o : Option (Leaf × List Leaf)) → Q d from (Err (Unexpected o)) (Err (Unexpected o))
  pub deep : {from : List Leaf} {b : Read} (x : Leaf × List Leaf) → Q zero from (Err (TooDeep x)) b
  pub nothing : {d : ℕ} (ls : List Leaf) → Q d ls (Ok ([], ls)) (Ok ([], ls))
  pub one_after : {d : ℕ} {from : List Leaf} {a b : Read} {r s : Reader} → Q d from a b → ((ls : List Leaf) → Q d ls (r ls) (s ls)) →
      Q d from (a >>= λ x. r x.1 >>= λ y. Ok (x.0 ++ y.0, y.1)) (b >>= λ x. s x.1 >>= λ y. Ok (x.0 ++ y.0, y.1))
  pub flat : {d : ℕ} {from : List Leaf} {a b : Read} (k : Construct) → is_level k ≡ false → Q d from a b →
      Q d from (a >>= λ x. Ok (construct k x.0, x.1)) (b >>= λ x. Ok (construct k x.0, x.1))
  pub level : {d : ℕ} {from : List Leaf} {a b : Read} (k : Construct) → is_level k ≡ true → Q d from a b →
      Q (suc d) from (a >>= λ x. Ok (construct k x.0, x.1)) (b >>= λ x. Ok (construct k x.0, x.1))
  pub a_word : {d : ℕ} (k : Kind) (rest : List Leaf) → Q d (leafs.Word k ∷ rest) (Ok (word k, rest)) (Ok (word k, rest))
  pub a_value : {d : ℕ} (k : Literal) (n : ℕ) (rest : List Leaf) → Q d (leafs.Value k n ∷ rest) (Ok (Value k n ∷ [], rest)) (Ok (Value k n ∷ [], rest))
  pub a_name : {d : ℕ} (role : Role) → IsTold N role → (n : ℕ) (rest : List Leaf) → Q d (leafs.Name n ∷ rest) (Ok (Identifier role n ∷ [], rest)) (Ok (Identifier role n ∷ [], rest))
  pub in_range : {d n : ℕ} {rest : List Leaf} {a b : Read} → (N n → Q d (leafs.Name n ∷ rest) a b) → Q d (leafs.Name n ∷ rest) a b

-- the results of two readers are related, if the tokens before were read already
pub record Related (Q : ℕ → List Leaf → Read → Read → Type 0) (d : ℕ) (before : List Leaf) (r s : Reader) : Type 0 where
  pub at : (ls : List Leaf) → Q d (before ++ ls) (r ls) (s ls)

abbrev pub Started : (ℕ → List Leaf → Read → Read → Type 0) → ℕ → List Leaf → Lookahead Events → Type 0
Started Q d ls None = Unit {0}
Started Q d ls (Some x) = Q d ls (Ok x) (Ok x)

-- a prefix, if it is found, is related to itself
pub record Starts (Q : ℕ → List Leaf → Read → Read → Type 0) (d : ℕ) (start : Start) : Type 0 where
  pub at : (ls : List Leaf) → Started Q d ls (start ls)

module _ {N : ℕ → Type 0} {Q : ℕ → List Leaf → Read → Read → Type 0} (c : IsCompatible N Q) where
  pub nothing_held : {d : ℕ} → Related Q d [] nothing nothing
  nothing_held = record { at = λ ls. c.nothing ls }

  pub seq_held : {d : ℕ} {before : List Leaf} {r s t u : Reader} → Related Q d before r s → Related Q d [] t u → Related Q d before (seq r t) (seq s u)
  seq_held p q = record { at = λ ls. c.one_after (p.at ls) q.at }

  pub flat_held : {d : ℕ} {before : List Leaf} {r s : Reader} (k : Construct) → is_level k ≡ false → Related Q d before r s → Related Q d before (node k r) (node k s)
  flat_held k e p = record { at = λ ls. c.flat k e (p.at ls) }

  pub level_held : {d : ℕ} {before : List Leaf} {r s : Reader} (k : Construct) → is_level k ≡ true → Related Q d before r s → Related Q (suc d) before (node k r) (node k s)
  level_held k e p = record { at = λ ls. c.level k e (p.at ls) }

  -- after a token

  pub word_held : {d : ℕ} {r s : Reader} (k : Kind) → Related Q d [] r s → Related Q d (leafs.Word k ∷ []) (prefixed (word k) r) (prefixed (word k) s)
  word_held k p = record { at = λ ls. c.one_after (c.a_word k ls) p.at }

  pub role_held : {d : ℕ} {r s : Reader} (role : Role) → IsTold N role → (n : ℕ) → Related Q d [] r s →
      Related Q d (leafs.Name n ∷ []) (prefixed (Identifier role n ∷ []) r) (prefixed (Identifier role n ∷ []) s)
  role_held role fault_of_stop n p = record { at = λ ls. c.one_after (c.a_name role fault_of_stop n ls) p.at }

  pub known_held : {d n : ℕ} {r s : Reader} → (N n → Related Q d (leafs.Name n ∷ []) r s) → Related Q d (leafs.Name n ∷ []) r s
  known_held p = record { at = λ ls. c.in_range (λ k. (p k).at ls) }

  ---- optional and repeated parts

  found_held : {d : ℕ} {r s : Reader} (ls : List Leaf) (f : Lookahead Events) → Started Q d ls f → Related Q d [] r s → Q d ls (after_start r ls f) (after_start s ls f)
  found_held ls None t p = c.nothing ls
  found_held ls (Some x) t p = c.one_after t p.at

  pub optional_held : {d : ℕ} {start : Start} {r s : Reader} → Starts Q d start → Related Q d [] r s → Related Q d [] (optional start r) (optional start s)
  optional_held {d} {start} {r} {s} t p = record { at = λ ls. found_held {r = r} {s = s} ls (start ls) (t.at ls) p }

  so_often_held : {d : ℕ} {start : Start} {r s : Reader} (n : ℕ) → Starts Q d start → Related Q d [] r s → Related Q d [] (repeat_up_to start r n) (repeat_up_to start s n)
  so_often_held zero t p = record { at = λ ls. c.nothing ls }
  so_often_held (suc n) t p = optional_held t (seq_held p (so_often_held n t p))

  pub many_held : {d : ℕ} {start : Start} {r s : Reader} → Starts Q d start → Related Q d [] r s → Related Q d [] (many start r) (many start s)
  unfolding many
  many_held t p = record { at = λ ls. (so_often_held (length ls) t p).at ls }

  -- ---- tokens

  word_here : {d : ℕ} (k j : Kind) (rest : List Leaf) → kind_eq j k ≡ true → Q d (leafs.Word j ∷ rest) (Ok (word k, rest)) (Ok (word k, rest))
  word_here {d} k j rest e = subst (λ (i : Kind). Q d (leafs.Word i ∷ rest) (Ok (word k, rest)) (Ok (word k, rest))) (sym (same_is j k e)) (c.a_word k rest)

  expected_held : {d : ℕ} (k j : Kind) (rest : List Leaf) (b : Bool) → kind_eq j k ≡ b →
      Q d (leafs.Word j ∷ rest) (cond b (Ok (word k, rest)) (Err (Unexpected (Some (leafs.Word j, rest))))) (cond b (Ok (word k, rest)) (Err (Unexpected (Some (leafs.Word j, rest)))))
  expected_held k j rest true e = word_here k j rest e
  expected_held k j rest false e = c.wrong _

  expect_read : {d : ℕ} (k : Kind) (ls : List Leaf) → Q d ls (expect_at k ls) (expect_at k ls)
  unfolding expect_at
  expect_read k (leafs.Word j ∷ rest) = expected_held k j rest (kind_eq j k) refl
  expect_read k ls = c.wrong _

  pub expect_held : {d : ℕ} (k : Kind) → Related Q d [] (expect_at k) (expect_at k)
  expect_held k = record { at = expect_read k }

  accepted_held : (d : ℕ) (k j : Kind) (rest : List Leaf) (b : Bool) → kind_eq j k ≡ b → Started Q d (leafs.Word j ∷ rest) (cond b (Some (word k, rest)) None)
  accepted_held d k j rest true e = word_here k j rest e
  accepted_held d k j rest false e = tt

  accept_started : (d : ℕ) (k : Kind) (ls : List Leaf) → Started Q d ls (accept_at k ls)
  unfolding accept_at
  accept_started d k (leafs.Word j ∷ rest) = accepted_held d k j rest (kind_eq j k) refl
  accept_started d k ls = tt

  pub accept_starts : {d : ℕ} (k : Kind) → Starts Q d (accept_at k)
  accept_starts k = record { at = accept_started _ k }

  -- a start that takes no token, if the test b holds

  begun : (d : ℕ) (b : Bool) (ls : List Leaf) → Started Q d ls (cond b (Some ([], ls)) None)
  begun d true ls = c.nothing ls
  begun d false ls = tt

  not_begun : (d : ℕ) (b : Bool) (ls : List Leaf) → Started Q d ls (cond b None (Some ([], ls)))
  not_begun d true ls = tt
  not_begun d false ls = c.nothing ls

  pub begins_starts : {d : ℕ} (p : Leaf → Bool) → Starts Q d (begins p)
  unfolding begins
  begins_starts p = record { at = λ ls. begun _ (head_is p (uncons ls)) ls }

  pub unless_starts : {d : ℕ} (k : Kind) → Starts Q d (unless k)
  unfolding unless
  unless_starts k = record { at = λ ls. not_begun _ (head_is (is_word k) (uncons ls)) ls }

  pub several_held : {d : ℕ} {r s : Reader} (k : Kind) → Related Q d [] r s → Related Q d [] (several k r) (several k s)
  unfolding several
  several_held k p = seq_held p (many_held (accept_starts k) p)

  -- ---- names

  read_behind : {d : ℕ} (r s : ℕ → Reader) → ((n : ℕ) → Related Q d (leafs.Name n ∷ []) (r n) (s n)) → (ls : List Leaf) → Q d ls (after_name r ls) (after_name s ls)
  unfolding identifier_at
  read_behind r s p (leafs.Name n ∷ rest) = (p n).at rest
  read_behind r s p ls = c.wrong _

  pub behind_name_held : {d : ℕ} {r s : ℕ → Reader} → ((n : ℕ) → Related Q d (leafs.Name n ∷ []) (r n) (s n)) → Related Q d [] (after_name r) (after_name s)
  behind_name_held {d} {r} {s} p = record { at = read_behind r s p }

  -- an identifier that is read in this role
  abbrev only : Role → ℕ → Reader
  only role n ls = Ok (Identifier role n ∷ [], ls)

  pub name_held : {d : ℕ} (role : Role) → IsTold N role → Related Q d [] (name_at (λ n. Identifier role n ∷ [])) (name_at (λ n. Identifier role n ∷ []))
  unfolding name_at
  name_held role fault_of_stop = behind_name_held {r = only role} {s = only role} (λ n. record { at = λ ls. c.a_name role fault_of_stop n ls })

  -- ---- the limit of depth

  -- if b holds, the construct is too deep, and otherwise both return a
  pub unless_deep : {from : List Leaf} {read : Read} (x : Leaf × List Leaf) (a : Read) (b : Bool) → Q zero from a a → (b ≡ false → read ≡ a) → Q zero from (cond b (Err (TooDeep x)) a) read
  unless_deep x a true p h = c.deep x
  unless_deep {from} {read} x a false p h = subst (λ (z : Read). Q zero from a z) (sym (h refl)) p

  limit_read : (p : Leaf → Bool) (s : Reader) → Needs p s → (ls : List Leaf) → Q zero ls (limit_at p ls) (s ls)
  unfolding limit_at
  limit_read p s h [] = subst (λ (z : Read). Q zero [] (Err (Unexpected None)) z) (sym (h [] refl)) (c.wrong None)
  limit_read p s h (l ∷ ls) = unless_deep (l, ls) (Err (Unexpected (Some (l, ls)))) (p l) (c.wrong _) (h (l ∷ ls))

  pub limit_held : (p : Leaf → Bool) (s : Reader) → Needs p s → Related Q zero [] (limit_at p) s
  limit_held p s h = record { at = limit_read p s h }
