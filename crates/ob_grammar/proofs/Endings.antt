-- The names after END in the event sequence, and the identifiers that they repeat, are tokens of the list that is read.
use Rattle.std.proofs.Common.{◌≡◌, ℕ, ◌+◌, ◌<◌, ◌≤◌, List, [], ◌∷◌, ◌++◌, length, Option, Some, None, Ok, refl, subst, arith}
use Rattle.std.specs.List.{All}
use Rattle.std.proofs.lemmas.List.{append-nil}
use Rattle.std.proofs.lemmas.List.Elements.{All-nil, All-cons, All-head, All-tail, All-append}
use Rattle.ob_scan.specs.declared.kind.Kind.{Kind}
use Rattle.ob_scan.specs.declared.kind.Kind.TheVariants as kinds
use Rattle.ob_tree.specs.declared.role.Role.{Role}
use Rattle.ob_tree.specs.declared.role.Role.TheVariants.{Repeats}
use Rattle.ob_tree.specs.declared.token.Leaf.{Leaf}
use Rattle.ob_tree.specs.declared.token.Leaf.TheVariants as leafs
use Rattle.ob_tree.specs.Constructs.{Construct}
use Rattle.ob_tree.specs.Leaves.{leaf_of, leaves_from}
use Rattle.ob_tree.specs.TreeEvents.{Ends, Identifier, Events, construct}
use Rattle.ob_tree.specs.Derives.{end_names_in}
use Rattle.ob_tree.proofs.EndNames.{collect_end_names-append}
use Rattle.ob_grammar.specs.Lookahead.{uncons}
use Rattle.ob_grammar.specs.ReadModules.{module_at, nothing_left, read_all}
use Rattle.ob_grammar.proofs.Compatible.{IsTold}
use Rattle.ob_grammar.proofs.CompatibleProductions.{module_at_held}
use Rattle.ob_grammar.proofs.Sound.{bind_ok, ok_is}
use Rattle.ob_grammar.proofs.Taking.{IsTaking, given, giving}

-- a leaf that is an identifier has a number below this one
abbrev pub IsBelow : ℕ → Leaf → Type 0
IsBelow bound (leafs.Name n) = n < bound
IsBelow bound (leafs.Value k n) = Unit {0}
IsBelow bound (leafs.Word k) = Unit {0}

abbrev pub AreBelow : ℕ → ℕ × ℕ → Type 0
AreBelow bound e = (e.0 < bound) × (e.1 < bound)

pub record LeavesBelow (bound : ℕ) (ls : List Leaf) : Type 0 where
  pub each_one : All (IsBelow bound) ls

pub record EndingsBelow (bound : ℕ) (o : Events) : Type 0 where
  pub each_one : All (AreBelow bound) (end_names_in o)

-- the same for an event sequence, and for the tokens after it
pub record Known (bound : ℕ) (o : Events) (rest : List Leaf) : Type 0 where
  pub in_outline : EndingsBelow bound o
  pub in_rest : LeavesBelow bound rest

-- ---- event sequences

both_below : (bound : ℕ) (a b : Events) → EndingsBelow bound a → EndingsBelow bound b → EndingsBelow bound (a ++ b)
both_below bound a b p q = record { each_one = rw (collect_end_names-append a b) (All-append (AreBelow bound) (end_names_in a) (end_names_in b) p.each_one q.each_one) }

construct_below : (bound : ℕ) (c : Construct) (o : Events) → EndingsBelow bound o → EndingsBelow bound (construct c o)
unfolding construct
construct_below bound c o p = record { each_one = rw (collect_end_names-append o (Ends c ∷ []), append-nil (end_names_in o)) p.each_one }

nothing_below : (bound : ℕ) → EndingsBelow bound []
nothing_below bound = record { each_one = All-nil (AreBelow bound) }

role_below : (bound : ℕ) (role : Role) → IsTold (λ m. m < bound) role → (n : ℕ) → n < bound → EndingsBelow bound (Identifier role n ∷ [])
role_below bound (Repeats m) fault_of_stop n h = record { each_one = All-cons (AreBelow bound) (m, n) [] (fault_of_stop, h) (All-nil (AreBelow bound)) }
role_below bound role fault_of_stop n h = record { each_one = All-nil (AreBelow bound) }

-- ---- leaves

head_below : (bound : ℕ) (l : Leaf) (ls : List Leaf) → LeavesBelow bound (l ∷ ls) → IsBelow bound l
head_below bound l ls b = All-head (IsBelow bound) l ls b.each_one

tail_below : (bound : ℕ) (l : Leaf) (ls : List Leaf) → LeavesBelow bound (l ∷ ls) → LeavesBelow bound ls
tail_below bound l ls b = record { each_one = All-tail (IsBelow bound) l ls b.each_one }

leaf_below : (bound n : ℕ) (k : Kind) → n < bound → IsBelow bound (leaf_of n k)
leaf_below bound n kinds.Ident h = h
leaf_below bound n kinds.Integer h = tt
leaf_below bound n kinds.Real h = tt
leaf_below bound n kinds.Text h = tt
leaf_below bound n k h = tt

leaves_from_below : (bound n : ℕ) (ks : List Kind) → n + length ks ≤ bound → All (IsBelow bound) (leaves_from n ks)
leaves_from_below bound n [] h = All-nil (IsBelow bound)
leaves_from_below bound n (k ∷ ks) h = All-cons (IsBelow bound) (leaf_of n k) (leaves_from (n + 1) ks) (leaf_below bound n k (omega arith)) (leaves_from_below bound (n + 1) ks (omega arith))

pub leaves_below : (ks : List Kind) → All (IsBelow (length ks)) (leaves_from 0 ks)
leaves_below ks = leaves_from_below (length ks) 0 ks (omega arith)

---- readers

abbrev Knows : ℕ → List Leaf → Events → List Leaf → Type 0
Knows bound from o rest = LeavesBelow bound from → Known bound o rest

knows_more : (bound : ℕ) (from mid rest : List Leaf) (a b : Events) → Knows bound from a mid → Knows bound mid b rest → Knows bound from (a ++ b) rest
knows_more bound from mid rest a b p q l =
    let first = p l in
    let second = q first.in_rest in
    record { in_outline = both_below bound a b first.in_outline second.in_outline; in_rest = second.in_rest }

knows_construct : (bound : ℕ) (k : Construct) (from rest : List Leaf) (o : Events) → Knows bound from o rest → Knows bound from (construct k o) rest
knows_construct bound k from rest o p l = let inner = p l in record { in_outline = construct_below bound k o inner.in_outline; in_rest = inner.in_rest }

-- one token of any kind
knows_token : (bound : ℕ) (t : Leaf) (rest : List Leaf) (o : Events) → [] ≡ end_names_in o → Knows bound (t ∷ rest) o rest
knows_token bound t rest o none l = record { in_outline = record { each_one = subst (All (AreBelow bound)) none (All-nil (AreBelow bound)) }; in_rest = tail_below bound t rest l }

knowing : (bound : ℕ) → IsTaking (λ n. n < bound) (λ d. Knows bound)
knowing bound = record {
  nothing = λ ls l. record { in_outline = nothing_below bound; in_rest = l };
  one_after = λ p q. knows_more bound _ _ _ _ _ p q;
  flat = λ k e p. knows_construct bound k _ _ _ p;
  level = λ k e p. knows_construct bound k _ _ _ p;
  a_word = λ k rest. knows_token bound _ rest _ refl;
  a_value = λ k n rest. knows_token bound _ rest _ refl;
  a_name = λ role fault_of_stop n rest l. record { in_outline = role_below bound role fault_of_stop n (head_below bound (leafs.Name n) rest l); in_rest = tail_below bound (leafs.Name n) rest l };
  in_range = λ p l. p (head_below bound _ _ l) l;
}

nothing_left_is : (o p : Events) (left : Option (Leaf × List Leaf)) → nothing_left o left ≡ Ok p → o ≡ p
nothing_left_is o p None e = ok_is o p e
nothing_left_is o p (Some t) e = absurd cc

-- each name after END, and the identifier that it has to repeat, is one of the tokens
pub endings_known : (bound d : ℕ) (ls : List Leaf) (o : Events) → All (IsBelow bound) ls → read_all d ls ≡ Ok o → All (λ e. (e.0 < bound) × (e.1 < bound)) (end_names_in o)
unfolding read_all
endings_known bound d ls o b e =
    let a = bind_ok (module_at d ls) (λ a. nothing_left a.0 (uncons a.1)) o e in
    let in_range = given (λ k. Knows bound) (module_at_held (giving (knowing bound)) d d (omega arith)) ls a.0 a.1 (record { each_one = b }) in
    let below = subst (EndingsBelow bound) (nothing_left_is a.0.0 o (uncons a.0.1) a.2) in_range.in_outline in
    below.each_one
