-- Event sequences of at most this many levels are read back: a lemma for each form of reader.
use Rattle.std.proofs.Common.{◌≡◌, ℕ, zero, suc, Bool, true, false, ◌≤◌, List, [], ◌∷◌, ◌++◌, Option, Some, None, refl, sym, subst, ◌∙◌, arith}
use Rattle.ob_scan.specs.declared.kind.Kind.{Kind}
use Rattle.ob_tree.specs.declared.token.Leaf.{Leaf}
use Rattle.ob_tree.specs.declared.token.Leaf.TheVariants as leafs
use Rattle.ob_tree.specs.Constructs.{Construct, is_level}
use Rattle.ob_tree.specs.Leaves.{kind_eq}
use Rattle.ob_tree.specs.TreeEvents.{Events, construct, word, if_present, if_true, each, each_after, tokens_of, height}
use Rattle.ob_grammar.specs.Combinators.{Reader, Start, expect_at, accept_at, name_at, unless, nothing, seq, node, optional, many, several}
use Rattle.ob_grammar.proofs.Sound.{tokens_of-construct}
use Rattle.ob_grammar.proofs.Loops.{Advances}
use Rattle.ob_grammar.proofs.ReadsBack.{Reads, low_left, low_right, low_level, low_within, reads_seq, reads_node, reads_nothing, reads_something, split, closed_there, reads_word, reads_name, accepts_word, reads_each, reads_several}

-- an event sequence of at most this many levels is read back
pub record Again (d : ℕ) (r : Reader) (o : Events) (rest : List Leaf) : Type 0 where
  pub reads : height o ≤ d → Reads r o rest

pub again_is : {d : ℕ} {r : Reader} {a b : Events} {rest : List Leaf} → a ≡ b → Again d r b rest → Again d r a rest
again_is {d} {r} {a} {b} {rest} e p = subst (λ (o : Events). Again d r o rest) (sym e) p

-- if two readers return the same result
pub again_as : {d : ℕ} {r : Reader} {o : Events} {rest : List Leaf} (s : Reader) → s (tokens_of o ++ rest) ≡ r (tokens_of o ++ rest) → Again d r o rest → Again d s o rest
again_as s e p = record { reads = λ le. record { is = e ∙ (p.reads le).is } }

-- the second part first, since it follows the first part
pub again_seq : {d : ℕ} {r s : Reader} {a b : Events} {rest : List Leaf} → Again d s b rest → Again d r a (tokens_of b ++ rest) → Again d (seq r s) (a ++ b) rest
again_seq {d} {r} {s} {a} {b} {rest} q p = record { reads = λ le. reads_seq r s a b rest (p.reads (low_left a b d le)) (q.reads (low_right a b d le)) }

pub again_end : (d : ℕ) (k : Kind) (rest : List Leaf) → Again d (expect_at k) (word k) rest
again_end d k rest = record { reads = λ le. reads_word k rest }

pub again_word : {d : ℕ} {s : Reader} {b : Events} {rest : List Leaf} (k : Kind) → Again d s b rest → Again d (seq (expect_at k) s) (word k ++ b) rest
again_word {d} {s} {b} {rest} k q = again_seq q (again_end d k (tokens_of b ++ rest))

pub again_name : (d : ℕ) (role : ℕ → Events) (n : ℕ) (rest : List Leaf) → tokens_of (role n) ≡ leafs.Name n ∷ [] → Again d (name_at role) (role n) rest
again_name d role n rest e = record { reads = λ le. reads_name role n rest e }

-- ---- constructs

pub again_node : {d : ℕ} {r : Reader} {o : Events} {rest : List Leaf} (c : Construct) → Again d r o rest → Again d (node c r) (construct c o) rest
again_node {d} {r} {o} {rest} c p = record { reads = λ le. reads_node c r o rest (p.reads (low_within c o d le)) }

pub again_level : {d : ℕ} {r : Reader} {o : Events} {rest : List Leaf} (c : Construct) → is_level c ≡ true → Again d r o rest → Again (suc d) (node c r) (construct c o) rest
again_level {d} {r} {o} {rest} c e p =
    record { reads = λ le. let low : suc (height o) ≤ suc d = low_level c o (suc d) e le in reads_node c r o rest (p.reads (omega (arith, low))) }

-- no level is left
pub too_high : (r : Reader) (o : Events) (rest : List Leaf) (c : Construct) → is_level c ≡ true → Again zero r (construct c o) rest
too_high r o rest c e = record { reads = λ le. let low : suc (height o) ≤ zero = low_level c o zero e le in absurd (omega (arith, low)) }

---- optional parts

pub again_nothing : (d : ℕ) (start : Start) (r : Reader) (rest : List Leaf) → start rest ≡ None → Again d (optional start r) [] rest
again_nothing d start r rest e = record { reads = λ le. reads_nothing start r rest e }

pub again_something : {d : ℕ} {r : Reader} {o : Events} {rest : List Leaf} (start : Start) (m : Events) →
    start (tokens_of m ++ (tokens_of o ++ rest)) ≡ Some (m, tokens_of o ++ rest) → Again d r o rest → Again d (optional start r) (m ++ o) rest
again_something {d} {r} {o} {rest} start m e p = record { reads = λ le. reads_something start r m o rest e (p.reads (low_right m o d le)) }

pub again_accepted : {d : ℕ} {r : Reader} {o : Events} {rest : List Leaf} (k : Kind) → Again d r o rest → Again d (optional (accept_at k) r) (word k ++ o) rest
again_accepted k p = again_something (accept_at k) (word k) (accepts_word k _) p

pub again_option : {X : Type 0} (d : ℕ) (k : Kind) (r : Reader) (f : X → Events) (o : Option X) (rest : List Leaf) → accept_at k rest ≡ None →
    ((x : X) → Again d r (f x) rest) → Again d (optional (accept_at k) r) (if_present (λ x. word k ++ f x) o) rest
again_option d k r f None rest e h = again_nothing d (accept_at k) r rest e
again_option d k r f (Some x) rest e h = again_accepted k (h x)

-- the part before a closing token
pub again_unless : {X : Type 0} (d : ℕ) (k : Kind) (r : Reader) (f : X → Events) (o : Option X) (rest : List Leaf) →
    ((x : X) (ls : List Leaf) → unless k (tokens_of (f x) ++ ls) ≡ Some ([], tokens_of (f x) ++ ls)) → ((x : X) → Again d r (f x) (leafs.Word k ∷ rest)) →
    Again d (optional (unless k) r) (if_present f o) (leafs.Word k ∷ rest)
again_unless d k r f None rest free h = again_nothing d (unless k) r _ (closed_there k rest)
again_unless d k r f (Some x) rest free h = again_something (unless k) [] (free x _) (h x)

pub again_nothing_more : (d : ℕ) (rest : List Leaf) → Again d nothing [] rest
again_nothing_more d rest = record { reads = λ le. record { is = refl } }

pub again_if_so : (d : ℕ) (k : Kind) (b : Bool) (rest : List Leaf) → accept_at k rest ≡ None → Again d (optional (accept_at k) nothing) (if_true b (word k)) rest
again_if_so d k false rest e = again_nothing d (accept_at k) nothing rest e
again_if_so d k true rest e = again_accepted k (again_nothing_more d rest)

-- a property of these tokens, also if k is before them, holds after an optional part
pub past_option : {X : Type 0} (Good : List Leaf → Type 0) (k : Kind) (f : X → Events) (o : Option X) (rest : List Leaf) → ((ls : List Leaf) → Good (leafs.Word k ∷ ls)) →
    Good rest → Good (tokens_of (if_present (λ x. word k ++ f x) o) ++ rest)
past_option Good k f None rest h good = good
past_option Good k f (Some x) rest h good = h _

-- the same if more tokens come after the optional part
pub past_there : {X : Type 0} (Good : List Leaf → Type 0) (k : Kind) (f : X → Events) (o : Option X) (more : Events) (rest : List Leaf) →
    ((ls : List Leaf) → Good (leafs.Word k ∷ ls)) → Good (tokens_of more ++ rest) → Good (tokens_of (if_present (λ x. word k ++ f x) o ++ more) ++ rest)
past_there Good k f None more rest h good = good
past_there Good k f (Some x) more rest h good = h _

pub past_if_so : (Good : List Leaf → Type 0) (k : Kind) (b : Bool) (rest : List Leaf) → ((ls : List Leaf) → Good (leafs.Word k ∷ ls)) → Good rest →
    Good (tokens_of (if_true b (word k)) ++ rest)
past_if_so Good k false rest h good = good
past_if_so Good k true rest h good = h rest

-- ---- lists

pub again_each : {X : Type 0} (start : Start) (r : Reader) (m f : X → Events) (Good : List Leaf → Type 0) (d : ℕ) → Advances start r →
    ((x : X) (ls : List Leaf) → start (tokens_of (m x) ++ (tokens_of (f x) ++ ls)) ≡ Some (m x, tokens_of (f x) ++ ls)) →
    ((x : X) (ls : List Leaf) → Good (tokens_of (m x ++ f x) ++ ls)) → ((x : X) (ls : List Leaf) → Good ls → Again d r (f x) ls) → (xs : List X) (rest : List Leaf) →
    Good rest → start rest ≡ None → Again d (many start r) (each (λ x. m x ++ f x) xs) rest
again_each start r m f Good d adv found good again xs rest end none =
    record { reads = λ le. reads_each start r m f Good d adv found good (λ x ls h g. (again x ls g).reads h) xs rest le end none }

pub again_each_after : {X : Type 0} (k : Kind) (r : Reader) (f : X → Events) (Good : List Leaf → Type 0) (d : ℕ) → Advances (accept_at k) r →
    ((ls : List Leaf) → Good (leafs.Word k ∷ ls)) → ((x : X) (ls : List Leaf) → Good ls → Again d r (f x) ls) → (xs : List X) (rest : List Leaf) → Good rest →
    accept_at k rest ≡ None → Again d (many (accept_at k) r) (each_after k f xs) rest
again_each_after k r f Good d adv good again xs rest end none =
    again_each (accept_at k) r (λ x. word k) f Good d adv (λ x ls. accepts_word k _) (λ x ls. good _) again xs rest end none

pub past_each : {X : Type 0} (Good : List Leaf → Type 0) (k : Kind) (f : X → Events) (xs : List X) (more : Events) (rest : List Leaf) →
    ((ls : List Leaf) → Good (leafs.Word k ∷ ls)) → Good (tokens_of more ++ rest) → Good (tokens_of (each_after k f xs ++ more) ++ rest)
past_each Good k f [] more rest h good = good
past_each Good k f (x ∷ xs) more rest h good = h _

pub again_several : {X : Type 0} (k : Kind) (r : Reader) (f : X → Events) (Good : List Leaf → Type 0) (d : ℕ) → Advances (accept_at k) r →
    ((ls : List Leaf) → Good (leafs.Word k ∷ ls)) → ((x : X) (ls : List Leaf) → Good ls → Again d r (f x) ls) → (x : X) (xs : List X) (rest : List Leaf) → Good rest →
    accept_at k rest ≡ None → Again d (several k r) (f x ++ each_after k f xs) rest
again_several k r f Good d adv good again x xs rest end none =
    record { reads = λ le. reads_several k r f Good d adv good (λ y ls h g. (again y ls g).reads h) x xs rest le end none }

---- absent tokens

pub not_accepted : (k j : Kind) (rest : List Leaf) → kind_eq j k ≡ false → accept_at k (leafs.Word j ∷ rest) ≡ None
unfolding accept_at
not_accepted k j rest e = rw e refl

-- ---- an identifier at the start

pub record OpensName (ls : List Leaf) : Type 0 where
  pub number : ℕ
  pub tail : List Leaf
  pub is : ls ≡ leafs.Name number ∷ tail

pub opens_name_node : (c : Construct) (o : Events) (x : List Leaf) → OpensName (tokens_of o ++ x) → OpensName (tokens_of (construct c o) ++ x)
opens_name_node c o x h = subst (λ (t : List Leaf). OpensName (t ++ x)) (sym (tokens_of-construct c o)) h

pub opens_name_front : (a b : Events) (x : List Leaf) → ((y : List Leaf) → OpensName (tokens_of a ++ y)) → OpensName (tokens_of (a ++ b) ++ x)
opens_name_front a b x h = subst OpensName (sym (split a b x)) (h (tokens_of b ++ x))

pub name_not_accepted : (k : Kind) (ls : List Leaf) → OpensName ls → accept_at k ls ≡ None
unfolding accept_at
name_not_accepted k ls h = rw h.is refl

pub name_not_closed : (k : Kind) (ls : List Leaf) → OpensName ls → unless k ls ≡ Some ([], ls)
unfolding unless
name_not_closed k ls h = rw h.is refl
