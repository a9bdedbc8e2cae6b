-- The tokens of an event sequence are read as that event sequence: a lemma for each form of reader.
use Rattle.std.proofs.Common.{◌≡◌, ℕ, suc, Bool, true, false, ◌≤◌, List, [], ◌∷◌, ◌++◌, Option, Some, None, Ok, refl, sym, ap, subst, ◌∙◌, append_assoc, arith}
use Rattle.ob_scan.specs.declared.kind.Kind.{Kind}
use Rattle.ob_tree.specs.declared.token.Leaf.{Leaf}
use Rattle.ob_tree.specs.declared.token.Leaf.TheVariants as leafs
use Rattle.ob_tree.specs.Constructs.{Construct, is_level}
use Rattle.ob_tree.specs.TreeEvents.{Events, Ends, construct, word, if_present, each, each_after, tokens_of, height}
use Rattle.ob_tree.proofs.Same.{is_same}
use Rattle.ob_grammar.specs.Lookahead.{is_word}
use Rattle.ob_grammar.specs.Combinators.{Reader, Start, expect_at, accept_at, name_at, identifier_at, begins, unless, seq, prefixed, node, optional, many, several}
use Rattle.ob_grammar.proofs.Sound.{tokens_of-append, tokens_of-construct, height-append, height-level}
use Rattle.ob_grammar.proofs.Loops.{Advances, many_step}

-- the tokens of this event sequence, and then these tokens, are read as the event sequence
pub record Reads (r : Reader) (o : Events) (rest : List Leaf) : Type 0 where
  pub is : r (tokens_of o ++ rest) ≡ Ok (o, rest)

pub split : (a b : Events) (rest : List Leaf) → tokens_of (a ++ b) ++ rest ≡ tokens_of a ++ (tokens_of b ++ rest)
split a b rest = ap (λ (t : List Leaf). t ++ rest) (tokens_of-append a b) ∙ append_assoc (tokens_of a) (tokens_of b) rest

---- depths

pub low_left : (a b : Events) (d : ℕ) → height (a ++ b) ≤ d → height a ≤ d
low_left a b d le = omega (arith, height-append a b)

pub low_right : (a b : Events) (d : ℕ) → height (a ++ b) ≤ d → height b ≤ d
low_right a b d le = omega (arith, height-append a b)

-- a level is one deeper than its content
pub low_level : (c : Construct) (o : Events) (d : ℕ) → is_level c ≡ true → height (construct c o) ≤ d → suc (height o) ≤ d
low_level c o d e le = omega (arith, height-level c o e)

-- a construct is at least as deep as its content
pub low_within : (c : Construct) (o : Events) (d : ℕ) → height (construct c o) ≤ d → height o ≤ d
unfolding construct
low_within c o d le = omega (arith, height-append o (Ends c ∷ []))

pub low_same : (a b : Events) (d : ℕ) → a ≡ b → height a ≤ d → height b ≤ d
low_same a b d e le = subst (λ (o : Events). height o ≤ d) e le

-- ---- forms

pub reads_seq : (r s : Reader) (a b : Events) (rest : List Leaf) → Reads r a (tokens_of b ++ rest) → Reads s b rest → Reads (seq r s) (a ++ b) rest
reads_seq r s a b rest p q = record { is = ap (seq r s) (split a b rest) ∙ rw (p.is, q.is) refl }

pub reads_node : (c : Construct) (r : Reader) (o : Events) (rest : List Leaf) → Reads r o rest → Reads (node c r) (construct c o) rest
reads_node c r o rest p = record { is = ap (λ (t : List Leaf). node c r (t ++ rest)) (tokens_of-construct c o) ∙ rw p.is refl }

-- after known events
pub reads_after : (m : Events) (r : Reader) (o : Events) (rest : List Leaf) → Reads r o rest → prefixed m r (tokens_of o ++ rest) ≡ Ok (m ++ o, rest)
reads_after m r o rest p = rw p.is refl

pub reads_nothing : (start : Start) (r : Reader) (rest : List Leaf) → start rest ≡ None → Reads (optional start r) [] rest
reads_nothing start r rest e = record { is = rw e refl }

pub reads_something : (start : Start) (r : Reader) (m o : Events) (rest : List Leaf) → start (tokens_of m ++ (tokens_of o ++ rest)) ≡ Some (m, tokens_of o ++ rest) →
    Reads r o rest → Reads (optional start r) (m ++ o) rest
reads_something start r m o rest e p = record { is = ap (optional start r) (split m o rest) ∙ rw (e, p.is) refl }

pub reads_none : (start : Start) (r : Reader) → Advances start r → (rest : List Leaf) → start rest ≡ None → Reads (many start r) [] rest
reads_none start r adv rest e = record { is = rw (many_step start r adv rest, e) refl }

pub reads_more : (start : Start) (r : Reader) → Advances start r → (m o os : Events) (rest : List Leaf) →
    start (tokens_of m ++ (tokens_of o ++ (tokens_of os ++ rest))) ≡ Some (m, tokens_of o ++ (tokens_of os ++ rest)) → Reads r o (tokens_of os ++ rest) →
    Reads (many start r) os rest → Reads (many start r) ((m ++ o) ++ os) rest
reads_more start r adv m o os rest e p q =
    let all_tokens : tokens_of ((m ++ o) ++ os) ++ rest ≡ tokens_of m ++ (tokens_of o ++ (tokens_of os ++ rest)) = split (m ++ o) os rest ∙ split m o (tokens_of os ++ rest) in
    let it : many start r (tokens_of m ++ (tokens_of o ++ (tokens_of os ++ rest))) ≡ Ok (m ++ (o ++ os), rest) =
    rw (many_step start r adv (tokens_of m ++ (tokens_of o ++ (tokens_of os ++ rest))), e, p.is, q.is) refl in
    record { is = ap (many start r) all_tokens ∙ it ∙ ap (λ (x : Events). Ok (x, rest)) (sym (append_assoc m o os)) }

-- a property of these tokens and of each part that may be before them holds of the parts and these tokens
pub follows : {X : Type 0} (Good : List Leaf → Type 0) (f : X → Events) → ((x : X) (ls : List Leaf) → Good (tokens_of (f x) ++ ls)) → (xs : List X) (rest : List Leaf) →
    Good rest → Good (tokens_of (each f xs) ++ rest)
follows Good f h [] rest good = good
follows Good f h (x ∷ xs) rest good = subst Good (sym (split (f x) (each f xs) rest)) (h x (tokens_of (each f xs) ++ rest))

-- parts, each with the events m at its start, by which the part is found. The tokens after a part have to be Good
pub reads_each : {X : Type 0} (start : Start) (r : Reader) (m f : X → Events) (Good : List Leaf → Type 0) (d : ℕ) → Advances start r →
    ((x : X) (ls : List Leaf) → start (tokens_of (m x) ++ (tokens_of (f x) ++ ls)) ≡ Some (m x, tokens_of (f x) ++ ls)) →
    ((x : X) (ls : List Leaf) → Good (tokens_of (m x ++ f x) ++ ls)) → ((x : X) (ls : List Leaf) → height (f x) ≤ d → Good ls → Reads r (f x) ls) →
    (xs : List X) (rest : List Leaf) → height (each (λ x. m x ++ f x) xs) ≤ d → Good rest → start rest ≡ None → Reads (many start r) (each (λ x. m x ++ f x) xs) rest
reads_each start r m f Good d adv found good again [] rest le end none = reads_none start r adv rest none
reads_each start r m f Good d adv found good again (x ∷ xs) rest le end none =
    let os : Events = each (λ x. m x ++ f x) xs in
    let first : height (f x) ≤ d = low_right (m x) (f x) d (low_left (m x ++ f x) os d le) in
    let others : height os ≤ d = low_right (m x ++ f x) os d le in
    reads_more start r adv (m x) (f x) os rest (found x (tokens_of os ++ rest)) (again x (tokens_of os ++ rest) first (follows Good (λ y. m y ++ f y) good xs rest end))
    (reads_each start r m f Good d adv found good again xs rest others end none)

-- an equal event sequence
pub reads_same : (r : Reader) (a b : Events) (rest : List Leaf) → a ≡ b → Reads r b rest → Reads r a rest
reads_same r a b rest e h = subst (λ (o : Events). Reads r o rest) (sym e) h

-- ---- one token

pub reads_word : (k : Kind) (rest : List Leaf) → Reads (expect_at k) (word k) rest
unfolding expect_at
reads_word k rest = record { is = rw (is_same k) refl }

pub accepts_word : (k : Kind) (rest : List Leaf) → accept_at k (leafs.Word k ∷ rest) ≡ Some (word k, rest)
unfolding accept_at
accepts_word k rest = rw (is_same k) refl

pub reads_name : (role : ℕ → Events) (n : ℕ) (rest : List Leaf) → tokens_of (role n) ≡ leafs.Name n ∷ [] → Reads (name_at role) (role n) rest
unfolding name_at identifier_at
reads_name role n rest e = record { is = ap (λ (t : List Leaf). name_at role (t ++ rest)) e }

---- lists with a token between any two items

pub reads_several : {X : Type 0} (k : Kind) (r : Reader) (f : X → Events) (Good : List Leaf → Type 0) (d : ℕ) → Advances (accept_at k) r →
    ((ls : List Leaf) → Good (leafs.Word k ∷ ls)) → ((x : X) (ls : List Leaf) → height (f x) ≤ d → Good ls → Reads r (f x) ls) →
    (x : X) (xs : List X) (rest : List Leaf) → height (f x ++ each_after k f xs) ≤ d → Good rest → accept_at k rest ≡ None →
    Reads (several k r) (f x ++ each_after k f xs) rest
unfolding several
reads_several k r f Good d adv good again x xs rest le end none =
    let os : Events = each_after k f xs in
    let first : height (f x) ≤ d = low_left (f x) os d le in
    let others : height os ≤ d = low_right (f x) os d le in
    reads_seq r (many (accept_at k) r) (f x) os rest (again x (tokens_of os ++ rest) first (follows Good (λ y. word k ++ f y) (λ y ls. good _) xs rest end))
    (reads_each (accept_at k) r (λ y. word k) f Good d adv (λ y ls. accepts_word k _) (λ y ls. good _) again xs rest others end none)

-- ---- the first token

pub record Opens (ok : Leaf → Bool) (ls : List Leaf) : Type 0 where
  pub leaf : Leaf
  pub tail : List Leaf
  pub is : ls ≡ leaf ∷ tail
  pub good : ok leaf ≡ true

pub opens_node : (ok : Leaf → Bool) (c : Construct) (o : Events) (x : List Leaf) → Opens ok (tokens_of o ++ x) → Opens ok (tokens_of (construct c o) ++ x)
opens_node ok c o x h = subst (λ (t : List Leaf). Opens ok (t ++ x)) (sym (tokens_of-construct c o)) h

pub opens_front : (ok : Leaf → Bool) (a b : Events) (x : List Leaf) → ((y : List Leaf) → Opens ok (tokens_of a ++ y)) → Opens ok (tokens_of (a ++ b) ++ x)
opens_front ok a b x h = subst (Opens ok) (sym (split a b x)) (h (tokens_of b ++ x))

pub opens_same : (ok : Leaf → Bool) (a b : Events) (x : List Leaf) → a ≡ b → Opens ok (tokens_of b ++ x) → Opens ok (tokens_of a ++ x)
opens_same ok a b x e h = subst (λ (o : Events). Opens ok (tokens_of o ++ x)) (sym e) h

pub opens_weaker : (p q : Leaf → Bool) → ((l : Leaf) → p l ≡ true → q l ≡ true) → (ls : List Leaf) → Opens p ls → Opens q ls
opens_weaker p q h ls o = record { leaf = o.leaf; tail = o.tail; is = o.is; good = h o.leaf o.good }

pub begins_there : (p : Leaf → Bool) (ls : List Leaf) → Opens p ls → begins p ls ≡ Some ([], ls)
unfolding begins
begins_there p ls o = rw (o.is, o.good) refl

pub open_there : (k : Kind) (p : Leaf → Bool) → ((l : Leaf) → p l ≡ true → is_word k l ≡ false) → (ls : List Leaf) → Opens p ls → unless k ls ≡ Some ([], ls)
unfolding unless
open_there k p h ls o = rw (o.is, h o.leaf o.good) refl

pub closed_there : (k : Kind) (rest : List Leaf) → unless k (leafs.Word k ∷ rest) ≡ None
unfolding unless
closed_there k rest = rw (is_same k) refl

-- the part before a closing token may be absent
pub reads_unless : {X : Type 0} (k : Kind) (r : Reader) (f : X → Events) (p : Leaf → Bool) → ((l : Leaf) → p l ≡ true → is_word k l ≡ false) →
    ((x : X) (ls : List Leaf) → Opens p (tokens_of (f x) ++ ls)) → (o : Option X) (rest : List Leaf) → ((x : X) → o ≡ Some x → Reads r (f x) (leafs.Word k ∷ rest)) →
    Reads (optional (unless k) r) (if_present f o) (leafs.Word k ∷ rest)
reads_unless k r f p h opens None rest again = reads_nothing (unless k) r _ (closed_there k rest)
reads_unless k r f p h opens (Some x) rest again = reads_something (unless k) r [] (f x) _ (open_there k p h _ (opens x _)) (again x refl)

pub reads_closed : {X : Type 0} (k : Kind) (r : Reader) (f : X → Events) (p : Leaf → Bool) → ((l : Leaf) → p l ≡ true → is_word k l ≡ false) →
    ((x : X) (ls : List Leaf) → Opens p (tokens_of (f x) ++ ls)) → (o : Option X) (rest : List Leaf) → ((x : X) → o ≡ Some x → Reads r (f x) (leafs.Word k ∷ rest)) →
    Reads (seq (optional (unless k) r) (expect_at k)) (if_present f o ++ word k) rest
reads_closed k r f p h opens o rest again = reads_seq (optional (unless k) r) (expect_at k) (if_present f o) (word k) rest (reads_unless k r f p h opens o rest again) (reads_word k rest)
