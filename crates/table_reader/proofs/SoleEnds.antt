-- A single name between two cursors, by the remaining tokens at both.
use Rattle.std.proofs.Common.{◌≡◌, ℕ, ◌-◌, ◌<◌, Bool, true, false, cond, List, [], ◌∷◌, ◌++◌, length, map, drop, take, Option, Some, None, refl, sym, ap, subst, ◌∙◌, arith, length-append}
use Rattle.std.proofs.lemmas.List.{length-drop, length-map}
use Rattle.ob_scan.specs.declared.kind.Kind.{Kind}
use Rattle.ob_scan.specs.declared.kind.Kind.TheVariants as kinds
use Rattle.ob_scan.specs.declared.token.Token.{Token}
use Rattle.ob_tree.specs.declared.token.Leaf.{Leaf}
use Rattle.ob_tree.specs.declared.token.Leaf.TheVariants as leafs
use Rattle.ob_tree.specs.Leaves.{kind_eq}
use Rattle.ob_tree.specs.TreeEvents.{Events, word}
use Rattle.ob_tree.proofs.Same.{same_is}
use Rattle.ob_grammar.specs.declared.cursor.Cursor.{Cursor}
use Rattle.ob_grammar.specs.Lookahead.{uncons}
use Rattle.ob_grammar.specs.Combinators.{accept_at}
use Rattle.ob_grammar.specs.ParsesAs.{remaining, kind_of}
use Rattle.ob_grammar.proofs.Remaining.{leaves_length}
use Rattle.ob_grammar.proofs.Sound.{some_is}
use Rattle.table_reader.specs.SoleNames.{sole_name_of, leading_name, IsSoleName}
use Rattle.table_reader.specs.declared.slots.SoleName.{SoleName}
use Rattle.table_reader.specs.declared.slots.SoleName.TheVariants as sole_names
use Rattle.table_reader.proofs.SoleTokens.{lone_long}

---- indices

length_ahead : (ts : List Token) (i : Cursor) → length (remaining ts i) ≡ length (take 4294967295 ts) - i.at
unfolding remaining
length_ahead ts i = leaves_length i.at (map kind_of (drop i.at (take 4294967295 ts))) ∙ length-map (drop i.at (take 4294967295 ts)) kind_of ∙ length-drop i.at (take 4294967295 ts)

pub same_place : (ts : List Token) (i j : Cursor) → remaining ts i ≡ remaining ts j → 0 < length (remaining ts j) → i.at ≡ j.at
same_place ts i j e h = omega (arith, length_ahead ts i, length_ahead ts j, ap length e, h)

pub same_ahead : (ts : List Token) (i j : Cursor) → i.at ≡ j.at → remaining ts i ≡ remaining ts j
same_ahead ts i j e = ap (λ (n : ℕ). let k : Cursor = record { at = n } in remaining ts k) e

-- ---- lists

nothing_between : (xs a : List Leaf) → xs ++ a ≡ a → xs ≡ []
nothing_between [] a e = refl
nothing_between (x ∷ xs) a e = absurd (omega (arith, ap length e, length-append xs a))

no_longer : (x : Leaf) (a : List Leaf) → a ≡ x ∷ a → ⊥
no_longer x a e = omega (arith, ap length e)

-- ---- names at the start

abbrev front_of : Leaf × List Leaf → Option (Leaf × List Leaf)
front_of x = Some x

abbrev dot_front : List Leaf → Option (Events × List Leaf)
dot_front ls = Some (word kinds.Dot, ls)

named_is : (n : ℕ) (ls : List Leaf) (o : Option (Leaf × List Leaf)) → Some (n, ls) ≡ leading_name o → o ≡ Some (leafs.Name n, ls)
named_is n ls None e = absurd cc
named_is n ls (Some (leafs.Name m, rest)) e = ap (λ (z : ℕ × List Leaf). front_of (leafs.Name z.0, z.1)) (sym (some_is (n, ls) (m, rest) e))
named_is n ls (Some (leafs.Value k m, rest)) e = absurd cc
named_is n ls (Some (leafs.Word k, rest)) e = absurd cc

front_is : (x : Leaf) (rest ls : List Leaf) → uncons ls ≡ Some (x, rest) → ls ≡ x ∷ rest
front_is x rest [] e = absurd cc
front_is x rest (y ∷ ls) e = ap (λ (z : Leaf × List Leaf). z.0 ∷ z.1) (some_is (y, ls) (x, rest) e)

tail_is : (x y : Leaf) (a b : List Leaf) → x ∷ a ≡ y ∷ b → (x ≡ y) × (a ≡ b)
tail_is x y a b e = (cc, cc)

-- the first token is no name
pub no_name_told : (ls rest a : List Leaf) → None ≡ leading_name (uncons ls) → ls ≡ rest ++ a → IsSoleName rest sole_names.No
no_name_told ls [] a e h k = refl
no_name_told ls (leafs.Name n ∷ rest) a e h k = absurd (let z : None ≡ leading_name (uncons (leafs.Name n ∷ (rest ++ a))) = e ∙ ap (λ (x : List Leaf). leading_name (uncons x)) h in cc)
no_name_told ls (leafs.Value l n ∷ rest) a e h k = refl
no_name_told ls (leafs.Word w ∷ rest) a e h k = refl

-- no token is between the cursors
pub empty_told : (ls rest a : List Leaf) → ls ≡ a → ls ≡ rest ++ a → IsSoleName rest sole_names.No
empty_told ls rest a e h k = ap (λ (x : List Leaf). sole_name_of x k) (nothing_between rest a (sym h ∙ e))

-- one name is between the cursors
pub bare_told : (n : ℕ) (ls following rest a : List Leaf) → Some (n, following) ≡ leading_name (uncons ls) → following ≡ a → ls ≡ rest ++ a → IsSoleName rest sole_names.Bare
bare_told n ls following [] a e s h k = absurd (no_longer (leafs.Name n) a (sym h ∙ front_is (leafs.Name n) following ls (named_is n following (uncons ls) e) ∙ ap (λ (x : List Leaf). leafs.Name n ∷ x) s))
bare_told n ls following (x ∷ rest) a e s h k =
    let z = tail_is x (leafs.Name n) (rest ++ a) following (sym h ∙ front_is (leafs.Name n) following ls (named_is n following (uncons ls) e)) in
    let none : rest ≡ [] = nothing_between rest a (z.1 ∙ s) in
    ap (λ (y : Leaf). sole_name_of (y ∷ rest) k) z.0 ∙ ap (λ (ys : List Leaf). sole_name_of (leafs.Name n ∷ ys) k) none

-- a name comes first, and more tokens after it
more_behind : (ts : List Token) (following here : Cursor) (rest : List Leaf) → (following.at ≡ here.at → ⊥) → rest ++ remaining ts here ≡ remaining ts following → 0 < length (remaining ts here) → 0 < length rest
more_behind ts following here [] g h left = absurd (g (same_place ts following here (sym h) left))
more_behind ts following here (x ∷ rest) g h left = omega arith

pub name_then_told : (l : SoleName) (n : ℕ) (ts : List Token) (input following here : Cursor) (rest : List Leaf) → Some (n, remaining ts following) ≡ leading_name (uncons (remaining ts input)) →
    (input.at ≡ here.at → ⊥) → (following.at ≡ here.at → ⊥) → remaining ts input ≡ rest ++ remaining ts here → 0 < length (remaining ts here) →
    ((m : ℕ) (ls : List Leaf) → remaining ts following ≡ ls ++ remaining ts here → 0 < length (remaining ts here) → 0 < length ls → IsSoleName (leafs.Name m ∷ ls) l) → IsSoleName rest l
name_then_told l n ts input following here [] e f g h left dotted = absurd (f (same_place ts input here h left))
name_then_told l n ts input following here (x ∷ rest) e f g h left dotted =
    let z = tail_is x (leafs.Name n) (rest ++ remaining ts here) (remaining ts following) (sym h ∙ front_is (leafs.Name n) (remaining ts following) (remaining ts input) (named_is n (remaining ts following) (uncons (remaining ts input)) e)) in
    subst (λ (y : Leaf). IsSoleName (y ∷ rest) l) (sym z.0) (dotted n rest (sym z.1) left (more_behind ts following here rest g z.1 left))

-- ---- after a name

-- no dot follows
pub no_dot_told : (n : ℕ) (ls rest a : List Leaf) → None ≡ accept_at kinds.Dot ls → ls ≡ rest ++ a → 0 < length rest → IsSoleName (leafs.Name n ∷ rest) sole_names.No
unfolding accept_at
no_dot_told n ls [] a e h left k = absurd (omega (arith, left))
no_dot_told n ls (leafs.Word kinds.Dot ∷ rest) a e h left k = absurd (let z : None ≡ accept_at kinds.Dot (leafs.Word kinds.Dot ∷ (rest ++ a)) = e ∙ ap (accept_at kinds.Dot) h in cc)
no_dot_told n ls (x ∷ rest) a e h left k = refl

dot_chosen : (j : Kind) (b : Bool) (ls rest : List Leaf) → b ≡ kind_eq j kinds.Dot → dot_front rest ≡ cond b (dot_front ls) None → (j ≡ kinds.Dot) × (ls ≡ rest)
dot_chosen j true ls rest s e = (same_is j kinds.Dot (sym s), ap (λ (z : Events × List Leaf). z.1) (sym (some_is (word kinds.Dot, rest) (word kinds.Dot, ls) e)))
dot_chosen j false ls rest s e = absurd cc

-- a dot follows
dot_is : (ls rest : List Leaf) → Some (word kinds.Dot, rest) ≡ accept_at kinds.Dot ls → ls ≡ leafs.Word kinds.Dot ∷ rest
unfolding accept_at
dot_is [] rest e = absurd cc
dot_is (leafs.Name n ∷ ls) rest e = absurd cc
dot_is (leafs.Value l n ∷ ls) rest e = absurd cc
dot_is (leafs.Word j ∷ ls) rest e = let z = dot_chosen j (kind_eq j kinds.Dot) ls rest refl e in ap (λ (w : Kind). leafs.Word w ∷ ls) z.0 ∙ ap (λ (x : List Leaf). leafs.Word kinds.Dot ∷ x) z.1

-- the token after the dot is no name
no_second : (n : ℕ) (ls rest a : List Leaf) → None ≡ leading_name (uncons ls) → rest ++ a ≡ ls → IsSoleName (leafs.Name n ∷ leafs.Word kinds.Dot ∷ rest) sole_names.No
no_second n ls [] a e h k = refl
no_second n ls (leafs.Name m ∷ rest) a e h k = absurd (let z : None ≡ leading_name (uncons (leafs.Name m ∷ (rest ++ a))) = e ∙ ap (λ (x : List Leaf). leading_name (uncons x)) (sym h) in cc)
no_second n ls (leafs.Value l m ∷ rest) a e h k = refl
no_second n ls (leafs.Word w ∷ rest) a e h k = refl

with_dot : (l : SoleName) (n : ℕ) (ls following rest a : List Leaf) → Some (word kinds.Dot, following) ≡ accept_at kinds.Dot ls → ls ≡ rest ++ a → 0 < length rest →
    ((ys : List Leaf) → ys ++ a ≡ following → IsSoleName (leafs.Name n ∷ leafs.Word kinds.Dot ∷ ys) l) → IsSoleName (leafs.Name n ∷ rest) l
with_dot l n ls following [] a e h left f = absurd (omega (arith, left))
with_dot l n ls following (x ∷ ys) a e h left f =
    let z = tail_is x (leafs.Word kinds.Dot) (ys ++ a) following (sym h ∙ dot_is ls following e) in
    subst (λ (y : Leaf). IsSoleName (leafs.Name n ∷ y ∷ ys) l) (sym z.0) (f ys z.1)

pub no_second_told : (n : ℕ) (ls following rest a : List Leaf) → Some (word kinds.Dot, following) ≡ accept_at kinds.Dot ls → None ≡ leading_name (uncons following) → ls ≡ rest ++ a → 0 < length rest → IsSoleName (leafs.Name n ∷ rest) sole_names.No
no_second_told n ls following rest a e s h left = with_dot sole_names.No n ls following rest a e h left (λ ys q. no_second n following ys a s q)

-- a name comes after the dot, and nothing after it
second : (n m : ℕ) (following end ys a : List Leaf) → Some (m, end) ≡ leading_name (uncons following) → end ≡ a → ys ++ a ≡ following → IsSoleName (leafs.Name n ∷ leafs.Word kinds.Dot ∷ ys) sole_names.Dotted
second n m following end [] a e s h k = absurd (no_longer (leafs.Name m) a (h ∙ front_is (leafs.Name m) end following (named_is m end (uncons following) e) ∙ ap (λ (x : List Leaf). leafs.Name m ∷ x) s))
second n m following end (x ∷ ys) a e s h k =
    let z = tail_is x (leafs.Name m) (ys ++ a) end (h ∙ front_is (leafs.Name m) end following (named_is m end (uncons following) e)) in
    let none : ys ≡ [] = nothing_between ys a (z.1 ∙ s) in
    ap (λ (y : Leaf). sole_name_of (leafs.Name n ∷ leafs.Word kinds.Dot ∷ y ∷ ys) k) z.0 ∙ ap (λ (zs : List Leaf). sole_name_of (leafs.Name n ∷ leafs.Word kinds.Dot ∷ leafs.Name m ∷ zs) k) none

pub second_told : (n m : ℕ) (ls following end rest a : List Leaf) → Some (word kinds.Dot, following) ≡ accept_at kinds.Dot ls → Some (m, end) ≡ leading_name (uncons following) → end ≡ a → ls ≡ rest ++ a → 0 < length rest →
    IsSoleName (leafs.Name n ∷ rest) sole_names.Dotted
second_told n m ls following end rest a e f s h left = with_dot sole_names.Dotted n ls following rest a e h left (λ ys q. second n m following end ys a f s q)

-- a name comes after the dot, and more tokens after it
third : (n m : ℕ) (ts : List Token) (following end here : Cursor) (ys : List Leaf) → Some (m, remaining ts end) ≡ leading_name (uncons (remaining ts following)) → (end.at ≡ here.at → ⊥) → ys ++ remaining ts here ≡ remaining ts following →
    0 < length (remaining ts here) → IsSoleName (leafs.Name n ∷ leafs.Word kinds.Dot ∷ ys) sole_names.No
third n m ts following end here [] e g h left k = refl
third n m ts following end here (x ∷ []) e g h left k =
    absurd (g (same_place ts end here (sym (tail_is x (leafs.Name m) (remaining ts here) (remaining ts end) (h ∙ front_is (leafs.Name m) (remaining ts end) (remaining ts following) (named_is m (remaining ts end) (uncons (remaining ts following)) e))).1) left))
third n m ts following end here (x ∷ y ∷ ys) e g h left k = lone_long (leafs.Name n) (leafs.Word kinds.Dot) x y ys k

pub third_told : (n m : ℕ) (ts : List Token) (input following end here : Cursor) (rest : List Leaf) → Some (word kinds.Dot, remaining ts following) ≡ accept_at kinds.Dot (remaining ts input) →
    Some (m, remaining ts end) ≡ leading_name (uncons (remaining ts following)) → (end.at ≡ here.at → ⊥) → remaining ts input ≡ rest ++ remaining ts here → 0 < length (remaining ts here) → 0 < length rest → IsSoleName (leafs.Name n ∷ rest) sole_names.No
third_told n m ts input following end here rest e f g h left some =
    with_dot sole_names.No n (remaining ts input) (remaining ts following) rest (remaining ts here) e h some (λ ys q. third n m ts following end here ys f g q left)
