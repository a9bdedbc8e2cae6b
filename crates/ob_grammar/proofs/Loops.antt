-- Items that are read one after the other in a loop.
use Rattle.std.proofs.Common.{◌≡◌, ℕ, zero, suc, Bool, true, false, cond, ◌<◌, ◌≤◌, List, [], ◌∷◌, ◌++◌, length, Some, None, Ok, Err, refl, sym, ap, subst, ◌∙◌, append_assoc, arith, length-append}
use Rattle.std.proofs.lemmas.List.{append-nil}
use Rattle.ob_scan.specs.declared.kind.Kind.{Kind}
use Rattle.ob_scan.specs.declared.kind.Kind.TheVariants as kinds
use Rattle.ob_tree.specs.declared.token.Leaf.{Leaf}
use Rattle.ob_tree.specs.declared.token.Leaf.TheVariants as leafs
use Rattle.ob_tree.specs.Leaves.{kind_eq}
use Rattle.ob_tree.specs.Constructs.{Construct}
use Rattle.ob_tree.specs.declared.role.Role.TheVariants.{Selects}
use Rattle.ob_tree.specs.TreeEvents.{Events, tokens_of, construct, word, declared, each}
use Rattle.ob_tree.specs.Expressions.{mul_kind, add_kind}
use Rattle.ob_tree.proofs.Eaches.{each_push}
use Rattle.ob_grammar.specs.Lookahead.{uncons, head_is}
use Rattle.ob_grammar.specs.Combinators.{Unexpected, ◌>>=◌, Read, Reader, Lookahead, Start, expect_at, accept_at, identifier_at, after_name, is_something, led_by, begins, seq, prefixed, node, after_start, repeat_up_to, many, several}
use Rattle.ob_grammar.specs.ReadNames.{identdef_after, identdef_at}
use Rattle.ob_grammar.specs.ReadExpressions.{mul_start, add_start, mul_at, add_at, as_word, selector_first, selector_from, selector_with}
use Rattle.ob_grammar.specs.ReadTypes.{var_with, after_semicolon, field_lookahead, field_start}
use Rattle.ob_grammar.specs.ReadModules.{is_identifier, ConsumesToken, with_semicolon, const_with, type_decl_with, variable_with}
use Rattle.ob_grammar.proofs.Compatible.{Started, nothing_held, seq_held, optional_held, many_held, expect_held, accept_starts, several_held, name_held}
use Rattle.ob_grammar.proofs.CompatibleProductions.{identdef_held, mul_starts, add_starts, closed_held}
use Rattle.ob_grammar.proofs.Sound.{Sound, Takes, sound, bind_ok, ok_is, done, some_is, identifier_spelt}
use Rattle.ob_grammar.proofs.Taking.{GivesBy, given}

-- the items that were read, and the rest that is still to be read
abbrev pub with_front : Events → Read → Read
with_front head_is read = read >>= λ x. Ok (head_is ++ x.0, x.1)

-- a prefix is found by some token, and one iteration takes one token or more
pub record Advances (start : Start) (r : Reader) : Type 0 where
  pub empty : start [] ≡ None
  pub shorter : (ls : List Leaf) (s a : Events × List Leaf) → start ls ≡ Some s → r s.1 ≡ Ok a → length a.1 < length ls

bind_same : (m : Read) (ms : Events) (t u : Reader) → ((a : Events × List Leaf) → m ≡ Ok a → t a.1 ≡ u a.1)
    → with_front ms (m >>= λ a. t a.1 >>= λ b. Ok (a.0 ++ b.0, b.1)) ≡ with_front ms (m >>= λ a. u a.1 >>= λ b. Ok (a.0 ++ b.0, b.1))
bind_same (Ok a) ms t u h = ap (λ (z : Read). with_front ms (z >>= λ b. Ok (a.0 ++ b.0, b.1))) (h a refl)
bind_same (Err e) ms t u h = refl

step_same : (r t u : Reader) (ls : List Leaf) (f : Lookahead Events) → ((s a : Events × List Leaf) → f ≡ Some s → r s.1 ≡ Ok a → t a.1 ≡ u a.1) → after_start (seq r t) ls f ≡ after_start (seq r u) ls f
step_same r t u ls None h = refl
step_same r t u ls (Some s) h = bind_same (r s.1) s.0 t u (λ a e. h s a refl e)

nothing_found : (r t : Reader) (ls : List Leaf) (f : Lookahead Events) → f ≡ None → after_start (seq r t) ls f ≡ Ok ([], ls)
nothing_found r t ls None e = refl
nothing_found r t ls (Some s) e = absurd cc

enough : (start : Start) (r : Reader) → Advances start r → (n m : ℕ) (ls : List Leaf) → length ls ≤ n → length ls ≤ m → repeat_up_to start r n ls ≡ repeat_up_to start r m ls
enough start r adv zero zero ls a b = refl
enough start r adv zero (suc m) [] a b = sym (nothing_found r (repeat_up_to start r m) [] (start []) adv.empty)
enough start r adv zero (suc m) (l ∷ ls) a b = absurd (omega arith)
enough start r adv (suc n) zero [] a b = nothing_found r (repeat_up_to start r n) [] (start []) adv.empty
enough start r adv (suc n) zero (l ∷ ls) a b = absurd (omega arith)
enough start r adv (suc n) (suc m) ls a b =
    step_same r (repeat_up_to start r n) (repeat_up_to start r m) ls (start ls) (λ s x e f. let lt : length x.1 < length ls = adv.shorter ls s x e f in enough start r adv n m x.1 (omega arith) (omega arith))

pub many_step : (start : Start) (r : Reader) → Advances start r → (ls : List Leaf) → many start r ls ≡ after_start (seq r (many start r)) ls (start ls)
unfolding many
many_step start r adv [] = sym (nothing_found r (many start r) [] (start []) adv.empty)
many_step start r adv (l ∷ ls) =
    step_same r (repeat_up_to start r (length ls)) (many start r) (l ∷ ls) (start (l ∷ ls))
    (λ s x e f. let lt : length x.1 < length (l ∷ ls) = adv.shorter (l ∷ ls) s x e f in enough start r adv (length ls) (length x.1) x.1 (omega arith) (omega arith))

regroup : (head_is x y : Events) (read : Read) → with_front head_is (with_front x (read >>= λ b. Ok (y ++ b.0, b.1))) ≡ with_front (head_is ++ (x ++ y)) read
regroup head_is x y (Ok b) = ap (λ (o : Events). done (o, b.1)) (simp append_assoc)
regroup head_is x y (Err e) = refl

pub goes_on : (start : Start) (r : Reader) → Advances start r → (head_is : Events) (ls : List Leaf) (s a : Events × List Leaf) (total : Read) → start ls ≡ Some s → r s.1 ≡ Ok a
    → with_front head_is (many start r ls) ≡ total → with_front (head_is ++ (s.0 ++ a.0)) (many start r a.1) ≡ total
goes_on start r adv head_is ls s a total e f h = sym (rw (many_step start r adv ls, e, f) (regroup head_is s.0 a.0 (many start r a.1))) ∙ h

pub is_done : (start : Start) (r : Reader) → Advances start r → (head_is : Events) (ls : List Leaf) (total : Read) → start ls ≡ None → with_front head_is (many start r ls) ≡ total → total ≡ Ok (head_is, ls)
is_done start r adv head_is ls total e h = sym h ∙ rw (many_step start r adv ls, e) (ap (λ (o : Events). done (o, ls)) (append-nil head_is))

---- the invariant of a loop of the parser

pub pushed : {X : Type 0} (start : Start) (r : Reader) → Advances start r → (f : X → Events) (xs ys : List X) (x : X) (ls : List Leaf) (s a : Events × List Leaf) (total : Read)
    → ys ≡ xs ++ x ∷ [] → start ls ≡ Some s → r s.1 ≡ Ok a → f x ≡ s.0 ++ a.0 → with_front (each f xs) (many start r ls) ≡ total → with_front (each f ys) (many start r a.1) ≡ total
pushed start r adv f xs ys x ls s a total y e g o h = rw (y, each_push f xs x, o) (goes_on start r adv (each f xs) ls s a total e g h)

pub marked_some : {X : Type 0} (kind : X → Kind) (x : X) (rest : List Leaf) (f : Lookahead X) → Some (x, rest) ≡ f → as_word kind f ≡ Some (word (kind x), rest)
marked_some kind x rest f e = ap (as_word kind) (sym e)

pub marked_none : {X : Type 0} (kind : X → Kind) (f : Lookahead X) → None ≡ f → as_word kind f ≡ None
marked_none kind f e = ap (as_word kind) (sym e)

pub has_begun : (p : Leaf → Bool) (ls : List Leaf) → head_is p (uncons ls) ≡ true → begins p ls ≡ Some ([], ls)
unfolding begins
has_begun p ls e = rw e refl

pub has_not_begun : (p : Leaf → Bool) (ls : List Leaf) → head_is p (uncons ls) ≡ false → begins p ls ≡ None
unfolding begins
has_not_begun p ls e = rw e refl

---- readers that shorten the list of tokens

-- a reader leaves at most the tokens that there were
abbrev pub NoLonger : Reader → Type 0
NoLonger r = (ls : List Leaf) (x : Events × List Leaf) → r ls ≡ Ok x → length x.1 ≤ length ls

takes_no_longer : (d : ℕ) (ls : List Leaf) (o : Events) (rest : List Leaf) → Takes d ls o rest → length rest ≤ length ls
takes_no_longer d ls o rest t = omega (arith, ap length t.parts, length-append (tokens_of o) rest)

pub sound_no_longer : (d : ℕ) (r : Reader) → Sound d r → NoLonger r
sound_no_longer d r h ls x e = takes_no_longer d ls x.0 x.1 (given Takes h ls x e)

-- the tokens that are left after a prefix and an item
left_same : (o : Events) (rest : List Leaf) (x : Events × List Leaf) → done (o, rest) ≡ Ok x → rest ≡ x.1
left_same o rest x e = ap (λ (z : Events × List Leaf). z.1) (ok_is (o, rest) x e)

pub shortens_seq : (r s : Reader) → ConsumesToken r → NoLonger s → ConsumesToken (seq r s)
shortens_seq r s hr hs ls x e =
    let a = bind_ok (r ls) (λ a. s a.1 >>= λ b. Ok (a.0 ++ b.0, b.1)) x e in
    let b = bind_ok (s a.0.1) (λ b. Ok (a.0.0 ++ b.0, b.1)) x a.2 in
    let less : length a.0.1 < length ls = hr ls a.0 a.1 in
    let no_more : length b.0.1 ≤ length a.0.1 = hs a.0.1 b.0 b.1 in
    omega (arith, ap length (left_same (a.0.0 ++ b.0.0) b.0.1 x b.2))

pub shortens_node : (c : Construct) (r : Reader) → ConsumesToken r → ConsumesToken (node c r)
shortens_node c r hr ls x e =
    let a = bind_ok (r ls) (λ a. Ok (construct c a.0, a.1)) x e in
    let less : length a.0.1 < length ls = hr ls a.0 a.1 in
    omega (arith, ap length (left_same (construct c a.0.0) a.0.1 x a.2))

pub no_longer_prefixed : (ms : Events) (r : Reader) → NoLonger r → NoLonger (prefixed ms r)
no_longer_prefixed ms r hr ls x e =
    let a = bind_ok (r ls) (λ a. Ok (ms ++ a.0, a.1)) x e in
    let no_more : length a.0.1 ≤ length ls = hr ls a.0 a.1 in
    omega (arith, ap length (left_same (ms ++ a.0.0) a.0.1 x a.2))

no_longer_led : (ms : Events → Events) (r : Reader) → NoLonger r → NoLonger (led_by ms r)
no_longer_led ms r hr ls x e =
    let a = bind_ok (r ls) (λ a. Ok (ms a.0 ++ a.0, a.1)) x e in
    let no_more : length a.0.1 ≤ length ls = hr ls a.0 a.1 in
    omega (arith, ap length (left_same (ms a.0.0 ++ a.0.0) a.0.1 x a.2))

pub shortens_several : (d : ℕ) (k : Kind) (item : Reader) → Sound d item → ConsumesToken item → ConsumesToken (several k item)
unfolding several
shortens_several d k item h s = shortens_seq item (many (accept_at k) item) s (sound_no_longer d (many (accept_at k) item) (many_held sound (accept_starts sound k) h))

shortens_behind_name : (r : ℕ → Reader) → ((n : ℕ) → NoLonger (r n)) → ConsumesToken (after_name r)
shortens_behind_name r hr ls x e =
    let a = bind_ok (identifier_at ls) (λ a. r a.0 a.1) x e in
    let no_more : length x.1 ≤ length a.0.1 = hr a.0.0 a.0.1 x a.2 in
    omega (arith, ap length (identifier_spelt ls a.0 a.1))

expected_shortens : (k : Kind) (b : Bool) (rest : List Leaf) (j : Kind) (x : Events × List Leaf) → cond b (done (word k, rest)) (Err (Unexpected (Some (leafs.Word j, rest)))) ≡ Ok x → length x.1 < length (leafs.Word j ∷ rest)
expected_shortens k true rest j x e = omega (arith, ap length (left_same (word k) rest x e))
expected_shortens k false rest j x e = absurd cc

pub shortens_expect : (k : Kind) → ConsumesToken (expect_at k)
unfolding expect_at
shortens_expect k [] x e = absurd cc
shortens_expect k (leafs.Name n ∷ rest) x e = absurd cc
shortens_expect k (leafs.Value v n ∷ rest) x e = absurd cc
shortens_expect k (leafs.Word j ∷ rest) x e = expected_shortens k (kind_eq j k) rest j x e

---- readers that take a token

word_front : {X : Type 0} (d : ℕ) (kind : X → Kind) (ls : List Leaf) (f : Lookahead X) (x : Events × List Leaf) → Started (GivesBy Takes) d ls (as_word kind f) → as_word kind f ≡ Some x
    → length x.1 < length ls
word_front d kind ls None x t e = absurd cc
word_front d kind ls (Some y) x t e =
    let same : y.1 ≡ x.1 = ap (λ (z : Events × List Leaf). z.1) (some_is (word (kind y.0), y.1) x e) in
    omega (arith, ap length t.parts, ap length same)

pub mul_advances : (d : ℕ) (r : Reader) → Sound d r → Advances mul_start r
unfolding mul_at
mul_advances d r h = record { empty = refl; shorter = λ ls s a e f. omega (arith, word_front d mul_kind ls (mul_at ls) s ((mul_starts sound).at ls) e, sound_no_longer d r h s.1 a f) }

pub add_advances : (d : ℕ) (r : Reader) → Sound d r → Advances add_start r
unfolding add_at
add_advances d r h = record { empty = refl; shorter = λ ls s a e f. omega (arith, word_front d add_kind ls (add_at ls) s ((add_starts sound).at ls) e, sound_no_longer d r h s.1 a f) }

accepted_shorter : (k : Kind) (b : Bool) (rest : List Leaf) (j : Kind) (x : Events × List Leaf) → cond b (Some (word k, rest)) None ≡ Some x → length x.1 < length (leafs.Word j ∷ rest)
accepted_shorter k true rest j x e = omega (arith, ap length (ap (λ (z : Events × List Leaf). z.1) (some_is (word k, rest) x e)))
accepted_shorter k false rest j x e = absurd cc

accept_shorter : (k : Kind) (ls : List Leaf) (x : Events × List Leaf) → accept_at k ls ≡ Some x → length x.1 < length ls
unfolding accept_at
accept_shorter k [] x e = absurd cc
accept_shorter k (leafs.Name n ∷ rest) x e = absurd cc
accept_shorter k (leafs.Value v n ∷ rest) x e = absurd cc
accept_shorter k (leafs.Word j ∷ rest) x e = accepted_shorter k (kind_eq j k) rest j x e

pub accept_advances : (d : ℕ) (k : Kind) (r : Reader) → Sound d r → Advances (accept_at k) r
unfolding accept_at
accept_advances d k r h = record { empty = refl; shorter = λ ls s a e f. omega (arith, accept_shorter k ls s e, sound_no_longer d r h s.1 a f) }

behind_semicolon_shorter : (ls rest : List Leaf) (x : Events × List Leaf) → after_semicolon ls (uncons rest) ≡ Some x → x.1 ≡ ls
behind_semicolon_shorter ls [] x e = absurd cc
behind_semicolon_shorter ls (leafs.Name n ∷ rest) x e = sym (ap (λ (z : Events × List Leaf). z.1) (some_is (word kinds.Semicolon, ls) x e))
behind_semicolon_shorter ls (leafs.Value v n ∷ rest) x e = absurd cc
behind_semicolon_shorter ls (leafs.Word j ∷ rest) x e = absurd cc

next_field_shorter : (ls : List Leaf) (x : Events × List Leaf) → field_lookahead (uncons ls) ≡ Some x → length x.1 < length ls
next_field_shorter [] x e = absurd cc
next_field_shorter (leafs.Word kinds.Semicolon ∷ rest) x e = omega (arith, ap length (behind_semicolon_shorter rest rest x e))
next_field_shorter (l ∷ rest) x e = absurd cc

-- a field list after a semicolon
pub field_advances : (d : ℕ) (r : Reader) → Sound d r → Advances field_start r
unfolding field_start
field_advances d r h = record { empty = refl; shorter = λ ls s a e f. omega (arith, next_field_shorter ls s e, sound_no_longer d r h s.1 a f) }

begun_same : (b : Bool) (ls : List Leaf) (s : Events × List Leaf) → cond b (Some ([], ls)) None ≡ Some s → s.1 ≡ ls
begun_same true ls s e = sym (ap (λ (z : Events × List Leaf). z.1) (some_is ([], ls) s e))
begun_same false ls s e = absurd cc

-- if the start takes no token, the item takes one
pub begins_advances : (p : Leaf → Bool) (r : Reader) → ConsumesToken r → Advances (begins p) r
unfolding begins
begins_advances p r h = record {
  empty = refl;
  shorter = λ ls s a e f.
      let same : s.1 ≡ ls = begun_same (head_is p (uncons ls)) ls s e in
      h ls a (subst (λ (z : List Leaf). r z ≡ Ok a) same f);
}

-- ---- the loops of the grammar

shortens_behind : (l : Leaf) (ms : Events) (r : Reader) → NoLonger r → (rest : List Leaf) (x : Events × List Leaf) → prefixed ms r rest ≡ Ok x → length x.1 < length (l ∷ rest)
shortens_behind l ms r h rest x e = let no_more : length x.1 ≤ length rest = no_longer_prefixed ms r h rest x e in omega arith

selector_from_shortens : (d : ℕ) (r : Reader) → Sound d r → ConsumesToken (λ ls. selector_from r (uncons ls))
selector_from_shortens d r h [] x e = absurd cc
selector_from_shortens d r h (leafs.Word kinds.Dot ∷ rest) x e = shortens_behind (leafs.Word kinds.Dot) (word kinds.Dot) _ (sound_no_longer d _ (name_held sound Selects tt)) rest x e
selector_from_shortens d r h (leafs.Word kinds.LeftBracket ∷ rest) x e =
    shortens_behind (leafs.Word kinds.LeftBracket) (word kinds.LeftBracket) _ (sound_no_longer d _ (seq_held sound (several_held sound kinds.Comma h) (expect_held sound kinds.RightBracket))) rest x e
selector_from_shortens d r h (leafs.Word kinds.Caret ∷ rest) x e = omega (arith, ap length (left_same (word kinds.Caret) rest x e))
selector_from_shortens d r h (leafs.Word kinds.LeftParen ∷ rest) x e =
    shortens_behind (leafs.Word kinds.LeftParen) (word kinds.LeftParen) _ (sound_no_longer d _ (closed_held sound kinds.RightParen h)) rest x e
selector_from_shortens d r h (l ∷ rest) x e = absurd cc

selector_shortens : (d : ℕ) (r : Reader) → Sound d r → ConsumesToken (selector_with r)
unfolding selector_with
selector_shortens d r h = shortens_node _ _ (selector_from_shortens d r h)

pub selector_advances : (d : ℕ) (r : Reader) → Sound d r → Advances (begins selector_first) (selector_with r)
selector_advances d r h = begins_advances selector_first _ (selector_shortens d r h)

identdef_shortens : ConsumesToken identdef_at
unfolding identdef_at identdef_after
identdef_shortens = shortens_behind_name _ (λ n. no_longer_led (λ star. declared (is_something star) n) _ (sound_no_longer zero _ (optional_held sound (accept_starts sound kinds.Star) (nothing_held sound))))

pub declared_advances : (r : Reader) → ConsumesToken r → Advances (begins is_identifier) (with_semicolon r)
declared_advances r h = begins_advances is_identifier _ (shortens_seq r (expect_at kinds.Semicolon) h (sound_no_longer zero _ (expect_held sound kinds.Semicolon)))

pub const_shortens : (d : ℕ) (r : Reader) → Sound d r → ConsumesToken (const_with r)
unfolding const_with
const_shortens d r h = shortens_node _ _ (shortens_seq _ _ identdef_shortens (sound_no_longer d _ (seq_held sound (expect_held sound kinds.Equals) h)))

pub type_decl_shortens : (d : ℕ) (r : Reader) → Sound d r → ConsumesToken (type_decl_with r)
unfolding type_decl_with
type_decl_shortens d r h = shortens_node _ _ (shortens_seq _ _ identdef_shortens (sound_no_longer d _ (seq_held sound (expect_held sound kinds.Equals) h)))

var_shortens : (d : ℕ) (r : Reader) → Sound d r → ConsumesToken (var_with r)
unfolding var_with
var_shortens d r h = shortens_seq _ _ (shortens_several d kinds.Comma _ (identdef_held sound) identdef_shortens) (sound_no_longer d _ (seq_held sound (expect_held sound kinds.Colon) h))

pub variable_shortens : (d : ℕ) (r : Reader) → Sound d r → ConsumesToken (variable_with r)
unfolding variable_with
variable_shortens d r h = shortens_node _ _ (var_shortens d r h)
