-- ARRAY OF occurs at most as often as there are tokens.
use Rattle.std.proofs.Common.{◌≡◌, ℕ, zero, suc, ◌+◌, ◌<◌, ◌^◌, List, ◌++◌, length, drop, take, length-drop, length-take, Some, Ok, map, ap, ◌∙◌, arith}
use Rattle.std.proofs.lemmas.List.{length-map}
use Rattle.ob_scan.specs.declared.kind.Kind.TheVariants as kinds
use Rattle.ob_scan.specs.declared.token.Token.{Token}
use Rattle.ob_tree.specs.declared.token.Leaf.{Leaf}
use Rattle.ob_tree.specs.TreeEvents.{Events, word, times}
use Rattle.ob_tree.proofs.Eaches.{times_more}
use Rattle.ob_grammar.specs.declared.cursor.Cursor.{Cursor}
use Rattle.ob_grammar.specs.Combinators.{Read, many, accept_at, expect_at}
use Rattle.ob_grammar.specs.ParsesAs.{remaining, kind_of}
use Rattle.ob_grammar.proofs.Remaining.{leaves_length}
use Rattle.ob_grammar.proofs.Compatible.{expect_held}
use Rattle.ob_grammar.proofs.Sound.{sound}
use Rattle.ob_grammar.proofs.Loops.{Advances, with_front, goes_on, accept_advances}

abbrev pub array_of : Events
array_of = word kinds.Array ++ word kinds.Of

pub array_advances : Advances (accept_at kinds.Array) (expect_at kinds.Of)
array_advances = accept_advances zero kinds.Array _ (expect_held sound kinds.Of)

pub fewer : (ls rest after : List Leaf) → accept_at kinds.Array ls ≡ Some (word kinds.Array, rest) → expect_at kinds.Of rest ≡ Ok (word kinds.Of, after)
    → length after < length ls
fewer ls rest after e f = array_advances.shorter ls (word kinds.Array, rest) (word kinds.Of, after) e f

once_more : (n : ℕ) (o : Events) → times (n + 1) o ≡ times n o ++ o
once_more n o =
    let e : n + 1 ≡ suc n = omega arith in
    ap (λ (m : ℕ). times m o) e ∙ times_more n o

pub one_more : (n : ℕ) (ls rest after : List Leaf) (total : Read) → accept_at kinds.Array ls ≡ Some (word kinds.Array, rest) → expect_at kinds.Of rest ≡ Ok (word kinds.Of, after)
    → with_front (times n array_of) (many (accept_at kinds.Array) (expect_at kinds.Of) ls) ≡ total
    → with_front (times (n + 1) array_of) (many (accept_at kinds.Array) (expect_at kinds.Of) after) ≡ total
one_more n ls rest after total e f h =
    ap (λ (o : Events). with_front o (many (accept_at kinds.Array) (expect_at kinds.Of) after)) (once_more n array_of)
    ∙ goes_on (accept_at kinds.Array) (expect_at kinds.Of) array_advances (times n array_of) ls (word kinds.Array, rest) (word kinds.Of, after) total e f h

pub few_ahead : (ts : List Token) (i : Cursor) → length (remaining ts i) < 2 ^ 32
unfolding remaining
few_ahead ts i =
    let some = take 4294967295 ts in
    omega (arith, leaves_length i.at (map kind_of (drop i.at some)), length-map (drop i.at some) kind_of, length-drop i.at some, length-take 4294967295 ts)
