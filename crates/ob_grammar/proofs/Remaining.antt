-- The next token, and the tokens after it.
use Rattle.std.proofs.Common.{◌≡◌, ℕ, suc, ◌+◌, ◌≤◌, ◌<◌, ◌^◌, List, [], ◌∷◌, length, map, drop, take, get_or, Option, Some, None, refl, sym, ap, ◌∙◌, arith}
use Rattle.std.proofs.lemmas.List.{drop_all, drop_more, get_or-take, length-take, take_all}
use Rattle.ob_scan.specs.declared.kind.Kind.{Kind}
use Rattle.ob_scan.specs.declared.token.Token.{Token}
use Rattle.ob_tree.specs.declared.token.Leaf.{Leaf}
use Rattle.ob_tree.specs.Leaves.{leaf_of, leaves_from}
use Rattle.ob_grammar.specs.declared.cursor.Cursor.{Cursor}
use Rattle.ob_grammar.specs.Lookahead.{uncons}
use Rattle.ob_grammar.specs.ParsesAs.{remaining, kind_of}

-- there are as many tokens as kinds
pub leaves_length : (n : ℕ) (kinds : List Kind) → length (leaves_from n kinds) ≡ length kinds
leaves_length n [] = refl
leaves_length n (k ∷ kinds) = ap suc (leaves_length (n + 1) kinds)

abbrev head_is : ℕ → List Token → Option (Leaf × List Leaf)
head_is n ts = uncons (leaves_from n (map kind_of ts))

none_left : (ts : List Token) (at : ℕ) → length (take 4294967295 ts) ≤ at → head_is at (drop at (take 4294967295 ts)) ≡ None
none_left ts at h = ap (head_is at) (drop_all at (take 4294967295 ts) h)

pub past_end : (ts : List Token) (i : Cursor) → length ts ≤ i.at → uncons (remaining ts i) ≡ None
unfolding remaining
past_end ts i h = none_left ts i.at (omega (arith, length-take 4294967295 ts, h))

pub past_numbers : (ts : List Token) (i : Cursor) → 4294967295 ≤ i.at → uncons (remaining ts i) ≡ None
unfolding remaining
past_numbers ts i h = none_left ts i.at (omega (arith, length-take 4294967295 ts, h))

pub next_ahead : (ts : List Token) (i : Cursor) (t : Token) (n : ℕ) → i.at < length ts → t ≡ get_or ts i.at t → n ≡ i.at + 1 → n < 4294967296 →
    uncons (remaining ts i) ≡ Some (leaf_of i.at t.kind, remaining ts (record { at = n }))
unfolding remaining
next_ahead ts i t n in_text e m lt =
    let some = take 4294967295 ts in
    let within : i.at < length some = omega (arith, length-take 4294967295 ts, in_text, m, lt) in
    let here : get_or some i.at t ≡ t = get_or-take 4294967295 ts i.at t (omega (arith, m, lt)) ∙ sym e in
    let parts : drop i.at some ≡ t ∷ drop (i.at + 1) some = drop_more some i.at t within ∙ ap (λ (x : Token). x ∷ drop (i.at + 1) some) here in
    rw m (ap (head_is i.at) parts)

pub all_remaining : (ts : List Token) → length ts < 2 ^ 32 → remaining ts (record { at = 0 }) ≡ leaves_from 0 (map kind_of ts)
unfolding remaining
all_remaining ts few = ap (λ (us : List Token). leaves_from 0 (map kind_of us)) (take_all 4294967295 ts (omega (arith, few)))
