-- The items of event sequences, layer by layer.
use Rattle.std.proofs.Common.{◌≡◌, ℕ, zero, suc, add-one, ◌+◌, List, [], ◌∷◌, ◌++◌, refl, sym, ap, ◌∙◌, ◌≤◌, min, append_assoc, length, length-append, set, arith}
use Rattle.ob_tree.specs.Constructs.{Construct}
use Rattle.ob_walk.specs.declared.item.Item.{Item}
use Rattle.ob_walk.specs.declared.item.Item.TheVariants as items
use Rattle.ob_tree.proofs.Eaches.{each_push, times_more}
use Rattle.ob_tree.specs.TreeEvents.{Events, Begins, Ends, Identifier, Value, Word, construct, each, times}
use Rattle.ob_walk.specs.Items.{items_of, with_items, with_item}
use Rattle.std.proofs.lemmas.List.{append-nil, take_all}
use Rattle.std.proofs.lemmas.Grind.{take_at_read}
use Rattle.std.proofs.Math.Seq.{set-append_seam}

pub items-append : (a b : Events) → items_of (a ++ b) ≡ items_of a ++ items_of b
items-append [] b = refl
items-append (Begins c n ∷ ms) b = items-append ms b
items-append (Ends c ∷ ms) b = items-append ms b
items-append (Identifier r n ∷ ms) b = ap (λ (o : List Item). items.Identifier r n ∷ o) (items-append ms b)
items-append (Value k n ∷ ms) b = ap (λ (o : List Item). items.Value n ∷ o) (items-append ms b)
items-append (Word k ∷ ms) b = ap (λ (o : List Item). items.Word ∷ o) (items-append ms b)

-- the begin and end of a construct give no item
pub items-construct : (c : Construct) (o : Events) → items_of (construct c o) ≡ items_of o
unfolding construct
items-construct c o = items-append o (Ends c ∷ []) ∙ append-nil (items_of o)

pub items-each_push : {X : Type 0} (f : X → Events) (xs : List X) (x : X) → items_of (each f (xs ++ x ∷ [])) ≡ items_of (each f xs) ++ items_of (f x)
items-each_push f xs x = rw (each_push, items-append) refl

pub items-times : (n : ℕ) (o : Events) → items_of (times (n + 1) o) ≡ items_of (times n o) ++ items_of o
items-times n o = rw (add-one, times_more, items-append) refl

pub with_items-with_items : (s : List Item × ℕ) (a b : List Item) → with_items (with_items s a) b ≡ with_items s (a ++ b)
unfolding with_items
with_items-with_items s [] b = refl
with_items-with_items s (x ∷ xs) b = with_items-with_items (with_item s x) xs b

pub with_items-none : (s : List Item × ℕ) → with_items s [] ≡ s
unfolding with_items
with_items-none s = refl

pub set_past : (xs : List Item) (i : ℕ) (x : Item) → length xs ≤ i → set xs i x ≡ xs
set_past [] i x h = refl
set_past (y ∷ ys) zero x h = absurd (omega arith)
set_past (y ∷ ys) (suc i) x h = ap (λ (o : List Item). y ∷ o) (set_past ys i x (omega arith))

pub counted : (s : List Item × ℕ) (xs : List Item) → s.1 ≤ 18446744073709551615 → (with_items s xs).1 ≡ min (s.1 + length xs) 18446744073709551615
unfolding with_items
counted s [] h = omega arith
counted s (x ∷ xs) h = omega (arith, counted (with_item s x) xs (omega arith))

filled_behind : (before after xs : List Item) → length after ≡ length xs → length before + length xs ≤ 18446744073709551615
    → (with_items (before ++ after, length before) xs).0 ≡ before ++ xs
unfolding with_items
filled_behind before [] [] e h = refl
filled_behind before [] (x ∷ xs) e h = absurd (omega arith)
filled_behind before (y ∷ ys) [] e h = absurd (omega arith)
filled_behind before (y ∷ ys) (x ∷ xs) e h =
    let n : length (before ++ x ∷ []) ≡ length before + 1 = length-append before (x ∷ []) in
    let at : min (length before + 1) 18446744073709551615 ≡ length (before ++ x ∷ []) = omega arith in
    let slots : set (before ++ y ∷ ys) (length before) x ≡ (before ++ x ∷ []) ++ ys = set-append_seam before y ys x ∙ sym (append_assoc before (x ∷ []) ys) in
    let one : with_item (before ++ y ∷ ys, length before) x ≡ ((before ++ x ∷ []) ++ ys, length (before ++ x ∷ [])) = rw (at, slots) refl in
    ap (λ (s : List Item × ℕ). (with_items s xs).0) one ∙ filled_behind (before ++ x ∷ []) ys xs (omega arith) (omega arith) ∙ append_assoc before (x ∷ []) xs

-- as many slots as items store all items
pub filled : (slots xs : List Item) → length slots ≡ length xs → length xs ≤ 18446744073709551615 → (with_items (slots, 0) xs).0 ≡ xs
filled slots xs e h = filled_behind [] slots xs e (omega arith)

pub ruleset walks = (with_items-with_items, with_items-none, append_assoc, append-nil, items-each_push, take_at_read, take_all)
