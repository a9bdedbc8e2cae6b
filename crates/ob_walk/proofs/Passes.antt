-- The result of a pass over the items of an event sequence.
use Rattle.std.proofs.Common.{◌≡◌, ℕ, ◌+◌, ◌<◌, suc, List, [], ◌∷◌, ◌++◌, length, take, get_or, refl, ap, ◌∙◌, arith}
use Rattle.std.specs.List.{filter_map}
use Rattle.std.proofs.lemmas.List.{append-nil, take_all, take_more, length-take-le}
use Rattle.std.proofs.lemmas.List.Elements.{filter_map-append}
use Rattle.std.proofs.lemmas.Grind.{take_at_read}
use Rattle.ob_walk.specs.declared.item.Item.{Item}
use Rattle.ob_walk.specs.Items.{items_of, declared_by, number_at, used_by}
use Rattle.ob_tree.specs.declared.role.Role.TheVariants.{Declares, Aliases, Imports, Uses, Completes, Selects, Names, Repeats}
use Rattle.ob_tree.specs.TreeEvents.{Events, Begins, Ends, Identifier, Value, Word, tokens_of}
use Rattle.ob_tree.specs.Derives.{declared_in, numbers_from, used_in}
use Rattle.ob_tree.proofs.TokenNumbers.{each_token_occurs_once}

-- ---- one more item

-- the numbers of items, the first of which has this index
abbrev pub numbers_at : ℕ → List Item → List ℕ
numbers_at at [] = []
numbers_at at (i ∷ is) = number_at at i ∷ numbers_at (at + 1) is

pub item_numbers : (at : ℕ) (ms : Events) → numbers_at at (items_of ms) ≡ numbers_from at ms
item_numbers at [] = refl
item_numbers at (Begins c n ∷ ms) = item_numbers at ms
item_numbers at (Ends c ∷ ms) = item_numbers at ms
item_numbers at (Identifier r n ∷ ms) = ap (λ (ns : List ℕ). n ∷ ns) (item_numbers (at + 1) ms)
item_numbers at (Value k n ∷ ms) = ap (λ (ns : List ℕ). n ∷ ns) (item_numbers (at + 1) ms)
item_numbers at (Word k ∷ ms) = ap (λ (ns : List ℕ). at ∷ ns) (item_numbers (at + 1) ms)

-- as many items as tokens
pub items-length : (ms : Events) → length (items_of ms) ≡ length (tokens_of ms)
items-length [] = refl
items-length (Begins c n ∷ ms) = items-length ms
items-length (Ends c ∷ ms) = items-length ms
items-length (Identifier r n ∷ ms) = ap suc (items-length ms)
items-length (Value k n ∷ ms) = ap suc (items-length ms)
items-length (Word k ∷ ms) = ap suc (items-length ms)

numbers-append : (at : ℕ) (is js : List Item) → numbers_at at (is ++ js) ≡ numbers_at at is ++ numbers_at (at + length is) js
numbers-append at [] js = ap (λ (m : ℕ). numbers_at m js) (omega arith)
numbers-append at (i ∷ is) js =
    ap (λ (ns : List ℕ). number_at at i ∷ ns) (numbers-append (at + 1) is js ∙ ap (λ (m : ℕ). numbers_at (at + 1) is ++ numbers_at m js) (omega arith))

pub numbers-with_items : (is : List Item) (at : ℕ) (d : Item) → at < length is →
    numbers_at 0 (take (at + 1) is) ≡ numbers_at 0 (take at is) ++ number_at at (get_or is at d) ∷ []
numbers-with_items is at d h =
    let e : 0 + length (take at is) ≡ at = omega (arith, h, length-take-le at is (omega (arith, h))) in
    rw (take_more is at d h) (numbers-append 0 (take at is) (get_or is at d ∷ []) ∙ ap (λ (m : ℕ). numbers_at 0 (take at is) ++ number_at m (get_or is at d) ∷ []) e)

-- ---- the items of one sort

pub declared-items : (ms : Events) → filter_map declared_by (items_of ms) ≡ declared_in ms
declared-items [] = refl
declared-items (Begins c n ∷ ms) = declared-items ms
declared-items (Ends c ∷ ms) = declared-items ms
declared-items (Identifier (Declares is_exported) n ∷ ms) = ap (λ (ns : List ℕ). n ∷ ns) (declared-items ms)
declared-items (Identifier Aliases n ∷ ms) = ap (λ (ns : List ℕ). n ∷ ns) (declared-items ms)
declared-items (Identifier Imports n ∷ ms) = declared-items ms
declared-items (Identifier Uses n ∷ ms) = declared-items ms
declared-items (Identifier Completes n ∷ ms) = declared-items ms
declared-items (Identifier Selects n ∷ ms) = declared-items ms
declared-items (Identifier Names n ∷ ms) = declared-items ms
declared-items (Identifier (Repeats name) n ∷ ms) = declared-items ms
declared-items (Value k n ∷ ms) = declared-items ms
declared-items (Word k ∷ ms) = declared-items ms

pub used-items : (ms : Events) → filter_map used_by (items_of ms) ≡ used_in ms
used-items [] = refl
used-items (Begins c n ∷ ms) = used-items ms
used-items (Ends c ∷ ms) = used-items ms
used-items (Identifier (Declares is_exported) n ∷ ms) = used-items ms
used-items (Identifier Aliases n ∷ ms) = used-items ms
used-items (Identifier Imports n ∷ ms) = used-items ms
used-items (Identifier Uses n ∷ ms) = ap (λ (ns : List ℕ). n ∷ ns) (used-items ms)
used-items (Identifier Completes n ∷ ms) = used-items ms
used-items (Identifier Selects n ∷ ms) = used-items ms
used-items (Identifier Names n ∷ ms) = used-items ms
used-items (Identifier (Repeats name) n ∷ ms) = used-items ms
used-items (Value k n ∷ ms) = used-items ms
used-items (Word k ∷ ms) = used-items ms

pub ruleset passes = (each_token_occurs_once, filter_map-append, take_at_read, take_all, declared-items, used-items, item_numbers, append-nil)
