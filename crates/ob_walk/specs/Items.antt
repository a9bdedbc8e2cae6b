-- The tokens of an event sequence, each with its role.
use Rattle.std.specs.Prelude.{ℕ, ◌+◌, min, List, [], ◌∷◌, Option, Some, None, slice_set}
use Rattle.ob_walk.specs.declared.item.Item.{Item}
use Rattle.ob_walk.specs.declared.item.Item.TheVariants as items
use Rattle.ob_tree.specs.declared.role.Role.TheVariants.{Declares, Aliases, Imports, Uses, Completes, Selects, Names, Repeats}
use Rattle.ob_tree.specs.TreeEvents.{Events, Begins, Ends, Identifier, Value, Word}

-- the items of an event sequence, in order
abbrev pub items_of : Events → List Item
items_of [] = []
items_of (Begins c n ∷ ms) = items_of ms
items_of (Ends c ∷ ms) = items_of ms
items_of (Identifier r n ∷ ms) = items.Identifier r n ∷ items_of ms
items_of (Value k n ∷ ms) = items.Value n ∷ items_of ms
items_of (Word k ∷ ms) = items.Word ∷ items_of ms

-- the token number of an item: the number that an identifier or literal has, or for a word the given index
abbrev pub number_at : ℕ → Item → ℕ
number_at at (items.Identifier r n) = n
number_at at (items.Value n) = n
number_at at items.Word = at

-- the number of the identifier, if the item declares it (`declared_by`), or if the scope rule looks it up (`used_by`)
abbrev pub declared_by : Item → Option ℕ
declared_by (items.Identifier (Declares is_exported) n) = Some n
declared_by (items.Identifier Aliases n) = Some n
declared_by (items.Identifier Imports n) = None
declared_by (items.Identifier Uses n) = None
declared_by (items.Identifier Completes n) = None
declared_by (items.Identifier Selects n) = None
declared_by (items.Identifier Names n) = None
declared_by (items.Identifier (Repeats name) n) = None
declared_by (items.Value n) = None
declared_by items.Word = None

abbrev pub used_by : Item → Option ℕ
used_by (items.Identifier (Declares is_exported) n) = None
used_by (items.Identifier Aliases n) = None
used_by (items.Identifier Imports n) = None
used_by (items.Identifier Uses n) = Some n
used_by (items.Identifier Completes n) = None
used_by (items.Identifier Selects n) = None
used_by (items.Identifier Names n) = None
used_by (items.Identifier (Repeats name) n) = None
used_by (items.Value n) = None
used_by items.Word = None

-- slots with the count of emitted items: the item is written to the slot with the index of the count, if there is one; the count
-- saturates
abbrev pub with_item : List Item × ℕ → Item → List Item × ℕ
with_item s i = (slice_set s.0 s.1 i, min (s.1 + 1) 18446744073709551615)

-- the slots after these items
unfoldable pub with_items : List Item × ℕ → List Item → List Item × ℕ
with_items s [] = s
with_items s (i ∷ is) = with_items (with_item s i) is
