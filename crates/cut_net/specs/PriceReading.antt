-- Reading a prices file, line by line.
use Rattle.std.specs.Prelude.{◌≡◌, ◌≢◌, ℕ, true, List, [], ◌∷◌, ◌++◌, map, codes, Option, Result, Ok, Err, option_map, option_and_then, AllPairs}
use Rattle.std.specs.Option.{option_map_or}
use Rattle.texts.specs.Fields.{split_at_first, named, number_of}
use Rattle.cut_net.specs.Network.{Network}
use Rattle.cut_net.specs.NetReading.{after_word}
use Rattle.cut_net.specs.NetText.{is_nonempty, pieces_of}
use Rattle.cut_net.specs.Prices.{PriceLine, price_line, change_of, IsOfImport, IsPriceLine, SpellPrices, AreGoodPrices, ChangeDifferentImports}
use Rattle.cut_net.specs.declared.price_fault.PriceLineFault.{PriceLineFault}
use Rattle.cut_net.specs.declared.price_fault.PriceLineFault.TheVariants as fault
use Rattle.cut_net.specs.declared.price_fault.PriceFault.{PriceFault}
use Rattle.cut_net.specs.declared.price_fault.PriceFault.TheVariants as faults
use Rattle.cut_net.specs.declared.pin_state.Change.{Change}
use Rattle.cut_net.specs.declared.pin_state.Change.TheVariants.{Price, Pin}
use Rattle.cut_net.specs.declared.pin_state.PinState.{PinState}
use Rattle.cut_net.specs.declared.pin_state.PinState.TheVariants.{WithWeight, WithPin}
use Rattle.cut_net.specs.declared.price_lines.PriceLine as lines

-- ---- a line

-- the content of a parsed line
abbrev pub line_content : lines.PriceLine → PriceLine
line_content line = record { importer = line.importer.now; imported = line.imported.now; change = line.change }

abbrev pub line_with_change : List ℕ → List ℕ → Change → PriceLine
line_with_change m n change = record { importer = m; imported = n; change = change }

-- the `pin` line with these fields: two names
unfoldable pub pin_of_fields : List ℕ → Option PriceLine
pin_of_fields fields =
    option_and_then (λ parts. option_and_then (λ m. option_map (λ n. line_with_change m n Pin) (named parts.1)) (named parts.0)) (split_at_first 32 fields)

-- the `price` line with these fields: two names and a number
unfoldable pub price_of_fields : List ℕ → Option PriceLine
price_of_fields fields =
    option_and_then (λ parts. option_and_then (λ others. option_and_then (λ m. option_and_then (λ n. option_map (λ w. line_with_change m n (Price w))
    (number_of others.1)) (named others.0)) (named parts.0)) (split_at_first 32 parts.1)) (split_at_first 32 fields)

-- the line that these bytes spell, if they are a valid one
unfoldable pub price_line_of : List ℕ → Option PriceLine
price_line_of piece = option_map_or pin_of_fields (after_word (codes "pin") piece) (option_and_then price_of_fields (after_word (codes "price") piece))

-- ---- the lines read so far

-- the lines have no error, and `changes` has for each import of the network the change that a line states, or None
pub record AreChanges (net : Network) (lines : List PriceLine) (changes : List (Option Change)) : Type 0 where
  pub good : AreGoodPrices net lines
  pub changes_are : changes ≡ map (change_of net lines) net.imports

-- the result of adding the bytes between two line ends
abbrev pub TakesPricePiece : Network → List PriceLine → List ℕ → Result (Unit {0}) PriceLineFault → List (Option Change) → Type 0
TakesPricePiece net before piece (Ok _) changes = (more : List PriceLine) × SpellPrices (piece ∷ []) more × AreChanges net (before ++ more) changes
TakesPricePiece net before piece (Err fault.BadLine) changes = (is_nonempty piece ≡ true) × ((line : PriceLine) → IsPriceLine line → price_line line ≢ piece)
TakesPricePiece net before piece (Err fault.NoSuchImport) changes = (line : PriceLine) × (price_line line ≡ piece) × IsPriceLine line × (IsOfImport net line → ⊥)
TakesPricePiece net before piece (Err fault.TwicePrice) changes =
    (line : PriceLine) × (price_line line ≡ piece) × IsPriceLine line × IsOfImport net line × (AllPairs ChangeDifferentImports (before ++ line ∷ []) → ⊥)

-- `changes` has for each import its change by the lines of the file, if there is one
abbrev pub AreChangesOf : Network → List ℕ → List (Option Change) → Type 0
AreChangesOf net bytes changes = (lines : List PriceLine) × SpellPrices (pieces_of bytes) lines × AreChanges net lines changes

-- the weight of an unpinned import, 0 for a pinned one
abbrev pub weight_if_unpinned : PinState → ℕ
weight_if_unpinned (WithWeight w) = w
weight_if_unpinned (WithPin w) = 0

-- ---- errors

-- the error of a line, with the number of the line
abbrev pub price_fault_in_line : ℕ → PriceLineFault → PriceFault
price_fault_in_line line fault.BadLine = faults.BadLine line
price_fault_in_line line fault.NoSuchImport = faults.NoSuchImport line
price_fault_in_line line fault.TwicePrice = faults.TwicePrice line
