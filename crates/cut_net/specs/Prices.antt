-- The text of a prices file, and the first error of any other text for a network. Lines are numbered from 1.
use Rattle.std.specs.Prelude.{◌≡◌, ◌≢◌, ℕ, ◌+◌, ◌<◌, ◌≤◌, ◌^◌, ◌&&◌, Bool, true, List, [], ◌∷◌, ◌++◌, Option, Some, None, Result, Ok, Err, option_map, slice_get, take, map, filter, find, codes, All, AllPairs, Contains}
use Rattle.std.specs.List.{flat_map}
use Rattle.std.specs.Str.{bytes_eq}
use Rattle.std.specs.Fmt.{decimal}
use Rattle.cut_net.specs.declared.price_fault.PriceFault.{PriceFault}
use Rattle.cut_net.specs.declared.price_fault.PriceFault.TheVariants.{BadLine, NoSuchImport, TwicePrice, PriceOverflow, Memory}
use Rattle.cut_net.specs.declared.priced.Priced.{Priced}
use Rattle.cut_net.specs.declared.pin_state.Change.{Change}
use Rattle.cut_net.specs.declared.pin_state.Change.TheVariants.{Price, Pin}
use Rattle.cut_net.specs.declared.pin_state.PinState.{PinState}
use Rattle.cut_net.specs.declared.pin_state.PinState.TheVariants.{WithWeight, WithPin}
use Rattle.texts.specs.Fields.{is_name, line_of}
use Rattle.cut_net.specs.Network.{Network, name_of}
use Rattle.cut_net.specs.Cuts.{have_equal_ends}
use Rattle.cut_net.specs.NetText.{is_nonempty, pieces_of}
use Rattle.cut_net.specs.Pins.{most_weight, unpinned_weight}

-- the content of a line: the two modules of an import, and the change of the import
pub record PriceLine : Type 0 where
  pub importer : List ℕ
  pub imported : List ℕ
  pub change : Change

-- the bytes of the line
abbrev pub change_line : List ℕ → List ℕ → Change → List ℕ
change_line m n (Price w) = line_of (codes "price" ∷ m ∷ n ∷ decimal w ∷ [])
change_line m n Pin = line_of (codes "pin" ∷ m ∷ n ∷ [])

abbrev pub price_line : PriceLine → List ℕ
price_line line = change_line line.importer line.imported line.change

-- a weight fits 64 bits
abbrev pub IsChange : Change → Type 0
IsChange (Price w) = w < 2 ^ 64
IsChange Pin = Unit {0}

-- the names of the line are identifiers, and its weight fits 64 bits
pub record IsPriceLine (line : PriceLine) : Type 0 where
  pub importer : is_name line.importer ≡ true
  pub imported : is_name line.imported ≡ true
  pub change : IsChange line.change

-- the pieces that aren't empty are the bytes of these lines, in order
abbrev pub SpellPrices : List (List ℕ) → List PriceLine → Type 0
SpellPrices pieces lines = filter is_nonempty pieces ≡ map price_line lines

-- whether the import leads between the modules of these names
abbrev pub is_named : Network → List ℕ → List ℕ → Priced → Bool
is_named net m n i = bytes_eq m (name_of net i.from) && bytes_eq n (name_of net i.to)

-- whether the line changes this import
abbrev pub changes_import : Network → Priced → PriceLine → Bool
changes_import net i line = is_named net line.importer line.imported i

-- the line changes an import of the network
abbrev pub IsOfImport : Network → PriceLine → Type 0
IsOfImport net line = (i : Priced) × Contains net.imports i × (changes_import net i line ≡ true)

-- the lines change different imports
abbrev pub ChangeDifferentImports : PriceLine → PriceLine → Type 0
ChangeDifferentImports line other = line.importer ≡ other.importer → line.imported ≢ other.imported

-- the lines have no error: each is valid, is of an import of the network, and no two are of one import
pub record AreGoodPrices (net : Network) (lines : List PriceLine) : Type 0 where
  pub each : All IsPriceLine lines
  pub known : All (IsOfImport net) lines
  pub apart : AllPairs ChangeDifferentImports lines

-- ---- the first error

-- the first k pieces are lines without an error, and this piece follows
pub record IsPricePrefix (net : Network) (bytes : List ℕ) (k : ℕ) (lines : List PriceLine) (piece : List ℕ) : Type 0 where
  pub spelled : SpellPrices (take k (pieces_of bytes)) lines
  pub good : AreGoodPrices net lines
  pub present : slice_get (pieces_of bytes) k ≡ Some piece

-- piece k is neither empty nor a line, and the pieces before it are lines without an error
pub record IsBadPriceLine (net : Network) (bytes : List ℕ) (k : ℕ) : Type 0 where
  pub before : List PriceLine
  pub piece : List ℕ
  pub prefix : IsPricePrefix net bytes k before piece
  pub written : is_nonempty piece ≡ true
  pub wrong : (line : PriceLine) → IsPriceLine line → price_line line ≢ piece

-- piece k is a line of an import that the network lacks, and the pieces before it are lines without an error
pub record IsUnknownImport (net : Network) (bytes : List ℕ) (k : ℕ) : Type 0 where
  pub before : List PriceLine
  pub line : PriceLine
  pub prefix : IsPricePrefix net bytes k before (price_line line)
  pub form : IsPriceLine line
  pub unknown : IsOfImport net line → ⊥

-- piece k is a line of an import that an earlier line changes, and the pieces before it are lines without an error
pub record IsTwicePrice (net : Network) (bytes : List ℕ) (k : ℕ) : Type 0 where
  pub before : List PriceLine
  pub line : PriceLine
  pub prefix : IsPricePrefix net bytes k before (price_line line)
  pub form : IsPriceLine line
  pub known : IsOfImport net line
  pub twice : AllPairs ChangeDifferentImports (before ++ line ∷ []) → ⊥

-- ---- the network with its prices

-- the pin of an import, if it has one
abbrev pub pin_of : Network → Priced → Option Priced
pin_of net i = find (have_equal_ends i) net.pins

abbrev pub initial_state : Priced → Option Priced → PinState
initial_state i None = WithWeight i.amount
initial_state i (Some pin) = WithPin pin.amount

-- the state of an import of the network
abbrev pub pin_state_of : Network → Priced → PinState
pin_state_of net i = initial_state i (pin_of net i)

abbrev pub weight_in : PinState → ℕ
weight_in (WithWeight w) = w
weight_in (WithPin w) = w

-- the import with its weight, or the weight that it had before it was pinned
abbrev pub with_own_weight : Network → Priced → Priced
with_own_weight net i = record { from = i.from; to = i.to; amount = weight_in (pin_state_of net i) }

-- the state after a change, if there is one. A price ends a pin
abbrev pub changed_state : PinState → Option Change → PinState
changed_state s None = s
changed_state s (Some (Price w)) = WithWeight w
changed_state s (Some Pin) = WithPin (weight_in s)

-- the change of an import by the lines
abbrev pub change_of : Network → List PriceLine → Priced → Option Change
change_of net lines i = option_map (λ (line : PriceLine). line.change) (find (changes_import net i) lines)

-- the state of an import after the lines
abbrev pub pin_state_by : Network → List PriceLine → Priced → PinState
pin_state_by net lines i = changed_state (pin_state_of net i) (change_of net lines i)

-- the import with the weight that its state gives in a network: 2 ^ 40 + 1 if it is pinned
abbrev pub import_with_state : Priced → PinState → Priced
import_with_state i (WithWeight w) = record { from = i.from; to = i.to; amount = w }
import_with_state i (WithPin w) = record { from = i.from; to = i.to; amount = most_weight + 1 }

-- the pin of an import in this state, with the weight before it was pinned; no pin if it is unpinned
abbrev pub pin_of_state : Priced → PinState → List Priced
pin_of_state i (WithWeight w) = []
pin_of_state i (WithPin w) = record { from = i.from; to = i.to; amount = w } ∷ []

-- the network with these states of its imports
abbrev pub with_pin_states : Network → (Priced → PinState) → Network
with_pin_states net pin_state = record {
  names = net.names;
  imports = map (λ i. import_with_state i (pin_state i)) net.imports;
  pins = flat_map (λ i. pin_of_state i (pin_state i)) net.imports;
}

-- the network after these lines: each import has the state after its line, or its old state if it has no line
abbrev pub priced_by : Network → List PriceLine → Network
priced_by net lines = with_pin_states net (pin_state_by net lines)

-- the bytes are lines without an error
pub record PriceText (net : Network) (bytes : List ℕ) (lines : List PriceLine) : Type 0 where
  pub spelled : SpellPrices (pieces_of bytes) lines
  pub good : AreGoodPrices net lines

-- the bytes are lines without an error, and `priced` is the network after these lines
pub record IsPriced (net : Network) (bytes : List ℕ) (priced : Network) : Type 0 where
  pub lines : List PriceLine
  pub text : PriceText net bytes lines
  pub is : priced ≡ priced_by net lines

-- all lines are valid, and the unpinned imports weigh more than 2 ^ 40 in sum
pub record IsPriceOverflow (net : Network) (bytes : List ℕ) : Type 0 where
  pub priced : Network
  pub is_priced : IsPriced net bytes priced
  pub over : most_weight < unpinned_weight priced

-- the outcome of the file for the network: the network with the prices, or the first error
abbrev pub IsPriceOutcome : Network → List ℕ → Result Network PriceFault → Type 0
IsPriceOutcome net bytes (Ok priced) = IsPriced net bytes priced × (unpinned_weight priced ≤ most_weight)
IsPriceOutcome net bytes (Err (BadLine line)) = (k : ℕ) × (line ≡ k + 1) × IsBadPriceLine net bytes k
IsPriceOutcome net bytes (Err (NoSuchImport line)) = (k : ℕ) × (line ≡ k + 1) × IsUnknownImport net bytes k
IsPriceOutcome net bytes (Err (TwicePrice line)) = (k : ℕ) × (line ≡ k + 1) × IsTwicePrice net bytes k
IsPriceOutcome net bytes (Err PriceOverflow) = IsPriceOverflow net bytes
IsPriceOutcome net bytes (Err Memory) = ⊥

-- the property holds, unless the error is a failed allocation
abbrev pub UnlessMemory : PriceFault → Type 0 → Type 0
UnlessMemory (BadLine line) P = P
UnlessMemory (NoSuchImport line) P = P
UnlessMemory (TwicePrice line) P = P
UnlessMemory PriceOverflow P = P
UnlessMemory Memory P = Unit {0}

-- the result has the property, unless an allocation failed
abbrev pub HasOutcome : Result Network PriceFault → (Result Network PriceFault → Type 0) → Type 0
HasOutcome (Ok net) IsOutcome = IsOutcome (Ok net)
HasOutcome (Err fault) IsOutcome = UnlessMemory fault (IsOutcome (Err fault))
