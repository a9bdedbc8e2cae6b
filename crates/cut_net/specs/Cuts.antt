-- Paths, cuts and flows in a network (Ford and Fulkerson 1956; Goldberg and Tarjan 1988). A set of imports is a predicate of imports, a
-- set of modules a predicate of their numbers.
use Rattle.std.specs.Prelude.{◌≡◌, ◌≢◌, ◌↔◌, ℕ, ◌+◌, ◌≤◌, ◌<◌, ◌==◌, ◌&&◌, not, Bool, true, false, if◌then◌else◌, List, sum_by, Contains}
use Rattle.digraph.specs.Chains as chains
use Rattle.cut_net.specs.declared.priced.Priced.{Priced}
use Rattle.cut_net.specs.Network.{Network}

-- an allowed import leads from m to n
abbrev pub Imports : List Priced → (Priced → Type 0) → ℕ → ℕ → Type 0
Imports imports Allowed m n = (i : Priced) × Contains imports i × (i.from ≡ m) × (i.to ≡ n) × Allowed i

-- each import is allowed
abbrev pub Any : Priced → Type 0
Any i = Unit {0}

-- the given module and those of the list form a path of allowed imports, and its last module is the given end
abbrev pub IsChain : List Priced → (Priced → Type 0) → ℕ → List ℕ → ℕ → Type 0
IsChain imports Allowed = chains.IsChain (Imports imports Allowed)

-- a path of allowed imports leads from the one module to the other; a module is a path to itself
abbrev pub Chain : List Priced → (Priced → Type 0) → ℕ → ℕ → Type 0
Chain imports Allowed = chains.Chain (Imports imports Allowed)

-- the import isn't in the set
abbrev pub Outside : (Priced → Bool) → Priced → Type 0
Outside x i = x i ≡ false

-- without these imports no path leads from a to b
abbrev pub IsCut : Network → ℕ → ℕ → (Priced → Bool) → Type 0
IsCut net a b x = Chain net.imports (Outside x) a b → ⊥

-- the sum of the weights of the imports of the set
abbrev pub weight : List Priced → (Priced → Bool) → ℕ
weight imports x = sum_by (λ i. if x i then i.amount else 0) imports

-- a cut that weighs no more than any other
pub record IsCheapest (net : Network) (a b : ℕ) (x : Priced → Bool) : Type 0 where
  pub cut : IsCut net a b x
  pub least : (y : Priced → Bool) → IsCut net a b y → weight net.imports x ≤ weight net.imports y

-- a source side: a set of modules with a and without b
pub record IsSide (net : Network) (a b : ℕ) (side : ℕ → Bool) : Type 0 where
  pub start : side a ≡ true
  pub end : side b ≡ false

-- the import leads out of the set of modules
abbrev pub leaves : (ℕ → Bool) → Priced → Bool
leaves side i = side i.from && not (side i.to)

-- a source side of minimum weight: the imports that leave it weigh no more than those that leave any other
pub record IsMinimumSide (net : Network) (a b : ℕ) (side : ℕ → Bool) : Type 0 where
  pub is_side : IsSide net a b side
  pub least : (other : ℕ → Bool) → IsSide net a b other → weight net.imports (leaves side) ≤ weight net.imports (leaves other)

-- the module is in the minimal source side, the intersection of the source sides of minimum weight
abbrev pub InSourceSide : Network → ℕ → ℕ → ℕ → Type 0
InSourceSide net a b m = (side : ℕ → Bool) → IsMinimumSide net a b side → side m ≡ true

-- the import leaves the minimal source side
abbrev pub LeavesSourceSide : Network → ℕ → ℕ → Priced → Type 0
LeavesSourceSide net a b i = InSourceSide net a b i.from × (InSourceSide net a b i.to → ⊥)

-- the import leaves the minimal source side, and its imported module has a path to b without imports that leave it
abbrev pub IsReported : Network → ℕ → ℕ → Priced → Type 0
IsReported net a b i = LeavesSourceSide net a b i × Chain net.imports (λ j. LeavesSourceSide net a b j → ⊥) i.to b

-- the set has exactly those imports of the network that are reported: it is the canonical minimum cut
abbrev pub AreReported : Network → ℕ → ℕ → (Priced → Bool) → Type 0
AreReported net a b x = (i : Priced) → Contains net.imports i → (x i ≡ true) ↔ IsReported net a b i

-- the inflow and the outflow of a module
abbrev pub entering : List Priced → (Priced → ℕ) → ℕ → ℕ
entering imports flow m = sum_by (λ i. if i.to == m then flow i else 0) imports

abbrev pub leaving : List Priced → (Priced → ℕ) → ℕ → ℕ
leaving imports flow m = sum_by (λ i. if i.from == m then flow i else 0) imports

-- a flow: a number on each import, at most its weight. The inflow of each module but a and b is its outflow, and the value is the outflow
-- of a less its inflow (Goldberg and Tarjan 1988, section 2)
pub record IsFlow (net : Network) (a b : ℕ) (flow : Priced → ℕ) (value : ℕ) : Type 0 where
  pub within : (i : Priced) → Contains net.imports i → flow i ≤ i.amount
  pub kept : (m : ℕ) → m ≢ a → m ≢ b → entering net.imports flow m ≡ leaving net.imports flow m
  pub at_start : entering net.imports flow a + value ≡ leaving net.imports flow a

-- no residual import leads out of the set of modules (Goldberg and Tarjan 1988, section 2): forward over imports with flow below their
-- weight, backward over imports with flow above 0
pub record IsClosed (net : Network) (flow : Priced → ℕ) (modules : ℕ → Bool) : Type 0 where
  pub forward : (i : Priced) → Contains net.imports i → flow i < i.amount → modules i.from ≡ true → modules i.to ≡ true
  pub backward : (i : Priced) → Contains net.imports i → 0 < flow i → modules i.to ≡ true → modules i.from ≡ true

-- the module is reachable from a by residual imports: it is in every closed set of modules with a
abbrev pub Reached : Network → (Priced → ℕ) → ℕ → ℕ → Type 0
Reached net flow a m = (modules : ℕ → Bool) → modules a ≡ true → IsClosed net flow modules → modules m ≡ true

-- the set has exactly the modules with the property
abbrev pub IsSetOf : (ℕ → Bool) → (ℕ → Type 0) → Type 0
IsSetOf modules P = (m : ℕ) → (modules m ≡ true) ↔ P m

-- the two imports have equal importers and equal imported modules, whatever their amounts
abbrev pub have_equal_ends : Priced → Priced → Bool
have_equal_ends i j = (i.from == j.from) && (i.to == j.to)

-- the set without the import i
abbrev pub without : (Priced → Bool) → Priced → Priced → Bool
without x i j = x j && not (have_equal_ends i j)
