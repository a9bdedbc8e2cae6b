-- The search for the imports that break a rule: the modules of names by number, and the search for one rule.
use Rattle.std.specs.Prelude.{◌≡◌, ◌↔◌, ◌⊎◌, ℕ, ◌<◌, ◌≤◌, Bool, true, false, List, length, slice_get, slice_index_or, Some, All, AllPairs, Contains}
use Rattle.digraph.specs.declared.edge.Edge.{Edge}
use Rattle.digraph.specs.Edges.{Leads}
use Rattle.digraph.specs.Graphs.{IsGraph}
use Rattle.digraph.specs.declared.graph.Graph.{Graph}
use Rattle.digraph.specs.Marks.{marked}
use Rattle.cut_net.specs.Lines.{edge_of}
use Rattle.cut_net.specs.Network.{Network, missing_item}
use Rattle.digraph.specs.Search.{IsSearch}
use Rattle.digraph.specs.ShortestPaths.{IsPathAround}
use Rattle.cut_rules.specs.Builders.{IsMember}
use Rattle.cut_rules.specs.declared.file.File.{File}
use Rattle.cut_rules.specs.declared.reading.Rules.{Rules}
use Rattle.cut_rules.specs.declared.rule.Rule.{Rule}
use Rattle.cut_rules.specs.declared.rule.RuleKind.{RuleKind}
use Rattle.cut_rules.specs.declared.rule.RuleKind.TheVariants as kinds
use Rattle.cut_rules.specs.declared.rule_search.RuleSearch.{RuleSearch}
use Rattle.cut_rules.specs.Verdicts.{Breaks, ComesBefore, IsForbidden, IsViolation, Violation}

-- ---- imports that no line allows

-- p is the edge of one of the first `count` imports, and that import isn't flagged as allowed
abbrev pub IsCountedBefore : Network → List Bool → ℕ → Edge → Type 0
IsCountedBefore net allowed count p = (k : ℕ) × (k < count) × (marked allowed k ≡ false) × (edge_of (slice_index_or net.imports k missing_item) ≡ p)

-- p is the edge of an import that isn't flagged as allowed
abbrev pub IsUnallowed : Network → List Bool → Edge → Type 0
IsUnallowed net allowed p = IsCountedBefore net allowed (length net.imports) p

-- ---- modules of names

-- the name with this number denotes the module: it is the module's own number, or that of a set with the module
abbrev pub IsDenoted : Rules → ℕ → ℕ → Type 0
IsDenoted rules number m = (number ≡ m) ⊎ IsMember rules.files.now rules.table number m

-- the flag of node v has the value if v is in the list, and is unchanged otherwise
abbrev pub IsFlagSet : List ℕ → Bool → List Bool → List Bool → ℕ → Type 0
IsFlagSet nodes value old new v = (Contains nodes v × (marked new v ≡ value)) ⊎ ((Contains nodes v → ⊥) × (marked new v ≡ marked old v))

-- the rule is a `may` rule whose first name has this number
abbrev pub IsMayOf : Rule → ℕ → Type 0
IsMayOf r first = (r.kind ≡ kinds.May) × (r.first ≡ first)

-- the rule is a `may` rule, and an earlier `may` rule has the same first name
abbrev pub IsRepeated : List Rule → Rule → Type 0
IsRepeated rules r = (r.kind ≡ kinds.May) × (s : Rule) × Contains rules s × (s.line < r.line) × IsMayOf s r.first

-- the `may` rules in the list `some` whose first name has the number `first` forbid to import the module: neither this name nor the second
-- name of one of these rules denotes it
abbrev pub IsForbiddenByMayRules : Rules → List Rule → ℕ → ℕ → Type 0
IsForbiddenByMayRules rules some first n = (IsDenoted rules first n → ⊥) × ((r : Rule) → Contains some r → IsMayOf r first → IsDenoted rules r.second n → ⊥)

-- the `may` rules whose first name has the number `first` forbid to import the module n
abbrev pub IsForbiddenByMay : Rules → ℕ → ℕ → Type 0
IsForbiddenByMay rules first n = IsForbiddenByMayRules rules rules.rules.items first n

-- the rule r, which is of this kind, forbids the modules of its first name to import the module n
abbrev pub IsTargetBy : Rules → Rule → RuleKind → ℕ → Type 0
IsTargetBy rules r kinds.Forbid n = IsDenoted rules r.second n
IsTargetBy rules r kinds.ForbidImport n = IsDenoted rules r.second n
IsTargetBy rules r kinds.May n = IsForbiddenByMay rules r.first n

-- the rule forbids the modules of its first name to import the module n
abbrev pub IsTarget : Rules → Rule → ℕ → Type 0
IsTarget rules r n = IsTargetBy rules r r.kind n

-- no path that the rule r, which is of this kind, forbids may enter the module n after its start
abbrev pub IsBarredBy : Rules → Rule → RuleKind → ℕ → Type 0
IsBarredBy rules r kinds.Forbid n = IsDenoted rules r.second n
IsBarredBy rules r kinds.ForbidImport n = Unit {0}
IsBarredBy rules r kinds.May n = Unit {0}

-- the search for a rule: it starts at the modules of the rule's first name, and its paths enter no barred module after their start
pub record IsRuleSearch (rules : Rules) (nodes : ℕ) (edges : List Edge) (r : Rule) (found : RuleSearch) : Type 0 where
  pub starts : List ℕ
  pub barrier : List Bool
  pub search : IsSearch edges starts barrier found.search
  pub starts_within : (m : ℕ) → Contains starts m → m < nodes
  pub starts_are : (m : ℕ) → m < nodes → Contains starts m ↔ IsDenoted rules r.first m
  pub barrier_are : (m : ℕ) → m < nodes → (marked barrier m ≡ true) ↔ IsBarredBy rules r r.kind m
  pub size : length found.targets.items ≡ nodes
  pub targets_are : (n : ℕ) → n < nodes → (marked found.targets.items n ≡ true) ↔ IsTarget rules r n

-- the graph of the imports that no line allows
pub record IsCountedGraph (net : Network) (rules : Rules) (graph : Graph) : Type 0 where
  pub is_graph : IsGraph graph
  pub nodes : length graph.after.items ≡ length net.names
  pub counted : (p : Edge) → Contains graph.edges.now p ↔ IsUnallowed net rules.allowed.items p

-- the rule is in the list; if it is a `may` rule, no earlier `may` rule has the same first name
abbrev pub IsFirstRule : List Rule → Rule → Type 0
IsFirstRule rules r = Contains rules r × (IsRepeated rules r → ⊥)

-- exactly the first `count` rules are of lines before line `bound`
pub record IsRuleCountBefore (rules : List Rule) (count bound : ℕ) : Type 0 where
  pub before : (k : ℕ) (r : Rule) → k < count → slice_get rules k ≡ Some r → r.line < bound
  pub after : (k : ℕ) (r : Rule) → count ≤ k → slice_get rules k ≡ Some r → bound ≤ r.line

-- ---- violations of some rules

module _ (net : Network) (files : List File) (pieces : List (List ℕ)) where
  -- a search finds exactly the paths that the rule of the line forbids
  pub record IsSearchFor (line : ℕ) (found : RuleSearch) : Type 0 where
    pub edges : List Edge
    pub starts : List ℕ
    pub barrier : List Bool
    pub search : IsSearch edges starts barrier found.search
    pub within : (m : ℕ) (path : List ℕ) → IsPathAround (Leads edges) starts barrier m path → All (λ v. v < length net.names) path
    pub size : length found.targets.items ≡ length net.names
    pub forbidden : (m n : ℕ) (path : List ℕ) → m < length net.names → n < length net.names →
        (IsPathAround (Leads edges) starts barrier m path × (marked found.targets.items n ≡ true)) ↔ IsForbidden net files pieces line m n path

  -- exactly the violations of the rule of the line by imports with a number from `low` up to `high`, which is excluded
  pub record AreRuleViolations (line low high : ℕ) (violations : List Violation) : Type 0 where
    pub each : (v : Violation) → Contains violations v → IsViolation net files pieces v × (v.line ≡ line) × (v.import_number < high)
    pub all : (k : ℕ) (path : List ℕ) → low ≤ k → k < high → Breaks net files pieces line k path → (v : Violation) × Contains violations v × (v.import_number ≡ k)
    pub least : (v : Violation) → Contains violations v → low ≤ v.import_number
    pub ascending : AllPairs ComesBefore violations

  -- exactly the violations of the rules of lines before line `bound`
  pub record AreViolationsBelow (bound : ℕ) (violations : List Violation) : Type 0 where
    pub each : (v : Violation) → Contains violations v → IsViolation net files pieces v × (v.line < bound)
    pub all : (line k : ℕ) (path : List ℕ) → line < bound → Breaks net files pieces line k path → (v : Violation) × Contains violations v × (v.line ≡ line) × (v.import_number ≡ k)
    pub ascending : AllPairs ComesBefore violations
