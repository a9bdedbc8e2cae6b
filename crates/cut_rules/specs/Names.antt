-- The names that a rules text may refer to.
use Rattle.std.specs.Prelude.{◌≡◌, ◌↔◌, ◌⊎◌, ℕ, ◌+◌, ◌<◌, ◌≤◌, Bool, true, List, [], length, map, Option, Some, AllPairs, Contains}
use Rattle.digraph.specs.Marks.{marked}
use Rattle.text_hash.specs.declared.name.Name.{Name}
use Rattle.cut_net.specs.Network.{Network, index_of, unpinned}
use Rattle.cut_rules.specs.declared.names.Names.{Names}
use Rattle.cut_rules.specs.declared.rule.RuleKind.{RuleKind}
use Rattle.cut_rules.specs.RuleLines.{Restricts, States}
use Rattle.cut_rules.specs.Rules.{IsRule, IsSet}

-- the bytes of each name
abbrev pub names_in : List Name → List (List ℕ)
names_in names = map (λ (n : Name). n.bytes.now) names

-- the index of the name in the list, or none if the list doesn't have it
abbrev pub index_among : List Name → List ℕ → Option ℕ
index_among names x = index_of (unpinned (names_in names) []) x

-- exactly the lines up to the number `count` that have the property, in order
pub record AreLinesOf (P : ℕ → Type 0) (count : ℕ) (lines : List ℕ) : Type 0 where
  pub each : (l : ℕ) → Contains lines l → (l ≤ count) × P l
  pub all : (l : ℕ) → l ≤ count → P l → Contains lines l
  pub ascending : AllPairs (λ i j. i < j) lines

-- at most 4096 lines before this one are rules
pub record IsWithinRuleLimit (pieces : List (List ℕ)) (line : ℕ) : Type 0 where
  pub count : ℕ
  pub number : line ≡ count + 1
  pub lines : List ℕ
  pub elements : AreLinesOf (IsRule pieces) count lines
  pub few : length lines ≤ 4096

-- the name is that of a module, or is in the list of names
abbrev pub IsKnownName : Network → List Name → List ℕ → Type 0
IsKnownName net names x = Contains net.names x ⊎ Contains (names_in names) x

-- the name is that of a module or of a set
abbrev pub IsDeclaredName : Network → List (List ℕ) → List ℕ → Type 0
IsDeclaredName net pieces x = Contains net.names x ⊎ IsSet pieces x

-- each name in the first 4097 rules is a module's or in the list, and no name of the list is a module's
pub record AreRuleNames (net : Network) (pieces : List (List ℕ)) (names : List Name) : Type 0 where
  pub noted : (line : ℕ) (kind : RuleKind) (x y : List ℕ) → IsWithinRuleLimit pieces line → States pieces line (Restricts kind x y) → IsKnownName net names x × IsKnownName net names y
  pub apart : (x : List ℕ) → Contains (names_in names) x → Contains net.names x → ⊥

-- there is a flag for each name, which is set if and only if a line adds modules to the set of this name
pub record AreDeclared (pieces : List (List ℕ)) (names : List Name) (declared : List Bool) : Type 0 where
  pub size : length declared ≡ length names
  pub elements : (x : List ℕ) (k : ℕ) → index_among names x ≡ Some k → (marked declared k ≡ true) ↔ IsSet pieces x

-- the names of the modules, and of the sets that rules name
pub record AreNames (net : Network) (pieces : List (List ℕ)) (names : Names) : Type 0 where
  pub modules : names_in names.modules.keys ≡ net.names
  pub sets : AreRuleNames net pieces names.sets.keys
  pub declared : AreDeclared pieces names.sets.keys names.declared.items
