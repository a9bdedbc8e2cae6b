-- The builder of rules. A name has a number: that of its module, or, after the numbers of all modules, the index of its set.
use Rattle.std.specs.Prelude.{◌≡◌, ◌↔◌, ◌⊎◌, ℕ, ◌+◌, ◌<◌, ◌≤◌, Bool, true, false, List, [], length, Option, Some, None, Result, Ok, Err, option_map, slice_get, slice_index_or, AllPairs, Contains}
use Rattle.std.specs.BTreeSet.{BTreeSet, contains_by}
use Rattle.std.specs.Cmp.Lexicographic.{slice_cmp}
use Rattle.std.specs.Ordering.{nat_cmp, ordering_then}
use Rattle.digraph.specs.Marks.{marked}
use Rattle.cut_net.specs.Network.{Network, index_of, name_of, missing_item, unpinned}
use Rattle.cut_rules.specs.declared.builder.RulesBuilder.{RulesBuilder}
use Rattle.cut_rules.specs.declared.builder.LineContext.{LineContext}
use Rattle.cut_rules.specs.declared.fault.RulesFault.{RulesFault}
use Rattle.cut_rules.specs.declared.file.File.{File}
use Rattle.cut_rules.specs.declared.rule.Rule.{Rule}
use Rattle.cut_rules.specs.declared.rule.RuleKind.{RuleKind}
use Rattle.cut_rules.specs.declared.rule.StaleAllow.{StaleAllow}
use Rattle.cut_rules.specs.declared.table.ModuleSet.{ModuleSet}
use Rattle.cut_rules.specs.declared.table.SetTable.{SetTable}
use Rattle.cut_rules.specs.RuleLines.{RuleLine, Selector, Module, Folder, Named, Tree, Adds, Restricts, Allow, States}
use Rattle.cut_rules.specs.Faults.{IsRefusal, UnlessMemory}
use Rattle.cut_rules.specs.Names.{names_in, AreLinesOf, AreNames}
use Rattle.cut_rules.specs.Rules.{LineFault, HasFault, HasPattern, IsStale, Selects}

-- one of the first `count` lines adds modules to the set of the name s
abbrev pub IsSetWithin : List (List ℕ) → ℕ → List ℕ → Type 0
IsSetWithin pieces count s = (line : ℕ) × (line ≤ count) × (selector : Selector) × States pieces line (Adds s selector)

-- the number of a name, given the index of its module and of its set, if any: a module's index, or a set's index after `nodes` modules
abbrev pub number_by : ℕ → Option ℕ → Option ℕ → Option ℕ
number_by nodes (Some m) set = Some m
number_by nodes None set = option_map (λ k. nodes + k) set

-- the number of the name: the index of its module, or the number of all modules plus the index of its set; none if it is unknown
abbrev pub number_of : Network → List (List ℕ) → List ℕ → Option ℕ
number_of net sets name = number_by (length net.names) (index_of net name) (index_of (unpinned sets []) name)

-- no module has the name, and place is its index among the sets, or none if it isn't among them
abbrev pub IsSetIndex : Network → List (List ℕ) → List ℕ → Option ℕ → Type 0
IsSetIndex net sets name place = (index_of net name ≡ None) × (index_of (unpinned sets []) name ≡ place)

-- ---- members of sets

-- the index denotes the module: it is that of a file of the module, or, after the indices of all files, the module's own
abbrev pub IsAtIndex : List File → ℕ → ℕ → Type 0
IsAtIndex files k m = ((f : File) × (slice_get files k ≡ Some f) × (f.module ≡ m)) ⊎ (k ≡ length files + m)

-- an index in this range, whose end is excluded, denotes the module
abbrev pub HasIndex : List File → ℕ → ℕ → ℕ → Type 0
HasIndex files from to m = (k : ℕ) × (from ≤ k) × (k < to) × IsAtIndex files k m

-- an index whose flag is set denotes the module
abbrev pub HasFlaggedIndex : List File → List Bool → ℕ → Type 0
HasFlaggedIndex files flags m = (k : ℕ) × IsAtIndex files k m × (marked flags k ≡ true)

-- the set at this index has the module
abbrev pub InSet : List File → List ModuleSet → ℕ → ℕ → Type 0
InSet files sets s m = (set : ModuleSet) × (slice_get sets s ≡ Some set) × HasFlaggedIndex files set.flags.items m

-- the table has the module in the set of this number
abbrev pub IsMember : List File → SetTable → ℕ → ℕ → Type 0
IsMember files table number m = (s : ℕ) × (number ≡ table.modules + s) × InSet files table.sets.items s m

-- one of the first `count` lines adds the module m to the set of the name x
abbrev pub IsAddedWithin : Network → List File → List (List ℕ) → ℕ → List ℕ → ℕ → Type 0
IsAddedWithin net files pieces count x m = (line : ℕ) × (line ≤ count) × (selector : Selector) × States pieces line (Adds x selector) × Selects net files selector m

-- the selector selects a module
abbrev pub SelectsAny : Network → List File → Selector → Type 0
SelectsAny net files selector = (m : ℕ) × Selects net files selector m

-- each set has this number of flags
abbrev pub AreSized : ℕ → List ModuleSet → Type 0
AreSized places sets = (s : ℕ) (set : ModuleSet) → slice_get sets s ≡ Some set → length set.flags.items ≡ places

-- there are `count` sets, each of `places` flags, none of which is set
pub record AreEmptySets (count places : ℕ) (sets : List ModuleSet) : Type 0 where
  pub size : length sets ≡ count
  pub sized : AreSized places sets
  pub none : (s k : ℕ) (set : ModuleSet) → slice_get sets s ≡ Some set → marked set.flags.items k ≡ false

-- the number of patterns of a selector: 1 for a pattern, otherwise 0
abbrev pub pattern_count : Selector → ℕ
pattern_count (Module m) = 0
pattern_count (Folder path) = 0
pattern_count (Named pattern) = 1
pattern_count Tree = 0

-- the table has an index for each file and each module, and the names are those of the modules
pub record IsTableFor (context : LineContext) (table : SetTable) : Type 0 where
  pub sized : AreSized (length context.files.now + length context.net.now.names) table.sets.items
  pub names : names_in context.names.now.modules.keys ≡ context.net.now.names

-- the new table is the old one with the selected modules in the set at this index, if there is one; `any` is whether a module is selected
pub record IsAddition (net : Network) (files : List File) (old : SetTable) (place : Option ℕ) (selector : Selector) (any : Bool) (new : SetTable) : Type 0 where
  pub any_is : (any ≡ true) ↔ SelectsAny net files selector
  pub added : (s m : ℕ) → m < length net.names → InSet files new.sets.items s m ↔ (InSet files old.sets.items s m ⊎ ((place ≡ Some s) × Selects net files selector m))
  pub patterns : new.patterns ≡ old.patterns + pattern_count selector
  pub modules : new.modules ≡ old.modules
  pub count : length new.sets.items ≡ length old.sets.items
  pub sized : (places : ℕ) → AreSized places old.sets.items → AreSized places new.sets.items

-- the table has the modules that the first `count` lines add to sets, and the number of their patterns
pub record IsTable (net : Network) (files : List File) (sets pieces : List (List ℕ)) (count : ℕ) (table : SetTable) : Type 0 where
  pub elements : (x : List ℕ) (number m : ℕ) → m < length net.names → number_of net sets x ≡ Some number → IsMember files table number m ↔ IsAddedWithin net files pieces count x m
  pub patterns : (lines : List ℕ) × AreLinesOf (HasPattern pieces) count lines × (length lines ≡ table.patterns)
  pub few : table.patterns ≤ 4096
  pub modules : table.modules ≡ length net.names
  pub size : length table.sets.items ≡ length sets
  pub sized : AreSized (length files + length net.names) table.sets.items

-- ---- rules

-- the line of the rule states a rule of its kind, of two names that have the rule's two numbers
abbrev pub IsRuleOf : Network → List (List ℕ) → List (List ℕ) → Rule → Type 0
IsRuleOf net sets pieces r = (x y : List ℕ) × States pieces r.line (Restricts r.kind x y) × (number_of net sets x ≡ Some r.first) × (number_of net sets y ≡ Some r.second)

-- exactly the rules of the first `count` lines, in order
pub record AreRules (net : Network) (sets pieces : List (List ℕ)) (count : ℕ) (rules : List Rule) : Type 0 where
  pub each : (r : Rule) → Contains rules r → (r.line ≤ count) × IsRuleOf net sets pieces r
  pub all : (line : ℕ) (kind : RuleKind) (x y : List ℕ) → line ≤ count → States pieces line (Restricts kind x y) → (r : Rule) × Contains rules r × (r.line ≡ line)
  pub ascending : AllPairs (λ (r s : Rule). r.line < s.line) rules
  pub few : length rules ≤ 4096

-- ---- allowed imports

-- exactly the imports that one of the first `count` lines allows are flagged
pub record AreAllowed (net : Network) (pieces : List (List ℕ)) (count : ℕ) (allowed : List Bool) : Type 0 where
  pub size : length allowed ≡ length net.imports
  pub elements : (k : ℕ) → k < length net.imports →
      (marked allowed k ≡ true) ↔
      ((line : ℕ) × (line ≤ count) × States pieces line (Allow (name_of net (slice_index_or net.imports k missing_item).from) (name_of net (slice_index_or net.imports k missing_item).to)))

-- exactly the stale `allow` lines among the first `count` lines, in order
pub record AreStale (net : Network) (pieces : List (List ℕ)) (count : ℕ) (stale : List StaleAllow) : Type 0 where
  pub each : (s : StaleAllow) → Contains stale s → (s.line ≤ count) × IsStale net pieces s.line s.importer.now s.imported.now
  pub all : (line : ℕ) (m n : List ℕ) → line ≤ count → IsStale net pieces line m n → (s : StaleAllow) × Contains stale s × (s.line ≡ line)
  pub ascending : AllPairs (λ (s t : StaleAllow). s.line < t.line) stale

-- the keys are pairs of names: exactly the pairs of an importer and an imported module that the first `count` lines allow
abbrev pub ArePairs : {K : Type 0} → BTreeSet K → (K → List ℕ) → (K → List ℕ) → List (List ℕ) → ℕ → Type 0
ArePairs keys first second pieces count =
    (m n : List ℕ) → (contains_by (λ key. ordering_then (slice_cmp nat_cmp m (first key)) (slice_cmp nat_cmp n (second key))) keys ≡ true) ↔ ((line : ℕ) × (line ≤ count) × States pieces line (Allow m n))

-- ---- lines

-- the first `count` lines have no fault, and the builder has what they state
pub record HasLines (net : Network) (files : List File) (sets pieces : List (List ℕ)) (count : ℕ) (builder : RulesBuilder) : Type 0 where
  pub sound : (line : ℕ) (fault : LineFault) → line ≤ count → HasFault net files pieces line fault → ⊥
  pub table : IsTable net files sets pieces count builder.table
  pub rules : AreRules net sets pieces count builder.rules.items
  pub allowed : AreAllowed net pieces count builder.allowed.items
  pub stale : AreStale net pieces count builder.stale.items
  pub pairs : ArePairs builder.pairs (λ key. key.0.now) (λ key. key.1.now) pieces count

-- the result of adding the line of this number: the builder has all lines up to it, or the error is the first fault of the text
abbrev pub IsLineOutcome : Network → List File → List (List ℕ) → List (List ℕ) → ℕ → Result (Unit {0}) RulesFault → RulesBuilder → Type 0
IsLineOutcome net files sets pieces line (Ok _) builder = HasLines net files sets pieces line builder
IsLineOutcome net files sets pieces line (Err fault) builder = UnlessMemory fault (IsRefusal net files pieces fault)

-- the builder has the lines before that of the context
pub record HasPreviousLines (context : LineContext) (pieces : List (List ℕ)) (builder : RulesBuilder) : Type 0 where
  pub place : ℕ
  pub number : context.line ≡ place + 1
  pub names : AreNames context.net.now pieces context.names.now
  pub built : HasLines context.net.now context.files.now (names_in context.names.now.sets.keys) pieces place builder

-- the builder has the lines before that of the context, whose line states this
abbrev pub IsStated : LineContext → List (List ℕ) → RuleLine → RulesBuilder → Type 0
IsStated context pieces content builder = HasPreviousLines context pieces builder × States pieces context.line content

-- the builder before the first line: no set has a module, and there is no rule, no allowed import and no stale line
pub record IsEmptyFor (context : LineContext) (builder : RulesBuilder) : Type 0 where
  pub modules : builder.table.modules ≡ length context.net.now.names
  pub sets : AreEmptySets (length context.names.now.sets.keys) (length context.files.now + length context.net.now.names) builder.table.sets.items
  pub patterns : builder.table.patterns ≡ 0
  pub rules : builder.rules.items ≡ []
  pub size : length builder.allowed.items ≡ length context.net.now.imports
  pub none : (k : ℕ) → marked builder.allowed.items k ≡ false
  pub stale : builder.stale.items ≡ []
  pub pairs : builder.pairs.keys ≡ []
