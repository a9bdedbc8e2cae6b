-- The output for rules: the imports that break them and the stale `allow` lines, or `yes`.
use Rattle.std.specs.Prelude.{◌≡◌, ◌⊎◌, ℕ, ◌<◌, Bool, true, false, List, [], ◌∷◌, ◌++◌, length, map, slice_get, slice_index_or, AllPairs, Contains, Option, Some, None, if◌then◌else◌, codes}
use Rattle.std.specs.List.{flat_map}
use Rattle.std.specs.Fmt.{decimal}
use Rattle.digraph.specs.Chains.{IsChain}
use Rattle.digraph.specs.ShortestPaths.{IsLeastOf}
use Rattle.texts.specs.Places.{Style, location_text}
use Rattle.cut_net.specs.declared.priced.Priced.{Priced}
use Rattle.cut_net.specs.Network.{Network, name_of, missing_item}
use Rattle.cut_rules.specs.declared.file.File.{File}
use Rattle.cut_rules.specs.declared.rule.StaleAllow.{StaleAllow}
use Rattle.cut_rules.specs.declared.site.Site.{Site}
use Rattle.cut_rules.specs.RuleLines.{Forbid, ForbidImport, May, States}
use Rattle.cut_rules.specs.Rules.{IsUnallowedImport, IsAllowed, IsIn, IsStale}

-- ---- imports that break a rule

-- a path to the module m from a source, which enters no barred module after its start
module _ (Leads : ℕ → ℕ → Type 0) (IsSource IsBarred : ℕ → Type 0) (m : ℕ) where
  -- the path begins at a source, leads to the module m, and enters no barred module after its start
  abbrev pub IsEntryPath : List ℕ → Type 0
  IsEntryPath [] = ⊥
  IsEntryPath (start ∷ more) = IsSource start × IsChain Leads start more m × ((n : ℕ) → Contains more n → IsBarred n → ⊥)

-- the line is the first `may` line whose first name is x
pub record IsFirstMay (pieces : List (List ℕ)) (line : ℕ) (x : List ℕ) : Type 0 where
  pub target : List ℕ
  pub says : States pieces line (May x target)
  pub first : (before : ℕ) (y : List ℕ) → before < line → States pieces before (May x y) → ⊥

module _ (net : Network) (files : List File) (pieces : List (List ℕ)) (line m n : ℕ) where
  -- the rule of the line forbids that m imports n at the end of this path
  pub data IsForbidden (path : List ℕ) : Type 0 where
    ByForbid : (x y : List ℕ) → States pieces line (Forbid x y) → IsIn net files pieces y n → IsEntryPath (IsUnallowedImport net pieces) (IsIn net files pieces x) (IsIn net files pieces y) m path → IsForbidden path
    ByForbidImport : (x y : List ℕ) → States pieces line (ForbidImport x y) → IsIn net files pieces x m → IsIn net files pieces y n → path ≡ m ∷ [] → IsForbidden path
    ByMay : (x : List ℕ) → IsFirstMay pieces line x → IsIn net files pieces x m → (IsIn net files pieces x n → ⊥)
        → ((other : ℕ) (y : List ℕ) → States pieces other (May x y) → IsIn net files pieces y n → ⊥) → path ≡ m ∷ [] → IsForbidden path

-- an import that breaks the rule of a line: the number of the import in the network, and the path to its importing module
pub record Violation : Type 0 where
  pub line : ℕ
  pub import_number : ℕ
  pub path : List ℕ

-- the import of this number in the network
abbrev pub import_at : Network → ℕ → Priced
import_at net k = slice_index_or net.imports k missing_item

module _ (net : Network) (files : List File) (pieces : List (List ℕ)) where
  -- no line allows the import, and the rule of the line forbids it at the end of this path
  pub record Breaks (line k : ℕ) (path : List ℕ) : Type 0 where
    pub within : k < length net.imports
    pub counted : IsAllowed net pieces (import_at net k) → ⊥
    pub forbidden : IsForbidden net files pieces line (import_at net k).from (import_at net k).to path

  -- the violation has a path by which its import breaks the rule: the one with the fewest imports, of several the one with the smallest
  -- names from the first on
  abbrev pub IsViolation : Violation → Type 0
  IsViolation v = IsLeastOf (Breaks v.line v.import_number) v.path

-- the order of violations: by the line of the rule, then by the number of the import, and so by the names of its modules
abbrev pub ComesBefore : Violation → Violation → Type 0
ComesBefore v w = (v.line < w.line) ⊎ ((v.line ≡ w.line) × (v.import_number < w.import_number))

-- exactly the imports that break the rules, each once for each rule, in order
pub record AreViolations (net : Network) (files : List File) (pieces : List (List ℕ)) (violations : List Violation) : Type 0 where
  pub each : (v : Violation) → Contains violations v → IsViolation net files pieces v
  pub all : (line k : ℕ) (path : List ℕ) → Breaks net files pieces line k path → (v : Violation) × Contains violations v × (v.line ≡ line) × (v.import_number ≡ k)
  pub ascending : AllPairs ComesBefore violations

-- ---- stale lines

-- an `allow` line whose import the network doesn't have: its number, and the names of the two modules
pub record Stale : Type 0 where
  pub line : ℕ
  pub importer : List ℕ
  pub imported : List ℕ

-- a stale line with the bytes of its names
abbrev pub stale_of : StaleAllow → Stale
stale_of s = record { line = s.line; importer = s.importer.now; imported = s.imported.now }

-- exactly the stale `allow` lines of the text, in order
pub record AreStaleLines (net : Network) (pieces : List (List ℕ)) (stale : List Stale) : Type 0 where
  pub each : (s : Stale) → Contains stale s → IsStale net pieces s.line s.importer s.imported
  pub all : (line : ℕ) (m n : List ℕ) → IsStale net pieces line m n → (s : Stale) × Contains stale s × (s.line ≡ line)
  pub ascending : AllPairs (λ (s t : Stale). s.line < t.line) stale

-- ---- the text

-- the names, each after a space
abbrev pub names_after_spaces : List (List ℕ) → List ℕ
names_after_spaces names = flat_map (λ (name : List ℕ). 32 ∷ name) names

-- the text of an import's location in this style; empty without a location
abbrev pub site_text : Style → Option Site → List ℕ
site_text style None = []
site_text style (Some site) = location_text style site.path.now site.line site.column

-- the line `PATH:LINE:COL: no LINE A .. M N` of a violation, with the location in this style
abbrev pub violation_line : Style → Network → List Site → Violation → List ℕ
violation_line style net sites v =
    site_text style (slice_get sites v.import_number) ++ (codes ": no " ++ (decimal v.line ++ (names_after_spaces (map (name_of net) (v.path ++ (import_at net v.import_number).to ∷ [])) ++ 10 ∷ [])))

-- the line `stale LINE M N` of a stale `allow` line
abbrev pub stale_line : Stale → List ℕ
stale_line s = codes "stale " ++ (decimal s.line ++ (names_after_spaces (s.importer ∷ s.imported ∷ []) ++ 10 ∷ []))

-- the lines of the violations, and then the stale lines
abbrev pub lines_text : Style → Network → List Site → List Violation → List Stale → List ℕ
lines_text style net sites violations stale = flat_map (violation_line style net sites) violations ++ flat_map stale_line stale

-- whether the list is empty
abbrev pub is_none : {X : Type 0} → List X → Bool
is_none [] = true
is_none (_ ∷ _) = false

-- whether nothing breaks a rule and no line is stale
abbrev pub is_clean : List Violation → List Stale → Bool
is_clean violations stale = if is_none violations then is_none stale else false

-- the output: the lines of violations and the stale lines, or `yes` if there is none
abbrev pub verdict_text : Style → Network → List Site → List Violation → List Stale → List ℕ
verdict_text style net sites violations stale = if is_clean violations stale then codes "yes" ++ 10 ∷ [] else lines_text style net sites violations stale

-- ---- the paths that a rule forbids

module _ (net : Network) (files : List File) (pieces : List (List ℕ)) (line : ℕ) where
  -- a path of imports that no line allows, which the rule of the line forbids: of one or more imports for `forbid`, of one for the other
  -- two kinds
  pub data IsForbiddenPath : List ℕ → Type 0 where
    PathByForbid : (x y : List ℕ) (start next : ℕ) (more : List ℕ) (end : ℕ) → States pieces line (Forbid x y) → IsIn net files pieces x start → IsChain (IsUnallowedImport net pieces) start (next ∷ more) end → IsIn net files pieces y end
        → IsForbiddenPath (start ∷ next ∷ more)
    PathByForbidImport : (x y : List ℕ) (m n : ℕ) → States pieces line (ForbidImport x y) → IsIn net files pieces x m → IsUnallowedImport net pieces m n → IsIn net files pieces y n → IsForbiddenPath (m ∷ n ∷ [])
    PathByMay : (x : List ℕ) (m n : ℕ) → IsFirstMay pieces line x → IsIn net files pieces x m → IsUnallowedImport net pieces m n → (IsIn net files pieces x n → ⊥)
        → ((other : ℕ) (y : List ℕ) → States pieces other (May x y) → IsIn net files pieces y n → ⊥) → IsForbiddenPath (m ∷ n ∷ [])

-- the modules of import k follow each other on the path
pub record IsOnPath (net : Network) (path : List ℕ) (k : ℕ) : Type 0 where
  pub before : List ℕ
  pub after : List ℕ
  pub whole : path ≡ before ++ (import_at net k).from ∷ (import_at net k).to ∷ after

-- the import of number k breaks the rule of the line, by some path
abbrev pub BreaksRule : Network → List File → List (List ℕ) → ℕ → ℕ → Type 0
BreaksRule net files pieces line k = (path : List ℕ) × Breaks net files pieces line k path
