-- The rules that a text has for a tree, and its faults. The tree is given by its network, and by the files of its modules.
use Rattle.std.specs.Prelude.{◌≡◌, ◌⊎◌, ℕ, ◌<◌, true, List, [], ◌∷◌, ◌++◌, length, drop, nat_eq, AllPairs, Contains, if◌then◌else◌}
use Rattle.std.specs.List.{ends_with, starts_with}
use Rattle.cut_net.specs.declared.priced.Priced.{Priced}
use Rattle.cut_net.specs.Network.{Network, name_of}
use Rattle.cut_net.specs.Prices.{is_named}
use Rattle.glob.specs.Globs.{Matches}
use Rattle.cut_rules.specs.declared.file.File.{File}
use Rattle.cut_rules.specs.declared.rule.RuleKind.{RuleKind}
use Rattle.cut_rules.specs.RuleLines.{RuleLine, Selector, Module, Folder, Named, Tree, Adds, Restricts, Allow, IsEmptyOrComment, IsPieceAt, States, Spells}

-- ---- sets

-- the path with a slash at its end, which is added unless the path ends with one
abbrev pub with_slash : List ℕ → List ℕ
with_slash path = if ends_with nat_eq path (47 ∷ []) then path else path ++ 47 ∷ []

-- the path without the `./` at its beginning, if it begins with that
abbrev pub without_dot : List ℕ → List ℕ
without_dot path = if starts_with nat_eq path (46 ∷ 47 ∷ []) then drop 2 path else path

-- the prefix of the paths of all files below the folder `path`; it is empty for `.` and `./`, the folder of the tree
abbrev pub folder_prefix : List ℕ → List ℕ
folder_prefix path = without_dot (with_slash path)

-- the path of the file is below the folder `path`
abbrev pub IsBelow : List ℕ → List ℕ → Type 0
IsBelow path file = (rest : List ℕ) × (file ≡ folder_prefix path ++ rest)

-- the module has a file with the property
abbrev pub HasFile : List File → (List ℕ → Type 0) → ℕ → Type 0
HasFile files P m = (file : File) × Contains files file × (file.module ≡ m) × P file.path.now

module _ (net : Network) (files : List File) where
  -- the selector selects the module
  abbrev pub Selects : Selector → ℕ → Type 0
  Selects (Module name) m = (m < length net.names) × (name_of net m ≡ name)
  Selects (Folder path) m = HasFile files (IsBelow path) m
  Selects (Named pattern) m = (m < length net.names) × Matches pattern (name_of net m)
  Selects Tree m = HasFile files (λ path. Unit {0}) m

-- a line adds modules to the set of this name
abbrev pub IsSet : List (List ℕ) → List ℕ → Type 0
IsSet pieces s = (line : ℕ) × (selector : Selector) × States pieces line (Adds s selector)

-- the module is the one of this name, or it is in the set of this name
pub data IsIn (net : Network) (files : List File) (pieces : List (List ℕ)) (x : List ℕ) (m : ℕ) : Type 0 where
  Itself : name_of net m ≡ x → IsIn net files pieces x m
  Added : (line : ℕ) (selector : Selector) → States pieces line (Adds x selector) → Selects net files selector m → IsIn net files pieces x m

-- ---- allowed imports

-- a line allows the import
abbrev pub IsAllowed : Network → List (List ℕ) → Priced → Type 0
IsAllowed net pieces i = (line : ℕ) × States pieces line (Allow (name_of net i.from) (name_of net i.to))

-- an import that no line allows leads from the one module to the other
abbrev pub IsUnallowedImport : Network → List (List ℕ) → ℕ → ℕ → Type 0
IsUnallowedImport net pieces m n = (i : Priced) × Contains net.imports i × (i.from ≡ m) × (i.to ≡ n) × (IsAllowed net pieces i → ⊥)

-- the network has no import of the second module by the first
abbrev pub LacksImport : Network → List ℕ → List ℕ → Type 0
LacksImport net m n = (i : Priced) → Contains net.imports i → is_named net m n i ≡ true → ⊥

-- the line allows an import that the network doesn't have
abbrev pub IsStale : Network → List (List ℕ) → ℕ → List ℕ → List ℕ → Type 0
IsStale net pieces line m n = States pieces line (Allow m n) × LacksImport net m n

-- ---- faults

-- the errors of a line, with the names in it
pub data LineFault : Type 0 where
  BadLine : LineFault
  SetIsModule : List ℕ → LineFault
  NoSuchModule : List ℕ → LineFault
  TwiceAllowed : List ℕ → List ℕ → LineFault
  EmptySet : List ℕ → LineFault
  TooMany : LineFault

-- 4096 lines before this one have the property
pub record IsOverLimit (P : ℕ → Type 0) (line : ℕ) : Type 0 where
  pub lines : List ℕ
  pub many : length lines ≡ 4096
  pub ascending : AllPairs (λ i j. i < j) lines
  pub each : (l : ℕ) → Contains lines l → (l < line) × P l

-- the text by which a line selects modules; for a `tree` line the name of the set
abbrev pub selector_text : List ℕ → Selector → List ℕ
selector_text s (Module m) = m
selector_text s (Folder path) = path
selector_text s (Named pattern) = pattern
selector_text s Tree = s

-- the fault of a line that adds no module to its set
abbrev pub empty_selection_fault : List ℕ → Selector → LineFault
empty_selection_fault s (Module m) = NoSuchModule m
empty_selection_fault s (Folder path) = EmptySet path
empty_selection_fault s (Named pattern) = EmptySet pattern
empty_selection_fault s Tree = EmptySet s

-- the line is a rule
abbrev pub IsRule : List (List ℕ) → ℕ → Type 0
IsRule pieces line = (kind : RuleKind) × (x y : List ℕ) × States pieces line (Restricts kind x y)

-- the line has a pattern
abbrev pub HasPattern : List (List ℕ) → ℕ → Type 0
HasPattern pieces line = (s pattern : List ℕ) × States pieces line (Adds s (Named pattern))

module _ (net : Network) (files : List File) (pieces : List (List ℕ)) where
  -- the name is that of a module of the network
  abbrev pub IsModule : List ℕ → Type 0
  IsModule name = Contains net.names name

  -- the name is neither that of a module nor that of a set
  abbrev pub IsUnknown : List ℕ → Type 0
  IsUnknown name = (IsModule name → ⊥) × (IsSet pieces name → ⊥)

  -- this is the first unknown name of the two
  abbrev pub IsFirstUnknown : List ℕ → List ℕ → List ℕ → Type 0
  IsFirstUnknown name x y = ((name ≡ x) × IsUnknown x) ⊎ ((name ≡ y) × IsUnknown y × (IsUnknown x → ⊥))

  -- a line with this content has the fault
  abbrev pub ContentHasFault : ℕ → LineFault → RuleLine → Type 0
  ContentHasFault line (SetIsModule name) (Adds s selector) = (name ≡ s) × IsModule s
  ContentHasFault line (NoSuchModule name) (Adds s (Module m)) = (name ≡ m) × (IsModule m → ⊥)
  ContentHasFault line (NoSuchModule name) (Restricts kind x y) = IsFirstUnknown name x y
  ContentHasFault line (TwiceAllowed m n) (Allow importer imported) = (m ≡ importer) × (n ≡ imported) × (before : ℕ) × (before < line) × States pieces before (Allow importer imported)
  ContentHasFault line (EmptySet text) (Adds s selector) = (text ≡ selector_text s selector) × ((m : ℕ) → Selects net files selector m → ⊥)
  ContentHasFault line TooMany (Adds s (Named pattern)) = IsOverLimit (HasPattern pieces) line
  ContentHasFault line TooMany (Restricts kind x y) = IsOverLimit (IsRule pieces) line
  ContentHasFault line fault content = ⊥

  -- the line is neither empty nor a comment, and has no valid content
  abbrev pub IsInvalidLine : ℕ → Type 0
  IsInvalidLine line = (piece : List ℕ) × IsPieceAt pieces line piece × (IsEmptyOrComment piece → ⊥) × ((content : RuleLine) → Spells piece content → ⊥)

  -- the line of this number has this fault
  abbrev pub HasFault : ℕ → LineFault → Type 0
  HasFault line fault = (IsInvalidLine line × (fault ≡ BadLine)) ⊎ ((content : RuleLine) × States pieces line content × ContentHasFault line fault content)

-- the order in which the errors of a line are tested
abbrev pub rank : LineFault → ℕ
rank BadLine = 0
rank (SetIsModule name) = 1
rank (NoSuchModule name) = 2
rank (TwiceAllowed m n) = 3
rank (EmptySet text) = 4
rank TooMany = 5
