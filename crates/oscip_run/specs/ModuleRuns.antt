-- What a run that lists the modules of a tree reads and writes.
use Rattle.std.specs.Prelude.{◌≡◌, ◌<◌, ℕ, List, ◌++◌, map, slice_get, slice_index, Option, Some, None, option_map, Result, Contains, codes}
use Rattle.std.specs.List.{flat_map}
use Rattle.std.specs.String.{string_bytes}
use Rattle.cut_net.specs.Network.{Network}
use Rattle.oscip_run.specs.ImportRuns.{IsWritingRun}
use Rattle.oscip_run.specs.Runs.{IsRejectedTree}
use Rattle.oscip_run.specs.declared.fault.RunFault.{RunFault}
use Rattle.oscip_run.specs.declared.listing.ListedModule.{ListedModule}
use Rattle.source_tree.specs.Trees.{AreAccepted, IsNetOfTree, ModuleFile, names}
use Rattle.source_tree.specs.declared.source.Source.{Source}
use Rattle.texts.specs.Places.{path_text, Style}

-- the name of a module, and the path of its file if it has one
pub record ModuleEntry : Type 0 where
  pub name : List ℕ
  pub path : Option (List ℕ)

-- what follows the name in the line of an entry: a space and the path in this style, if there is a path
abbrev pub path_suffix : Style → Option (List ℕ) → List ℕ
path_suffix style (Some path) = codes " " ++ path_text style path
path_suffix style None = codes ""

-- the line of an entry: its name, then a space and its path if it has one, and an LF
abbrev pub entry_line : Style → ModuleEntry → List ℕ
entry_line style entry = entry.name ++ path_suffix style entry.path ++ codes "\n"

-- a line for each entry, in their order
abbrev pub entry_lines : Style → List ModuleEntry → List ℕ
entry_lines style entries = flat_map (entry_line style) entries

-- one of the files has this path and declares the module of this name
abbrev pub IsDeclaredIn : List ModuleFile → List ℕ → List ℕ → Type 0
IsDeclaredIn files name path = (file : ModuleFile) × Contains files file × (names file 1 ≡ name) × (file.path ≡ path)

-- the path is that of a file that declares the module of this name; without a path no file declares the module
abbrev pub IsPathOf : List ModuleFile → List ℕ → Option (List ℕ) → Type 0
IsPathOf files name (Some path) = IsDeclaredIn files name path
IsPathOf files name None = (path : List ℕ) → IsDeclaredIn files name path → ⊥

-- the text has a line for each module of the tree's network, sorted by name, with the path of the file that declares it, if there is one
pub record IsModulesText (style : Style) (sources : List Source) (text : List ℕ) : Type 0 where
  pub net : Network
  pub is_net : IsNetOfTree sources net
  pub files : List ModuleFile
  pub accepted : AreAccepted sources files
  pub entries : List ModuleEntry
  pub named : map (λ (entry : ModuleEntry). entry.name) entries ≡ net.names
  pub paths : (entry : ModuleEntry) → Contains entries entry → IsPathOf files entry.name entry.path
  pub lines : text ≡ entry_lines style entries

-- a run that lists the modules of a tree
abbrev pub IsModulesRun : Style → List Source → Option (List ℕ) → Option (List ℕ) → Result (Unit {0}) RunFault → Type 0
IsModulesRun style sources = IsWritingRun (IsModulesText style sources) (IsRejectedTree sources)

-- ---- how entries are made

-- a listed module as an entry
abbrev pub entry_of : ListedModule → ModuleEntry
entry_of listed = record { name = listed.name.now; path = option_map (λ path. path.now) listed.path }

-- modules has the number of each file's module. The path is that of one of the first count files, whose module is m; without a path none of
-- these files has the module m
abbrev pub IsPathAt : List Source → List ℕ → ℕ → ℕ → Option (List ℕ) → Type 0
IsPathAt sources modules count m (Some path) =
    (i : ℕ) × (i < count) × (slice_index modules i ≡ m) × (source : Source) × (slice_get sources i ≡ Some source) × (path ≡ string_bytes source.path)
IsPathAt sources modules count m None = (i : ℕ) → i < count → slice_index modules i ≡ m → ⊥
