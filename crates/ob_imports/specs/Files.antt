-- Parsed files of a tree: their modules and imports.
use Rattle.std.specs.Prelude.{◌≡◌, ℕ, ◌⊎◌, ◌↔◌, List, ◌++◌, map, filter, Contains}
use Rattle.std.specs.List.{IsDistinct}
use Rattle.std.specs.Str.{bytes_eq}
use Rattle.std.specs.String.{string_bytes}
use Rattle.ob_imports.specs.declared.parsed.Parsed.{Parsed}
use Rattle.ob_imports.specs.Names.{AreAscending, texts}

-- a file: its path, its module's name, and the names in its import items
pub record File : Type 0 where
  pub path : List ℕ
  pub name : List ℕ
  pub imports : List (List ℕ)

abbrev pub file_of : Parsed → File
file_of p = record { path = string_bytes p.path; name = string_bytes p.name; imports = texts p.imports.items }

abbrev pub files_of : List Parsed → List File
files_of parsed = map file_of parsed

-- the module names, in the order of the files
abbrev pub names_of : List File → List (List ℕ)
names_of files = map (λ f. f.name) files

-- the paths of the files with a module of this name
abbrev pub paths_of : List File → List ℕ → List (List ℕ)
paths_of files name = map (λ f. f.path) (filter (λ f. bytes_eq f.name name) files)

-- module m imports n
abbrev pub Imports : List File → List ℕ → List ℕ → Type 0
Imports files m n = (f : File) × Contains files f × (f.name ≡ m) × Contains f.imports n

-- a module of the files, or one that they import
abbrev pub IsNode : List File → List ℕ → Type 0
IsNode files n = Contains (names_of files) n ⊎ ((m : List ℕ) × Imports files m n)

-- an external module: it is imported, and no file has it
abbrev pub IsExternal : List File → List ℕ → Type 0
IsExternal files n = ((m : List ℕ) × Imports files m n) × (Contains (names_of files) n → ⊥)

-- the module names are distinct
abbrev pub DifferInName : List File → Type 0
DifferInName files = IsDistinct bytes_eq (names_of files)

-- the names of all modules: first the modules of the files, in the order of the files, then the external modules, strictly sorted by name
pub record AreNodes (files : List File) (names : List (List ℕ)) : Type 0 where
  pub others : List (List ℕ)
  pub whole : names ≡ names_of files ++ others
  pub ascend : AreAscending others
  pub external : (n : List ℕ) → Contains others n ↔ IsExternal files n
