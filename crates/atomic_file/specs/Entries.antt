-- What the paths of a file system name, and how that changes.
use Rattle.std.specs.Prelude.{◌≡◌, ◌≢◌, ℕ, List}
use Rattle.atomic_file.specs.declared.file_system.FileKind.{FileKind}
use Rattle.atomic_file.specs.declared.file_system.FileKind.TheVariants as kinds

-- what a path names: nothing, a file with its content, a link that leads to this path, or anything else
pub data Entry : Type 0 where
  Missing : Entry
  File : List ℕ → Entry
  Link : List ℕ → Entry
  Other : Entry

-- the kind of what a path names
abbrev pub kind_of : Entry → FileKind
kind_of Missing = kinds.Missing
kind_of (File bytes) = kinds.File
kind_of (Link target) = kinds.Link
kind_of Other = kinds.Other

-- a file or nothing
abbrev pub IsFileOrMissing : Entry → Type 0
IsFileOrMissing Missing = Unit {0}
IsFileOrMissing (File bytes) = Unit {0}
IsFileOrMissing (Link target) = ⊥
IsFileOrMissing Other = ⊥

-- each path names what it named before
abbrev pub KeepsAll : (List ℕ → Entry) → (List ℕ → Entry) → Type 0
KeepsAll old new = (path : List ℕ) → new path ≡ old path

-- each path but this one names what it named before
abbrev pub KeepsOthers : (List ℕ → Entry) → (List ℕ → Entry) → List ℕ → Type 0
KeepsOthers old new changed = (path : List ℕ) → path ≢ changed → new path ≡ old path

-- the path `from` names nothing, the path `to` names a file with these bytes, and each other path names what it named before
pub record RenamedTo (old new : List ℕ → Entry) (from to bytes : List ℕ) : Type 0 where
  pub from_is : new from ≡ Missing
  pub to_is : new to ≡ File bytes
  pub others : (path : List ℕ) → path ≢ from → path ≢ to → new path ≡ old path
