-- What the replacement of a file's content does to the paths of a file system.
use Rattle.std.specs.Prelude.{◌≡◌, ℕ, List, [], ◌++◌, Option, Some, codes}
use Rattle.atomic_file.specs.Entries.{Entry, Missing, File, Link, Other, RenamedTo}

-- the path of the file to replace: if the path names a link, the link's target, otherwise the path itself
abbrev pub target_of : (List ℕ → Entry) → List ℕ → List ℕ
target_of entries path = elim (entries path) [ Missing ↦ path | File bytes ↦ path | Link target ↦ target | Other ↦ path ]

-- the path of the new file for a file with this path
abbrev pub partial_path : List ℕ → List ℕ
partial_path target = target ++ codes ".oscip-partial"

-- the entry is a file
abbrev pub IsFile : Entry → Type 0
IsFile Missing = ⊥
IsFile (File bytes) = Unit {0}
IsFile (Link target) = ⊥
IsFile Other = ⊥

-- the path names nothing, a file, or a link to a file
abbrev pub CanBeReplaced : (List ℕ → Entry) → List ℕ → Type 0
CanBeReplaced entries path = elim (entries path) [ Missing ↦ Unit {0} | File bytes ↦ Unit {0} | Link target ↦ IsFile (entries target) | Other ↦ ⊥ ]

-- the relation `Returns` between a file before and after a call of the writer holds for some two files
abbrev pub IsReturned : {F : Type 0} → (F → F → Type 0) → Type 0
IsReturned {F} Returns = (before after : F) × Returns before after

-- the writer was called on a file, which was empty if `IsKnown` holds. The relation `Returns` holds for the file before and after the
-- call, and the file then had these bytes
pub record IsWritten {F : Type 0} (IsKnown : Type 0) (taken : F → Option (List ℕ)) (Returns : F → F → Type 0) (bytes : Option (List ℕ)) : Type 0 where
  pub before : F
  pub after : F
  pub is_empty : IsKnown → taken before ≡ Some []
  pub returned : Returns before after
  pub bytes_are : taken after ≡ bytes

-- the writer wrote bytes to the new file, which was empty before, and this file was renamed to the target; the effect on paths is claimed
-- only if `IsKnown` holds
pub record IsRenamed {F : Type 0} (IsKnown : Type 0) (old new : List ℕ → Entry) (partial target : List ℕ) (taken : F → Option (List ℕ)) (Returns : F → F → Type 0) : Type 0 where
  pub left : Option (List ℕ)
  pub is_written : IsWritten IsKnown taken Returns left
  pub bytes : List ℕ
  pub left_is : IsKnown → left ≡ Some bytes
  pub renamed : IsKnown → RenamedTo old new partial target bytes
