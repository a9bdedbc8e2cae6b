-- Files in the order of their paths.
use Rattle.std.specs.Prelude.{ℕ, ◌||◌, Bool, List, nat_eq}
use Rattle.std.specs.List.{starts_with}
use Rattle.std.specs.List.Sorted.{IsSorted}
use Rattle.std.specs.declared.cmp.Ordering.{Ordering}
use Rattle.std.specs.Ordering.{is_lt, nat_cmp}
use Rattle.std.specs.Cmp.Lexicographic.{slice_cmp}
use Rattle.cut_rules.specs.declared.file.File.{File}

-- compares two files by the bytes of their paths
abbrev pub path_cmp : File → File → Ordering
path_cmp f g = slice_cmp nat_cmp f.path.now g.path.now

-- whether the path of the file comes before the text, by bytes
abbrev pub path_is_before : List ℕ → File → Bool
path_is_before text f = is_lt (slice_cmp nat_cmp f.path.now text)

-- whether the path of the file comes before the text by bytes, or begins with it
abbrev pub path_is_before_or_below : List ℕ → File → Bool
path_is_before_or_below text f = path_is_before text f || starts_with nat_eq f.path.now text

-- the files are sorted by the bytes of their paths
abbrev pub ArePathsInOrder : List File → Type 0
ArePathsInOrder files = IsSorted path_cmp files
