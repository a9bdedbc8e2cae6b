-- How many bytes of a file are read.
use Rattle.std.specs.Prelude.{ℕ, ◌≤◌, ◌^◌, ◌+◌, List, length, All}
use Rattle.source_tree.specs.declared.source.Source.{Source}

-- the bytes of a network, a report, a prices file, a rules file or an index are at most 2^30
abbrev pub IsFile : List ℕ → Type 0
IsFile bytes = length bytes ≤ 2 ^ 30

-- the bytes that are read of a module's file: at most one more than a module may have, which shows that the file is too long
abbrev pub IsModulePrefix : List ℕ → Type 0
IsModulePrefix bytes = length bytes ≤ 2 ^ 24 + 1

-- of each module's file at most one byte more than a module may have is read
abbrev pub AreModulePrefixes : List Source → Type 0
AreModulePrefixes sources = All (λ source. IsModulePrefix source.bytes.items) sources
