-- The occurrences at which a module of a tree uses another.
use Rattle.std.specs.Prelude.{◌≡◌, ℕ, List, [], ◌∷◌, Contains}
use Rattle.std.specs.String.{string_bytes}
use Rattle.ob_scan.specs.declared.token.Token.{Token}
use Rattle.ob_scan.specs.Position.{IsPosition}
use Rattle.ob_scan.specs.Texts.{token_at}
use Rattle.ob_scope.specs.declared.crossing_uses.Crossing.{Crossing}
use Rattle.ob_scope.specs.Crossings.{AreCrossings}
use Rattle.scopes.specs.Scoped.{ModuleScopes}
use Rattle.ob_imports.specs.Files.{IsNode, names_of}
use Rattle.source_tree.specs.Trees.{files_of, names, rows, IsAccepted, IsTree, ModuleFile}
use Rattle.source_tree.specs.TreeReading.{AreScopesOf}
use Rattle.source_tree.specs.declared.crossing.ImportUses.{ImportUses}
use Rattle.source_tree.specs.declared.crossing.ImportUses.TheVariants.{Places, NoImporter, NoImported}
use Rattle.source_tree.specs.declared.crossing.Span.{Span}
use Rattle.source_tree.specs.declared.source.Source.{Source}

-- the span is the range of this qualified use, from the alias to the end of the name after the dot
pub record IsSpan (bytes : List ℕ) (ts : List Token) (c : Crossing) (span : Span) : Type 0 where
  pub starts : IsPosition bytes (token_at ts c.first).start span.start.line span.start.column
  pub ends : IsPosition bytes (token_at ts c.last).end span.end.line span.end.column

-- the spans are the ranges of these qualified uses, one for each, in the same order
abbrev pub AreSpans : List ℕ → List Token → List Crossing → List Span → Type 0
AreSpans bytes ts [] [] = Unit {0}
AreSpans bytes ts [] (span ∷ spans) = ⊥
AreSpans bytes ts (c ∷ cs) [] = ⊥
AreSpans bytes ts (c ∷ cs) (span ∷ spans) = IsSpan bytes ts c span × AreSpans bytes ts cs spans

-- the spans are the ranges of exactly the file's qualified uses of the module named n, in the order of the uses
pub record AreUseSpans (file : ModuleFile) (n : List ℕ) (spans : List Span) : Type 0 where
  pub crossings : List Crossing
  pub are_crossings : AreCrossings (names file) (rows file) n (rows file).uses crossings
  pub are_spans : AreSpans file.bytes file.tokens crossings spans

-- the path is that of the file of the tree's module m, and the spans are the ranges in it at which m uses n; n is a module of the tree or
-- imported by one
pub record AreUses (sources : List Source) (m n path : List ℕ) (spans : List Span) : Type 0 where
  pub files : List ModuleFile
  pub is_tree : IsTree sources files
  pub importer : ModuleFile
  pub is_of_tree : Contains files importer
  pub named : names importer 1 ≡ m
  pub path_is : path ≡ importer.path
  pub known : IsNode (files_of files) n
  pub places : AreUseSpans importer n spans

-- no module of the tree has the name m
pub record IsNoModule (sources : List Source) (m : List ℕ) : Type 0 where
  pub files : List ModuleFile
  pub is_tree : IsTree sources files
  pub absent : Contains (names_of (files_of files)) m → ⊥

-- the tree has a module named m, and no module named n is of the tree or imported by one of its modules
pub record IsNoNode (sources : List Source) (m n : List ℕ) : Type 0 where
  pub files : List ModuleFile
  pub is_tree : IsTree sources files
  pub present : Contains (names_of (files_of files)) m
  pub absent : IsNode (files_of files) n → ⊥

-- the result states the uses of module n by module m, or which of the two names no module has
abbrev pub AreImportUses : List Source → List ℕ → List ℕ → ImportUses → Type 0
AreImportUses sources m n (Places path spans) = AreUses sources m n (string_bytes path) spans.items
AreImportUses sources m n NoImporter = IsNoModule sources m
AreImportUses sources m n NoImported = IsNoNode sources m n

-- ---- one file

-- the result has the file's path; if s are the scopes of the file, it has the ranges of exactly the file's uses of the module named n
abbrev pub AreUsesInFile : Source → ModuleScopes → List ℕ → ImportUses → Type 0
AreUsesInFile source s n (Places path spans) =
    (string_bytes path ≡ string_bytes source.path) × ((file : ModuleFile) → IsAccepted source file → AreScopesOf file s → AreUseSpans file n spans.items)
AreUsesInFile source s n NoImporter = ⊥
AreUsesInFile source s n NoImported = ⊥
