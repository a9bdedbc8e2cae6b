-- The unresolved identifiers of a tree.
use Rattle.std.specs.Prelude.{◌≡◌, ℕ, List, [], ◌∷◌, length, map, slice_get, Some}
use Rattle.std.specs.Arc.{arc_value}
use Rattle.std.specs.List.{flat_map}
use Rattle.std.specs.String.{string_bytes}
use Rattle.ob_scan.specs.declared.token.Token.{Token}
use Rattle.ob_scan.specs.Position.{IsPosition}
use Rattle.ob_scan.specs.Texts.{text_at, token_at}
use Rattle.ob_view.specs.declared.target.Reference.{Reference}
use Rattle.ob_targets.specs.Refers.{unresolved}
use Rattle.source_tree.specs.Trees.{IsTree, ModuleFile}
use Rattle.source_tree.specs.declared.source.Source.{Source}
use Rattle.ob_board.specs.Reached.{file_model, FileModel}
use Rattle.ob_board.specs.declared.unresolved.Unresolved.{Unresolved}
use Rattle.ob_board.specs.Resolved.{AreResolved}

-- an unresolved identifier: the path of its file, its line and column, and its name
pub record UnresolvedModel : Type 0 where
  pub path : List ℕ
  pub line : ℕ
  pub column : ℕ
  pub name : List ℕ

-- an unresolved identifier as contracts describe it
abbrev pub unresolved_model : Unresolved → UnresolvedModel
unresolved_model u = record { path = string_bytes (arc_value u.path); line = u.at.line; column = u.at.column; name = string_bytes u.name }

-- `row` has the path, the position and the bytes of the token with the number `k`
pub record IsUnresolvedAt (path bytes : List ℕ) (tokens : List Token) (k : ℕ) (row : UnresolvedModel) : Type 0 where
  pub path_is : row.path ≡ path
  pub position : IsPosition bytes (token_at tokens k).start row.line row.column
  pub name_is : row.name ≡ text_at bytes tokens k

-- the list has one element for each of these token numbers, in this order, with the path, the position and the bytes of the token
abbrev pub AreUnresolvedRows : List ℕ → List ℕ → List Token → List ℕ → List UnresolvedModel → Type 0
AreUnresolvedRows path bytes tokens [] [] = Unit {0}
AreUnresolvedRows path bytes tokens [] (row ∷ rows) = ⊥
AreUnresolvedRows path bytes tokens (k ∷ ks) [] = ⊥
AreUnresolvedRows path bytes tokens (k ∷ ks) (row ∷ rows) = IsUnresolvedAt path bytes tokens k row × AreUnresolvedRows path bytes tokens ks rows

-- the list has the unresolved identifiers of the module in `file`, one of the files of the tree, in the order of the file. Predeclared
-- names count as resolved
pub record IsUnresolvedIn (files : List FileModel) (file : FileModel) (rows : List UnresolvedModel) : Type 0 where
  pub refs : List Reference
  pub resolved : AreResolved files file refs
  pub are_rows : AreUnresolvedRows file.path file.bytes file.tokens (unresolved refs) rows

-- the list is the concatenation of the unresolved identifiers of each file, in the order of the files
pub record IsUnresolvedOf (files : List FileModel) (rows : List UnresolvedModel) : Type 0 where
  pub parts : List (List UnresolvedModel)
  pub as_many : length parts ≡ length files
  pub each : (k : ℕ) (file : FileModel) (part : List UnresolvedModel) → slice_get files k ≡ Some file → slice_get parts k ≡ Some part → IsUnresolvedIn files file part
  pub whole : rows ≡ flat_map (λ (part : List UnresolvedModel). part) parts

-- the list has the unresolved identifiers of the tree of these sources
pub record AreUnresolved (sources : List Source) (rows : List UnresolvedModel) : Type 0 where
  pub files : List ModuleFile
  pub is_tree : IsTree sources files
  pub are_rows : IsUnresolvedOf (map file_model files) rows
