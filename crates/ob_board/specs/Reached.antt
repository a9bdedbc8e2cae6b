-- The files of a tree as contracts describe them, and the modules that a module reaches by imports.
use Rattle.std.specs.Prelude.{◌≡◌, ◌↔◌, ℕ, List, map, Contains, Some, slice_get}
use Rattle.digraph.specs.Chains.{Chain}
use Rattle.module_table.specs.Parts.{Rows}
use Rattle.module_table.specs.declared.rows.Import.{Import}
use Rattle.ob_imports.specs.Files.{File, Imports}
use Rattle.ob_imports.specs.Graphs.{ImportGraph}
use Rattle.ob_interface.specs.Interfaces.{interface_of, ModuleInterface}
use Rattle.ob_scan.specs.declared.token.Token.{Token}
use Rattle.ob_scan.specs.Texts.{text_at}
use Rattle.ob_view.specs.ModuleNumbers.{AreByName}
use Rattle.source_tree.specs.Trees.{rows, ModuleFile}
use Rattle.work_board.specs.Graphs.{Reaches}
use Rattle.ob_board.specs.BoardGraphs.{modules_of}

-- a file: its path, its bytes and tokens, and its module table
pub record FileModel : Type 0 where
  pub path : List ℕ
  pub bytes : List ℕ
  pub tokens : List Token
  pub rows : Rows

-- a file of a tree as contracts of this crate describe it
abbrev pub file_model : ModuleFile → FileModel
file_model file = record { path = file.path; bytes = file.bytes; tokens = file.tokens; rows = rows file }

-- the bytes of the token with this number in the file
abbrev pub names : FileModel → ℕ → List ℕ
names file = text_at file.bytes file.tokens

-- the file's path, the name of its module, which is token 1 (after MODULE), and the names of the modules that its import items import
abbrev pub file_of : FileModel → File
file_of file = record { path = file.path; name = names file 1; imports = map (λ (i : Import). names file i.imported) (file.rows).imports }

-- for each file its path, the name of its module, and the names of the modules that its import items import
abbrev pub files_of : List FileModel → List File
files_of files = map file_of files

-- the module with the name `m` reaches the module with the name `n` by one or more imports
abbrev pub ReachesName : List FileModel → List ℕ → List ℕ → Type 0
ReachesName files m n = (w : List ℕ) × Imports (files_of files) m w × Chain (Imports (files_of files)) w n

-- the module of file `v` reaches that of file `w` in the graph if and only if it does so by the names of the modules
abbrev pub HasSameReach : List FileModel → ImportGraph → Type 0
HasSameReach files g =
    (v w : ℕ) (m n : FileModel) → slice_get files v ≡ Some m → slice_get files w ≡ Some n → Reaches (modules_of g).imports v w ↔ ReachesName files (names m 1) (names n 1)

-- the interface of a file's module
abbrev pub interface_in : FileModel → ModuleInterface
interface_in file = interface_of file.bytes file.tokens file.rows

-- the interface is that of a module of the tree which the module with the name `m` reaches
pub record IsReachedInterface (files : List FileModel) (m : List ℕ) (interface : ModuleInterface) : Type 0 where
  pub file : FileModel
  pub is_of_tree : Contains files file
  pub is_reached : ReachesName files m (names file 1)
  pub is : interface_in file ≡ interface

-- the list `reached` has exactly the interfaces of the modules of the tree that the module with the name `m` reaches, sorted by name
pub record AreReachedInterfaces (files : List FileModel) (m : List ℕ) (reached : List ModuleInterface) : Type 0 where
  pub exact : (interface : ModuleInterface) → Contains reached interface ↔ IsReachedInterface files m interface
  pub by_name : AreByName reached
