-- The modules of a tree's files and the locations of its imports, by their numbers in the tree's network.
use Rattle.std.specs.Prelude.{◌≡◌, ◌⊎◌, ◌<◌, ◌≤◌, ℕ, List, Some, Vec, length, slice_get, Contains}
use Rattle.std.specs.declared.alloc.Global.{Global}
use Rattle.cut_net.specs.declared.priced.Priced.{Priced}
use Rattle.cut_net.specs.Network.{Network, name_of}
use Rattle.module_table.specs.declared.rows.Import.{Import}
use Rattle.ob_scan.specs.Position.{IsPosition}
use Rattle.ob_scan.specs.Texts.{token_at}
use Rattle.ob_scan.specs.declared.line_column.Position.{Position}
use Rattle.ob_scan.specs.declared.token.Token.{Token}
use Rattle.scopes.specs.Scoped.{AliasUses, ModuleScopes}
use Rattle.source_tree.specs.Files.{AreAllOf, HasValue}
use Rattle.source_tree.specs.TreeReading.{AreScopesOf}
use Rattle.source_tree.specs.Trees.{ModuleFile, names, rows, AreAccepted}
use Rattle.source_tree.specs.declared.import_sites.ImportSite.{ImportSite}
use Rattle.source_tree.specs.declared.import_sites.LocatedScopes.{LocatedScopes}
use Rattle.source_tree.specs.declared.source.Source.{Source}

-- the file's module has the number m in the network
abbrev pub IsModuleOf : Network → ModuleFile → ℕ → Type 0
IsModuleOf net file m = (m < length net.names) × (name_of net m ≡ names file 1)

-- the files are accepted, and `modules` has the numbers of their modules in the network, in file order
abbrev pub AreModulesOf : List Source → Network → List ℕ → Type 0
AreModulesOf sources net modules = (files : List ModuleFile) × AreAllOf (IsModuleOf net) sources files modules

-- the position is that of the imported name in the file's first import item for the module named n
pub record IsImportPosition (file : ModuleFile) (n : List ℕ) (at : Position) : Type 0 where
  pub index : ℕ
  pub item : Import
  pub listed : slice_get (rows file).imports index ≡ Some item
  pub named : names file item.imported ≡ n
  pub first : (before : ℕ) (other : Import) → before < index → slice_get (rows file).imports before ≡ Some other → names file other.imported ≡ n → ⊥
  pub position : IsPosition file.bytes (token_at file.tokens item.imported).start at.line at.column

-- the files are accepted, and `sites` has for each import of the network, in order, the index of the importer's file and the import's
-- position in that file
pub record AreSitesOf (sources : List Source) (net : Network) (sites : List ImportSite) : Type 0 where
  pub files : List ModuleFile
  pub accepted : AreAccepted sources files
  pub as_many : length sites ≡ length net.imports
  pub each : (k : ℕ) (i : Priced) (site : ImportSite) → slice_get net.imports k ≡ Some i → slice_get sites k ≡ Some site →
      (file : ModuleFile) × (slice_get files site.file ≡ Some file) × (names file 1 ≡ name_of net i.from) × IsImportPosition file (name_of net i.to) site.position

-- ---- one file

-- the position is that of the imported name of this import item
abbrev pub IsItemPosition : List ℕ → List Token → Import → Position → Type 0
IsItemPosition bytes ts item at = IsPosition bytes (token_at ts item.imported).start at.line at.column

-- the positions are those of the imported names of these import items, in order
pub record AreItemPositions (bytes : List ℕ) (ts : List Token) (items : List Import) (positions : List Position) : Type 0 where
  pub as_many : length positions ≡ length items
  pub each : (j : ℕ) (item : Import) (at : Position) → slice_get items j ≡ Some item → slice_get positions j ≡ Some at → IsItemPosition bytes ts item at

-- `located` has the scopes of the file's module and the positions of its import items
pub record IsLocated (file : ModuleFile) (located : LocatedScopes) : Type 0 where
  pub scopes : AreScopesOf file located.scopes
  pub items : AreItemPositions file.bytes file.tokens (rows file).imports located.items.items

-- the file is accepted, and `located` has its scopes and the positions of its import items
abbrev pub HasLocated : Source → LocatedScopes → Type 0
HasLocated source located = HasValue IsLocated source located

-- ---- sites by the aliases of modules

-- the default for an index past the end of a list of locations
abbrev pub no_site : ImportSite
no_site = record { file = 0; position = record { line = 0; column = 0 } }

-- from index `low` on, the first import item for the module named n has the position `at`
pub record IsFirstFrom (low : ℕ) (aliases : List AliasUses) (items : List Position) (n : List ℕ) (at : Position) : Type 0 where
  pub index : ℕ
  pub above : low ≤ index
  pub alias : AliasUses
  pub there : slice_get aliases index ≡ Some alias
  pub named : alias.imported ≡ n
  pub first : (before : ℕ) (other : AliasUses) → low ≤ before → before < index → slice_get aliases before ≡ Some other → other.imported ≡ n → ⊥
  pub listed : slice_get items index ≡ Some at

-- from index `low` on, no import item is for the module named n
abbrev pub IsNoneFrom : ℕ → List AliasUses → List ℕ → Type 0
IsNoneFrom low aliases n = (j : ℕ) (alias : AliasUses) → low ≤ j → slice_get aliases j ≡ Some alias → alias.imported ≡ n → ⊥

-- the file f is the importer's, and `site` is its first import item from index `low` on that names the imported module
abbrev pub IsSiteFrom : ℕ → Network → ℕ → ModuleScopes → List Position → Priced → ImportSite → Type 0
IsSiteFrom low net f s items i site = (site.file ≡ f) × (name_of net i.from ≡ s.name) × IsFirstFrom low s.aliases items (name_of net i.to) site.position

-- if s are the scopes of the importer, none of its import items from index `low` on names the imported module
abbrev pub IsNotFrom : ℕ → Network → ModuleScopes → Priced → Type 0
IsNotFrom low net s i = name_of net i.from ≡ s.name → IsNoneFrom low s.aliases (name_of net i.to)

-- the new location is that of the file's first import item from index `low` on that names the import; or no such item names it, and the
-- location is unchanged
abbrev pub IsSetFrom : ℕ → Network → ℕ → ModuleScopes → List Position → Priced → ImportSite → ImportSite → Type 0
IsSetFrom low net f s items i old new = IsSiteFrom low net f s items i new ⊎ ((new ≡ old) × IsNotFrom low net s i)

-- the location is that of the first import item in its file that names the import; or no item of the first `count` files names the import
abbrev pub HasSite : Network → List ModuleScopes → List (Vec Position Global) → ℕ → Priced → ImportSite → Type 0
HasSite net ss items count i site =
    ((s : ModuleScopes) × (v : Vec Position Global) × (slice_get ss site.file ≡ Some s) × (slice_get items site.file ≡ Some v) × IsSiteFrom 0 net site.file s v.items i site)
    ⊎ ((f : ℕ) (s : ModuleScopes) → f < count → slice_get ss f ≡ Some s → IsNotFrom 0 net s i)
