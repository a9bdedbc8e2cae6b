-- Source trees, the networks of their imports, and their errors.
use Rattle.std.specs.Prelude.{◌≡◌, ◌≢◌, ◌↔◌, ℕ, ◌<◌, List, [], ◌∷◌, ◌++◌, length, map, slice_get, Some, Ok, Err, Contains}
use Rattle.std.specs.String.{string_bytes}
use Rattle.ob_scan.specs.declared.fault.ScanFault.{ScanFault}
use Rattle.ob_scan.specs.declared.fault.ScanFault.TheVariants as scans
use Rattle.ob_scan.specs.declared.line_column.Position.{Position}
use Rattle.ob_scan.specs.declared.token.Token.{Token}
use Rattle.ob_scan.specs.Faults.{UnlessMemory}
use Rattle.ob_scan.specs.Position.{IsPosition}
use Rattle.ob_scan.specs.Spelling.{IsOutcome}
use Rattle.ob_scan.specs.Texts.{text_at}
use Rattle.ob_tree.specs.declared.declaration.Module.{Module}
use Rattle.ob_grammar.specs.declared.fault.ParseFault.{ParseFault}
use Rattle.ob_grammar.specs.declared.fault.ParseFault.TheVariants as parses
use Rattle.ob_grammar.specs.Parsed.{IsTheTree, IsFaultOf}
use Rattle.table_rules.specs.Declaring.{rows_of}
use Rattle.module_table.specs.Parts.{Rows}
use Rattle.ob_scope.specs.declared.fault.ScopeFault.{ScopeFault}
use Rattle.ob_scope.specs.declared.fault.ScopeFault.TheVariants as scopes
use Rattle.scopes.specs.QualifiedUses.{HasWeight}
use Rattle.scopes.specs.Members.{members_of}
use Rattle.scopes.specs.Scope.{HasNoDuplicates}
use Rattle.ob_scope.specs.Faults.{IsScopeFault}
use Rattle.ob_imports.specs.declared.fault.GraphFault.{GraphFault}
use Rattle.digraph.specs.Chains.{IsAcyclic}
use Rattle.ob_imports.specs.Files.{File, Imports, IsNode}
use Rattle.ob_imports.specs.Graphs.{ImportGraph}
use Rattle.ob_imports.specs.Outcomes.{AreFilesOfGraph, GraphError, IsGraphOutcome, IsErrorOf}
use Rattle.cut_net.specs.declared.priced.Priced.{Priced}
use Rattle.cut_net.specs.Lines.{IsAscending}
use Rattle.cut_net.specs.Network.{Network, name_of}
use Rattle.cut_net.specs.WellFormed.{AreBetween, AreNamesInOrder}
use Rattle.source_tree.specs.declared.source.Source.{Source}
use Rattle.source_tree.specs.declared.tree_fault.TreeFault.{TreeFault}
use Rattle.source_tree.specs.declared.tree_fault.TreeFault.TheVariants as faults

-- a file of a tree, with its path, its bytes, its tokens and its syntax tree
pub record ModuleFile : Type 0 where
  pub path : List ℕ
  pub bytes : List ℕ
  pub tokens : List Token
  pub tree : Module

-- the bytes of the file's token with this number
abbrev pub names : ModuleFile → ℕ → List ℕ
names file = text_at file.bytes file.tokens

-- the table entries of the file's module: its declarations and uses
abbrev pub rows : ModuleFile → Rows
rows file = rows_of file.tree

-- the file's input to the import graph: its path, module name (token 1, after MODULE) and imported names
abbrev pub file_of : ModuleFile → File
file_of file = record { path = file.path; name = names file 1; imports = map (λ i. names file i.imported) (rows file).imports }

abbrev pub files_of : List ModuleFile → List File
files_of files = map file_of files

-- `file` has the path and bytes of the source s; the bytes have its tokens, these have its syntax tree, and the tree declares nothing twice
pub record IsAccepted (s : Source) (file : ModuleFile) : Type 0 where
  pub path_is : file.path ≡ string_bytes s.path
  pub bytes_are : file.bytes ≡ s.bytes.items
  pub reads : IsOutcome file.bytes (Ok file.tokens)
  pub is_tree : IsTheTree file.bytes file.tokens file.tree
  pub once : HasNoDuplicates (names file) (members_of (rows file))

-- each source is accepted, and `files` has its file
pub record AreAccepted (sources : List Source) (files : List ModuleFile) : Type 0 where
  pub as_many : length files ≡ length sources
  pub each : (i : ℕ) (s : Source) (file : ModuleFile) → slice_get sources i ≡ Some s → slice_get files i ≡ Some file → IsAccepted s file

-- the tree is accepted: each file is accepted, module names are distinct, the numbers of modules and imports are within the limits, and
-- the imports are acyclic
pub record IsTree (sources : List Source) (files : List ModuleFile) : Type 0 where
  pub accepted : AreAccepted sources files
  pub graph : ImportGraph
  pub kept : AreFilesOfGraph (files_of files) graph
  pub acyclic : IsAcyclic (Imports (files_of files))

-- module m of the tree imports n, and in m the aliases of n qualify w uses
pub record HasImport (files : List ModuleFile) (m n : List ℕ) (w : ℕ) : Type 0 where
  pub importer : ModuleFile
  pub is_of_tree : Contains files importer
  pub named : names importer 1 ≡ m
  pub imports : Contains (file_of importer).imports n
  pub weight : HasWeight (names importer) (rows importer) n w

-- the tree is accepted, and this is its network: the names of its modules and of the modules that they import, and the imports with their
-- weights, both strictly sorted; no import is pinned
pub record IsNetOfTree (sources : List Source) (net : Network) : Type 0 where
  pub files : List ModuleFile
  pub is_tree : IsTree sources files
  pub names_ascend : AreNamesInOrder net.names
  pub named : (n : List ℕ) → Contains net.names n ↔ IsNode (files_of files) n
  pub between : AreBetween net.imports (length net.names)
  pub imports_ascend : IsAscending net.imports
  pub listed : (i : Priced) → i.from < length net.names → i.to < length net.names →
      Contains net.imports i ↔ HasImport files (name_of net i.from) (name_of net i.to) i.amount
  pub no_pins : net.pins ≡ []

-- the byte offset of a scanner error; 0 for a file that is too long, or a failed allocation
abbrev pub scan_offset : ScanFault → ℕ
scan_offset (scans.BadByte offset) = offset
scan_offset (scans.BadNumber offset) = offset
scan_offset (scans.OpenString offset) = offset
scan_offset (scans.OpenComment offset) = offset
scan_offset scans.TooLong = 0
scan_offset scans.Memory = 0

-- the byte offset of a parser error; 0 for a failed allocation
abbrev pub parse_offset : ParseFault → ℕ
parse_offset (parses.Syntax offset) = offset
parse_offset (parses.EndName offset) = offset
parse_offset (parses.TooDeep offset) = offset
parse_offset parses.Memory = 0

-- the byte offset of the second declaration of the name that is declared twice; 0 for a failed allocation
abbrev pub scope_offset : ScopeFault → ℕ
scope_offset (scopes.Twice name first second) = second
scope_offset (scopes.TwiceField name first second) = second
scope_offset scopes.Memory = 0

-- the bytes have this scanner error, or it is a failed allocation
abbrev pub HasScanFault : ScanFault → List ℕ → Type 0
HasScanFault fault bytes = UnlessMemory fault (IsOutcome bytes (Err fault))

-- the bytes have tokens, and the tokens have this parser error, or it is a failed allocation
abbrev pub HasParseFault : ParseFault → List ℕ → Type 0
HasParseFault fault bytes = (ts : List Token) × IsOutcome bytes (Ok ts) × IsFaultOf bytes ts fault

-- the bytes have tokens and a syntax tree, and the tree has this scope error, or the error is a failed allocation
abbrev pub HasScopeFault : ScopeFault → List ℕ → Type 0
HasScopeFault fault bytes = (ts : List Token) × (m : Module) × IsOutcome bytes (Ok ts) × IsTheTree bytes ts m × IsScopeFault bytes ts (rows_of m) fault

-- the file has this path, its bytes have the error, and `at` is the position of this offset
pub record IsFault (s : Source) (path : List ℕ) (at : Position) (offset : ℕ) (HasFault : List ℕ → Type 0) : Type 0 where
  pub path_is : path ≡ string_bytes s.path
  pub has_fault : HasFault s.bytes.items
  pub position : IsPosition s.bytes.items offset at.line at.column

-- the file has this error, or the error is `Memory`; no other variant contains a failed allocation
abbrev pub IsFileFault : Source → TreeFault → Type 0
IsFileFault s (faults.Scan path at fault) = (fault ≢ scans.Memory) × IsFault s (string_bytes path) at (scan_offset fault) (HasScanFault fault)
IsFileFault s (faults.Parse path at fault) = (fault ≢ parses.Memory) × IsFault s (string_bytes path) at (parse_offset fault) (HasParseFault fault)
IsFileFault s (faults.Scope path at fault) = (fault ≢ scopes.Memory) × IsFault s (string_bytes path) at (scope_offset fault) (HasScopeFault fault)
IsFileFault s (faults.Graph fault) = ⊥
IsFileFault s faults.Memory = Unit {0}

-- one of the files has this error, and all files before it are accepted
pub record IsFirstFault (sources : List Source) (fault : TreeFault) : Type 0 where
  pub before : List Source
  pub source : Source
  pub after : List Source
  pub split : sources ≡ before ++ source ∷ after
  pub files_before : List ModuleFile
  pub accepted_before : AreAccepted before files_before
  pub has_fault : IsFileFault source fault

-- each file is accepted, and their import graph is rejected with this error
pub record IsGraphFault (sources : List Source) (fault : GraphFault) : Type 0 where
  pub files : List ModuleFile
  pub accepted : AreAccepted sources files
  pub refusal : GraphError
  pub said : IsErrorOf fault refusal
  pub is_outcome : IsGraphOutcome (files_of files) (Err refusal)

-- the error is that of the tree's first file that has one; or all files are accepted and their imports have it; or it is `Memory`
abbrev pub IsTreeFault : List Source → TreeFault → Type 0
IsTreeFault sources (faults.Scan path at fault) = IsFirstFault sources (faults.Scan path at fault)
IsTreeFault sources (faults.Parse path at fault) = IsFirstFault sources (faults.Parse path at fault)
IsTreeFault sources (faults.Scope path at fault) = IsFirstFault sources (faults.Scope path at fault)
IsTreeFault sources (faults.Graph fault) = IsGraphFault sources fault
IsTreeFault sources faults.Memory = Unit {0}
