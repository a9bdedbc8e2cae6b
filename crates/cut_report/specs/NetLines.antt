-- The text of a network, and the text of a path of imports, whose lines may also occur in the text of a network.
use Rattle.std.specs.Prelude.{ℕ, List, ◌++◌, map, drop, find, unwrap_or}
use Rattle.std.specs.List.{flat_map, zip}
use Rattle.digraph.specs.ShortestPaths.{AreChain}
use Rattle.texts.specs.Fields.{ended}
use Rattle.cut_net.specs.declared.priced.Priced.{Priced}
use Rattle.cut_net.specs.Cuts.{have_equal_ends, Any, Imports}
use Rattle.cut_net.specs.NetReading.{import_line}
use Rattle.cut_net.specs.NetText.{NetLine, Module, Import, net_line}
use Rattle.cut_net.specs.Network.{Network}
use Rattle.cut_report.specs.declared.net_writer.NetLine as declared
use Rattle.cut_report.specs.declared.net_writer.NetLine.TheVariants as lines

-- the content of a line, with names as byte lists
abbrev pub net_line_content : declared.NetLine → NetLine
net_line_content (lines.Module m) = Module m.now
net_line_content (lines.Import m n w) = Import m.now n.now w

-- a line with its LF
abbrev pub ended_line : NetLine → List ℕ
ended_line line = ended (net_line line)

-- the bytes of the lines, each with its LF
abbrev pub ended_lines : List NetLine → List ℕ
ended_lines lines = flat_map ended_line lines

-- the lines of a network: its modules, and then its imports, each by the names of its two modules
abbrev pub net_lines : Network → List NetLine
net_lines net = map Module net.names ++ map (import_line net.names) net.imports

-- the text of a network without pins
abbrev pub net_text : Network → List ℕ
net_text net = ended_lines (net_lines net)

-- an import of weight 0 between two modules
abbrev pub free_import : ℕ → ℕ → Priced
free_import m n = record { from = m; to = n; amount = 0 }

-- the import of the network between two modules, or one of weight 0 if there is none
abbrev pub import_between : Network → ℕ → ℕ → Priced
import_between net m n = unwrap_or (find (have_equal_ends (free_import m n)) net.imports) (free_import m n)

-- for each two consecutive modules of the list, the network's import of the second by the first, or one of weight 0 if there is none
abbrev pub imports_along : Network → List ℕ → List Priced
imports_along net modules = map (λ ends. import_between net ends.0 ends.1) (zip modules (drop 1 modules))

-- the bytes of the lines of the imports along a list of modules, each with its LF
abbrev pub chain_text : Network → List ℕ → List ℕ
chain_text net modules = ended_lines (map (import_line net.names) (imports_along net modules))

-- each module of the list imports the next
abbrev pub AreImportChain : Network → List ℕ → Type 0
AreImportChain net modules = (a b : ℕ) × AreChain (Imports net.imports Any) a b modules
