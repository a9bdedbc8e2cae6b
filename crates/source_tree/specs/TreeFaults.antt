-- The messages for errors of a tree, and which errors are failed allocations.
use Rattle.std.specs.Prelude.{ℕ, Bool, true, false, List, ◌∷◌, ◌++◌, codes}
use Rattle.std.specs.List.{flat_map}
use Rattle.std.specs.String.{string_bytes}
use Rattle.texts.specs.Places.{position_text, Style}
use Rattle.cut_net.specs.Network.{texts}
use Rattle.ob_scan.specs.declared.fault.ScanFault.{ScanFault}
use Rattle.ob_scan.specs.declared.fault.ScanFault.TheVariants as scan
use Rattle.ob_scan.specs.declared.line_column.Position.{Position}
use Rattle.ob_grammar.specs.declared.fault.ParseFault.{ParseFault}
use Rattle.ob_grammar.specs.declared.fault.ParseFault.TheVariants as parse
use Rattle.ob_scope.specs.declared.fault.ScopeFault.{ScopeFault}
use Rattle.ob_scope.specs.declared.fault.ScopeFault.TheVariants as scope
use Rattle.ob_imports.specs.declared.fault.GraphFault.{GraphFault}
use Rattle.ob_imports.specs.declared.fault.GraphFault.TheVariants as graph
use Rattle.source_tree.specs.declared.tree_fault.TreeFault.{TreeFault}
use Rattle.source_tree.specs.declared.tree_fault.TreeFault.TheVariants.{Scan, Parse, Scope, Graph, Memory}

-- the name with a space before it
abbrev pub after_space : List ℕ → List ℕ
after_space name = 32 ∷ name

-- the location of an error in this style, a colon, a space and the message; control characters aren't escaped
abbrev pub located_text : Style → List ℕ → Position → List ℕ → List ℕ
located_text style path at message = style.prefix ++ path ++ codes ":" ++ position_text style at.line at.column ++ codes ": " ++ message

-- the name of a scanner error in messages
abbrev pub scan_fault_text : ScanFault → List ℕ
scan_fault_text (scan.BadByte offset) = codes "BadByte"
scan_fault_text (scan.BadNumber offset) = codes "BadNumber"
scan_fault_text (scan.OpenString offset) = codes "OpenString"
scan_fault_text (scan.OpenComment offset) = codes "OpenComment"
scan_fault_text scan.TooLong = codes "TooLong"
scan_fault_text scan.Memory = codes "Memory"

-- the name of a parser error in messages
abbrev pub parse_fault_text : ParseFault → List ℕ
parse_fault_text (parse.Syntax offset) = codes "Syntax"
parse_fault_text (parse.EndName offset) = codes "EndName"
parse_fault_text (parse.TooDeep offset) = codes "TooDeep"
parse_fault_text parse.Memory = codes "Memory"

-- the name of a scope error in messages, with the name that is declared twice
abbrev pub scope_fault_text : ScopeFault → List ℕ
scope_fault_text (scope.Twice name first second) = codes "Twice " ++ string_bytes name
scope_fault_text (scope.TwiceField name first second) = codes "TwiceField " ++ string_bytes name
scope_fault_text scope.Memory = codes "Memory"

-- the message for two files whose modules have one name, with the paths of both files in this style
abbrev pub two_modules_text : Style → List ℕ → List ℕ → List ℕ → List ℕ
two_modules_text style name first second = codes "TwoModules " ++ name ++ codes " " ++ (style.prefix ++ first) ++ codes " " ++ (style.prefix ++ second)

-- the message for an error of the imports, with paths in this style
abbrev pub graph_fault_text : Style → GraphFault → List ℕ
graph_fault_text style (graph.TwoModules name first second) = two_modules_text style (string_bytes name) (string_bytes first) (string_bytes second)
graph_fault_text style (graph.Cycle names) = codes "Cycle" ++ flat_map after_space (texts names.items)
graph_fault_text style graph.TooMany = codes "TooMany"
graph_fault_text style graph.Memory = codes "Memory"

-- the message for an error of a tree, with paths and positions in this style
abbrev pub tree_fault_text : Style → TreeFault → List ℕ
tree_fault_text style (Scan path at fault) = located_text style (string_bytes path) at (scan_fault_text fault)
tree_fault_text style (Parse path at fault) = located_text style (string_bytes path) at (parse_fault_text fault)
tree_fault_text style (Scope path at fault) = located_text style (string_bytes path) at (scope_fault_text fault)
tree_fault_text style (Graph fault) = graph_fault_text style fault
tree_fault_text style Memory = codes "Memory"

abbrev pub scan_out_of_memory : ScanFault → Bool
scan_out_of_memory (scan.BadByte offset) = false
scan_out_of_memory (scan.BadNumber offset) = false
scan_out_of_memory (scan.OpenString offset) = false
scan_out_of_memory (scan.OpenComment offset) = false
scan_out_of_memory scan.TooLong = false
scan_out_of_memory scan.Memory = true

abbrev pub parse_out_of_memory : ParseFault → Bool
parse_out_of_memory (parse.Syntax offset) = false
parse_out_of_memory (parse.EndName offset) = false
parse_out_of_memory (parse.TooDeep offset) = false
parse_out_of_memory parse.Memory = true

abbrev pub scope_out_of_memory : ScopeFault → Bool
scope_out_of_memory (scope.Twice name first second) = false
scope_out_of_memory (scope.TwiceField name first second) = false
scope_out_of_memory scope.Memory = true

abbrev pub graph_out_of_memory : GraphFault → Bool
graph_out_of_memory (graph.TwoModules name first second) = false
graph_out_of_memory (graph.Cycle names) = false
graph_out_of_memory graph.TooMany = false
graph_out_of_memory graph.Memory = true

-- the error is a failed allocation, in whichever step; any other error says why the tree is rejected
abbrev pub is_out_of_memory : TreeFault → Bool
is_out_of_memory (Scan path at fault) = scan_out_of_memory fault
is_out_of_memory (Parse path at fault) = parse_out_of_memory fault
is_out_of_memory (Scope path at fault) = scope_out_of_memory fault
is_out_of_memory (Graph fault) = graph_out_of_memory fault
is_out_of_memory Memory = true
