-- The text of a picture, in the language DOT of Graphviz (graphviz.org, "DOT Language" and "Node, Edge and Graph Attributes").
use Rattle.std.specs.Prelude.{◌≢◌, if◌then◌else◌, ℕ, Bool, true, false, List, [], ◌++◌, codes, All}
use Rattle.std.specs.List.{flat_map}
use Rattle.std.specs.Fmt.{decimal}
use Rattle.cut_net.specs.declared.priced.Priced.{Priced}
use Rattle.cut_net.specs.Lines.{flow_by, removed_by}
use Rattle.cut_net.specs.Network.{Network, name_of}
use Rattle.cut_net.specs.Pins.{is_pinned}
use Rattle.cut_dot.specs.Ends.{is_chain_end}

-- the attribute of A or B, a double border; empty for another module
abbrev pub end_attribute : Bool → List ℕ
end_attribute true = codes " [peripheries=2]"
end_attribute false = []

-- the attribute of a module that is still reached, gray; empty for another module
abbrev pub reached_attribute : Bool → List ℕ
reached_attribute true = codes " [style=filled]"
reached_attribute false = []

-- the attributes of a removed import, dashed and red; empty for another import
abbrev pub removed_attributes : Bool → List ℕ
removed_attributes true = codes " [style=dashed, color=red]"
removed_attributes false = []

-- the line of a module: its name between quotation marks, since it might be a keyword of DOT, and its attributes
abbrev pub module_line : List ℕ → Bool → Bool → List ℕ
module_line name end reached = codes "  \"" ++ name ++ codes "\"" ++ end_attribute end ++ reached_attribute reached ++ codes ";\n"

-- the names of an import's two modules between quotation marks, with an arrow between them
abbrev pub ends_text : List ℕ → List ℕ → List ℕ
ends_text from to = codes "  \"" ++ from ++ codes "\" -> \"" ++ to ++ codes "\""

-- what follows the names in the line of an unpinned import: its flow and weight as label, and its attributes if it is removed
abbrev pub label_text : ℕ → ℕ → Bool → List ℕ
label_text flow weight removed = codes " [label=\"" ++ decimal flow ++ codes "/" ++ decimal weight ++ codes "\"]" ++ removed_attributes removed ++ codes ";\n"

-- what follows the names in the line of a pinned import: its flow and `pin` as label, bold style, and its attributes if it is removed
abbrev pub pin_text : ℕ → Bool → List ℕ
pin_text flow removed = codes " [label=\"" ++ (decimal flow ++ (codes "/pin\"] [style=bold]" ++ (removed_attributes removed ++ codes ";\n")))

-- the line of an import with these two names, this flow and this weight; the flags are whether it is removed and whether it is pinned
abbrev pub import_line : List ℕ → List ℕ → ℕ → ℕ → Bool → Bool → List ℕ
import_line from to flow weight removed pinned = ends_text from to ++ (if pinned then pin_text flow removed else label_text flow weight removed)

-- the line of the module of this number in a picture for the modules a and b; reached is whether a module is still reached
abbrev pub line_of_module : Network → ℕ → ℕ → (ℕ → Bool) → ℕ → List ℕ
line_of_module net a b reached m = module_line (name_of net m) (is_chain_end a b m) (reached m)

-- the line of an import in the picture of a cut with these removed imports and this flow; the network gives the names and the pins
abbrev pub line_of_import : Network → List Priced → List Priced → Priced → List ℕ
line_of_import net printed flow i = import_line (name_of net i.from) (name_of net i.to) (flow_by flow i) i.amount (removed_by printed i) (is_pinned net i)

-- the first lines of the picture: the graph goes from left to right, and its label is the legend
abbrev pub head_text : List ℕ
head_text = codes "digraph cut {\n  rankdir=LR;\n  label=\"flow/weight; red: removed; bold: pinned; gray: still reached; double border: the two ends\";\n"

-- the text of the picture with these modules and these imports
abbrev pub picture_text : Network → ℕ → ℕ → List Priced → List Priced → (ℕ → Bool) → List ℕ → List Priced → List ℕ
picture_text net a b printed flow reached modules imports =
    head_text ++ flat_map (line_of_module net a b reached) modules ++ flat_map (line_of_import net printed flow) imports ++ codes "}\n"

-- no byte is a quotation mark or a backslash
abbrev pub NeedsNoEscape : List ℕ → Type 0
NeedsNoEscape name = All (λ c. (c ≢ 34) × (c ≢ 92)) name
