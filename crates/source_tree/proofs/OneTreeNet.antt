-- A tree has one network.
use Rattle.std.proofs.Common.{◌≡◌, ℕ, ◌<◌, List, [], length, sym, ap, ap₂, ◌∙◌, subst, arith}
use Rattle.std.specs.Prelude.{Contains, IsTrue, slice_index_or}
use Rattle.ob_imports.specs.Files.{File, IsNode}
use Rattle.digraph.proofs.Ascending.{same_members, same_names}
use Rattle.cut_net.specs.declared.priced.Priced.{Priced}
use Rattle.cut_net.specs.Lines.{comes_before}
use Rattle.cut_net.specs.Network.{Network, name_of}
use Rattle.cut_net.proofs.Ends.{before_from, one_way}
use Rattle.source_tree.specs.Trees.{files_of, HasImport, IsNetOfTree}
use Rattle.source_tree.specs.declared.source.Source.{Source}
use Rattle.source_tree.proofs.SameFiles.{import_over, same_files}

name_over : (sources : List Source) (net other : Network) → IsNetOfTree sources net → IsNetOfTree sources other → (n : List ℕ) → Contains net.names n → Contains other.names n
name_over sources net other a b n has =
    let same : files_of a.files ≡ files_of b.files = same_files sources a.files b.files a.is_tree.accepted b.is_tree.accepted in
    (b.named n).1 (subst (λ (fs : List File). IsNode fs n) same ((a.named n).0 has))

line_over : (sources : List Source) (net other : Network) → IsNetOfTree sources net → IsNetOfTree sources other → net.names ≡ other.names → (i : Priced) → Contains net.imports i → Contains other.imports i
line_over sources net other a b names i has =
    let ends = a.between i has in
    let from : i.from < length net.names = ends.0 in
    let to : i.to < length net.names = ends.1 in
    let len : length net.names ≡ length other.names = ap length names in
    let from_name : name_of net i.from ≡ name_of other i.from = ap (λ (ns : List (List ℕ)). slice_index_or ns i.from []) names in
    let to_name : name_of net i.to ≡ name_of other i.to = ap (λ (ns : List (List ℕ)). slice_index_or ns i.to []) names in
    let crossed : HasImport b.files (name_of net i.from) (name_of net i.to) i.amount = import_over sources a.files b.files a.is_tree.accepted b.is_tree.accepted (name_of net i.from) (name_of net i.to) i.amount ((a.listed i from to).0 has) in
    (b.listed i (omega arith) (omega arith)).1 (subst (λ (n : List ℕ). HasImport b.files (name_of other i.from) n i.amount) to_name
    (subst (λ (m : List ℕ). HasImport b.files m (name_of net i.to) i.amount) from_name crossed))

pub one_net : (sources : List Source) (net other : Network) → IsNetOfTree sources net → IsNetOfTree sources other → net ≡ other
one_net sources net other a b =
    let names : net.names ≡ other.names = same_names net.names other.names a.names_ascend b.names_ascend (name_over sources net other a b) (name_over sources other net b a) in
    let imports : net.imports ≡ other.imports = same_members (λ i j. IsTrue (comes_before i j)) (λ i j p q. one_way (before_from i j p) (before_from j i q)) net.imports other.imports a.imports_ascend b.imports_ascend
    (line_over sources net other a b names) (line_over sources other net b a (sym names)) in
    let pins : net.pins ≡ other.pins = a.no_pins ∙ sym b.no_pins in
    ap₂ (λ (ns : List (List ℕ)) (is : List Priced). record { names = ns; imports = is; pins = net.pins }) names imports
    ∙ ap (λ (ps : List Priced). record { names = other.names; imports = other.imports; pins = ps }) pins
