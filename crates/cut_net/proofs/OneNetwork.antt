-- Lines have at most one network.
use Rattle.std.proofs.Common.{◌≡◌, ℕ, ◌<◌, List, [], length, sym, ◌∙◌, ap, subst, arith}
use Rattle.std.specs.Prelude.{Contains, slice_index_or, IsTrue}
use Rattle.std.proofs.lemmas.Bool.Decides.{nat_tests}
use Rattle.digraph.proofs.Ascending.{same_members}
use Rattle.digraph.proofs.Ascending as ascending
use Rattle.cut_net.specs.declared.priced.Priced.{Priced}
use Rattle.cut_net.specs.Lines.{comes_before}
use Rattle.cut_net.specs.Network.{Network, name_of}
use Rattle.cut_net.specs.NetText.{NetLine, Import, IsNetOf}

both_before : (i j : Priced) → IsTrue (comes_before i j) → IsTrue (comes_before j i) → ⊥
both_before i j a b = grind (arith, nat_tests)

same_names : (lines : List NetLine) (net other : Network) → IsNetOf lines net → IsNetOf lines other → net.names ≡ other.names
same_names lines net other a b =
    ascending.same_names net.names other.names a.names_ascend b.names_ascend
    (λ z has. (b.named z).1 ((a.named z).0 has)) (λ z has. (a.named z).1 ((b.named z).0 has))

import_over : (lines : List NetLine) (net other : Network) → IsNetOf lines net → IsNetOf lines other → net.names ≡ other.names → (i : Priced) → Contains net.imports i → Contains other.imports i
import_over lines net other a b names i has =
    let ends = a.between i has in
    let from : i.from < length net.names = ends.0 in
    let to : i.to < length net.names = ends.1 in
    let len : length net.names ≡ length other.names = ap length names in
    let from_name : name_of net i.from ≡ name_of other i.from = ap (λ (ns : List (List ℕ)). slice_index_or ns i.from []) names in
    let to_name : name_of net i.to ≡ name_of other i.to = ap (λ (ns : List (List ℕ)). slice_index_or ns i.to []) names in
    let line : Import (name_of net i.from) (name_of net i.to) i.amount ≡ Import (name_of other i.from) (name_of other i.to) i.amount =
    ap (λ (m : List ℕ). Import m (name_of net i.to) i.amount) from_name ∙ ap (λ (n : List ℕ). Import (name_of other i.from) n i.amount) to_name in
    (b.listed i (omega arith) (omega arith)).1 (subst (Contains lines) line ((a.listed i from to).0 has))

-- the network of the lines is one
pub one_network : (lines : List NetLine) (net other : Network) → IsNetOf lines net → IsNetOf lines other → net ≡ other
one_network lines net other a b =
    let names : net.names ≡ other.names = same_names lines net other a b in
    let imports : net.imports ≡ other.imports = same_members (λ i j. IsTrue (comes_before i j)) both_before net.imports other.imports a.imports_ascend b.imports_ascend
    (import_over lines net other a b names) (import_over lines other net b a (sym names)) in
    ap (λ (ns : List (List ℕ)). record { names = ns; imports = net.imports; pins = net.pins }) names
    ∙ ap (λ (is : List Priced). record { names = other.names; imports = is; pins = net.pins }) imports
    ∙ ap (λ (ps : List Priced). record { names = other.names; imports = other.imports; pins = ps }) (a.no_pins ∙ sym b.no_pins)
