-- Networks: modules with names, and imports with weights. A module's number is the index of its name.
use Rattle.std.specs.Prelude.{ℕ, List, [], map, Option, String}
use Rattle.std.specs.List.{slice_index_or, position}
use Rattle.std.specs.Str.{bytes_eq}
use Rattle.std.specs.String.{string_bytes}
use Rattle.cut_net.specs.declared.priced.Priced.{Priced}

-- the bytes of each string
abbrev pub texts : {Z : Type 0} → List (String Z) → List (List ℕ)
texts names = map string_bytes names

-- the names of the modules, sorted; the imports, sorted, each with its weight; and the pinned imports, sorted, each with the weight that
-- it had before it was pinned
pub record Network : Type 0 where
  pub names : List (List ℕ)
  pub imports : List Priced
  pub pins : List Priced

-- the network of these names and imports, without pins
abbrev pub unpinned : List (List ℕ) → List Priced → Network
unpinned names imports = record { names = names; imports = imports; pins = [] }

-- the default for an index past the end of a list of imports
abbrev pub missing_item : Priced
missing_item = record { from = 0; to = 0; amount = 0 }

-- the name of a module, empty past the end
abbrev pub name_of : Network → ℕ → List ℕ
name_of net m = slice_index_or net.names m []

-- the number of the module with this name
abbrev pub index_of : Network → List ℕ → Option ℕ
index_of net name = position (λ x. bytes_eq x name) net.names
