-- Construction of the graph: a table of names, and edges between its indices.
use Rattle.std.specs.Prelude.{◌≡◌, ◌↔◌, ℕ, ◌<◌, List, [], length, slice_index_or, not, map, filter, flat_map, Bool}
use Rattle.std.specs.Borrow.{Bor}
use Rattle.std.specs.List.{list_any, position_or_len}
use Rattle.std.specs.Str.{bytes_eq}
use Rattle.digraph.specs.declared.edge.Edge.{Edge}
use Rattle.digraph.specs.Edges.{Leads}
use Rattle.ob_imports.specs.Files.{File, Imports}
use Rattle.ob_imports.specs.Names.{LeadsBy}

-- the list has the name
abbrev pub has_name : List (List ℕ) → List ℕ → Bool
has_name names name = list_any (bytes_eq name) names

-- the index of a name that the list has; the length otherwise
abbrev pub index_or_len : List (List ℕ) → List ℕ → ℕ
index_or_len names name = position_or_len (bytes_eq name) names

-- the names that the list lacks
abbrev pub lacked : List (List ℕ) → List (List ℕ) → List (List ℕ)
lacked names imports = filter (λ n. not (has_name names n)) imports

-- all imported names that the list lacks
abbrev pub all_lacked : List (List ℕ) → List File → List (List ℕ)
all_lacked names files = flat_map (λ f. lacked names f.imports) files

-- the imports of one module as edges between indices of names
abbrev pub pairs_from : List (List ℕ) → List ℕ → List (List ℕ) → List Edge
pairs_from names name imports = map (λ n. record { from = index_or_len names name; to = index_or_len names n }) imports

-- the imports of all files as edges
abbrev pub all_pairs : List (List ℕ) → List File → List Edge
all_pairs names files = flat_map (λ f. pairs_from names f.name f.imports) files

-- the pair of a name and its index
pub record IsNumbered (names : List (List ℕ)) (pair : Bor (List ℕ) × ℕ) : Type 0 where
  pub within : pair.1 < length names
  pub named : slice_index_or names pair.1 [] ≡ pair.0.now

-- the edges are the imports of the files, by the indices of the names
abbrev pub AreEdgesOf : List File → List (List ℕ) → List Edge → Type 0
AreEdgesOf files names pairs = (v w : ℕ) → Leads pairs v w ↔ LeadsBy (Imports files) names v w
