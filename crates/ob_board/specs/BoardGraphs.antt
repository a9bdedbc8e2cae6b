-- The modules of a tree by number, with the imports among them.
use Rattle.std.specs.Prelude.{ℕ, nat_lt, List, map, take}
use Rattle.std.specs.List.{filter, range_with_len}
use Rattle.ob_imports.specs.Graphs.{imported, ImportGraph}
use Rattle.work_board.specs.Graphs.{Modules}

-- the numbers of the modules of the tree that module `v` imports; external modules are left out
abbrev pub tree_imports : ImportGraph → ℕ → List ℕ
tree_imports g v = filter (λ w. nat_lt w g.modules) (imported g.pairs v)

-- for each of the first `count` modules, the numbers of the modules of the tree that it imports
abbrev pub rows_below : ImportGraph → ℕ → List (List ℕ)
rows_below g count = map (tree_imports g) (range_with_len 0 count)

-- the modules of the tree and the imports among them, without external modules
abbrev pub modules_of : ImportGraph → Modules
modules_of g = record { names = take g.modules g.names; imports = rows_below g g.modules }
