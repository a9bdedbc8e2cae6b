use Rattle.std.proofs.Common.{◌∙◌, ◌++◌, ◌∷◌, [], List, ℕ, sym, ap, arith}
use Rattle.std.proofs.lemmas.List.{map-append}
use Rattle.std.proofs.lemmas.List.FromFn.{map-range_with_len_more}
use Rattle.work_board.specs.Graphs.{lists}
use Rattle.ob_board.specs.BoardGraphs.{rows_below, tree_imports}
use Rattle.ob_board.proofs.graphs.all_tree_imports.Goals as goal

pub loop-node-preserved : goal.loop-node-preserved
loop-node-preserved c =
    let g = c.args.graph.now in
    let node = c.loop-node.node in
    ap lists c.in_ok-push.ensures.items ∙ map-append (λ r. r.items) c.loop-node.rows.items (c.in_ok-tree_imports_of_module.field-0 ∷ [])
    ∙ ap (λ (rows : List (List ℕ)). rows ++ c.in_ok-tree_imports_of_module.field-0.items ∷ []) c.loop-node.invariant
    ∙ ap (λ (row : List ℕ). rows_below g node ++ row ∷ []) c.in_ok-tree_imports_of_module.ensures
    ∙ sym (map-range_with_len_more (tree_imports g) 0 node node (omega arith))
