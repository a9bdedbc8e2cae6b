-- The names that a module imports are in the graph.
use Rattle.std.proofs.Common.{ℕ, ◌<◌, length, get_or, sym, subst, rules}
use Rattle.source_tree.proofs.GraphTables.{row_known}
use Rattle.source_tree.proofs.from_graph.append_weighted_imports.Goals as goal

pub name-requires : goal.name-requires
name-requires c =
    let inside : c.loop-to.to-index < length c.imports_of-to-items.result.now = search rules in
    row_known c.args.graph.now c.imports_of-to-items.result.now c.args.from c.loop-to.to-index c.invariants.ensures.between c.imports_of-to-items.ensures inside

pub bounds-ranks-to : goal.bounds-ranks-to
bounds-ranks-to c =
    let inside : c.loop-to.to-index < length c.imports_of-to-items.result.now = search rules in
    subst (λ (n : ℕ). get_or c.imports_of-to-items.result.now c.loop-to.to-index 0 < n) (sym c.requires.all_ranked)
    (row_known c.args.graph.now c.imports_of-to-items.result.now c.args.from c.loop-to.to-index c.invariants.ensures.between c.imports_of-to-items.ensures inside)
