-- The files come first among the names of a graph.
use Rattle.std.proofs.Common.{◌<◌, ◌≤◌, arith}
use Rattle.source_tree.proofs.CrossedTrees.{file_at, no_module, not_own}
use Rattle.source_tree.proofs.crossing.find_importer.Goals as goal

pub returns-in_err-node-clause-none : goal.returns-in_err-node-clause-none
returns-in_err-node-clause-none c = rw c.from_residual.ensures (λ files kept. no_module files c.args.graph.now kept c.args.name.now c.in_err-node.ensures)

pub returns-then-node-modules-clause-found : goal.returns-then-node-modules-clause-found
returns-then-node-modules-clause-found c = λ files kept.
    let test = c.if-node-modules.true in
    let many = c.modules.ensures in
    let within : c.in_ok-node.node < c.args.graph.now.modules = omega arith in
    file_at files c.args.graph.now kept c.in_ok-node.node c.args.name.now c.in_ok-node.ensures within

pub returns-else-node-modules-clause-none : goal.returns-else-node-modules-clause-none
returns-else-node-modules-clause-none c = λ files kept.
    let test = c.if-node-modules.false in
    let many = c.modules.ensures in
    let past : c.args.graph.now.modules ≤ c.in_ok-node.node = omega arith in
    not_own files c.args.graph.now kept c.in_ok-node.node c.args.name.now c.in_ok-node.ensures past
