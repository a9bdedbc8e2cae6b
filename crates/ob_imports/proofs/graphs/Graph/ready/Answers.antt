-- The lists are the imports of the modules.
use Rattle.std.proofs.Common.{◌≡◌, ℕ, subst}
use Rattle.std.proofs.lemmas.Result.{IfOk-weaker}
use Rattle.ob_imports.specs.Graphs.{imported, ImportGraph}
use Rattle.digraph.specs.Marks.{lists, list_at}
use Rattle.ob_imports.proofs.ReadyLists.{ready_as}
use Rattle.ob_imports.proofs.graphs.Graph.ready.Goals as goal

pub returns : goal.returns
returns c =
    let rows = lists c.as_slice.result.now in
    let are : (v : ℕ) → list_at rows v ≡ imported c.args.self.now.pairs v =
    rw c.as_slice.ensures.value (subst (λ (g : ImportGraph). (v : ℕ) → list_at (lists c.self.inside.imports.items) v ≡ imported g.pairs v) c.self.view_is c.self.invariant.4) in
    IfOk-weaker c.ready_modules.result _ _ (λ nodes h. ready_as c.args.self.now rows c.args.done.now c.requires are nodes.items h) c.ready_modules.ensures
