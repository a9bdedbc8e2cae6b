use Rattle.std.proofs.Common.{subst}
use Rattle.std.specs.Prelude.{IfOk, IfNone}
use Rattle.type_graph.specs.Searches.{HasTarget}
use Rattle.type_graph.proofs.finder.Finder.target.Goals as goal

pub returns-clause-none : goal.returns-clause-none
returns-clause-none g c =
    subst (λ (v : g.row.G.Denot). IfOk c.find_target.result (λ o. IfNone o ((n : g.row.G-Node.Denot) → HasTarget g.G.Declaration.PartialEq.eq (g.G.TypeGraph.shape v) c.args.from n → ⊥))) c.self.view_is c.find_target.ensures.none
