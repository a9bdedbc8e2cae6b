use Rattle.std.proofs.Common.{subst}
use Rattle.std.specs.Prelude.{IfOk, IfNone}
use Rattle.type_graph.specs.Searches.{HasElement}
use Rattle.type_graph.proofs.finder.Finder.element.Goals as goal

pub returns-clause-none : goal.returns-clause-none
returns-clause-none g c =
    subst (λ (v : g.row.G.Denot). IfOk c.find_element.result (λ o. IfNone o ((n : g.row.G-Node.Denot) → HasElement g.G.Declaration.PartialEq.eq (g.G.TypeGraph.shape v) c.args.from n → ⊥))) c.self.view_is c.find_element.ensures.none
