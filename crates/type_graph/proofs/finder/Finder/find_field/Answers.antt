use Rattle.std.proofs.Common.{[], subst}
use Rattle.std.specs.Prelude.{IfOk, IfNone, IfSome}
use Rattle.type_graph.specs.Searches.{DenotesField}
use Rattle.type_graph.proofs.finder.Finder.find_field.Goals as goal

pub returns-clause-found : goal.returns-clause-found
returns-clause-found g c =
    subst (λ (v : g.row.G.Denot). IfOk c.find_field_at.result (λ o. IfSome o (λ f. DenotesField g.G.Declaration.PartialEq.eq (g.G.TypeGraph.shape v) (λ r. g.G.TypeGraph.field_of v r c.args.name.now) (g.G.TypeGraph.base_of v) [] c.args.from f)))
    c.self.view_is c.find_field_at.ensures.found

pub returns-clause-none : goal.returns-clause-none
returns-clause-none g c =
    subst (λ (v : g.row.G.Denot). IfOk c.find_field_at.result (λ o. IfNone o ((f : g.row.G-Field.Denot) → DenotesField g.G.Declaration.PartialEq.eq (g.G.TypeGraph.shape v) (λ r. g.G.TypeGraph.field_of v r c.args.name.now) (g.G.TypeGraph.base_of v) [] c.args.from f → ⊥)))
    c.self.view_is c.find_field_at.ensures.none
