use Rattle.std.proofs.Common.{◌≡◌, ◌≤◌, ◌∙◌, ap, sym, subst}
use Rattle.std.specs.Prelude.{All}
use Rattle.residual_graph.specs.Graphs.{residual, Graph}
use Rattle.residual_graph.proofs.graph.ResidualGraph.augment.Goals as goal

pub returns-clause-most : goal.returns-clause-most
returns-clause-most c m small all =
    let lent_is : c.deref.result.now ≡ c.args.self.now.arcs = c.deref.ensures.value ∙ ap (λ (g : Graph). g.arcs) c.self.view_is in
    c.min_residual-amount.ensures.most m small (subst (λ v. All (λ s. m ≤ residual v s) c.args.path.now) (sym lent_is) all)
