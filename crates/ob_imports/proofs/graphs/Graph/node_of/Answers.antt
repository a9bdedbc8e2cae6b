use Rattle.std.proofs.Common.{◌≡◌, sym, ◌∙◌, ap}
use Rattle.ob_imports.specs.Graphs.{ImportGraph}
use Rattle.ob_imports.specs.Names.{index_in}
use Rattle.ob_imports.proofs.Places.{position_texts}
use Rattle.ob_imports.proofs.graphs.Graph.node_of.Goals as goal

pub returns-in_err-place : goal.returns-in_err-place
returns-in_err-place c =
    let is : c.get_index_of.result ≡ index_in c.args.self.now.names c.args.name.now =
    c.get_index_of.ensures.index ∙ position_texts c.args.name.now c.self.inside.names.keys ∙ ap (λ (g : ImportGraph). index_in g.names c.args.name.now) c.self.view_is in
    c.from_residual.ensures ∙ sym c.in_err-place.was ∙ is

pub returns : goal.returns
returns c =
    let is : c.get_index_of.result ≡ index_in c.args.self.now.names c.args.name.now =
    c.get_index_of.ensures.index ∙ position_texts c.args.name.now c.self.inside.names.keys ∙ ap (λ (g : ImportGraph). index_in g.names c.args.name.now) c.self.view_is in
    sym c.in_ok-place.was ∙ is
