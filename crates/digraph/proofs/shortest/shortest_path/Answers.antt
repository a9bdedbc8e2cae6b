-- The paths from one start without a barrier are the paths from that node.
use Rattle.std.proofs.Common.{◌∷◌, [], List, subst}
use Rattle.std.proofs.lemmas.Option.{IfSome_then}
use Rattle.std.proofs.lemmas.Result.{IfOk-weaker}
use Rattle.digraph.specs.declared.edge.Edge.{Edge}
use Rattle.digraph.specs.Edges.{Leads}
use Rattle.digraph.specs.Search.{IsSearch}
use Rattle.digraph.proofs.GoingUp.{if_none, least_from_path, path_of_chain}
use Rattle.digraph.proofs.shortest.shortest_path.Goals as goal

pub returns-clause-found : goal.returns-clause-found
returns-clause-found c =
    let search = subst (λ (es : List Edge). IsSearch es (c.args.from ∷ []) [] c.in_ok-search.search) c.in_ok-graph.ensures.edges c.in_ok-search.ensures in
    IfOk-weaker c.path_to.result _ _ (λ answer has. IfSome_then answer has (λ path shortest.
    least_from_path (Leads c.args.edges.now) c.args.from c.args.to path.items (shortest c.args.edges.now (c.args.from ∷ []) [] search))) c.path_to.ensures.found

pub returns-clause-none : goal.returns-clause-none
returns-clause-none c =
    let search = subst (λ (es : List Edge). IsSearch es (c.args.from ∷ []) [] c.in_ok-search.search) c.in_ok-graph.ensures.edges c.in_ok-search.ensures in
    IfOk-weaker c.path_to.result _ _ (λ answer has. if_none answer has (λ none (more, chain).
    none c.args.edges.now (c.args.from ∷ []) [] (c.args.from ∷ more) search (path_of_chain (Leads c.args.edges.now) c.args.from more c.args.to chain))) c.path_to.ensures.none
