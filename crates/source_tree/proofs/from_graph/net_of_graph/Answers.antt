-- The sorted names, and the imports between the indices of their modules.
use Rattle.std.proofs.Common.{◌≡◌, ℕ, ◌<◌, List, map, sym, subst, arith}
use Rattle.std.specs.Prelude.{All, IsPermutation}
use Rattle.std.specs.List.{IsDistinct}
use Rattle.ob_imports.proofs.RankedEdges.{order_long}
use Rattle.cut_net.specs.declared.priced.Priced.{Priced}
use Rattle.cut_net.specs.Cuts.{have_equal_ends}
use Rattle.cut_net.specs.Lines.{IsAscending}
use Rattle.cut_net.specs.Network.{unpinned}
use Rattle.cut_net.specs.NetText.{IsNetOf}
use Rattle.cut_net.specs.WellFormed.{IsNetwork}
use Rattle.source_tree.specs.GraphNet.{graph_entry, graph_lines, ranked}
use Rattle.source_tree.proofs.Ranked.{ranked_net, ranked_network}
use Rattle.source_tree.proofs.from_graph.net_of_graph.Goals as goal

pub ranks_of-requires-clause-few : goal.ranks_of-requires-clause-few
ranks_of-requires-clause-few c =
    let g = c.args.graph.now in
    let long = order_long g.names c.by_name-order.result.now c.by_name-order.ensures c.invariants.ensures.apart in
    let few = c.invariants.ensures.few_names in
    omega arith

pub ranks_of-requires-clause-within : goal.ranks_of-requires-clause-within
ranks_of-requires-clause-within c =
    let g = c.args.graph.now in
    let order = c.by_name-order.result.now in
    let long = order_long g.names order c.by_name-order.ensures c.invariants.ensures.apart in
    subst (λ (n : ℕ). All (λ v. v < n) order) (sym long) c.by_name-order.ensures.within

pub weighted_imports-requires-clause-all_ranked : goal.weighted_imports-requires-clause-all_ranked
weighted_imports-requires-clause-all_ranked c =
    let g = c.args.graph.now in
    let order = c.by_name-order.result.now in
    let long = order_long g.names order c.by_name-order.ensures c.invariants.ensures.apart in
    let size = c.in_ok-ranks.ensures.size in
    rw c.as_slice.ensures.value (omega arith)

pub from_parts-requires : goal.from_parts-requires
from_parts-requires c =
    let g = c.args.graph.now in
    let ss = c.args.scopes.now in
    let ranks = c.in_ok-ranks.ranks.items in
    let old = c.in_ok-imports.imports.items in
    let imports = c.sort_imports.new.imports.items in
    let entries : old ≡ map (ranked ranks) (map (graph_entry g ss) g.pairs) = rw c.as_slice.ensures.value at c.in_ok-imports.ensures.entries in
    let moved = subst (λ (is : List Priced). IsPermutation is imports) entries c.sort_imports.ensures.same in
    let ordered = subst (λ (is : List Priced). IsDistinct have_equal_ends is → IsAscending imports) entries c.sort_imports.ensures.ascending in
    subst (λ (names : List (List ℕ)). IsNetwork (unpinned names imports)) (sym c.in_ok-names.ensures)
    (ranked_network g ss c.invariants.ensures c.by_name-order.result.now c.by_name-order.ensures ranks c.in_ok-ranks.ensures c.in_ok-imports.ensures.light c.requires.named imports moved ordered)

pub returns : goal.returns
returns c =
    let g = c.args.graph.now in
    let ss = c.args.scopes.now in
    let ranks = c.in_ok-ranks.ranks.items in
    let old = c.in_ok-imports.imports.items in
    let imports = c.sort_imports.new.imports.items in
    let entries : old ≡ map (ranked ranks) (map (graph_entry g ss) g.pairs) = rw c.as_slice.ensures.value at c.in_ok-imports.ensures.entries in
    let moved = subst (λ (is : List Priced). IsPermutation is imports) entries c.sort_imports.ensures.same in
    let ordered = subst (λ (is : List Priced). IsDistinct have_equal_ends is → IsAscending imports) entries c.sort_imports.ensures.ascending in
    rw c.from_parts.ensures (subst (λ (names : List (List ℕ)). IsNetOf (graph_lines g ss) (unpinned names imports)) (sym c.in_ok-names.ensures)
    (ranked_net g ss c.invariants.ensures c.by_name-order.result.now c.by_name-order.ensures ranks c.in_ok-ranks.ensures c.in_ok-imports.ensures.light c.requires.named imports moved ordered))
