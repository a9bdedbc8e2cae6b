-- The imports of a graph by the ranks of their modules, and the network that they make with the names in order.
use Rattle.std.proofs.Common.{◌≡◌, ℕ, ◌<◌, true, List, [], ◌∷◌, length, get_or, map, refl, ap, ◌∙◌, arith, subst}
use Rattle.std.specs.Prelude.{All, IsPermutation}
use Rattle.std.specs.List.{IsDistinct}
use Rattle.std.proofs.lemmas.List.{get_or-map, length-map}
use Rattle.digraph.specs.declared.edge.Edge.{Edge}
use Rattle.digraph.specs.Edges as edges
use Rattle.digraph.specs.Ranks.{AreRanks}
use Rattle.digraph.proofs.Members.{first_member, from_map, later_member}
use Rattle.ob_imports.specs.Graphs.{ImportGraph, IsGraph, name_of}
use Rattle.ob_imports.specs.Names.{names_by, IsByName}
use Rattle.ob_imports.proofs.RankedEdges.{has_node, order_long}
use Rattle.scopes.specs.Scoped.{ModuleScopes}
use Rattle.cut_net.specs.declared.priced.Priced.{Priced}
use Rattle.cut_net.specs.Cuts.{have_equal_ends}
use Rattle.texts.specs.Fields.{is_name}
use Rattle.cut_net.specs.Lines.{IsAscending}
use Rattle.cut_net.specs.Network.{unpinned}
use Rattle.cut_net.specs.NetReading.{entry_line, import_line}
use Rattle.cut_net.specs.NetText.{IsNetOf, NetLine}
use Rattle.cut_net.specs.WellFormed.{AreBetween, IsNetwork}
use Rattle.cut_net.proofs.Networks.{ends_once, few_moved, net_is}
use Rattle.source_tree.specs.GraphNet.{graph_entry, graph_lines, ranked, AreLight}
use Rattle.source_tree.proofs.GraphLines.{graph_network, graph_tables}

module _ (g : ImportGraph) (ss : List ModuleScopes) (graph : IsGraph g) (order : List ℕ) (is : IsByName g.names order) (ranks : List ℕ) (are : AreRanks order ranks) where
  names_long : length (names_by g.names order) ≡ length g.names
  names_long = length-map order (λ v. get_or g.names v []) ∙ order_long g.names order is graph.apart

  rank_within : (v : ℕ) → v < length g.names → get_or ranks v 0 < length (names_by g.names order)
  rank_within v l =
      let p = are.places v (has_node g.names order is graph.apart v l) in
      let long = length-map order (λ w. get_or g.names w []) in
      let within : get_or ranks v 0 < length order = p.0 in
      omega arith

  -- the name at the rank of a module is the module's
  rank_named : (v : ℕ) → v < length g.names → get_or (names_by g.names order) (get_or ranks v 0) [] ≡ name_of g v
  rank_named v l =
      let p = are.places v (has_node g.names order is graph.apart v l) in
      get_or-map (λ w. get_or g.names w []) order (get_or ranks v 0) 0 [] p.0 ∙ ap (λ (w : ℕ). get_or g.names w []) p.1

  listed_by : (ps : List Edge) → edges.AreBetween ps (length g.names)
      → map (import_line (names_by g.names order)) (map (ranked ranks) (map (graph_entry g ss) ps)) ≡ map (entry_line g.names) (map (graph_entry g ss) ps)
  listed_by [] between = refl
  listed_by (p ∷ ps) between =
      let b = between p (first_member p ps p refl) in
      let rest = listed_by ps (λ q h. between q (later_member p ps q h)) in
      let one : import_line (names_by g.names order) (ranked ranks (graph_entry g ss p)) ≡ entry_line g.names (graph_entry g ss p) = rw (rank_named p.from b.0, rank_named p.to b.1) refl in
      ap (λ (l : NetLine). l ∷ map (import_line (names_by g.names order)) (map (ranked ranks) (map (graph_entry g ss) ps))) one ∙ ap (λ (ls : List NetLine). entry_line g.names (graph_entry g ss p) ∷ ls) rest

  ranked_between : AreBetween (map (ranked ranks) (map (graph_entry g ss) g.pairs)) (length (names_by g.names order))
  ranked_between i h =
      let (e, has, made) = from_map (ranked ranks) (map (graph_entry g ss) g.pairs) i h in
      let (p, there, entry) = from_map (graph_entry g ss) g.pairs e has in
      let b = graph.between p there in
      let from : get_or ranks p.from 0 ≡ i.from = ap (λ (x : (ℕ × ℕ) × ℕ). get_or ranks x.0.0 0) entry ∙ ap (λ (x : Priced). x.from) made in
      let to : get_or ranks p.to 0 ≡ i.to = ap (λ (x : (ℕ × ℕ) × ℕ). get_or ranks x.0.1 0) entry ∙ ap (λ (x : Priced). x.to) made in
      (subst (λ (r : ℕ). r < length (names_by g.names order)) from (rank_within p.from b.0), subst (λ (r : ℕ). r < length (names_by g.names order)) to (rank_within p.to b.1))

  module _ (light : AreLight (map (graph_entry g ss) g.pairs)) (named : All (λ n. is_name n ≡ true) g.names) (imports : List Priced)
      (moved : IsPermutation (map (ranked ranks) (map (graph_entry g ss) g.pairs)) imports) (ordered : IsDistinct have_equal_ends (map (ranked ranks) (map (graph_entry g ss) g.pairs)) → IsAscending imports) where
    once : IsDistinct have_equal_ends (map (ranked ranks) (map (graph_entry g ss) g.pairs))
    once = ends_once (graph_lines g ss) g.names (names_by g.names order) (map (graph_entry g ss) g.pairs) (map (ranked ranks) (map (graph_entry g ss) g.pairs)) (graph_tables g ss graph light named) (listed_by g.pairs graph.between)

    pub ranked_net : IsNetOf (graph_lines g ss) (unpinned (names_by g.names order) imports)
    ranked_net = net_is (graph_lines g ss) g.names (names_by g.names order) (map (graph_entry g ss) g.pairs) (map (ranked ranks) (map (graph_entry g ss) g.pairs)) (graph_tables g ss graph light named) (listed_by g.pairs graph.between)
        imports is.ascend is.same ranked_between moved (ordered once)

    pub ranked_network : IsNetwork (unpinned (names_by g.names order) imports)
    ranked_network = graph_network g ss graph light named (unpinned (names_by g.names order) imports) ranked_net (let few = graph.few_names in let long = names_long in omega arith)
        (few_moved (graph_lines g ss) g.names (names_by g.names order) (map (graph_entry g ss) g.pairs) (map (ranked ranks) (map (graph_entry g ss) g.pairs)) (graph_tables g ss graph light named) (listed_by g.pairs graph.between) imports moved)
