use Rattle.std.proofs.Common.{◌≡◌, ◌∙◌, Bool, false, List, [], ◌∷◌, ◌++◌, replicate, ap, arith}
use Rattle.std.proofs.lemmas.List.Sums.{count_by-le-length}
use Rattle.residual_graph.specs.declared.arc.ResidualArc.{ResidualArc}
use Rattle.residual_graph.specs.declared.found.Visit.{Visit}
use Rattle.residual_graph.proofs.Searching.{searching_end, searching_start}
use Rattle.residual_graph.proofs.Walking.{reached}
use Rattle.residual_graph.proofs.searches.search.Goals as goal

pub returns-clause-reached : goal.returns-clause-reached
returns-clause-reached c =
    let z = c.loop-place.invariant.search in
    let past = c.loop-place-test.false in
    let len = c.len.ensures in
    let ok = c.loop-place.visits.ok.0 in
    reached c.args.graph.now c.args.start c.loop-place.reached_flags.items c.loop-place.visits.items z.tree
    (searching_end c.args.graph.now c.args.start c.loop-place.reached_flags.items c.loop-place.visits.items c.loop-place.place _ 0 z (omega arith))

pub loop-place-preserved : goal.loop-place-preserved
loop-place-preserved c = record {
  seen_size = c.in_ok-visit_heads.ensures.reached_flags;
  levels_size = c.in_ok-visit_heads.ensures.levels;
  search = c.in_ok-visit_heads.ensures.search c.args.start c.loop-place.invariant.search;
}

pub loop-place-smaller : goal.loop-place-smaller
loop-place-smaller c =
    let z = c.loop-place.invariant.search in
    let counted = z.counted in
    let size = z.tree.size in
    let few = count_by-le-length (λ (s : Bool). s) c.loop-place.reached_flags.items in
    let within = c.loop-place-test.true in
    let len = c.len.ensures in
    let ok = c.loop-place.visits.ok.0 in
    omega arith

pub visit_heads-requires-clause-node : goal.visit_heads-requires-clause-node
visit_heads-requires-clause-node c =
    let within = c.loop-place-test.true in
    let len = c.len.ensures in
    let ok = c.loop-place.visits.ok.0 in
    (c.loop-place.invariant.search.tree.listed c.loop-place.place (omega arith)).0

pub invariant_of-result : goal.invariant_of-result
invariant_of-result c = record { have_parents = λ p h in_p. (c.loop-place.invariant.search.tree.found p h in_p).earlier }

pub returns-clause-closed : goal.returns-clause-closed
returns-clause-closed c =
    let past = c.loop-place-test.false in
    let len = c.len.ensures in
    let ok = c.loop-place.visits.ok.0 in
    searching_end c.args.graph.now c.args.start c.loop-place.reached_flags.items c.loop-place.visits.items c.loop-place.place _ 0 c.loop-place.invariant.search (omega arith)

pub returns-clause-tree : goal.returns-clause-tree
returns-clause-tree c = record { tree = c.loop-place.invariant.search.tree }

pub loop-place-init : goal.loop-place-init
loop-place-init c =
    let g = c.args.graph.now in
    let start = c.args.start in
    let step : ResidualArc = record { arc = 0; forward = false } in
    let unseen : c.in_ok-reached_flags.reached_flags.items ≡ replicate g.nodes false = c.in_ok-reached_flags.ensures.items_if_clones_equal (λ y same. same) ∙ ap (λ n. replicate n false) c.nodes.ensures in
    let placed : c.push.new.self.items ≡ (record { node = start; step = step; parent = 0 }) ∷ [] =
    c.in_ok-push.ensures.items ∙ ap (λ (v : List Visit). v ++ (record { node = start; step = step; parent = 0 }) ∷ []) c.new-visits.ensures.items in
    record {
      seen_size = c.in_ok-reached_flags.ensures.len ∙ c.nodes.ensures;
      levels_size = c.in_ok-levels.ensures.len ∙ c.nodes-2.ensures;
      search = rw (unseen, placed) (searching_start g start step c.requires);
    }
