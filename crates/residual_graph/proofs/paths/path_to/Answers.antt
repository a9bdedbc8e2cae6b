use Rattle.std.proofs.Common.{◌≡◌, ◌<◌, ◌∙◌, length, ap, sym, subst, arith, reverse}
use Rattle.std.proofs.lemmas.List.{get_or_default}
use Rattle.residual_graph.specs.declared.found.Visit.{Visit}
use Rattle.residual_graph.specs.Graphs.{IsAugmenting}
use Rattle.residual_graph.specs.Trees.{no_visit, visit_at}
use Rattle.residual_graph.proofs.Walking.{Walking, walking_more, walking_end}
use Rattle.residual_graph.proofs.paths.path_to.Goals as goal

pub loop-at-preserved : goal.loop-at-preserved
loop-at-preserved c =
    let found = c.args.found.now in
    let visits = found.visits.items in
    let at = c.loop-at.at in
    let test = c.loop-at-test.true in
    let positive : 0 < at = omega arith in
    let in_places = c.loop-at.invariant.within positive in
    let is : c.index-place.result.now ≡ visit_at visits at = c.index-place.ensures ∙ get_or_default visits at c.index-place.result.now no_visit in_places in
    let parent_is : c.index-place.result.now.parent ≡ (visit_at visits at).parent = ap (λ (p : Visit). p.parent) is in
    let earlier = found.have_parents at positive in_places in
    record {
      within = λ _. omega arith;
      walking = λ g start s. rw (c.in_ok-push.ensures.items, is)
          (walking_more g start found.reached_flags.items visits s.tree c.visit_index-at.result at c.loop-at.path.items (c.loop-at.invariant.walking g start s) positive);
    }

pub returns : goal.returns
returns c start s =
    let g = c.args.graph.now in
    let found = c.args.found.now in
    let visits = found.visits.items in
    let past = c.loop-at-test.false in
    let at_first : c.loop-at.at ≡ 0 = omega arith in
    let w = subst (λ n. Walking g visits c.visit_index-at.result n c.loop-at.path.items) at_first (c.loop-at.invariant.walking g start s) in
    let way = walking_end g start found.reached_flags.items visits s.tree c.visit_index-at.result c.loop-at.path.items w in
    let (p, in_places, at_node) = s.tree.placed c.args.node c.requires.reached_flags in
    let end = c.visit_index-at.ensures.found p (subst (λ v. p < length v) (sym c.deref.ensures.value) in_places) (subst (λ v. (visit_at v p).node ≡ c.args.node) (sym c.deref.ensures.value) at_node) in
    let end_is = subst (λ v. (visit_at v c.visit_index-at.result).node ≡ c.args.node) c.deref.ensures.value end.1 in
    subst (λ v. IsAugmenting g.arcs start v c.args.node) (sym c.reverse.ensures.items)
    (subst (IsAugmenting g.arcs start (reverse c.loop-at.path.items)) end_is way)
