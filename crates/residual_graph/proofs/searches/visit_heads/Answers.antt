use Rattle.std.proofs.Common.{ℕ, List, refl, ◌≡◌, ◌+◌, ◌<◌, ◌↔◌, ◌∙◌, false, sym, ap, length, arith, ◌∷◌, ◌++◌, [], subst, get_or, set, map, true, Bool, vec_len}
use Rattle.std.specs.Global.{Vec}
use Rattle.std.specs.Prelude.{Contains}
use Rattle.std.proofs.lemmas.Bool.{both_ways}
use Rattle.std.proofs.lemmas.List.{get_or_default, get_or_append_left, get_or-map, length-map}
use Rattle.residual_graph.specs.declared.arc.OutArc.{OutArc}
use Rattle.residual_graph.specs.declared.arc.ResidualArc.{ResidualArc}
use Rattle.residual_graph.specs.declared.found.Visit.{Visit}
use Rattle.residual_graph.specs.Graphs.{no_residual_arc, HasArc, head, is_flagged, residual, tail}
use Rattle.residual_graph.specs.OutArcs.{no_out_arc, step_of}
use Rattle.residual_graph.specs.Trees.{ExtendsSearch, Searching, no_visit, visit_at}
use Rattle.residual_graph.proofs.Listing.{steps_are}
use Rattle.residual_graph.proofs.Searching.{searching_at, searching_no, searching_yes, searching_next}
use Rattle.residual_graph.proofs.searches.visit_heads.Goals as goal
use Rattle.residual_graph.proofs.searches.visit_heads.Goals.{then-extends_search+in_ok-push, else-extends_search}

-- the node that is read is the index's
read : (visits : List Visit) (place : ℕ) (it : Visit) → place < length visits → it ≡ get_or visits place it → it.node ≡ (visit_at visits place).node
read visits place it in_places is = ap (λ (p : Visit). p.node) (is ∙ get_or_default visits place it no_visit in_places)

pub loop-out-init : goal.loop-out-init
loop-out-init c = record {
  seen_size = c.requires.reached_flags;
  levels_size = c.requires.levels;
  longer = omega arith;
  same_place = refl;
  search = λ start z. searching_at c.args.graph.now start c.args.reached_flags.now.items c.args.visits.now.items c.args.place (map step_of c.residual_arcs-out-items.result.now) z;
}

pub loop-out-preserved : goal.loop-out-preserved
loop-out-preserved c =
    let graph = c.args.graph.now in
    let outs = c.residual_arcs-out-items.result.now in
    let group = map step_of outs in
    let reached_flags = c.loop-out.reached_flags.items in
    let visits = c.loop-out.visits.items in
    let k = c.loop-out.out-index in
    let in_outs : k < length outs = c.loop-out-test.true in
    let size = length-map outs step_of in
    let a = get_or outs k no_out_arc in
    let s = get_or group k no_residual_arc in
    let s_is : s ≡ a.step = get_or-map step_of outs k no_out_arc no_residual_arc in_outs in
    let out = c.residual_arcs-out-items.ensures.each k no_out_arc in_outs in
    let head_is : a.head ≡ head graph.arcs s = ap (λ (o : OutArc). o.head) out.beside ∙ ap (head graph.arcs) (sym s_is) in
    let left_is : a.residual ≡ residual graph.arcs s = ap (λ (o : OutArc). o.residual) out.beside ∙ ap (residual graph.arcs) (sym s_is) in
    let head_low : head graph.arcs s < graph.nodes = subst (λ n. n < graph.nodes) head_is out.low in
    let place = c.args.place in
    let on = c.extends_search.ensures in
    let was = c.deref.ensures.value in
    let ok = c.loop-out.visits.ok.0 in
    let longer = c.loop-out.invariant.longer in
    let asked = c.requires.place in
    let first_ok = c.args.visits.now.ok.0 in
    let in_first : place < length c.args.visits.now.items = omega arith in
    let in_place : place < length visits = omega arith in
    let same_place = c.loop-out.invariant.same_place in
    let node_is = read c.args.visits.now.items place c.index.result.now in_first c.index.ensures in
    let known : HasArc graph.arcs s = subst (HasArc graph.arcs) (sym s_is) out.known in
    let leaves : tail graph.arcs s ≡ c.index.result.now.node = ap (tail graph.arcs) s_is ∙ out.leaves in
    elim c.if-extends_search.branch [
      | then-extends_search+in_ok-push w ↦
          let seen_is = ap (λ (v : Vec Bool). v.items) w.reached_flags-is in
          let places_is = ap (λ (v : Vec Visit). v.items) w.visits-is ∙ w.in_ok-push.ensures.items in
          let places_len = ap vec_len w.visits-is in
          let pushed_len = w.in_ok-push.ensures.len in
          let yes = on.0 w.if-extends_search.true in
          let is_on : ExtendsSearch graph.arcs s reached_flags = (subst (λ n. 0 < n) left_is yes.0, subst (λ n. is_flagged reached_flags n ≡ false) head_is (subst (λ v. is_flagged v a.head ≡ false) was yes.1)) in
          record {
            seen_size = ap vec_len w.reached_flags-is ∙ c.loop-out.invariant.seen_size;
            levels_size = ap vec_len w.levels-is ∙ c.loop-out.invariant.levels_size;
            longer = omega arith;
            same_place = ap (λ v. visit_at v place) places_is ∙ get_or_append_left visits ((record { node = a.head; step = a.step; parent = place }) ∷ []) no_visit place in_place ∙ same_place;
            search = λ start z. rw (seen_is, places_is)
                (subst (λ (t : ResidualArc). Searching graph start (set reached_flags a.head true) (visits ++ (record { node = a.head; step = t; parent = place }) ∷ []) place group (k + 1)) s_is
                (subst (λ n. Searching graph start (set reached_flags n true) (visits ++ (record { node = n; step = s; parent = place }) ∷ []) place group (k + 1)) (sym head_is)
                (searching_yes graph start reached_flags visits place group k (c.loop-out.invariant.search start z) in_place known (leaves ∙ node_is ∙ ap (λ (p : Visit). p.node) (sym same_place)) head_low is_on)));
          }
      | else-extends_search w ↦
          let seen_is = ap (λ (v : Vec Bool). v.items) w.reached_flags-is in
          let places_is = ap (λ (v : Vec Visit). v.items) w.visits-is in
          let places_len = ap vec_len w.visits-is in
          record {
            seen_size = ap vec_len w.reached_flags-is ∙ c.loop-out.invariant.seen_size;
            levels_size = ap vec_len w.levels-is ∙ c.loop-out.invariant.levels_size;
            longer = omega arith;
            same_place = ap (λ v. visit_at v place) places_is ∙ same_place;
            search = λ start z. rw (seen_is, places_is)
                (searching_no graph start reached_flags visits place group k (c.loop-out.invariant.search start z)
                (λ lo. both_ways c.extends_search.result w.if-extends_search.false (on.1 (subst (λ n. 0 < n) (sym left_is) lo.0, subst (λ v. is_flagged v a.head ≡ false) (sym was) (subst (λ n. is_flagged reached_flags n ≡ false) (sym head_is) lo.1)))));
          }
    ]

pub returns-clause-search : goal.returns-clause-search
returns-clause-search c start z =
    let graph = c.args.graph.now in
    let outs = c.residual_arcs-out-items.result.now in
    let group = map step_of outs in
    let size = length-map outs step_of in
    let visits = c.loop-out.visits.items in
    let place = c.args.place in
    let asked = c.requires.place in
    let first_ok = c.args.visits.now.ok.0 in
    let in_first : place < length c.args.visits.now.items = omega arith in
    let past = c.loop-out-test.false in
    let node_is = read c.args.visits.now.items place c.index.result.now in_first c.index.ensures ∙ ap (λ (p : Visit). p.node) (sym c.loop-out.invariant.same_place) in
    searching_next graph start c.loop-out.reached_flags.items visits place group c.loop-out.out-index (c.loop-out.invariant.search start z)
    (λ s. subst (λ n. Contains group s ↔ (HasArc graph.arcs s × (tail graph.arcs s ≡ n))) node_is
    (steps_are graph c.index.result.now.node outs c.residual_arcs-out-items.ensures.each c.residual_arcs-out-items.ensures.all s)) (omega arith)
