use Rattle.std.proofs.Common.{◌≡◌, ◌≢◌, ◌∙◌, ◌++◌, [], ◌∷◌, length-set, get_or, sym, ap, subst}
use Rattle.std.specs.Prelude.{All, AllPairs}
use Rattle.std.proofs.lemmas.List.Elements.{All-push}
use Rattle.residual_graph.specs.declared.arc.ResidualArc.{ResidualArc}
use Rattle.residual_graph.specs.Graphs.{head, HasArc, IsResidualWalk}
use Rattle.residual_graph.specs.OutArcs.{no_out_arc}
use Rattle.cut_plain.specs.Levels.{Climbs, LeadsBack}
use Rattle.cut_plain.proofs.Descending.{All-front, head_opposite, leads_forth, leads_off, leads_on, once_reversed}
use Rattle.cut_plain.proofs.blocking.advance_descent.Goals as goal

pub augment-requires-clause-once : goal.augment-requires-clause-once
augment-requires-clause-once c =
    let w = c.requires.descent in
    subst (AllPairs (λ (s t : ResidualArc). s.arc ≢ t.arc)) (sym (c.deref.ensures.value ∙ c.reverse.ensures.items))
    (once_reversed c.args.graph.now.arcs c.args.levels.now c.args.to c.args.descent.now.path.items c.args.descent.now.at w.leads w.climbs)

pub returns-then-at-from-clause-rises : goal.returns-then-at-from-clause-rises
returns-then-at-from-clause-rises c =
    let arcs = c.args.graph.now.arcs in
    let path = c.args.descent.now.path.items in
    let back = subst (LeadsBack arcs c.args.to path) c.if-at-from.true c.requires.descent.leads in
    let leads = subst (λ v. IsResidualWalk arcs c.args.from v c.args.to) (sym (c.deref.ensures.value ∙ c.reverse.ensures.items)) (leads_forth arcs c.args.to path c.args.from back) in
    (c.augment.result, c.augment.ensures.raises c.args.from c.args.to c.requires.apart leads)

pub climbs-requires-clause-known : goal.climbs-requires-clause-known
climbs-requires-clause-known c =
    let s = (get_or c.residual_arcs-leaving.result.now c.index-current.result.now no_out_arc).step in
    let own = c.residual_arcs-leaving.ensures.each c.index-current.result.now no_out_arc c.if-current-leaving.true in
    rw c.opposite-step.ensures own.known

pub returns-then-climbs-clause-descent : goal.returns-then-climbs-clause-descent
returns-then-climbs-clause-descent c =
    let w = c.requires.descent in
    let arcs = c.args.graph.now.arcs in
    let path = c.args.descent.now.path.items in
    let s = (get_or c.residual_arcs-leaving.result.now c.index-current.result.now no_out_arc).step in
    let own = c.residual_arcs-leaving.ensures.each c.index-current.result.now no_out_arc c.if-current-leaving.true in
    let o = c.opposite-step.result in
    let comes : head arcs o ≡ c.args.descent.now.at = ap (head arcs) c.opposite-step.ensures ∙ head_opposite arcs s ∙ own.leaves in
    let known : HasArc arcs o = subst (HasArc arcs) (sym c.opposite-step.ensures) own.known in
    let items = c.in_ok-push.ensures.items in
    let leaves = c.tail-tail.ensures.is in
    record {
      levels_size = w.levels_size;
      current_size = w.current_size;
      end_in = w.end_in;
      at_in = c.tail-tail.ensures.node;
      known = rw items (All-push (HasArc arcs) path o w.known known);
      leads = rw (items, leaves) (leads_on arcs c.args.to path c.args.descent.now.at o w.leads comes);
      climbs = rw items (All-push (Climbs arcs c.args.levels.now) path o w.climbs (c.climbs.ensures c.if-climbs.true));
    }

pub returns-in-Some-clause-descent : goal.returns-in-Some-clause-descent
returns-in-Some-clause-descent c =
    let w = c.requires.descent in
    let arcs = c.args.graph.now.arcs in
    let front = c.pop.new.self.items in
    let s = c.in-Some.step in
    let items : c.args.descent.now.path.items ≡ front ++ s ∷ [] = c.in-Some.ensures.items in
    let known = subst (All (HasArc arcs)) items w.known in
    let comes = c.head-head.ensures.is in
    record {
      levels_size = w.levels_size;
      current_size = length-set c.args.descent.now.current.items c.head-head.result c.saturating_add.result ∙ w.current_size;
      end_in = w.end_in;
      at_in = c.head-head.ensures.node;
      known = All-front (HasArc arcs) front s known;
      leads = rw comes (leads_off arcs c.args.to front s c.args.descent.now.at (subst (λ v. LeadsBack arcs c.args.to v c.args.descent.now.at) items w.leads));
      climbs = All-front (Climbs arcs c.args.levels.now) front s (subst (All (Climbs arcs c.args.levels.now)) items w.climbs);
    }
