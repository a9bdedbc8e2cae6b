use Rattle.std.proofs.Common.{◌≡◌, ◌≤◌, ◌<◌, ◌+◌, ◌∙◌, ℕ, Bool, true, false, List, length, get_or, refl, set, sym, subst, ap, arith}
use Rattle.std.proofs.Math.Seq.{map-set_same}
use Rattle.std.proofs.lemmas.List.{get_or_default}
use Rattle.residual_graph.specs.declared.arc.Arc.{Arc}
use Rattle.residual_graph.specs.declared.groups.OutArcIndexes.{OutArcIndexes}
use Rattle.residual_graph.specs.Flows.{without_flow, pushed, DifferInFlowOnly}
use Rattle.residual_graph.specs.Graphs.{no_arc, residual, Graph}
use Rattle.residual_graph.specs.OutArcs.{begin_of, no_indexes, out_arc_of}
use Rattle.residual_graph.proofs.Augmenting.{pushed_within}
use Rattle.residual_graph.proofs.Listing.{back_at, back_low, forth_at, forth_low, sent}
use Rattle.residual_graph.proofs.graph.ResidualGraph.send.Goals as goal

-- the index that is read of a node's list, by its first index and an index
place_is : (begins : List ℕ) (u v begin first index : ℕ) → u ≡ v → begin ≡ get_or begins v begin → v < length begins → first ≡ index → begin + first ≡ begin_of begins u + index
place_is begins u v begin first index e at low f =
    let begin_is : begin ≡ get_or begins u 0 = at ∙ get_or_default begins v begin 0 low ∙ ap (λ n. get_or begins n 0) (sym e) in
    ap (λ n. n + first) begin_is ∙ ap (λ n. get_or begins u 0 + n) f

-- the arc that is written is the old one with more flow or less
sent_is : (arcs : List Arc) (k : ℕ) (read result : Arc) (forward : Bool) (amount : ℕ) → read ≡ get_or arcs k read → k < length arcs → result ≡ pushed read forward amount →
    result ≡ pushed (get_or arcs k no_arc) forward amount
sent_is arcs k read result forward amount at low is = is ∙ ap (λ (r : Arc). pushed r forward amount) (at ∙ get_or_default arcs k read no_arc low)

pub invariant_of-self : goal.invariant_of-self
invariant_of-self c =
    let g = c.self.inside in
    let l = c.self.invariant in
    let arcs = g.arcs.items in
    let k = c.args.step.arc in
    let old = get_or arcs k no_arc in
    let inside : c.args.self.now.arcs ≡ arcs = sym (ap (λ (v : Graph). v.arcs) c.self.view_is) in
    let known : k < length arcs = subst (λ v. k < length v) inside c.requires.known in
    let left = subst (λ v. c.args.amount ≤ residual v c.args.step) inside c.requires.left in
    let r : Arc = pushed old c.args.step.forward c.args.amount in
    let is : c.push-arc.result ≡ r = sent_is arcs k c.index.result.now c.push-arc.result c.args.step.forward c.args.amount c.index.ensures known c.push-arc.ensures in
    let ends = l.graph.between k no_arc known in
    let size = l.each_begins in
    let indexed = l.each_indexed in
    let indexes_is : c.index-indexes.result.now ≡ get_or g.indexes.items k no_indexes = c.index-indexes.ensures ∙ get_or_default g.indexes.items k c.index-indexes.result.now no_indexes (omega arith) in
    let from_is : old.from ≡ c.push-arc.result.from = sym (ap (λ (a : Arc). a.from) is) in
    let to_is : old.to ≡ c.push-arc.result.to = sym (ap (λ (a : Arc). a.to) is) in
    let from_low : c.push-arc.result.from < length g.begins.items = omega arith in
    let to_low : c.push-arc.result.to < length g.begins.items = omega arith in
    let forth_is : c.index-2.result.now + c.index-indexes.result.now.forward ≡ forth_at arcs g.nodes g.begins.items g.outs.items g.indexes.items l k known r refl (pushed_within old c.args.step.forward c.args.amount (l.graph.within k no_arc known) left) =
    place_is g.begins.items old.from c.push-arc.result.from c.index-2.result.now c.index-indexes.result.now.forward (get_or g.indexes.items k no_indexes).forward from_is c.index-2.ensures from_low (ap (λ (i : OutArcIndexes). i.forward) indexes_is) in
    let back_is : c.index-3.result.now + c.index-indexes.result.now.backward ≡ back_at arcs g.nodes g.begins.items g.outs.items g.indexes.items l k known r refl (pushed_within old c.args.step.forward c.args.amount (l.graph.within k no_arc known) left) =
    place_is g.begins.items old.to c.push-arc.result.to c.index-3.result.now c.index-indexes.result.now.backward (get_or g.indexes.items k no_indexes).backward to_is c.index-3.ensures to_low (ap (λ (i : OutArcIndexes). i.backward) indexes_is) in
    let forth_out : c.out_arc_of.result ≡ out_arc_of r (record { arc = k; forward = true }) = c.out_arc_of.ensures ∙ ap (λ (a : Arc). out_arc_of a (record { arc = k; forward = true })) is in
    let back_out : c.out_arc_of-2.result ≡ out_arc_of r (record { arc = k; forward = false }) = c.out_arc_of-2.ensures ∙ ap (λ (a : Arc). out_arc_of a (record { arc = k; forward = false })) is in
    rw (is, forth_is, back_is, forth_out, back_out)
    (sent arcs g.nodes g.begins.items g.outs.items g.indexes.items l k known r refl (pushed_within old c.args.step.forward c.args.amount (l.graph.within k no_arc known) left))

pub returns-clause-same : goal.returns-clause-same
returns-clause-same c =
    let arcs = c.self.inside.arcs.items in
    let k = c.args.step.arc in
    let inside : c.args.self.now.arcs ≡ arcs = sym (ap (λ (g : Graph). g.arcs) c.self.view_is) in
    let known = subst (λ v. k < length v) inside c.requires.known in
    let is = sent_is arcs k c.index.result.now c.push-arc.result c.args.step.forward c.args.amount c.index.ensures known c.push-arc.ensures in
    subst (λ v. DifferInFlowOnly v (set arcs k c.push-arc.result)) (sym inside) (subst (λ (r : Arc). DifferInFlowOnly arcs (set arcs k r)) (sym is) (map-set_same without_flow arcs k (pushed (get_or arcs k no_arc) c.args.step.forward c.args.amount) no_arc refl))

pub overflow_add-forth : goal.overflow_add-forth
overflow_add-forth c =
    let g = c.self.inside in
    let l = c.self.invariant in
    let arcs = g.arcs.items in
    let k = c.args.step.arc in
    let old = get_or arcs k no_arc in
    let inside : c.args.self.now.arcs ≡ arcs = sym (ap (λ (v : Graph). v.arcs) c.self.view_is) in
    let known : k < length arcs = subst (λ v. k < length v) inside c.requires.known in
    let is = sent_is arcs k c.index.result.now c.push-arc.result c.args.step.forward c.args.amount c.index.ensures known c.push-arc.ensures in
    let ends = l.graph.between k no_arc known in
    let size = l.each_begins in
    let indexed = l.each_indexed in
    let indexes_is : c.index-indexes.result.now ≡ get_or g.indexes.items k no_indexes = c.index-indexes.ensures ∙ get_or_default g.indexes.items k c.index-indexes.result.now no_indexes (omega arith) in
    let from_is : old.from ≡ c.push-arc.result.from = sym (ap (λ (a : Arc). a.from) is) in
    let at = place_is g.begins.items old.from c.push-arc.result.from c.index-2.result.now c.index-indexes.result.now.forward (get_or g.indexes.items k no_indexes).forward from_is c.index-2.ensures (omega arith) (ap (λ (i : OutArcIndexes). i.forward) indexes_is) in
    let low = forth_low arcs g.nodes g.begins.items g.outs.items g.indexes.items l k known old refl (l.graph.within k no_arc known) in
    omega (arith, g.outs.ok.0, g.outs.ok.1, g.outs.small)

pub overflow_add-back : goal.overflow_add-back
overflow_add-back c =
    let g = c.self.inside in
    let l = c.self.invariant in
    let arcs = g.arcs.items in
    let k = c.args.step.arc in
    let old = get_or arcs k no_arc in
    let inside : c.args.self.now.arcs ≡ arcs = sym (ap (λ (v : Graph). v.arcs) c.self.view_is) in
    let known : k < length arcs = subst (λ v. k < length v) inside c.requires.known in
    let is = sent_is arcs k c.index.result.now c.push-arc.result c.args.step.forward c.args.amount c.index.ensures known c.push-arc.ensures in
    let ends = l.graph.between k no_arc known in
    let size = l.each_begins in
    let indexed = l.each_indexed in
    let indexes_is : c.index-indexes.result.now ≡ get_or g.indexes.items k no_indexes = c.index-indexes.ensures ∙ get_or_default g.indexes.items k c.index-indexes.result.now no_indexes (omega arith) in
    let to_is : old.to ≡ c.push-arc.result.to = sym (ap (λ (a : Arc). a.to) is) in
    let at = place_is g.begins.items old.to c.push-arc.result.to c.index-3.result.now c.index-indexes.result.now.backward (get_or g.indexes.items k no_indexes).backward to_is c.index-3.ensures (omega arith) (ap (λ (i : OutArcIndexes). i.backward) indexes_is) in
    let low = back_low arcs g.nodes g.begins.items g.outs.items g.indexes.items l k known old refl (l.graph.within k no_arc known) in
    omega (arith, g.outs.ok.0, g.outs.ok.1, g.outs.small)
