use Rattle.std.proofs.Common.{List, length, subst}
use Rattle.residual_graph.specs.declared.arc.Arc.{Arc}
use Rattle.residual_graph.specs.Groups.{AreBegins, AreCounted, ArePlaced}
use Rattle.residual_graph.proofs.Listing.{listed}
use Rattle.residual_graph.proofs.graph.ResidualGraph.new.Goals as goal

pub invariant_of-result : goal.invariant_of-result
invariant_of-result c =
    let arcs = c.args.arcs.items in
    let nodes = c.args.nodes in
    let sizes = c.in_ok-counted.counted.sizes.items in
    let indexes = c.in_ok-counted.counted.indexes.items in
    let begins = c.in_ok-begins.begins.items in
    let outs = c.in_ok-outs.outs.items in
    let counted : AreCounted arcs nodes sizes indexes (length arcs) = subst (λ (v : List Arc). AreCounted v nodes sizes indexes (length v)) c.deref.ensures.value c.in_ok-counted.ensures in
    let are : AreBegins sizes nodes begins = subst (λ n. AreBegins sizes n begins) counted.each_sized
    (subst (λ v. AreBegins v (length v) begins) c.deref-2.ensures.value c.in_ok-begins.ensures) in
    let out_arcs_by_tail : ArePlaced arcs begins indexes outs (length arcs) =
    subst (λ (v : List Arc). ArePlaced v begins indexes outs (length v)) c.deref-3.ensures.value
    (subst (λ v. ArePlaced c.deref-3.result.now v indexes outs (length c.deref-3.result.now)) c.deref-4.ensures.value c.in_ok-outs.ensures) in
    listed arcs nodes sizes indexes begins c.requires.between counted are outs
    (record { within = c.requires.within; between = c.requires.between; few_nodes = c.ranges.nodes.fits }) out_arcs_by_tail
