use Rattle.std.proofs.Common.{ap, ap₂, Bool, List, filter, subst, ◌∙◌}
use Rattle.cut_net.specs.declared.priced.Priced.{Priced}
use Rattle.cut_part.specs.Subnetworks.{are_ends_in}
use Rattle.residual_graph.specs.Graphs.{is_flagged}
use Rattle.cut_dot.specs.Pictures.{drawn_modules, AreStillReached, IsPicture}
use Rattle.cut_dot.specs.Texts.{picture_text}
use Rattle.cut_dot.proofs.Drawn.{drawn}
use Rattle.cut_dot.proofs.drawing.draw_cut.Goals as goal

pub write_picture-requires-clause-imports : goal.write_picture-requires-clause-imports
write_picture-requires-clause-imports g c = rw c.imports.ensures c.invariants.ensures.network.between

pub returns-clause-run : goal.returns-clause-run
returns-clause-run g c =
    let net = c.args.net.now in
    let cut = c.args.cut.now in
    let marks = c.in-Ok.part.marks.items in
    let reached = c.in-Ok-flag_reached.reached.items in
    let are_reached : AreStillReached net c.args.from cut.imports.items (is_flagged reached) =
    subst (λ (v : List Priced). AreStillReached net c.args.from v (is_flagged reached)) c.as_slice.ensures.value c.in-Ok-flag_reached.ensures.reached in
    let text = λ (b : List Bool) (r : List Bool) (imports : List Priced). picture_text net c.args.from c.args.to cut.imports.items cut.flow.items (is_flagged r) (drawn_modules net c.args.from c.args.to (is_flagged b)) (filter (are_ends_in (is_flagged b)) imports) in
    let text_is = ap (λ (imports : List Priced). text c.deref.result.now c.deref-2.result.now imports) c.imports.ensures ∙ ap₂ (λ (b : List Bool) (r : List Bool). text b r net.imports) c.deref.ensures.value c.deref-2.ensures.value in
    drawn (IsPicture net c.args.from c.args.to cut.imports.items cut.flow.items) _ _ _ c.write_picture.result
    (record { between = is_flagged marks; are_between = c.in-Ok.ensures.between; reached = is_flagged reached; are_reached = are_reached; text_is = text_is })
    c.write_picture.ensures.writes
