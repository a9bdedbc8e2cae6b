use Rattle.std.proofs.Common.{◌∙◌, ap, Bool, List, filter, subst}
use Rattle.cut_net.specs.declared.priced.Priced.{Priced}
use Rattle.cut_part.specs.Subnetworks.{are_ends_in}
use Rattle.residual_graph.specs.Graphs.{is_flagged}
use Rattle.cut_dot.specs.Pictures.{drawn_modules, AreStillReached, IsPictureOfImports}
use Rattle.cut_dot.specs.Texts.{picture_text}
use Rattle.cut_dot.proofs.Drawn.{drawn}
use Rattle.cut_dot.proofs.Ends.{all_inside}
use Rattle.cut_dot.proofs.drawing.draw_imports.Goals as goal

pub flag_ends-requires : goal.flag_ends-requires
flag_ends-requires g c = rw c.nodes.ensures c.requires.imports

pub returns-clause-run : goal.returns-clause-run
returns-clause-run g c =
    let net = c.args.net.now in
    let printed = c.args.cut.now.imports.items in
    let flow = c.args.cut.now.flow.items in
    let a = c.args.ends.0 in
    let b = c.args.ends.1 in
    let imports = c.args.imports.now in
    let marks = c.in-Ok.marks.items in
    let reached = c.in-Ok-flag_reached.reached.items in
    let are_reached : AreStillReached net a printed (is_flagged reached) =
    subst (λ (v : List Priced). AreStillReached net a v (is_flagged reached)) c.as_slice.ensures.value c.in-Ok-flag_reached.ensures.reached in
    let text = λ (r : List Bool) (m : List Bool) (some : List Priced). picture_text net a b printed flow (is_flagged r) (drawn_modules net a b (is_flagged m)) some in
    let text_is = ap (λ (r : List Bool). text r c.deref.result.now (filter (are_ends_in (is_flagged c.deref.result.now)) imports)) c.deref-2.ensures.value
    ∙ ap (λ (m : List Bool). text reached m (filter (are_ends_in (is_flagged m)) imports)) c.deref.ensures.value
    ∙ ap (λ (some : List Priced). text reached marks some) (all_inside (is_flagged marks) imports c.in-Ok.ensures.ends) in
    drawn (IsPictureOfImports net a b printed flow imports) _ _ _ c.write_picture.result
    (record { at_end = is_flagged marks; are_at_ends = c.in-Ok.ensures.ends; reached = is_flagged reached; are_reached = are_reached; text_is = text_is })
    c.write_picture.ensures.writes
