use Rattle.std.proofs.Common.{Bool, inr, refl, subst}
use Rattle.oscip_run.specs.Endings.{AreReported}
use Rattle.texts.specs.Places.{style_of}
use Rattle.oscip_run.proofs.ending.finish_tree_run.Goals as goal

pub returns : goal.returns
returns g c =
    let old = c.args.stderr.now in
    let mid = c.report_faults.new.stderr in
    let reported = subst (λ (all : Bool). AreReported g.E.Sink.taken (style_of c.args.style) old c.args.run.faults.items all mid) c.if-report_faults.false c.report_faults.ensures in
    inr (mid, reported, c.report_run_fault.ensures, refl)
