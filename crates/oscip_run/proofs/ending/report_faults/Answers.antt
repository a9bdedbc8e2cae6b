use Rattle.std.proofs.Common.{◌≡◌, ◌∷◌, [], refl, ◌∙◌, append_assoc}
use Rattle.std.specs.Vec.Iter.{into_iter_items}
use Rattle.oscip_run.specs.Endings.AreReported.{none, more}
use Rattle.oscip_run.proofs.ending.report_faults.Goals as goal

pub loop-fault-init : goal.loop-fault-init
loop-fault-init g c = record { reported = none; whole = refl }

pub loop-fault-preserved : goal.loop-fault-preserved
loop-fault-preserved g c =
    let at = c.loop-fault in
    let steps : into_iter_items at.fault-iterator ≡ c.in-Some.fault ∷ into_iter_items c.next.new.self = c.in-Some.ensures.steps.0 in
    record {
      reported = more c.in-Some.fault c.report_skipped_file-all.result at.invariant.reported c.report_skipped_file-all.ensures;
      whole = append_assoc at.yielded (c.in-Some.fault ∷ []) _ ∙ rw (← steps) at.invariant.whole;
    }
