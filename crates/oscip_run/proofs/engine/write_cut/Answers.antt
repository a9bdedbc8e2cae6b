use Rattle.std.proofs.Common.{refl}
use Rattle.std.proofs.lemmas.Result.{err_from_is_err_and}
use Rattle.cut_net.specs.Answers.{answer_claim}
use Rattle.cut_report.specs.Reading.{claim_of}
use Rattle.oscip_run.specs.Runs.{IsNeverRejected, IsThis}
use Rattle.oscip_run.proofs.CutRuns.{error_prefix, cut_text}
use Rattle.oscip_run.proofs.Sayable.{fits_said, is_report}
use Rattle.oscip_run.proofs.engine.write_cut.Goals as goal

pub write-requires : goal.write-requires
write-requires g c =
    is_report _ c.args.a.now c.args.b.now (claim_of c.module_number-from.result c.module_number-to.result c.args.answer.now) c.invariants.ensures.network c.module_number-from.ensures c.module_number-to.ensures c.requires
    (fits_said c.args.answer.now _ c.largest_amount-most.result c.flow_of.ensures c.largest_amount-most.type_inv c.largest_amount-most.ensures)

pub returns-in_err-write-clause-run : goal.returns-in_err-write-clause-run
returns-in_err-write-clause-run g c =
    let p = err_from_is_err_and c.from_residual.result c.from_residual.ensures.1 in
    rw (p.1, p.2) (error_prefix (IsThis c.args.net.now) IsNeverRejected _ _ _ _ _ _
    (cut_text (IsThis c.args.net.now) _ _ c.args.net.now _ _ (answer_claim c.args.answer.now) refl c.invariants.ensures.network c.module_number-from.ensures c.module_number-to.ensures c.requires
    (fits_said c.args.answer.now _ c.largest_amount-most.result c.flow_of.ensures c.largest_amount-most.type_inv c.largest_amount-most.ensures))
    c.in_err-write.ensures.of_sink c.in_err-write.ensures.writes)

pub returns-clause-run : goal.returns-clause-run
returns-clause-run g c = (
  _,
  cut_text (IsThis c.args.net.now) _ _ c.args.net.now _ _ (answer_claim c.args.answer.now) refl c.invariants.ensures.network c.module_number-from.ensures c.module_number-to.ensures c.requires
      (fits_said c.args.answer.now _ c.largest_amount-most.result c.flow_of.ensures c.largest_amount-most.type_inv c.largest_amount-most.ensures),
  c.in_ok-write.ensures.writes,
)
