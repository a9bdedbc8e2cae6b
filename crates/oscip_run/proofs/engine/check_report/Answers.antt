use Rattle.std.proofs.Common.{◌∙◌, refl}
use Rattle.std.proofs.lemmas.Result.{err_from_is_err_and}
use Rattle.oscip_run.proofs.CheckRuns.{error_prefix, checked, refused_report}
use Rattle.oscip_run.specs.Runs.{is_yes, IsNeverRejected, IsThis}
use Rattle.oscip_run.proofs.engine.check_report.Goals as goal

pub returns-in_err-report-clause-run : goal.returns-in_err-report-clause-run
returns-in_err-report-clause-run g c =
    let p = err_from_is_err_and c.from_residual.result c.from_residual.ensures.1 in
    rw (p.1, p.2) (refused_report (IsThis c.args.net.now) IsNeverRejected _ _ c.args.net.now refl _ c.in_err-report.ensures.exact)

pub returns-in_err-write_fully-clause-run : goal.returns-in_err-write_fully-clause-run
returns-in_err-write_fully-clause-run g c =
    let p = err_from_is_err_and c.from_residual-in_err-write_fully.result c.from_residual-in_err-write_fully.ensures.1 in
    rw (p.1, p.2) (error_prefix (IsThis c.args.net.now) IsNeverRejected _ _ _ _ (is_yes c.in_ok-verdict.verdict) _
    (checked (IsThis c.args.net.now) _ _ c.args.net.now c.in_ok-report.report c.in_ok-verdict.verdict _ refl c.in_ok-report.ensures.exact c.in_ok-verdict.ensures.exact c.in_ok-verdict.ensures.cheapest
    (c.as_bytes.ensures.value ∙ c.in_ok-line.ensures) refl)
    c.in_err-write_fully.ensures.writes)

pub returns-clause-run : goal.returns-clause-run
returns-clause-run g c = (
  c.as_bytes.result.now,
  checked (IsThis c.args.net.now) _ _ c.args.net.now c.in_ok-report.report c.in_ok-verdict.verdict _ refl c.in_ok-report.ensures.exact c.in_ok-verdict.ensures.exact c.in_ok-verdict.ensures.cheapest
      (c.as_bytes.ensures.value ∙ c.in_ok-line.ensures) c.is_yes.ensures,
  c.in_ok-write_fully.ensures.writes,
)
