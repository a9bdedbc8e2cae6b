use Rattle.std.proofs.Common.{refl}
use Rattle.std.proofs.lemmas.Result.{err_from_is_err_and}
use Rattle.oscip_run.specs.Runs.{IsNeverRejected, IsThis}
use Rattle.oscip_run.proofs.CutRuns.{refused_names}
use Rattle.oscip_run.proofs.engine.solve_and_write.Goals as goal

pub returns-in_err-answer-clause-run : goal.returns-in_err-answer-clause-run
returns-in_err-answer-clause-run g c =
    let p = err_from_is_err_and c.from_residual.result c.from_residual.ensures.1 in
    rw (p.1, p.2) (refused_names (IsThis c.args.net.now) IsNeverRejected _ _ _ c.args.net.now refl _ c.in_err-answer.ensures.exact)
