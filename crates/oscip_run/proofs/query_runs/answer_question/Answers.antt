use Rattle.std.proofs.Common.{refl}
use Rattle.std.proofs.lemmas.Result.{err_from_is_err_and}
use Rattle.oscip_run.proofs.query_runs.answer_question.Goals as goal

pub returns-in_err-write_query-clause-run : goal.returns-in_err-write_query-clause-run
returns-in_err-write_query-clause-run g c =
    let p = err_from_is_err_and c.from_residual.result c.from_residual.ensures.1 in
    rw (p.1, p.2) (_, refl, c.in_err-write_query.ensures.run)
