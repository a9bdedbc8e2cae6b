use Rattle.std.proofs.lemmas.Result.{err_from_is_err_and}
use Rattle.index_store.proofs.Runs.{refused_bytes}
use Rattle.index_store.proofs.query_runs.check_index.Goals as goal

pub returns-in_err-check-clause-fault : goal.returns-in_err-check-clause-fault
returns-in_err-check-clause-fault c =
    let p = err_from_is_err_and c.from_residual.result c.from_residual.ensures.1 in
    rw (p.1, p.2) (refused_bytes c.args.bytes.now _ c.in_err-check.ensures.fault)
