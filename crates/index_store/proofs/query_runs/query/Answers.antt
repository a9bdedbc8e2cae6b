use Rattle.std.proofs.lemmas.Result.{err_from_is_err_and}
use Rattle.index_store.proofs.Runs.{refused_index}
use Rattle.index_store.proofs.query_runs.query.Goals as goal

pub returns-in_err-check_index-clause-run : goal.returns-in_err-check_index-clause-run
returns-in_err-check_index-clause-run g c =
    let p = err_from_is_err_and c.from_residual.result c.from_residual.ensures.1 in
    rw (p.1, p.2) (refused_index _ _ _ _ _ _ _ c.in_err-check_index.ensures.fault)

pub returns-clause-run : goal.returns-clause-run
returns-clause-run g c = c.write_locations_at_position.ensures.run c.in_ok-check_index.ensures.means.0 c.in_ok-check_index.ensures.means.1
