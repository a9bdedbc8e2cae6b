use Rattle.std.proofs.Common.{refl}
use Rattle.std.proofs.lemmas.Result.{err_from_is_err_and}
use Rattle.index_store.proofs.TellingRuns.{lacking, told_front}
use Rattle.index_store.proofs.query_runs.write_definition_lines.Goals as goal

pub returns-in_err-check_path-clause-run : goal.returns-in_err-check_path-clause-run
returns-in_err-check_path-clause-run g c index means =
    let p = err_from_is_err_and c.from_residual.result c.from_residual.ensures.1 in
    rw (p.1, p.2) (lacking _ _ _ _ index _ means c.in_err-check_path.ensures.error (c.in_err-check_path.ensures.lacks index means))

pub returns-in_err-write_definitions-clause-run : goal.returns-in_err-write_definitions-clause-run
returns-in_err-write_definitions-clause-run g c index means =
    let p = err_from_is_err_and c.from_residual-in_err-write_definitions.result c.from_residual-in_err-write_definitions.ensures.1 in
    rw (p.1, p.2) (told_front _ _ _ _ _ _ _ (record { index = index; means = means; has = c.in_ok-check_path.ensures.has index means; text_is = refl }) (c.in_err-write_definitions.ensures.writes index means))

pub returns-clause-run : goal.returns-clause-run
returns-clause-run g c index means = (
  _,
  record { index = index; means = means; has = c.in_ok-check_path.ensures.has index means; text_is = refl },
  c.in_ok-write_definitions.ensures.writes index means,
)
