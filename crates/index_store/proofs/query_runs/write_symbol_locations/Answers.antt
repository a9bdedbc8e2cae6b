use Rattle.std.proofs.Common.{ap, map}
use Rattle.std.proofs.lemmas.Result.{err_from_is_err_and}
use Rattle.texts.specs.Places.{style_of}
use Rattle.index_store.specs.Lines.{location_lines}
use Rattle.index_store.specs.Queries.{location_model}
use Rattle.index_store.proofs.TellingRuns.{lacking, told_front}
use Rattle.index_store.proofs.query_runs.write_symbol_locations.Goals as goal

pub returns-in_err-check_path-clause-run : goal.returns-in_err-check_path-clause-run
returns-in_err-check_path-clause-run g c index means =
    let p = err_from_is_err_and c.from_residual.result c.from_residual.ensures.1 in
    rw (p.1, p.2) (lacking _ _ _ _ index _ means c.in_err-check_path.ensures.error (c.in_err-check_path.ensures.lacks index means))

pub returns-in_err-write_lines-clause-run : goal.returns-in_err-write_lines-clause-run
returns-in_err-write_lines-clause-run g c index means =
    let p = err_from_is_err_and c.from_residual-in_err-write_lines.result c.from_residual-in_err-write_lines.ensures.1 in
    let locations = c.in_ok-locations.ensures.exact index means in
    rw (p.1, p.2) (told_front _ _ _ _ _ (location_lines (style_of c.args.style) (map location_model c.in_ok-locations.locations.items)) _
    (record { index = index; means = means; has = c.in_ok-check_path.ensures.has index means; text_is = ap (location_lines (style_of c.args.style)) locations }) (rw c.as_slice.ensures.value at c.in_err-write_lines.ensures.writes))

pub returns-clause-run : goal.returns-clause-run
returns-clause-run g c index means =
    let locations = c.in_ok-locations.ensures.exact index means in (
      location_lines (style_of c.args.style) (map location_model c.in_ok-locations.locations.items),
      record { index = index; means = means; has = c.in_ok-check_path.ensures.has index means; text_is = ap (location_lines (style_of c.args.style)) locations },
      rw c.as_slice.ensures.value at c.in_ok-write_lines.ensures.writes,
    )
