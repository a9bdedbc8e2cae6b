use Rattle.std.proofs.Common.{Some, None, [], map, refl}
use Rattle.std.proofs.KnownBytes.{Appends-nil}
use Rattle.std.proofs.lemmas.Result.{err_from_is_err_and}
use Rattle.texts.specs.Places.{style_of}
use Rattle.index_store.specs.Queries.{location_model}
use Rattle.index_store.specs.Lines.{location_lines}
use Rattle.index_store.proofs.Runs.{answer, error_prefix, refused_path}
use Rattle.index_store.proofs.query_runs.write_locations_at_position.Goals as goal

pub returns-in_default-clause-run : goal.returns-in_default-clause-run
returns-in_default-clause-run g c index means =
    let at_position = rw c.in_default.is at (c.in_ok-symbol.ensures.exact index means) in
    ([], answer (style_of c.args.style) c.args.bytes.now c.args.path.now c.args.at c.args.which index None [] means at_position refl, Appends-nil _)

pub returns-in_err-write_lines-clause-run : goal.returns-in_err-write_lines-clause-run
returns-in_err-write_lines-clause-run g c index means =
    let p = err_from_is_err_and c.from_residual-in_err-write_lines.result c.from_residual-in_err-write_lines.ensures.1 in
    let at_position = rw c.in-Some.is at (c.in_ok-symbol.ensures.exact index means) in
    let locations = c.in_ok-locations.ensures.exact index means in
    rw (p.1, p.2) (error_prefix (style_of c.args.style) c.args.bytes.now c.args.path.now c.args.at c.args.which _ _ (location_lines (style_of c.args.style) (map location_model c.in_ok-locations.locations.items)) _
    (answer (style_of c.args.style) c.args.bytes.now c.args.path.now c.args.at c.args.which index (Some c.in-Some.symbol.now) _ means at_position locations) (rw c.as_slice.ensures.value at c.in_err-write_lines.ensures.writes))

pub returns-in_err-symbol-clause-run : goal.returns-in_err-symbol-clause-run
returns-in_err-symbol-clause-run g c index means =
    let p = err_from_is_err_and c.from_residual.result c.from_residual.ensures.1 in
    rw (p.1, p.2) (refused_path (style_of c.args.style) c.args.bytes.now c.args.path.now c.args.at c.args.which _ index means c.in_err-symbol.field-0.0 (c.in_err-symbol.ensures.exact index means))

pub returns-clause-run : goal.returns-clause-run
returns-clause-run g c index means =
    let at_position = rw c.in-Some.is at (c.in_ok-symbol.ensures.exact index means) in
    let locations = c.in_ok-locations.ensures.exact index means in (
      location_lines (style_of c.args.style) (map location_model c.in_ok-locations.locations.items),
      answer (style_of c.args.style) c.args.bytes.now c.args.path.now c.args.at c.args.which index (Some c.in-Some.symbol.now) _ means at_position locations,
      rw c.as_slice.ensures.value at c.in_ok-write_lines.ensures.writes,
    )
