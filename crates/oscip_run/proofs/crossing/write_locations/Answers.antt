use Rattle.std.proofs.Common.{List, map, ap, subst, ◌∙◌}
use Rattle.std.proofs.lemmas.Result.{err_from_is_err_and}
use Rattle.byte_sink.specs.Sinks.{AppendsPrefix}
use Rattle.texts.specs.Places.{style_of}
use Rattle.index_store.specs.Queries.{location_model, LocationModel}
use Rattle.index_store.specs.Lines.{location_lines}
use Rattle.oscip_run.specs.CrossingRuns.{location_in_file}
use Rattle.oscip_run.proofs.CrossingRuns.{error_prefix, uses_text}
use Rattle.oscip_run.proofs.crossing.write_locations.Goals as goal

pub returns-in_err-write_lines-clause-run : goal.returns-in_err-write_lines-clause-run
returns-in_err-write_lines-clause-run g c = λ sources m n uses.
    let p = err_from_is_err_and c.from_residual-in_err-write_lines.result c.from_residual-in_err-write_lines.ensures.1 in
    let front = subst (λ (places : List LocationModel). AppendsPrefix (g.S.Sink.taken c.args.sink.now) (g.S.Sink.taken c.write_lines.new.sink) (location_lines (style_of c.args.style) places))
    (ap (map location_model) c.as_slice.ensures.value ∙ c.in_ok-places.ensures) c.in_err-write_lines.ensures.writes in
    rw (p.1, p.2) (error_prefix (style_of c.args.style) sources m n (location_lines (style_of c.args.style) (map (location_in_file c.args.path.now) c.args.spans.now)) _ _ _ (uses_text (style_of c.args.style) sources m n c.args.path.now c.args.spans.now uses) front)
