use Rattle.std.proofs.Common.{Err, inl, map, refl}
use Rattle.std.proofs.lemmas.Result.{err_from_is_err_and}
use Rattle.ob_board.specs.Unresolved.{unresolved_model}
use Rattle.texts.specs.Places.{style_of}
use Rattle.index_run.specs.IndexRuns.{unresolved_lines, IsUnresolvedRun, IsUnresolvedText}
use Rattle.oscip_run.specs.declared.fault.RunFault.{RunFault}
use Rattle.oscip_run.proofs.CheckRuns.{refused_tree, Keeps-same}
use Rattle.index_run.proofs.IndexRuns.{error_prefix}
use Rattle.index_run.proofs.indexing.unresolved_to.Goals as goal

pub returns-in_err-rows-clause-run : goal.returns-in_err-rows-clause-run
returns-in_err-rows-clause-run g c =
    let p = err_from_is_err_and c.from_residual.result c.from_residual.ensures.1 in
    rw (p.1, p.2) (refused_tree (λ (fault : RunFault). IsUnresolvedRun (style_of c.args.style) c.args.sources.now (g.S.Sink.taken c.args.sink.now) (g.S.Sink.taken c.args.sink.now) (Err fault)) _
    (λ fault h. (h, Keeps-same _)) (inl (Keeps-same _)) _ c.in_err-rows.ensures.fault)

pub returns-in_err-write_lines-clause-run : goal.returns-in_err-write_lines-clause-run
returns-in_err-write_lines-clause-run g c =
    let p = err_from_is_err_and c.from_residual-in_err-write_lines.result c.from_residual-in_err-write_lines.ensures.1 in
    let rows = map unresolved_model c.in_ok-rows.rows.items in
    rw (p.1, p.2) (error_prefix c.args.sources.now (IsUnresolvedText (style_of c.args.style) c.args.sources.now) (unresolved_lines (style_of c.args.style) rows) (g.S.Sink.taken c.args.sink.now) (g.S.Sink.taken c.write_lines.new.sink) _
    (record { rows = rows; are_rows = c.in_ok-rows.ensures.exact; text_is = refl }) (rw c.as_slice.ensures.value at c.in_err-write_lines.ensures.writes))
