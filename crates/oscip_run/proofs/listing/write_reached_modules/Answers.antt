use Rattle.std.proofs.Common.{◌∙◌, ◌<◌, ℕ, List, length, map, sym, ap, subst}
use Rattle.std.specs.Prelude.{All}
use Rattle.std.specs.Io.KnownBytes.{Appends}
use Rattle.std.proofs.lemmas.Result.{err_from_is_err_and}
use Rattle.byte_sink.specs.Sinks.{AppendsPrefix}
use Rattle.oscip_run.specs.ModuleRuns.{entry_lines, entry_of, ModuleEntry}
use Rattle.oscip_run.specs.ReachRuns.{named_entry, IsReachRejected, IsReachText}
use Rattle.oscip_run.specs.Runs.{IsNeverRejected, IsThis}
use Rattle.texts.specs.Places.{plain_style}
use Rattle.oscip_run.proofs.ImportRuns.{error_prefix}
use Rattle.oscip_run.proofs.ModuleLists.{reach_text, unknown_name}
use Rattle.oscip_run.proofs.listing.write_reached_modules.Goals as goal

pub returns-in_err-start-clause-run : goal.returns-in_err-start-clause-run
returns-in_err-start-clause-run g c =
    let p = err_from_is_err_and c.from_residual.result c.from_residual.ensures.1 in
    rw (p.1, p.2) (unknown_name c.args.name.now c.args.direction _ c.args.net.now _ c.in_err-start.ensures)

pub modules_without_paths-requires : goal.modules_without_paths-requires
modules_without_paths-requires g c = subst (λ (ms : List ℕ). All (λ m. m < length c.args.net.now.names) ms) (sym c.as_slice.ensures.value) c.in_ok-reached.ensures.within

pub returns-in_err-write_lines-clause-run : goal.returns-in_err-write_lines-clause-run
returns-in_err-write_lines-clause-run g c =
    let p = err_from_is_err_and c.from_residual-in_err-write_lines.result c.from_residual-in_err-write_lines.ensures.1 in
    let net = c.args.net.now in
    let entries = ap (map entry_of) c.as_slice-2.ensures.value ∙ c.in_ok-listed.ensures ∙ ap (map (named_entry net)) c.as_slice.ensures.value in
    let text = reach_text c.args.name.now c.args.direction net c.in_ok-start.start c.in_ok-reached.reached.items c.in_ok-start.ensures c.in_ok-reached.ensures.ascending c.in_ok-reached.ensures.exact in
    let front = subst (λ (es : List ModuleEntry). AppendsPrefix (g.S.Sink.taken c.args.sink.now) (g.S.Sink.taken c.write_lines.new.sink) (entry_lines plain_style es)) entries c.in_err-write_lines.ensures.writes in
    rw (p.1, p.2) (error_prefix (IsReachText (IsThis net) c.args.name.now c.args.direction) (IsReachRejected (IsThis net) IsNeverRejected c.args.name.now) _ _ _ _ text front)

pub returns-clause-run : goal.returns-clause-run
returns-clause-run g c =
    let net = c.args.net.now in
    let entries = ap (map entry_of) c.as_slice-2.ensures.value ∙ c.in_ok-listed.ensures ∙ ap (map (named_entry net)) c.as_slice.ensures.value in (
      entry_lines plain_style (map (named_entry net) c.in_ok-reached.reached.items),
      reach_text c.args.name.now c.args.direction net c.in_ok-start.start c.in_ok-reached.reached.items c.in_ok-start.ensures c.in_ok-reached.ensures.ascending c.in_ok-reached.ensures.exact,
      subst (λ (es : List ModuleEntry). Appends (g.S.Sink.taken c.args.sink.now) (g.S.Sink.taken c.write_lines.new.sink) (entry_lines plain_style es)) entries c.in_ok-write_lines.ensures.writes,
    )
