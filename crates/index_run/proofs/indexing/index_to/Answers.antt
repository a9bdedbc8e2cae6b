use Rattle.std.proofs.Common.{Err, inl}
use Rattle.std.proofs.lemmas.Result.{err_from_is_err_and}
use Rattle.std.specs.String.{string_bytes}
use Rattle.index_run.specs.IndexRuns.{IsIndexRun, IsIndexText}
use Rattle.oscip_run.specs.declared.fault.RunFault.{RunFault}
use Rattle.oscip_run.proofs.CheckRuns.{refused_tree, Keeps-same}
use Rattle.index_run.proofs.IndexRuns.{error_prefix, index_text, parts_text}
use Rattle.index_run.proofs.indexing.index_to.Goals as goal

pub returns-in_err-parts-clause-run : goal.returns-in_err-parts-clause-run
returns-in_err-parts-clause-run g c =
    let p = err_from_is_err_and c.from_residual.result c.from_residual.ensures.1 in
    rw (p.1, p.2) (refused_tree (λ (fault : RunFault). IsIndexRun c.args.sources.now (string_bytes c.args.options.now.package) (string_bytes c.args.options.now.root) (g.S.Sink.taken c.args.sink.now) (g.S.Sink.taken c.args.sink.now) (Err fault)) _
    (λ fault h. (h, Keeps-same _)) (inl (Keeps-same _)) _ c.in_err-parts.ensures.fault)

pub returns-in_err-write_encoded_index-clause-run : goal.returns-in_err-write_encoded_index-clause-run
returns-in_err-write_encoded_index-clause-run g c =
    let p = err_from_is_err_and c.from_residual-in_err-write_encoded_index.result c.from_residual-in_err-write_encoded_index.ensures.1 in
    let package_name = string_bytes c.args.options.now.package in
    let root = string_bytes c.args.options.now.root in
    let parts = c.in_ok-parts.parts in
    rw (p.1, p.2) (error_prefix c.args.sources.now (IsIndexText c.args.sources.now package_name root) (parts_text parts) (g.S.Sink.taken c.args.sink.now) (g.S.Sink.taken c.write_encoded_index.new.sink) _
    (index_text c.written_form_is_concatenation.ensures c.args.sources.now package_name root parts c.in_ok-parts.ensures.exact) (rw c.as_slice.ensures.value at c.in_err-write_encoded_index.ensures.writes))

pub returns-clause-run : goal.returns-clause-run
returns-clause-run g c =
    let parts = c.in_ok-parts.parts in (
      parts_text parts,
      index_text c.written_form_is_concatenation.ensures c.args.sources.now (string_bytes c.args.options.now.package) (string_bytes c.args.options.now.root) parts c.in_ok-parts.ensures.exact,
      rw c.as_slice.ensures.value at c.in_ok-write_encoded_index.ensures.writes,
    )
