use Rattle.std.proofs.Common.{◌≡◌, ◌++◌, [], None, Some, map, ap, ◌∙◌, append_assoc}
use Rattle.std.proofs.KnownBytes.{Appends-nil, Appends-trans}
use Rattle.std.proofs.lemmas.Result.{err_from_is_err_and}
use Rattle.scip_index.specs.Plain.{index_model, metadata_model, symbol_model}
use Rattle.scip_index.specs.Written.{externals_part, metadata_part, written}
use Rattle.scip_index.specs.Writers.{WriterState}
use Rattle.index_run.proofs.InRow.{front_then, puts_then}
use Rattle.index_run.proofs.Documents.{index_parts, parts}
use Rattle.index_run.proofs.writing.write_parts.Goals as goal

pub returns-in_err-metadata-in-Some-clause-writes : goal.returns-in_err-metadata-in-Some-clause-writes
returns-in_err-metadata-in-Some-clause-writes g c =
    let p = err_from_is_err_and c.from_residual.result c.from_residual.ensures.1 in
    let head = metadata_part (Some (metadata_model c.in-Some.metadata)) in
    let documents = parts c.args.index.documents.items in
    let externals = externals_part (map symbol_model c.args.index.external_symbols.items) in
    let well : c.new-writer.result.error ≡ None = ap (λ (w : WriterState). w.error) c.new-writer.ensures in
    rw p.1 (front_then (g.S.Sink.taken c.args.sink.now) (g.S.Sink.taken c.args.sink.now) (g.S.Sink.taken c.metadata.new.sink) (written (index_model c.args.index)) [] head (documents ++ externals)
    (index_parts c.written_form_is_concatenation.ensures c.args.index c.in-Some.metadata c.in-Some.is ∙ append_assoc head documents externals) (Appends-nil (g.S.Sink.taken c.args.sink.now)) (rw well at c.in_err-metadata-in-Some.ensures.writes))

pub returns-in_err-write_documents-clause-writes : goal.returns-in_err-write_documents-clause-writes
returns-in_err-write_documents-clause-writes g c =
    let p = err_from_is_err_and c.from_residual-in_err-write_documents.result c.from_residual-in_err-write_documents.ensures.1 in
    let head = metadata_part (Some (metadata_model c.in-Some.metadata)) in
    let documents = parts c.args.index.documents.items in
    let externals = externals_part (map symbol_model c.args.index.external_symbols.items) in
    let well : c.new-writer.result.error ≡ None = ap (λ (w : WriterState). w.error) c.new-writer.ensures in
    rw p.1 (front_then (g.S.Sink.taken c.args.sink.now) (g.S.Sink.taken c.metadata.new.sink) (g.S.Sink.taken c.write_documents.new.sink) (written (index_model c.args.index)) head documents externals
    (index_parts c.written_form_is_concatenation.ensures c.args.index c.in-Some.metadata c.in-Some.is ∙ append_assoc head documents externals) (rw well at c.in_ok-metadata-in-Some.ensures.writes) c.in_err-write_documents.ensures.writes)

pub returns-clause-writes : goal.returns-clause-writes
returns-clause-writes g c =
    let head = metadata_part (Some (metadata_model c.in-Some.metadata)) in
    let documents = parts c.args.index.documents.items in
    let externals = externals_part (map symbol_model c.args.index.external_symbols.items) in
    let well : c.new-writer.result.error ≡ None = ap (λ (w : WriterState). w.error) c.new-writer.ensures in
    let last = rw (c.in_ok-write_documents.ensures.well, c.as_slice.ensures.value) at c.end.ensures.writes in
    puts_then (g.S.Sink.taken c.args.sink.now) (g.S.Sink.taken c.write_documents.new.sink) (g.S.Sink.taken c.end.new.sink) (written (index_model c.args.index)) (head ++ documents) externals c.end.result
    (index_parts c.written_form_is_concatenation.ensures c.args.index c.in-Some.metadata c.in-Some.is)
    (Appends-trans (g.S.Sink.taken c.args.sink.now) (g.S.Sink.taken c.metadata.new.sink) (g.S.Sink.taken c.write_documents.new.sink) head documents (rw well at c.in_ok-metadata-in-Some.ensures.writes) c.in_ok-write_documents.ensures.writes)
    last
