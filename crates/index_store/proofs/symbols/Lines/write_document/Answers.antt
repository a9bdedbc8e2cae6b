use Rattle.std.proofs.Common.{◌≡◌, sym, ◌∙◌}
use Rattle.proto_wire.specs.MessageBytes.{records_of}
use Rattle.scip_index.specs.Meaning.{document_of}
use Rattle.texts.specs.Places.{writer_style}
use Rattle.byte_sink.proofs.Joining.{broken_as}
use Rattle.index_store.proofs.SymbolLaws.{lines_asked}
use Rattle.index_store.proofs.symbols.Lines.write_document.Goals as goal

pub returns-clause-error_prefix : goal.returns-clause-error_prefix
returns-clause-error_prefix g c =
    let d = document_of (records_of c.args.document) in
    let here : d.relative_path ≡ c.in-Ok.path.now = rw c.in-Ok.ensures.cases.0 (sym c.last_bytes-path.ensures) in
    broken_as _ _ _ _ _ _ (lines_asked (writer_style c.args.self.now.locations) (λ p. p.now) c.args.requested c.in-Ok.path.now d here (rw c.in-Ok.ensures.cases.0 (sym c.is_requested.ensures ∙ c.if-not-is_requested.false))) (rw c.is_some.ensures at c.write_document_lines.ensures.error_prefix)
