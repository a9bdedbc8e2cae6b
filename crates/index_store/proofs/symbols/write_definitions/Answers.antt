use Rattle.std.proofs.lemmas.Result.{err_from_is_err_and}
use Rattle.std.specs.Prelude.{option_copied}
use Rattle.texts.specs.Places.{style_of}
use Rattle.byte_sink.proofs.Joining.{puts_then}
use Rattle.index_store.proofs.SymbolLaws.{listed_there, texts_there}
use Rattle.index_store.proofs.symbols.write_definitions.Goals as goal

pub write_documents-requires-clause-text : goal.write_documents-requires-clause-text
write_documents-requires-clause-text g c = texts_there c.args.bytes.now c.requires.means.0 c.requires.means.1

pub returns-in_err-write_documents-clause-writes : goal.returns-in_err-write_documents-clause-writes
returns-in_err-write_documents-clause-writes g c index means =
    let p = err_from_is_err_and c.from_residual.result c.from_residual.ensures.1 in
    rw p.1 (rw (c.new-lines.ensures.text, c.new-lines.ensures.style, listed_there (style_of c.args.style) (option_copied c.args.requested) c.args.bytes.now index means) at c.in_err-write_documents.ensures.error_prefix)

pub returns-clause-writes : goal.returns-clause-writes
returns-clause-writes g c index means =
    puts_then _ _ _ _ _ _ (rw (c.new-lines.ensures.text, c.new-lines.ensures.style, listed_there (style_of c.args.style) (option_copied c.args.requested) c.args.bytes.now index means) at c.in_ok-write_documents.ensures.gathered) (rw c.as_bytes.ensures.value at c.write_fully.ensures.writes)
