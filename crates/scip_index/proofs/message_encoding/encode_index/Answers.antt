use Rattle.std.proofs.Common.{append_assoc}
use Rattle.std.proofs.lemmas.List.Concat.{flat_map-append}
use Rattle.scip_index.specs.Plain.{document_model, metadata_model, symbol_model}
use Rattle.scip_index.specs.Fits.{DocumentFits, MetadataFits, SymbolFits}
use Rattle.scip_index.specs.Written.{written_document, written_metadata, written_symbol, written}
use Rattle.scip_index.proofs.WritingSteps.{all-map, map-after, option-after, some-map}
use Rattle.scip_index.proofs.message_encoding.encode_index.Goals as goal

pub returns-clause-bytes : goal.returns-clause-bytes
unfolding written
returns-clause-bytes c =
    let i = c.args.index.now in
    rw (
      c.in_ok-append_messages-2.ensures.bytes,
      c.in_ok-append_messages.ensures.bytes,
      c.in_ok-append_optional_message.ensures.bytes,
      c.new-out.ensures.items,
      c.deref.ensures.value,
      c.deref-2.ensures.value,
      option-after metadata_model written_metadata i.metadata,
      map-after document_model written_document i.documents.items,
      map-after symbol_model written_symbol i.external_symbols.items,
    )
    (simp (flat_map-append, append_assoc))

pub returns-clause-fits : goal.returns-clause-fits
returns-clause-fits c =
    let i = c.args.index.now in
    record {
      metadata = some-map MetadataFits metadata_model i.metadata c.in_ok-append_optional_message.ensures.fits;
      documents = all-map DocumentFits document_model i.documents.items (rw (← c.deref.ensures.value) c.in_ok-append_messages.ensures.fits);
      external_symbols = all-map SymbolFits symbol_model i.external_symbols.items (rw (← c.deref-2.ensures.value) c.in_ok-append_messages-2.ensures.fits);
    }
