use Rattle.std.proofs.Common.{◌≡◌, ◌++◌, [], ℕ, List, map, Option, Some, Ok, refl, sym, ap, ◌∙◌}
use Rattle.std.proofs.lemmas.Result.{err_from_is_err_and}
use Rattle.proto_wire.specs.declared.fault.WireFault.{WireFault}
use Rattle.proto_wire.specs.Faults.{IsFaultOrMemory, UnlessMemory}
use Rattle.proto_wire.specs.Records.{PayloadRecord, IsFirst}
use Rattle.proto_wire.specs.Messages.{payload_record, field_values, if_field, field_fault, message_fault, nested_records, in_record, of_record, IsNextFault}
use Rattle.proto_wire.proofs.FaultLaws.{UnlessMemory-from, UnlessMemory-then}
use Rattle.proto_wire.proofs.MessageSteps.{field_values-push}
use Rattle.proto_wire.proofs.RowLaws.{IsSplit-step, IsSplit-fault}
use Rattle.proto_wire.proofs.MessageLaws.{IsClean-push}
use Rattle.scip_index.specs.Plain.{document_model, metadata_model, symbol_model, MetadataModel, SymbolModel}
use Rattle.scip_index.specs.Meaning.{metadata_of, metadata_fault, document_of, document_fault, symbol_of, symbol_fault, merged, index_fault}
use Rattle.scip_index.specs.Streaming.{IsReaderAt, documents_in}
use Rattle.scip_index.proofs.MeaningLaws.{AddsMessages-map, IsMerged-from, IsMerged-to, mapped-push}
use Rattle.scip_index.proofs.StreamingLaws.{at_most_one}
use Rattle.scip_index.proofs.reader.decode_first_record.Goals as goal

-- a fault inside the record that was read is the fault of the index
stops_inside : (fault : WireFault) (bytes : List ℕ) (front : List PayloadRecord) (at : ℕ) (rest : List ℕ) (metadata : Option MetadataModel) (externals : List SymbolModel) (p : PayloadRecord) (after : List ℕ) (inner : Option WireFault)
    → IsReaderAt bytes front at rest metadata externals → IsFirst at rest (Ok (p, after)) → IsFaultOrMemory fault inner → (inner ≡ Some fault → index_fault p ≡ Some fault) → UnlessMemory fault (IsNextFault index_fault 0 bytes front fault)
stops_inside fault bytes front at rest metadata externals p after inner s read h go =
    UnlessMemory-then fault h
    (λ e. in_record p _ after (IsSplit-step 0 bytes front at rest p after s.reached read) (go e))

pub returns-in_err-wire-clause-err : goal.returns-in_err-wire-clause-err
returns-in_err-wire-clause-err c =
    let q = err_from_is_err_and c.from_residual.result c.from_residual.ensures.1 in
    let fault = c.in_err-wire.field-0.0 in
    rw (q.1, q.2)
    (λ bytes front s. UnlessMemory-from fault (of_record (IsSplit-fault 0 bytes front c.args.at c.args.rest.now fault s.reached c.requires.some c.in_err-wire.ensures.exact)))

pub returns-in_err-merge_message-clause-err : goal.returns-in_err-merge_message-clause-err
returns-in_err-merge_message-clause-err c =
    let q = err_from_is_err_and c.from_residual-in_err-merge_message.result c.from_residual-in_err-merge_message.ensures.1 in
    let here = c.in_ok-wire in
    let p = payload_record here.wire here.payload.now in
    rw (q.1, q.2)
    (λ bytes front s. stops_inside c.in_err-merge_message.field-0.0 bytes front c.args.at c.args.rest.now _ _ p here.after.now (field_fault 1 p.wire (message_fault metadata_fault p)) s here.ensures.exact c.in_err-merge_message.ensures.err
    (λ e. rw e refl))

pub returns-in_err-decode_messages-clause-err : goal.returns-in_err-decode_messages-clause-err
returns-in_err-decode_messages-clause-err c =
    let q = err_from_is_err_and c.from_residual-in_err-decode_messages.result c.from_residual-in_err-decode_messages.ensures.1 in
    let here = c.in_ok-wire in
    let p = payload_record here.wire here.payload.now in
    rw (q.1, q.2)
    (λ bytes front s. stops_inside c.in_err-decode_messages.field-0.0 bytes front c.args.at c.args.rest.now _ _ p here.after.now (field_fault 2 p.wire (message_fault document_fault p)) s here.ensures.exact c.in_err-decode_messages.ensures.err
    (λ e. rw (c.in_ok-merge_message.ensures.clean, e) refl))

pub returns-in_err-decode_messages-2-clause-err : goal.returns-in_err-decode_messages-2-clause-err
returns-in_err-decode_messages-2-clause-err c =
    let q = err_from_is_err_and c.from_residual-in_err-decode_messages-2.result c.from_residual-in_err-decode_messages-2.ensures.1 in
    let here = c.in_ok-wire in
    let p = payload_record here.wire here.payload.now in
    rw (q.1, q.2)
    (λ bytes front s. stops_inside c.in_err-decode_messages-2.field-0.0 bytes front c.args.at c.args.rest.now _ _ p here.after.now (field_fault 3 p.wire (message_fault symbol_fault p)) s here.ensures.exact c.in_err-decode_messages-2.ensures.err
    (λ e. rw (c.in_ok-merge_message.ensures.clean, c.in_ok-decode_messages.ensures.clean, e) refl))

pub returns-clause-taken : goal.returns-clause-taken
returns-clause-taken c = λ bytes front s.
    let here = c.in_ok-wire in
    let p = payload_record here.wire here.payload.now in
    let given = field_values 1 nested_records front in
    let before = IsMerged-to metadata_model metadata_of c.args.metadata.now given s.metadata_is in
    let after = IsMerged-from metadata_model metadata_of c.merge_message.new.message (given ++ if_field 1 p.wire (nested_records p)) (c.in_ok-merge_message.ensures.means given before) in
    let documents = AddsMessages-map document_model document_of (if_field 2 p.wire (nested_records p)) [] c.decode_messages.new.messages.items (rw c.new-documents.ensures.items at c.in_ok-decode_messages.ensures.means) in
    let symbols = AddsMessages-map symbol_model symbol_of (if_field 3 p.wire (nested_records p)) c.args.externals.now.items c.decode_messages-2.new.messages.items c.in_ok-decode_messages-2.ensures.means in (
      p,
      record {
        reached = IsSplit-step 0 bytes front c.args.at c.args.rest.now p here.after.now s.reached here.ensures.exact;
        clean = IsClean-push index_fault front p s.clean (rw (c.in_ok-merge_message.ensures.clean, c.in_ok-decode_messages.ensures.clean, c.in_ok-decode_messages-2.ensures.clean) refl);
        metadata_is = after ∙ ap (merged metadata_of) (sym (field_values-push 1 nested_records front p));
        externals_are = symbols ∙ ap (λ xs. xs ++ map symbol_of (if_field 3 p.wire (nested_records p))) s.externals_are ∙ sym (mapped-push 3 symbol_of front p);
      },
      mapped-push 2 document_of front p ∙ ap (λ xs. documents_in front ++ xs) (sym documents ∙ ap (map document_model) c.only_document.ensures),
    )

pub only_document-requires : goal.only_document-requires
only_document-requires c =
    let here = c.in_ok-wire in
    let p = payload_record here.wire here.payload.now in
    at_most_one 2 p c.decode_messages.new.messages.items (rw c.new-documents.ensures.items at c.in_ok-decode_messages.ensures.means)
