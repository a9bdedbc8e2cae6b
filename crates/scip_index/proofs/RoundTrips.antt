-- The written form of a message means the message, and has no fault, at whatever offset.
use Rattle.std.proofs.Common.{◌≡◌, ℕ, ◌^◌, ◌<◌, pos, List, [], ◌++◌, length, map, None, refl, sym, subst, arith}
use Rattle.std.specs.Option.{option_to_list}
use Rattle.proto_wire.specs.Records.{PayloadRecord}
use Rattle.proto_wire.specs.Messages.{field_values, field_fault, latest, number_in, numbers_in, numbers_fault, bytes_in, text_fault, message_fault, nested_records}
use Rattle.proto_wire.specs.Writing.{CarryAll, number_fields, text_fields, packed_fields, payload_fields}
use Rattle.proto_wire.proofs.GivenLaws.{text-given, number-given, packed-given, payloads-given}
use Rattle.proto_wire.proofs.MessageSteps.{messages-given}
use Rattle.scip_index.specs.Plain.{OccurrenceModel, SymbolModel, DocumentModel, ToolModel, MetadataModel, IndexModel}
use Rattle.scip_index.specs.Meaning.{occurrence_of, occurrence_fault, symbol_of, symbol_fault, document_of, document_fault, tool_of, tool_fault, merged, metadata_of, metadata_fault, index_of, index_fault, Means}
use Rattle.scip_index.specs.Fits.{OccurrenceFits, SymbolFits, DocumentFits, ToolFits, MetadataFits, IndexFits}
use Rattle.scip_index.specs.Written.{occurrence_fields, written_occurrence, symbol_fields, written_symbol, document_fields, written_document, tool_fields, written_tool, metadata_fields, written_metadata, index_fields, written}
use Rattle.scip_index.proofs.Picking.{row_said, hit, miss, left, right, payload_number, merged_given}
use Rattle.scip_index.proofs.OutcomeLaws.{means_from}
use Rattle.scip_index.proofs.Again.{text_number, number_number, packed_number, Passes, AreGood, both, text_good, texts_good, number_good, packed_good, messages_good, IsAgain, restores, option_restores, option_fits, short_left, short_right, each_again, again_from}

-- ---- occurrences

occurrence_range_passes : Passes occurrence_fault 1 numbers_fault
unfolding field_fault
occurrence_range_passes p e h = rw (e, h) refl

occurrence_symbol_passes : Passes occurrence_fault 2 text_fault
unfolding field_fault
occurrence_symbol_passes p e h = rw (e, h) refl

occurrence_roles_pass : (p : PayloadRecord) → p.wire.field ≡ 3 → occurrence_fault p ≡ None
unfolding field_fault
occurrence_roles_pass p e = rw e refl

occurrence_enclosing_passes : Passes occurrence_fault 7 numbers_fault
unfolding field_fault
occurrence_enclosing_passes p e h = rw (e, h) refl

occurrence_good : (o : OccurrenceModel) → OccurrenceFits o → AreGood occurrence_fault (occurrence_fields o)
occurrence_good o fits =
    let inside = occurrence_fault in
    let a = packed_fields 1 o.range in
    let b = text_fields 2 o.symbol in
    let c = number_fields 3 o.symbol_roles in
    let d = packed_fields 7 o.enclosing_range in
    both inside ((a ++ b) ++ c) d
    (both inside (a ++ b) c
    (both inside a b
    (packed_good inside 1 o.range (omega arith) (omega arith) fits.range occurrence_range_passes)
    (text_good inside 2 o.symbol (omega arith) (omega arith) fits.symbol occurrence_symbol_passes))
    (number_good inside 3 o.symbol_roles (omega arith) (omega arith) fits.symbol_roles occurrence_roles_pass))
    (packed_good inside 7 o.enclosing_range (omega arith) (omega arith) fits.enclosing_range occurrence_enclosing_passes)

occurrence_said : (o : OccurrenceModel) → OccurrenceFits o → (ps : List PayloadRecord) → CarryAll ps (occurrence_fields o) → occurrence_of ps ≡ o
occurrence_said o fits ps h =
    let a = packed_fields 1 o.range in
    let b = text_fields 2 o.symbol in
    let c = number_fields 3 o.symbol_roles in
    let d = packed_fields 7 o.enclosing_range in
    let na = packed_number 1 o.range in
    let nb = text_number 2 o.symbol in
    let nc = number_number 3 o.symbol_roles in
    let nd = packed_number 7 o.enclosing_range in
    let fs = occurrence_fields o in
    let range : field_values 1 numbers_in ps ≡ o.range =
    row_said (λ xs. xs) 1 numbers_in fs a ps o.range h
    (left 1 ((a ++ b) ++ c) d a (left 1 (a ++ b) c a (left 1 a b a (hit 1 a na) (miss 1 2 b nb refl)) (miss 1 3 c nc refl)) (miss 1 7 d nd refl))
    (λ qs k. packed-given 1 o.range qs fits.range k) in
    let symbol : latest [] (field_values 2 bytes_in ps) ≡ o.symbol =
    row_said (latest []) 2 bytes_in fs b ps o.symbol h
    (left 2 ((a ++ b) ++ c) d b (left 2 (a ++ b) c b (right 2 a b b (miss 2 1 a na refl) (hit 2 b nb)) (miss 2 3 c nc refl)) (miss 2 7 d nd refl))
    (λ qs k. text-given 2 o.symbol qs k) in
    let roles : latest (pos 0) (field_values 3 number_in ps) ≡ o.symbol_roles =
    row_said (latest (pos 0)) 3 number_in fs c ps o.symbol_roles h
    (left 3 ((a ++ b) ++ c) d c (right 3 (a ++ b) c c (left 3 a b [] (miss 3 1 a na refl) (miss 3 2 b nb refl)) (hit 3 c nc)) (miss 3 7 d nd refl))
    (λ qs k. number-given 3 o.symbol_roles qs fits.symbol_roles k) in
    let enclosing : field_values 7 numbers_in ps ≡ o.enclosing_range =
    row_said (λ xs. xs) 7 numbers_in fs d ps o.enclosing_range h
    (right 7 ((a ++ b) ++ c) d d (left 7 (a ++ b) c [] (left 7 a b [] (miss 7 1 a na refl) (miss 7 2 b nb refl)) (miss 7 3 c nc refl)) (hit 7 d nd))
    (λ qs k. packed-given 7 o.enclosing_range qs fits.enclosing_range k) in
    rw (range, symbol, roles, enclosing) refl

pub occurrence_again : (o : OccurrenceModel) → OccurrenceFits o → length (written_occurrence o) < 2 ^ 64 → IsAgain occurrence_fault occurrence_of o (written_occurrence o)
unfolding written_occurrence
occurrence_again o fits short = again_from occurrence_fault occurrence_of o (occurrence_fields o) (occurrence_good o fits) short (occurrence_said o fits)

-- ---- symbols

symbol_text_passes : Passes symbol_fault 1 text_fault
unfolding field_fault
symbol_text_passes p e h = rw (e, h) refl

symbol_name_passes : Passes symbol_fault 6 text_fault
unfolding field_fault
symbol_name_passes p e h = rw (e, h) refl

symbol_said : (s : SymbolModel) (ps : List PayloadRecord) → CarryAll ps (symbol_fields s) → symbol_of ps ≡ s
symbol_said s ps h =
    let a = text_fields 1 s.symbol in
    let b = text_fields 6 s.display_name in
    let na = text_number 1 s.symbol in
    let nb = text_number 6 s.display_name in
    let symbol : latest [] (field_values 1 bytes_in ps) ≡ s.symbol = row_said (latest []) 1 bytes_in (a ++ b) a ps s.symbol h (left 1 a b a (hit 1 a na) (miss 1 6 b nb refl)) (λ qs k. text-given 1 s.symbol qs k) in
    let name : latest [] (field_values 6 bytes_in ps) ≡ s.display_name = row_said (latest []) 6 bytes_in (a ++ b) b ps s.display_name h (right 6 a b b (miss 6 1 a na refl) (hit 6 b nb)) (λ qs k. text-given 6 s.display_name qs k) in
    rw (symbol, name) refl

pub symbol_again : (s : SymbolModel) → SymbolFits s → length (written_symbol s) < 2 ^ 64 → IsAgain symbol_fault symbol_of s (written_symbol s)
unfolding written_symbol
symbol_again s fits short =
    let inside = symbol_fault in
    again_from inside symbol_of s (symbol_fields s)
    (both inside (text_fields 1 s.symbol) (text_fields 6 s.display_name) (text_good inside 1 s.symbol (omega arith) (omega arith) fits.symbol symbol_text_passes) (text_good inside 6 s.display_name (omega arith) (omega arith) fits.display_name symbol_name_passes))
    short (symbol_said s)

-- ---- documents

document_path_passes : Passes document_fault 1 text_fault
unfolding field_fault
document_path_passes p e h = rw (e, h) refl

document_occurrences_pass : Passes document_fault 2 (message_fault occurrence_fault)
unfolding field_fault
document_occurrences_pass p e h = rw (e, h) refl

document_symbols_pass : Passes document_fault 3 (message_fault symbol_fault)
unfolding field_fault
document_symbols_pass p e h = rw (e, h) refl

document_language_passes : Passes document_fault 4 text_fault
unfolding field_fault
document_language_passes p e h = rw (e, h) refl

document_encoding_passes : (p : PayloadRecord) → p.wire.field ≡ 6 → document_fault p ≡ None
unfolding field_fault
document_encoding_passes p e = rw e refl

pub document_again : (d : DocumentModel) → DocumentFits d → length (written_document d) < 2 ^ 64 → IsAgain document_fault document_of d (written_document d)
unfolding written_document
document_again d fits short =
    let inside = document_fault in
    let a = text_fields 1 d.relative_path in
    let b = payload_fields 2 (map written_occurrence d.occurrences) in
    let c = payload_fields 3 (map written_symbol d.symbols) in
    let e = text_fields 4 d.language in
    let f = number_fields 6 d.position_encoding in
    let na = text_number 1 d.relative_path in
    let nb = payload_number 2 (map written_occurrence d.occurrences) in
    let nc = payload_number 3 (map written_symbol d.symbols) in
    let ne = text_number 4 d.language in
    let nf = number_number 6 d.position_encoding in
    let to_c = short_left ((a ++ b) ++ c) e (short_left (((a ++ b) ++ c) ++ e) f short) in
    let occurrences = each_again occurrence_fault occurrence_of written_occurrence OccurrenceFits 2 d.occurrences occurrence_again fits.occurrences (short_right a b (short_left (a ++ b) c to_c)) in
    let symbols = each_again symbol_fault symbol_of written_symbol SymbolFits 3 d.symbols symbol_again fits.symbols (short_right (a ++ b) c to_c) in
    let fs = document_fields d in
    let good : AreGood inside fs =
    both inside (((a ++ b) ++ c) ++ e) f
    (both inside ((a ++ b) ++ c) e
    (both inside (a ++ b) c
    (both inside a b
    (text_good inside 1 d.relative_path (omega arith) (omega arith) fits.relative_path document_path_passes)
    (messages_good inside occurrence_fault occurrence_of 2 written_occurrence d.occurrences (omega arith) (omega arith) occurrences document_occurrences_pass))
    (messages_good inside symbol_fault symbol_of 3 written_symbol d.symbols (omega arith) (omega arith) symbols document_symbols_pass))
    (text_good inside 4 d.language (omega arith) (omega arith) fits.language document_language_passes))
    (number_good inside 6 d.position_encoding (omega arith) (omega arith) fits.position_encoding document_encoding_passes) in
    again_from inside document_of d fs good short
    (λ ps h.
    let path : latest [] (field_values 1 bytes_in ps) ≡ d.relative_path =
    row_said (latest []) 1 bytes_in fs a ps d.relative_path h
    (left 1 (((a ++ b) ++ c) ++ e) f a (left 1 ((a ++ b) ++ c) e a (left 1 (a ++ b) c a (left 1 a b a (hit 1 a na) (miss 1 2 b nb refl)) (miss 1 3 c nc refl)) (miss 1 4 e ne refl)) (miss 1 6 f nf refl))
    (λ qs k. text-given 1 d.relative_path qs k) in
    let found : map occurrence_of (field_values 2 nested_records ps) ≡ d.occurrences =
    row_said (map occurrence_of) 2 nested_records fs b ps d.occurrences h
    (left 2 (((a ++ b) ++ c) ++ e) f b (left 2 ((a ++ b) ++ c) e b (left 2 (a ++ b) c b (right 2 a b b (miss 2 1 a na refl) (hit 2 b nb)) (miss 2 3 c nc refl)) (miss 2 4 e ne refl)) (miss 2 6 f nf refl))
    (λ qs k. messages-given 2 occurrence_of written_occurrence d.occurrences qs (restores occurrence_fault occurrence_of written_occurrence d.occurrences occurrences) k) in
    let told : map symbol_of (field_values 3 nested_records ps) ≡ d.symbols =
    row_said (map symbol_of) 3 nested_records fs c ps d.symbols h
    (left 3 (((a ++ b) ++ c) ++ e) f c (left 3 ((a ++ b) ++ c) e c (right 3 (a ++ b) c c (left 3 a b [] (miss 3 1 a na refl) (miss 3 2 b nb refl)) (hit 3 c nc)) (miss 3 4 e ne refl)) (miss 3 6 f nf refl))
    (λ qs k. messages-given 3 symbol_of written_symbol d.symbols qs (restores symbol_fault symbol_of written_symbol d.symbols symbols) k) in
    let language : latest [] (field_values 4 bytes_in ps) ≡ d.language =
    row_said (latest []) 4 bytes_in fs e ps d.language h
    (left 4 (((a ++ b) ++ c) ++ e) f e (right 4 ((a ++ b) ++ c) e e (left 4 (a ++ b) c [] (left 4 a b [] (miss 4 1 a na refl) (miss 4 2 b nb refl)) (miss 4 3 c nc refl)) (hit 4 e ne)) (miss 4 6 f nf refl))
    (λ qs k. text-given 4 d.language qs k) in
    let encoding : latest (pos 0) (field_values 6 number_in ps) ≡ d.position_encoding =
    row_said (latest (pos 0)) 6 number_in fs f ps d.position_encoding h
    (right 6 (((a ++ b) ++ c) ++ e) f f (left 6 ((a ++ b) ++ c) e [] (left 6 (a ++ b) c [] (left 6 a b [] (miss 6 1 a na refl) (miss 6 2 b nb refl)) (miss 6 3 c nc refl)) (miss 6 4 e ne refl)) (hit 6 f nf))
    (λ qs k. number-given 6 d.position_encoding qs fits.position_encoding k) in
    rw (path, found, told, language, encoding) refl)

-- ---- the tool

tool_name_passes : Passes tool_fault 1 text_fault
unfolding field_fault
tool_name_passes p e h = rw (e, h) refl

tool_version_passes : Passes tool_fault 2 text_fault
unfolding field_fault
tool_version_passes p e h = rw (e, h) refl

tool_arguments_pass : Passes tool_fault 3 text_fault
unfolding field_fault
tool_arguments_pass p e h = rw (e, h) refl

tool_said : (t : ToolModel) (ps : List PayloadRecord) → CarryAll ps (tool_fields t) → tool_of ps ≡ t
tool_said t ps h =
    let a = text_fields 1 t.name in
    let b = text_fields 2 t.version in
    let c = payload_fields 3 t.arguments in
    let na = text_number 1 t.name in
    let nb = text_number 2 t.version in
    let nc = payload_number 3 t.arguments in
    let fs = tool_fields t in
    let name : latest [] (field_values 1 bytes_in ps) ≡ t.name = row_said (latest []) 1 bytes_in fs a ps t.name h (left 1 (a ++ b) c a (left 1 a b a (hit 1 a na) (miss 1 2 b nb refl)) (miss 1 3 c nc refl)) (λ qs k. text-given 1 t.name qs k) in
    let version : latest [] (field_values 2 bytes_in ps) ≡ t.version = row_said (latest []) 2 bytes_in fs b ps t.version h (left 2 (a ++ b) c b (right 2 a b b (miss 2 1 a na refl) (hit 2 b nb)) (miss 2 3 c nc refl)) (λ qs k. text-given 2 t.version qs k) in
    let arguments : field_values 3 bytes_in ps ≡ t.arguments = row_said (λ xs. xs) 3 bytes_in fs c ps t.arguments h (right 3 (a ++ b) c c (left 3 a b [] (miss 3 1 a na refl) (miss 3 2 b nb refl)) (hit 3 c nc)) (λ qs k. payloads-given 3 t.arguments qs k) in
    rw (name, version, arguments) refl

pub tool_again : (t : ToolModel) → ToolFits t → length (written_tool t) < 2 ^ 64 → IsAgain tool_fault tool_of t (written_tool t)
unfolding written_tool
tool_again t fits short =
    let inside = tool_fault in
    let a = text_fields 1 t.name in
    let b = text_fields 2 t.version in
    again_from inside tool_of t (tool_fields t)
    (both inside (a ++ b) (payload_fields 3 t.arguments)
    (both inside a b (text_good inside 1 t.name (omega arith) (omega arith) fits.name tool_name_passes) (text_good inside 2 t.version (omega arith) (omega arith) fits.version tool_version_passes))
    (texts_good inside 3 t.arguments (omega arith) (omega arith) fits.arguments tool_arguments_pass))
    short (tool_said t)

-- ---- metadata

metadata_version_passes : (p : PayloadRecord) → p.wire.field ≡ 1 → metadata_fault p ≡ None
unfolding field_fault
metadata_version_passes p e = rw e refl

metadata_tool_passes : Passes metadata_fault 2 (message_fault tool_fault)
unfolding field_fault
metadata_tool_passes p e h = rw (e, h) refl

metadata_root_passes : Passes metadata_fault 3 text_fault
unfolding field_fault
metadata_root_passes p e h = rw (e, h) refl

metadata_encoding_passes : (p : PayloadRecord) → p.wire.field ≡ 4 → metadata_fault p ≡ None
unfolding field_fault
metadata_encoding_passes p e = rw e refl

pub metadata_again : (m : MetadataModel) → MetadataFits m → length (written_metadata m) < 2 ^ 64 → IsAgain metadata_fault metadata_of m (written_metadata m)
unfolding written_metadata
metadata_again m fits short =
    let inside = metadata_fault in
    let tools = option_to_list m.tool_info in
    let a = number_fields 1 m.version in
    let b = payload_fields 2 (map written_tool tools) in
    let c = text_fields 3 m.project_root in
    let d = number_fields 4 m.text_document_encoding in
    let na = number_number 1 m.version in
    let nb = payload_number 2 (map written_tool tools) in
    let nc = text_number 3 m.project_root in
    let nd = number_number 4 m.text_document_encoding in
    let fs = metadata_fields m in
    let again = each_again tool_fault tool_of written_tool ToolFits 2 tools tool_again (option_fits ToolFits m.tool_info fits.tool_info) (short_right a b (short_left (a ++ b) c (short_left ((a ++ b) ++ c) d short))) in
    let good : AreGood inside fs =
    both inside ((a ++ b) ++ c) d
    (both inside (a ++ b) c
    (both inside a b
    (number_good inside 1 m.version (omega arith) (omega arith) fits.version metadata_version_passes)
    (messages_good inside tool_fault tool_of 2 written_tool tools (omega arith) (omega arith) again metadata_tool_passes))
    (text_good inside 3 m.project_root (omega arith) (omega arith) fits.project_root metadata_root_passes))
    (number_good inside 4 m.text_document_encoding (omega arith) (omega arith) fits.text_document_encoding metadata_encoding_passes) in
    again_from inside metadata_of m fs good short
    (λ ps h.
    let version : latest (pos 0) (field_values 1 number_in ps) ≡ m.version =
    row_said (latest (pos 0)) 1 number_in fs a ps m.version h
    (left 1 ((a ++ b) ++ c) d a (left 1 (a ++ b) c a (left 1 a b a (hit 1 a na) (miss 1 2 b nb refl)) (miss 1 3 c nc refl)) (miss 1 4 d nd refl))
    (λ qs k. number-given 1 m.version qs fits.version k) in
    let tool : merged tool_of (field_values 2 nested_records ps) ≡ m.tool_info =
    row_said (merged tool_of) 2 nested_records fs b ps m.tool_info h
    (left 2 ((a ++ b) ++ c) d b (left 2 (a ++ b) c b (right 2 a b b (miss 2 1 a na refl) (hit 2 b nb)) (miss 2 3 c nc refl)) (miss 2 4 d nd refl))
    (λ qs k. merged_given 2 tool_of written_tool m.tool_info qs (option_restores tool_fault tool_of written_tool m.tool_info again) k) in
    let root : latest [] (field_values 3 bytes_in ps) ≡ m.project_root =
    row_said (latest []) 3 bytes_in fs c ps m.project_root h
    (left 3 ((a ++ b) ++ c) d c (right 3 (a ++ b) c c (left 3 a b [] (miss 3 1 a na refl) (miss 3 2 b nb refl)) (hit 3 c nc)) (miss 3 4 d nd refl))
    (λ qs k. text-given 3 m.project_root qs k) in
    let encoding : latest (pos 0) (field_values 4 number_in ps) ≡ m.text_document_encoding =
    row_said (latest (pos 0)) 4 number_in fs d ps m.text_document_encoding h
    (right 4 ((a ++ b) ++ c) d d (left 4 (a ++ b) c [] (left 4 a b [] (miss 4 1 a na refl) (miss 4 2 b nb refl)) (miss 4 3 c nc refl)) (hit 4 d nd))
    (λ qs k. number-given 4 m.text_document_encoding qs fits.text_document_encoding k) in
    rw (version, tool, root, encoding) refl)

-- ---- the index

index_metadata_passes : Passes index_fault 1 (message_fault metadata_fault)
unfolding field_fault
index_metadata_passes p e h = rw (e, h) refl

index_documents_pass : Passes index_fault 2 (message_fault document_fault)
unfolding field_fault
index_documents_pass p e h = rw (e, h) refl

index_symbols_pass : Passes index_fault 3 (message_fault symbol_fault)
unfolding field_fault
index_symbols_pass p e h = rw (e, h) refl

pub index_again : (i : IndexModel) → IndexFits i → length (written i) < 2 ^ 64 → IsAgain index_fault index_of i (written i)
unfolding written
index_again i fits short =
    let inside = index_fault in
    let metadata = option_to_list i.metadata in
    let a = payload_fields 1 (map written_metadata metadata) in
    let b = payload_fields 2 (map written_document i.documents) in
    let c = payload_fields 3 (map written_symbol i.external_symbols) in
    let na = payload_number 1 (map written_metadata metadata) in
    let nb = payload_number 2 (map written_document i.documents) in
    let nc = payload_number 3 (map written_symbol i.external_symbols) in
    let fs = index_fields i in
    let to_b = short_left (a ++ b) c short in
    let first = each_again metadata_fault metadata_of written_metadata MetadataFits 1 metadata metadata_again (option_fits MetadataFits i.metadata fits.metadata) (short_left a b to_b) in
    let documents = each_again document_fault document_of written_document DocumentFits 2 i.documents document_again fits.documents (short_right a b to_b) in
    let symbols = each_again symbol_fault symbol_of written_symbol SymbolFits 3 i.external_symbols symbol_again fits.external_symbols (short_right (a ++ b) c short) in
    let good : AreGood inside fs =
    both inside (a ++ b) c
    (both inside a b
    (messages_good inside metadata_fault metadata_of 1 written_metadata metadata (omega arith) (omega arith) first index_metadata_passes)
    (messages_good inside document_fault document_of 2 written_document i.documents (omega arith) (omega arith) documents index_documents_pass))
    (messages_good inside symbol_fault symbol_of 3 written_symbol i.external_symbols (omega arith) (omega arith) symbols index_symbols_pass) in
    again_from inside index_of i fs good short
    (λ ps h.
    let one : merged metadata_of (field_values 1 nested_records ps) ≡ i.metadata =
    row_said (merged metadata_of) 1 nested_records fs a ps i.metadata h
    (left 1 (a ++ b) c a (left 1 a b a (hit 1 a na) (miss 1 2 b nb refl)) (miss 1 3 c nc refl))
    (λ qs k. merged_given 1 metadata_of written_metadata i.metadata qs (option_restores metadata_fault metadata_of written_metadata i.metadata first) k) in
    let two : map document_of (field_values 2 nested_records ps) ≡ i.documents =
    row_said (map document_of) 2 nested_records fs b ps i.documents h
    (left 2 (a ++ b) c b (right 2 a b b (miss 2 1 a na refl) (hit 2 b nb)) (miss 2 3 c nc refl))
    (λ qs k. messages-given 2 document_of written_document i.documents qs (restores document_fault document_of written_document i.documents documents) k) in
    let three : map symbol_of (field_values 3 nested_records ps) ≡ i.external_symbols =
    row_said (map symbol_of) 3 nested_records fs c ps i.external_symbols h
    (right 3 (a ++ b) c c (left 3 a b [] (miss 3 1 a na refl) (miss 3 2 b nb refl)) (hit 3 c nc))
    (λ qs k. messages-given 3 symbol_of written_symbol i.external_symbols qs (restores symbol_fault symbol_of written_symbol i.external_symbols symbols) k) in
    rw (one, two, three) refl)

-- the written form of an index encodes the index
pub means_it : (i : IndexModel) (bytes : List ℕ) → IndexFits i → bytes ≡ written i → length bytes < 2 ^ 64 → Means bytes i
means_it i bytes fits e short =
    let again = index_again i fits (subst (λ (bs : List ℕ). length bs < 2 ^ 64) e short) 0 in
    subst (λ (bs : List ℕ). Means bs i) (sym e) (means_from (written i) i again.0 (sym again.1))
