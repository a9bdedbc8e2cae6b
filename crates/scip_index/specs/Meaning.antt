-- The message that records encode, in any order: all values of a repeated field, the last value of a singular field, and the merge of a
-- singular message.
use Rattle.std.specs.Prelude.{◌≡◌, ℕ, pos, List, [], ◌∷◌, map, Option, Some, None, Result, Ok, Err}
use Rattle.std.specs.List.{flat_map}
use Rattle.proto_wire.specs.declared.fault.WireFault.{WireFault}
use Rattle.proto_wire.specs.Records.{PayloadRecord, AreRecords}
use Rattle.proto_wire.specs.Messages.{field_values, field_fault, first_of, latest, number_in, numbers_in, numbers_fault, bytes_in, text_fault, nested_records, message_fault, IsClean, IsFirstFault}
use Rattle.scip_index.specs.Plain.{OccurrenceModel, SymbolModel, DocumentModel, ToolModel, MetadataModel, IndexModel}

-- an occurrence by its records: all numbers of fields 1 and 7, the last string of field 2, and the last number of field 3
abbrev pub occurrence_of : List PayloadRecord → OccurrenceModel
occurrence_of pieces = record {
  range = field_values 1 numbers_in pieces;
  symbol = latest [] (field_values 2 bytes_in pieces);
  symbol_roles = latest (pos 0) (field_values 3 number_in pieces);
  enclosing_range = field_values 7 numbers_in pieces;
}

-- the first fault inside one record of an occurrence
abbrev pub occurrence_fault : PayloadRecord → Option WireFault
occurrence_fault p = first_of (field_fault 1 p.wire (numbers_fault p)) (first_of (field_fault 2 p.wire (text_fault p)) (field_fault 7 p.wire (numbers_fault p)))

-- symbol information by its records: the last strings of fields 1 and 6
abbrev pub symbol_of : List PayloadRecord → SymbolModel
symbol_of pieces = record {
  symbol = latest [] (field_values 1 bytes_in pieces);
  display_name = latest [] (field_values 6 bytes_in pieces);
}

-- the first fault inside one record of symbol information
abbrev pub symbol_fault : PayloadRecord → Option WireFault
symbol_fault p = first_of (field_fault 1 p.wire (text_fault p)) (field_fault 6 p.wire (text_fault p))

-- a document by its records: the last strings of fields 1 and 4, all messages of fields 2 and 3, and the last number of field 6
abbrev pub document_of : List PayloadRecord → DocumentModel
document_of pieces = record {
  relative_path = latest [] (field_values 1 bytes_in pieces);
  occurrences = map occurrence_of (field_values 2 nested_records pieces);
  symbols = map symbol_of (field_values 3 nested_records pieces);
  language = latest [] (field_values 4 bytes_in pieces);
  position_encoding = latest (pos 0) (field_values 6 number_in pieces);
}

-- the first fault inside one record of a document
abbrev pub document_fault : PayloadRecord → Option WireFault
document_fault p =
    first_of (field_fault 1 p.wire (text_fault p)) (first_of (field_fault 2 p.wire (message_fault occurrence_fault p))
    (first_of (field_fault 3 p.wire (message_fault symbol_fault p)) (field_fault 4 p.wire (text_fault p))))

-- a tool by its records: the last strings of fields 1 and 2, and all strings of field 3
abbrev pub tool_of : List PayloadRecord → ToolModel
tool_of pieces = record {
  name = latest [] (field_values 1 bytes_in pieces);
  version = latest [] (field_values 2 bytes_in pieces);
  arguments = field_values 3 bytes_in pieces;
}

-- the first fault inside one record of a tool
abbrev pub tool_fault : PayloadRecord → Option WireFault
tool_fault p = first_of (field_fault 1 p.wire (text_fault p)) (first_of (field_fault 2 p.wire (text_fault p)) (field_fault 3 p.wire (text_fault p)))

-- the message that all records of a singular message encode together; None if there is no record
abbrev pub merged : {V : Type 0} → (List PayloadRecord → V) → List (List PayloadRecord) → Option V
merged of [] = None
merged of (pieces ∷ others) = Some (of (flat_map (λ x. x) (pieces ∷ others)))

-- metadata by their records: the last numbers of fields 1 and 4, the merged message of field 2, and the last string of field 3
abbrev pub metadata_of : List PayloadRecord → MetadataModel
metadata_of pieces = record {
  version = latest (pos 0) (field_values 1 number_in pieces);
  tool_info = merged tool_of (field_values 2 nested_records pieces);
  project_root = latest [] (field_values 3 bytes_in pieces);
  text_document_encoding = latest (pos 0) (field_values 4 number_in pieces);
}

-- the first fault inside one record of metadata
abbrev pub metadata_fault : PayloadRecord → Option WireFault
metadata_fault p = first_of (field_fault 2 p.wire (message_fault tool_fault p)) (field_fault 3 p.wire (text_fault p))

-- an index by its records: the merged message of field 1, and all messages of fields 2 and 3
abbrev pub index_of : List PayloadRecord → IndexModel
index_of pieces = record {
  metadata = merged metadata_of (field_values 1 nested_records pieces);
  documents = map document_of (field_values 2 nested_records pieces);
  external_symbols = map symbol_of (field_values 3 nested_records pieces);
}

-- the first fault inside one record of an index
abbrev pub index_fault : PayloadRecord → Option WireFault
index_fault p =
    first_of (field_fault 1 p.wire (message_fault metadata_fault p))
    (first_of (field_fault 2 p.wire (message_fault document_fault p)) (field_fault 3 p.wire (message_fault symbol_fault p)))

-- the bytes encode this index: they are a sequence of records, none with a fault inside, which determine the index
pub record Means (bytes : List ℕ) (index : IndexModel) : Type 0 where
  pub pieces : List PayloadRecord
  pub are_records : AreRecords 0 bytes pieces
  pub clean : IsClean index_fault pieces
  pub index_is : index ≡ index_of pieces

-- the outcome of bytes: the index that they encode, or their first fault
abbrev pub IsIndexOutcome : List ℕ → Result IndexModel WireFault → Type 0
IsIndexOutcome bytes (Ok index) = Means bytes index
IsIndexOutcome bytes (Err fault) = IsFirstFault index_fault 0 bytes fault
