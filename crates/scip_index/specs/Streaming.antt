-- A reader that has read some of the records of an index.
use Rattle.std.specs.Prelude.{◌≡◌, ℕ, List, take, map, Option, Result, Ok, Err}
use Rattle.proto_wire.specs.declared.fault.WireFault.{WireFault}
use Rattle.proto_wire.specs.Records.{PayloadRecord, IsSplit}
use Rattle.proto_wire.specs.Messages.{field_values, nested_records, IsClean, IsNextFault, IsFirstFault}
use Rattle.proto_wire.specs.Readings.{payload_records}
use Rattle.scip_index.specs.Plain.{MetadataModel, SymbolModel, DocumentModel, IndexModel}
use Rattle.scip_index.specs.Meaning.{metadata_of, symbol_of, document_of, merged, index_fault, Means}

-- the bytes begin with the records front, none with a fault inside, and continue at offset `at` with rest. These records determine the
-- metadata and the external symbols
pub record IsReaderAt (bytes : List ℕ) (front : List PayloadRecord) (at : ℕ) (rest : List ℕ) (metadata : Option MetadataModel) (externals : List SymbolModel) : Type 0 where
  pub reached : IsSplit 0 bytes front at rest
  pub clean : IsClean index_fault front
  pub metadata_is : metadata ≡ merged metadata_of (field_values 1 nested_records front)
  pub externals_are : externals ≡ map symbol_of (field_values 3 nested_records front)

-- the documents in these records
abbrev pub documents_in : List PayloadRecord → List DocumentModel
documents_in pieces = map document_of (field_values 2 nested_records pieces)

-- a reader as contracts describe it: the bytes, the number of bytes that are read, and the error that the reader has returned, if any
pub record ReaderState : Type 0 where
  pub bytes : List ℕ
  pub at : ℕ
  pub error : Option WireFault

-- the documents that a reader has returned: those in the bytes that are read
abbrev pub given : ReaderState → List DocumentModel
given r = documents_in (payload_records 0 (take r.at r.bytes)).0

-- the invariant of a reader that hasn't failed: it has read some records of the bytes, and has their metadata and external symbols
abbrev pub HasRead : List ℕ → ℕ → List ℕ → Option MetadataModel → List SymbolModel → Type 0
HasRead bytes at rest metadata externals = (front : List PayloadRecord) × IsReaderAt bytes front at rest metadata externals

-- the bytes encode an index with exactly these documents
abbrev pub HasDocuments : List ℕ → List DocumentModel → Type 0
HasDocuments bytes documents = (i : IndexModel) × Means bytes i × (i.documents ≡ documents)

-- the first fault of the bytes comes after records with exactly these documents
abbrev pub IsFaultAfter : List ℕ → List DocumentModel → WireFault → Type 0
IsFaultAfter bytes documents fault = (front : List PayloadRecord) × IsClean index_fault front × IsNextFault index_fault 0 bytes front fault × (documents_in front ≡ documents)

-- the metadata and the external symbols of the index that the bytes encode, or their first fault
abbrev pub IsRestOutcome : List ℕ → Result (Option MetadataModel × List SymbolModel) WireFault → Type 0
IsRestOutcome bytes (Ok x) = (i : IndexModel) × Means bytes i × (i.metadata ≡ x.0) × (i.external_symbols ≡ x.1)
IsRestOutcome bytes (Err fault) = IsFirstFault index_fault 0 bytes fault
