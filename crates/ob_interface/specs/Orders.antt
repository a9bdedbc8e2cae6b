-- The entries of the indexes by name and by record.
use Rattle.std.specs.Prelude.{ℕ, ◌-◌, ◌==◌, List, length, slice_get, slice_range, Option, Some, None, Bool, ◌&&◌}
use Rattle.std.specs.Option.{option_cmp, is_none}
use Rattle.std.specs.Ordering.{nat_cmp, ordering_then}
use Rattle.std.specs.Cmp.Lexicographic.{slice_cmp}
use Rattle.std.specs.Str.{bytes_eq}
use Rattle.std.specs.declared.cmp.Ordering.{Ordering}
use Rattle.ob_interface.specs.declared.rows.BaseRow.{BaseRow}
use Rattle.ob_interface.specs.declared.rows.DeclarationRow.{DeclarationRow}
use Rattle.ob_interface.specs.declared.rows.ImportRow.{ImportRow}
use Rattle.ob_interface.specs.declared.rows.NameIndexEntry.{NameIndexEntry}
use Rattle.ob_interface.specs.declared.rows.PartRow.{PartRow}
use Rattle.ob_interface.specs.declared.rows.RecordIndexEntry.{RecordIndexEntry}
use Rattle.ob_interface.specs.declared.rows.RowPart.{RowPart}
use Rattle.ob_interface.specs.declared.rows.RowPart.TheVariants as row_parts
use Rattle.ob_interface.specs.Interfaces.{Base, Declaration, Imported}
use Rattle.ob_interface.specs.Placed.{is_member}
use Rattle.ob_interface.specs.IndexEntries.{AreRanked}
use Rattle.ob_interface.specs.Texts.{text_in}

-- a key: a record, or none for the module's block, and the name of a declaration there
abbrev pub Key : Type 0
Key = Option ℕ × List ℕ

-- keys are ordered by record, the block first, then by name
abbrev pub key_cmp : Key → Key → Ordering
key_cmp a b = ordering_then (option_cmp nat_cmp a.0 b.0) (slice_cmp nat_cmp a.1 b.1)

-- the key and the index of an entry by name, and of an entry by record
abbrev pub name_key : List ℕ → NameIndexEntry → Key
name_key text e = (e.«record», text_in text e.name)

abbrev pub index_by_name : NameIndexEntry → ℕ
index_by_name e = e.index

abbrev pub record_key : RecordIndexEntry → ℕ
record_key e = e.«record»

abbrev pub index_by_record : RecordIndexEntry → ℕ
index_by_record e = e.index

-- entries sorted by name, and entries sorted by record; equal keys are sorted by index
abbrev pub AreByName : List ℕ → List NameIndexEntry → Type 0
AreByName text es = AreRanked key_cmp (name_key text) index_by_name es

abbrev pub AreByRecord : List RecordIndexEntry → Type 0
AreByRecord es = AreRanked nat_cmp record_key index_by_record es

-- the index entry of a declaration, of an import item, of a base, and of a declaration whose type expression ends in a record
abbrev pub declaration_entry : DeclarationRow → ℕ → Option NameIndexEntry
declaration_entry row p = Some (record { «record» = row.«record»; name = row.name; index = p })

abbrev pub alias_entry : ImportRow → ℕ → Option NameIndexEntry
alias_entry row p = Some (record { «record» = None; name = row.alias; index = p })

abbrev pub base_entry : BaseRow → ℕ → Option RecordIndexEntry
base_entry row p = Some (record { «record» = row.«record»; index = p })

-- the record, if there is a component and it is one
abbrev pub record_token_of_part : Option PartRow → Option ℕ
record_token_of_part None = None
record_token_of_part (Some p) = of p.part
  where
    of : RowPart → Option ℕ
    of row_parts.Array = None
    of row_parts.Pointer = None
    of (row_parts.Record k) = Some k
    of row_parts.Procedure = None
    of (row_parts.Named start name) = None

-- the innermost component of a declaration's type expression
abbrev pub last_part : List PartRow → DeclarationRow → Option PartRow
last_part ps row = slice_get (slice_range ps row.first_part row.parts_end) (length (slice_range ps row.first_part row.parts_end) - 1)

-- the entry of declaration p, if its type expression ends in a record
abbrev pub owner_by : ℕ → Option ℕ → Option RecordIndexEntry
owner_by p None = None
owner_by p (Some k) = Some (record { «record» = k; index = p })

abbrev pub owner_entry : List PartRow → DeclarationRow → ℕ → Option RecordIndexEntry
owner_entry ps row p = owner_by p (record_token_of_part (last_part ps row))

-- whether an element fits a key: a declaration by record and name, an import item by alias, a base by record
abbrev pub fits_name : Key → Declaration → Bool
fits_name k d = is_member k.0 k.1 d

abbrev pub fits_alias : Key → Imported → Bool
fits_alias k i = is_none k.0 && bytes_eq i.alias k.1

abbrev pub fits_base : ℕ → Base → Bool
fits_base k b = b.of_record == k
