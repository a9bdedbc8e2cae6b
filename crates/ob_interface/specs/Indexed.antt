-- An interface's entries with their indexes.
use Rattle.std.specs.Prelude.{List}
use Rattle.ob_interface.specs.declared.rows.NameIndexEntry.{NameIndexEntry}
use Rattle.ob_interface.specs.declared.rows.RecordIndexEntry.{RecordIndexEntry}
use Rattle.ob_interface.specs.declared.rows.Rows.{Rows}
use Rattle.ob_interface.specs.Orders.{name_key, index_by_name, record_key, index_by_record, fits_name, fits_alias, fits_base, AreByName, AreByRecord}
use Rattle.ob_interface.specs.Placed.{holds}
use Rattle.ob_interface.specs.IndexEntries.{Indexes}
use Rattle.ob_interface.specs.RowValues.{interface_in, HasBoundedLists}

-- the lists are bounded, and these are the indexes: declarations by record and name, import items by alias, bases by record, and
-- declarations by the record that their type expression ends in
pub record HasIndexes (rows : Rows) (members aliases : List NameIndexEntry) (bases owners : List RecordIndexEntry) : Type 0 where
  pub few : HasBoundedLists rows
  pub by_name : AreByName rows.text.items members
  pub declared : Indexes (name_key rows.text.items) index_by_name fits_name (interface_in rows).declarations members
  pub by_alias : AreByName rows.text.items aliases
  pub imported : Indexes (name_key rows.text.items) index_by_name fits_alias (interface_in rows).imports aliases
  pub by_record : AreByRecord bases
  pub based : Indexes record_key index_by_record fits_base (interface_in rows).bases bases
  pub by_owner : AreByRecord owners
  pub owned : Indexes record_key index_by_record holds (interface_in rows).declarations owners
