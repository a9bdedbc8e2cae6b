use Rattle.std.proofs.Common.{None}
use Rattle.ob_interface.specs.Orders.{fits_alias}
use Rattle.ob_interface.proofs.LookedUp.{named_fit}
use Rattle.ob_interface.proofs.interface.find_import_index.Goals as goal

pub returns : goal.returns
returns c = named_fit fits_alias _ c.args.aliases.now _ _ (None, c.args.alias.now) _ c.as_slice.ensures.value c.requires.indexes c.first_index_by_name.ensures.found c.first_index_by_name.ensures.none

pub first_index_by_name-requires : goal.first_index_by_name-requires
first_index_by_name-requires c = rw c.as_slice.ensures.value c.requires.by_name
