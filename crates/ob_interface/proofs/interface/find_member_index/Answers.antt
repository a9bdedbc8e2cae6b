use Rattle.ob_interface.specs.Orders.{fits_name}
use Rattle.ob_interface.proofs.LookedUp.{named_fit}
use Rattle.ob_interface.proofs.interface.find_member_index.Goals as goal

pub returns : goal.returns
returns c = named_fit fits_name _ c.args.members.now _ _ (c.args.«record», c.args.name.now) _ c.as_slice.ensures.value c.requires.indexes c.first_index_by_name.ensures.found c.first_index_by_name.ensures.none

pub first_index_by_name-requires : goal.first_index_by_name-requires
first_index_by_name-requires c = rw c.as_slice.ensures.value c.requires.by_name
