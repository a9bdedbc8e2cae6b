use Rattle.ob_interface.specs.Orders.{record_key, index_by_record}
use Rattle.ob_interface.specs.Placed.{holds}
use Rattle.ob_interface.proofs.Ranks.{first_fit}
use Rattle.ob_interface.proofs.interface.find_owner_index.Goals as goal

pub returns : goal.returns
returns c = first_fit record_key index_by_record holds _ c.args.owners.now c.requires.indexes c.args.«record» _ c.first_index_by_record.ensures.found c.first_index_by_record.ensures.none
