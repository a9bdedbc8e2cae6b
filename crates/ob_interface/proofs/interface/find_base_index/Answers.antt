use Rattle.ob_interface.specs.Orders.{fits_base, record_key, index_by_record}
use Rattle.ob_interface.proofs.Ranks.{first_fit}
use Rattle.ob_interface.proofs.interface.find_base_index.Goals as goal

pub returns : goal.returns
returns c = first_fit record_key index_by_record fits_base _ c.args.bases.now c.requires.indexes c.args.«record» _ c.first_index_by_record.ensures.found c.first_index_by_record.ensures.none
