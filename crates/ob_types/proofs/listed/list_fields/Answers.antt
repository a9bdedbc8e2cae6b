use Rattle.ob_types.proofs.Telling.{all_told}
use Rattle.ob_types.proofs.listed.list_fields.Goals as goal

pub returns : goal.returns
returns c = all_told c.args.view.now c.new-fields.result.items c.append_local_fields.new.fields.items c.append_reached_fields.new.fields.items c.in_ok-append_local_fields.ensures c.in_ok-append_reached_fields.ensures
