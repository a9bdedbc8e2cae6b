use Rattle.scip_index.proofs.PartLaws.{written_in_parts}
use Rattle.scip_index.proofs.laws.written_form_is_concatenation.Goals as goal

pub returns : goal.returns
returns c = written_in_parts
