use Rattle.cut_part.proofs.Apart.{ascending_apart, flow_by_number, turned_apart}
use Rattle.cut_part.proofs.laws.flow_by_import_number.Goals as goal

pub returns-clause-ascending : goal.returns-clause-ascending
returns-clause-ascending c = ascending_apart

pub returns-clause-reversed : goal.returns-clause-reversed
returns-clause-reversed c = turned_apart

pub returns-clause-number : goal.returns-clause-number
returns-clause-number c = flow_by_number
