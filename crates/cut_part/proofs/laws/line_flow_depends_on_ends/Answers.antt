use Rattle.cut_part.proofs.CapacityReduction.{by_lines}
use Rattle.cut_part.proofs.laws.line_flow_depends_on_ends.Goals as goal

pub returns : goal.returns
returns c = by_lines
