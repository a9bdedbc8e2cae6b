use Rattle.std.proofs.Common.{map}
use Rattle.cut_preflow.specs.FlowGraphs.{out_arc_number}
use Rattle.cut_preflow.specs.Trace.{state_of}
use Rattle.cut_preflow.proofs.Least.{Lowest}
use Rattle.cut_preflow.proofs.preflow_core.PreflowCore.least_label.Given as goal

abbrev pub invariant-loop-out : goal.invariant-loop-out
invariant-loop-out l = Lowest l.self.net (state_of l.self) (map out_arc_number l.out-items) l.out-index l.least
