use Rattle.std.proofs.Common.{◌≡◌, ◌<◌, ℕ, false, get_or}
use Rattle.residual_graph.specs.declared.arc.OutArc.{OutArc}
use Rattle.cut_preflow.specs.FlowGraphs.{out_arc_number}
use Rattle.cut_preflow.specs.Preflow.{can_push}
use Rattle.cut_preflow.specs.Trace.{state_of}
use Rattle.cut_preflow.proofs.preflow_core.PreflowCore.first_pushable_arc.Given as goal

-- no arc that was inspected allows a push
abbrev pub invariant-loop-out : goal.invariant-loop-out
invariant-loop-out l = (j : ℕ) → j < l.out-index → (d : OutArc) → can_push l.self.net (state_of l.self) (out_arc_number (get_or l.outs j d)) ≡ false
