-- Properties of a preflow's fields as properties of its specification.
use Rattle.std.proofs.Common.{◌≡◌, sym, subst}
use Rattle.cut_preflow.specs.declared.preflow_core.PreflowCore.TheInside.{Inside}
use Rattle.cut_preflow.specs.Preflow.{FlowNetwork, State}
use Rattle.cut_preflow.specs.Trace.{Trace, flow_network, state_of, IsTrace, IsSound}
use Rattle.cut_preflow.proofs.Histories.{played_sound, played_state}

abbrev pub net_of : Inside → FlowNetwork
net_of q = flow_network q.ends q.graph.imports

abbrev pub fields_of : Inside → State
fields_of q = record { flow = q.graph.flow; label = q.labels.items }

module _ (q : Inside) (is : IsTrace (net_of q) q.graph.flow q.labels.items q.history.items) where
  pub sound_fields : IsSound (net_of q) (fields_of q)
  sound_fields = played_sound (net_of q) (fields_of q) q.history.items is

  module _ (p : Trace) (view : record { net = net_of q; history = q.history.items } ≡ p) where
    pub reached_flags : (P : FlowNetwork → State → Type 0) → P (net_of q) (fields_of q) → P p.net (state_of p)
    reached_flags P h = subst (λ r. P r.net (state_of r)) view (subst (P (net_of q)) (played_state (net_of q) (fields_of q) q.history.items is) h)

    pub unseen : (P : FlowNetwork → State → Type 0) → P p.net (state_of p) → P (net_of q) (fields_of q)
    unseen P h = subst (P (net_of q)) (sym (played_state (net_of q) (fields_of q) q.history.items is)) (subst (λ r. P r.net (state_of r)) (sym view) h)
