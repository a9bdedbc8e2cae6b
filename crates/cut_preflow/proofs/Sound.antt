-- Properties of reachable states that the code needs.
use Rattle.std.proofs.Common.{ℕ, ◌/◌, ◌^◌, ◌<◌, inl, inr, length, slice_index, sym, ap, subst, arith}
use Rattle.cut_preflow.specs.Total.{total}
use Rattle.cut_preflow.specs.Preflow.{FlowNetwork, State, count, import_at, flow_at, head, is_forward}
use Rattle.cut_preflow.specs.Trace.{IsSound}
use Rattle.cut_preflow.proofs.Choices.{true_or_false}
use Rattle.cut_preflow.proofs.Totals.{total-le}
use Rattle.cut_preflow.proofs.Arcs.{ahead, back}

module _ (net : FlowNetwork) (s : State) (sound : IsSound net s) where
  -- all flows together fit 64 bits
  pub flows_fit : total (length s.flow) (λ i. slice_index s.flow i) < 2 ^ 64
  flows_fit =
      let le = total-le (count net) (flow_at s) (λ i. (import_at net i).amount) sound.kept.fits in
      let same = ap (λ n. total n (λ i. slice_index s.flow i)) sound.kept.flows in
      omega (arith, le, same, sound.limits.weights)

  -- the ends of an arc are nodes
  pub head_low : (arc : ℕ) → arc / 2 < count net → head net arc < net.nodes
  head_low arc l = elim (true_or_false (is_forward arc)) [
    | inl e ↦ subst (λ x. x < net.nodes) (sym (ahead net s arc e).head_is) (sound.network.to_low (arc / 2) l)
    | inr e ↦ subst (λ x. x < net.nodes) (sym (back net s arc e).head_is) (sound.network.from_low (arc / 2) l)
  ]
