-- Properties of a state in which no node but source and sink has excess.
use Rattle.std.proofs.Common.{◌≡◌, ◌≢◌, ℕ, ◌+◌, ◌<◌, ◌≤◌, inl, inr, Bool, true, false, nat_lt, arith}
use Rattle.std.proofs.lemmas.Bool.{cases_lt}
use Rattle.std.proofs.lemmas.Bool.Decides.{nat_tests}
use Rattle.cut_preflow.specs.Preflow.{FlowNetwork, State, count, import_at, flow_at, label_at, inflow, outflow, is_active}
use Rattle.cut_preflow.specs.Kept.{IsFlowNetwork, IsValidPreflow, IsQuiet}
use Rattle.cut_preflow.proofs.Totals.{total-gap}
use Rattle.cut_preflow.proofs.Cuts.{Closed, gap_closed, value_of_closed}
use Rattle.cut_preflow.proofs.Arcs.{active_true, lt_true}

-- no arc with residual capacity leaves the set
abbrev pub IsShut : FlowNetwork → State → (ℕ → Bool) → Type 0
IsShut net s side = Closed (count net) (λ i. (import_at net i).from) (λ i. (import_at net i).to) (λ i. (import_at net i).amount) (flow_at s) side

module _ (net : FlowNetwork) (s : State) (is : IsFlowNetwork net) (kept : IsValidPreflow net s) (quiet : IsQuiet net s) where
  -- what leaves a node but the two ends is what enters it
  pub quiet_conserves : (v : ℕ) → v < net.nodes → v ≢ net.source → v ≢ net.sink → outflow net s v ≡ inflow net s v
  quiet_conserves v l not_source not_sink =
      let within : outflow net s v ≤ inflow net s v = kept.no_debt v l not_source in
      elim (cases_lt (outflow net s v) (inflow net s v)) [
        | inl lt ↦
            (let on : is_active net s v ≡ true = active_true net s v (record { low = l; not_source = not_source; not_sink = not_sink; more = lt }) in
            let off : is_active net s v ≡ false = quiet v in
            cc)
        | inr le ↦ omega arith
      ]

  -- a set with the source and without the sink that no arc with residual leaves: the nodes labelled above a number that no node has
  pub closed_side : (side : ℕ → Bool) × (side net.source ≡ true) × (side net.sink ≡ false) × IsShut net s side
  closed_side = go (total-gap net.nodes (label_at s) 0)
    where
      go : (k : ℕ) × (0 ≤ k) × (k ≤ 0 + net.nodes) × ((v : ℕ) → v < net.nodes → label_at s v ≢ k) → (side : ℕ → Bool) × (side net.source ≡ true) × (side net.sink ≡ false) × IsShut net s side
      go w =
          let top : label_at s net.source ≢ w.0 = w.3 net.source is.source_low in
          let bottom : label_at s net.sink ≢ w.0 = w.3 net.sink is.sink_low in (
            (λ v. nat_lt w.0 (label_at s v)),
            lt_true w.0 (label_at s net.source) (omega (arith, w.2, kept.source_label)),
            not_above w.0 (label_at s net.sink) (omega (arith, kept.sink_label)),
            gap_closed net.nodes (count net) (λ i. (import_at net i).from) (λ i. (import_at net i).to) (λ i. (import_at net i).amount) (flow_at s) (label_at s) is.from_low is.to_low kept.valid w.0 w.3,
          )
        where
          not_above : (a b : ℕ) → b ≤ a → nat_lt a b ≡ false
          not_above a b h = grind (arith, nat_tests)

  -- no more enters the source than leaves it
  pub source_gives : inflow net s net.source ≤ outflow net s net.source
  source_gives =
      let some = closed_side in
      let value =
      value_of_closed net.nodes (count net) (λ i. (import_at net i).from) (λ i. (import_at net i).to) (λ i. (import_at net i).amount) (flow_at s) is.from_low is.to_low kept.fits net.source net.sink is.source_low quiet_conserves some.0 some.1 some.2 some.3 in
      omega (arith, value)
