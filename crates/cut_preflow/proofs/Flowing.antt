-- In a state without active nodes, the flow is one of the network and the reached nodes are the minimal source side.
use Rattle.std.proofs.Common.{◌≡◌, ◌≢◌, ℕ, ◌<◌, ◌≤◌, ◌==◌, if◌then◌else◌, Bool, true, false, List, length, refl, sym, ◌∙◌, subst, arith, inl, inr}
use Rattle.std.proofs.lemmas.Bool.{both_ways, cases_lt, false_from_ne_true}
use Rattle.std.proofs.lemmas.List.Elements.{Contains-get_or}
use Rattle.cut_net.specs.Network.{Network, missing_item}
use Rattle.cut_net.specs.WellFormed.{AreBetween}
use Rattle.cut_net.specs.Cuts.{IsSetOf, IsClosed, IsFlow, InSourceSide, Reached}
use Rattle.cut_net.proofs.NearSide.{is_near}
use Rattle.cut_part.specs.CapacityReduction.{IsUnreachable}
use Rattle.cut_preflow.specs.Preflow.{FlowNetwork, State, count, flow_at, import_at, inflow, outflow}
use Rattle.cut_preflow.specs.Kept.{IsFlowNetwork, IsValidPreflow, IsQuiet}
use Rattle.cut_preflow.specs.Flows.{AreSourceSide, AreReached, HasFlow, IsSinkUnreachable, flow_on, network_between, value_of}
use Rattle.cut_preflow.specs.Side.{has, IsReachableSet}
use Rattle.cut_preflow.proofs.Choices.{choice_other}
use Rattle.cut_preflow.proofs.Totals.{total-zero}
use Rattle.cut_preflow.proofs.FlowGraphModel.{at_numbers, entering_is, flow_is, leaving_is}
use Rattle.cut_preflow.proofs.Quiet.{closed_side, IsShut, quiet_conserves, source_gives}
use Rattle.cut_preflow.proofs.Reaching.{closed_by_arcs, closed_by_imports}

module _ (net : Network) (a b : ℕ) (s : State) (is : IsFlowNetwork (network_between net a b)) (size : length s.flow ≡ length net.imports) where
  abbrev flow_net : FlowNetwork
  flow_net = network_between net a b

  pub flow_here : (k : ℕ) → k < length net.imports → flow_on flow_net s (import_at flow_net k) ≡ flow_at s k
  flow_here k h = flow_is flow_net s is.apart_ends size k h

  between : AreBetween net.imports (length net.names)
  between = at_numbers net.imports (λ i. (i.from < length net.names) × (i.to < length net.names)) (λ k h. (is.from_low k h, is.to_low k h))

  -- closed by the arcs' numbers and by the network's imports
  shut_closed : (side : ℕ → Bool) → IsShut flow_net s side → IsClosed net (flow_on flow_net s) side
  shut_closed side shut = record {
    forward = at_numbers net.imports (λ i. flow_on flow_net s i < i.amount → side i.from ≡ true → side i.to ≡ true)
        (λ k h room t. (shut k h).0 (omega (arith, flow_here k h, room)) t);
    backward = at_numbers net.imports (λ i. 0 < flow_on flow_net s i → side i.to ≡ true → side i.from ≡ true)
        (λ k h some t. (shut k h).1 (omega (arith, flow_here k h, some)) t);
  }

  closed_shut : (side : ℕ → Bool) → IsClosed net (flow_on flow_net s) side → IsShut flow_net s side
  closed_shut side closed k h =
      let i = import_at flow_net k in
      let there = Contains-get_or net.imports k missing_item h in
      (λ room t. closed.forward i there (omega (arith, flow_here k h, room)) t, λ some t. closed.backward i there (omega (arith, flow_here k h, some)) t)

  -- the flags of what the source reaches by arcs are of what it reaches by residual imports
  pub reached : (bits : List Bool) → IsReachableSet net.imports s.flow a bits → IsSetOf (has bits) (Reached net (flow_on flow_net s) a)
  reached bits reach m = (
    λ t modules start closed. reach.least modules start (closed_by_arcs flow_net s modules (closed_shut modules closed)) m t,
    λ r. r (has bits) reach.starts (shut_closed (has bits) (closed_by_imports flow_net s (has bits) reach.closed)),
  )

  module _ (kept : IsValidPreflow flow_net s) (quiet : IsQuiet flow_net s) where
    nothing_in : (m : ℕ) → length net.names ≤ m → inflow flow_net s m ≡ 0
    nothing_in m above =
        total-zero (count flow_net) (λ k. if (import_at flow_net k).to == m then flow_at s k else 0)
        (λ k h. choice_other (import_at flow_net k).to m (flow_at s k) 0 (λ e. let low = is.to_low k h in absurd (omega arith)))

    nothing_out : (m : ℕ) → length net.names ≤ m → outflow flow_net s m ≡ 0
    nothing_out m above =
        total-zero (count flow_net) (λ k. if (import_at flow_net k).from == m then flow_at s k else 0)
        (λ k h. choice_other (import_at flow_net k).from m (flow_at s k) 0 (λ e. let low = is.from_low k h in absurd (omega arith)))

    conserves : (m : ℕ) → m ≢ a → m ≢ b → inflow flow_net s m ≡ outflow flow_net s m
    conserves m not_a not_b = elim (cases_lt m (length net.names)) [
      | inl lt ↦ sym (quiet_conserves flow_net s is kept quiet m lt not_a not_b)
      | inr le ↦ nothing_in m le ∙ sym (nothing_out m le)
    ]

    pub has_flow : IsFlow net a b (flow_on flow_net s) (value_of flow_net s)
    has_flow = record {
      within = at_numbers net.imports (λ i. flow_on flow_net s i ≤ i.amount) (λ k h. omega (arith, flow_here k h, kept.fits k h));
      kept = λ m not_a not_b. entering_is flow_net s is.apart_ends size m ∙ conserves m not_a not_b ∙ sym (leaving_is flow_net s is.apart_ends size m);
      at_start = omega (arith, entering_is flow_net s is.apart_ends size a, leaving_is flow_net s is.apart_ends size a, source_gives flow_net s is kept quiet);
    }

    pub shut_off : IsUnreachable net (flow_on flow_net s) a b
    shut_off =
        let some = closed_side flow_net s is kept quiet in
        (some.0, record { start = some.1; end = some.2; closed = shut_closed some.0 some.3 })

    -- so the reached modules are the minimal source side
    pub near : (modules : ℕ → Bool) → IsSetOf modules (Reached net (flow_on flow_net s) a) → IsSetOf modules (InSourceSide net a b)
    near modules those = is_near net a b (flow_on flow_net s) (value_of flow_net s) between is.source_low has_flow modules those without
      where
        without : modules b ≡ false
        without =
            let some = closed_side flow_net s is kept quiet in
            false_from_ne_true _ (λ t. both_ways (some.0 b) some.2 ((those b).0 t some.0 some.1 (shut_closed some.0 some.3)))

-- the same of a flow network that is this one
pub quiet_has_flow : (flow_net : FlowNetwork) (s : State) → IsFlowNetwork flow_net → IsValidPreflow flow_net s → IsQuiet flow_net s → HasFlow flow_net s
quiet_has_flow flow_net s is kept quiet net of =
    subst (λ f. IsFlowNetwork f → IsValidPreflow f s → IsQuiet f s → IsFlow net f.source f.sink (flow_on f s) (value_of f s)) (sym of)
    (λ is' kept' quiet'. has_flow net flow_net.source flow_net.sink s is' kept'.flows kept' quiet') is kept quiet

pub quiet_is_shut_off : (flow_net : FlowNetwork) (s : State) → IsFlowNetwork flow_net → IsValidPreflow flow_net s → IsQuiet flow_net s → IsSinkUnreachable flow_net s
quiet_is_shut_off flow_net s is kept quiet net of =
    subst (λ f. IsFlowNetwork f → IsValidPreflow f s → IsQuiet f s → IsUnreachable net (flow_on f s) f.source f.sink) (sym of)
    (λ is' kept' quiet'. shut_off net flow_net.source flow_net.sink s is' kept'.flows kept' quiet') is kept quiet

pub marks_reached : (flow_net : FlowNetwork) (s : State) (bits : List Bool) → IsFlowNetwork flow_net → length s.flow ≡ count flow_net → IsReachableSet flow_net.imports s.flow flow_net.source bits → AreReached flow_net s bits
marks_reached flow_net s bits is size reach net of =
    subst (λ f. IsFlowNetwork f → length s.flow ≡ count f → IsReachableSet f.imports s.flow f.source bits → IsSetOf (has bits) (Reached net (flow_on f s) f.source)) (sym of)
    (λ is' size' reach'. reached net flow_net.source flow_net.sink s is' size' bits reach') is size reach

pub marks_near : (flow_net : FlowNetwork) (s : State) (bits : List Bool) → IsFlowNetwork flow_net → IsValidPreflow flow_net s → IsQuiet flow_net s → AreReached flow_net s bits → AreSourceSide flow_net bits
marks_near flow_net s bits is kept quiet those net of =
    subst (λ f. IsFlowNetwork f → IsValidPreflow f s → IsQuiet f s → AreReached f s bits → IsSetOf (has bits) (InSourceSide net f.source f.sink)) (sym of)
    (λ is' kept' quiet' those'. near net flow_net.source flow_net.sink s is' kept'.flows kept' quiet' (has bits) (those' net refl)) is kept quiet those

-- once quiet, the sink is not reached
pub sink_outside : (flow_net : FlowNetwork) (s : State) (bits : List Bool) → IsFlowNetwork flow_net → IsValidPreflow flow_net s → IsQuiet flow_net s → IsReachableSet flow_net.imports s.flow flow_net.source bits → has bits flow_net.sink ≡ false
sink_outside flow_net s bits is kept quiet reach =
    let some = closed_side flow_net s is kept quiet in
    false_from_ne_true _ (λ t. both_ways (some.0 flow_net.sink) some.2 (reach.least some.0 some.1 (closed_by_arcs flow_net s some.0 some.3) flow_net.sink t))
