-- Any two names have an outcome.
use Rattle.std.proofs.Common.{◌≡◌, ℕ, ◌⊎◌, inl, inr, Bool, List, map, Option, Some, None, Result, Ok, Err, refl, sym, ap, ◌∙◌, subst, sum_by}
use Rattle.std.specs.Prelude.{Contains, filter}
use Rattle.std.proofs.lemmas.Bool.{both_ways, cases_Bool, cases_eq}
use Rattle.digraph.specs.Edges.{Leads}
use Rattle.digraph.proofs.SameGraphs.{chain_as}
use Rattle.cut_net.specs.declared.priced.Priced.{Priced}
use Rattle.cut_net.specs.Network.{Network, index_of}
use Rattle.cut_net.specs.AnswerClaim.{AnswerClaim, CutOf, BlockedBy}
use Rattle.cut_net.specs.WellFormed.{IsNetwork}
use Rattle.cut_net.specs.Cuts.{IsFlow, Imports, leaves}
use Rattle.cut_net.specs.Lines.{IsAnswer, IsAscending, IsCheapestAnswer, IsImport, edge_of, flow_by}
use Rattle.cut_net.specs.Pins.{ArePins, ByPin, IsAnswerWithPins, IsCheapestAnswerWithPins, is_pinned}
use Rattle.cut_net.proofs.Chains.{chain_or_none}
use Rattle.cut_net.proofs.Members.{from_map, in_map}
use Rattle.cut_net.proofs.PinChains.{least_of_pins, same_pins}
use Rattle.cut_net.proofs.Pinned.{answer_is, cheapest_said, no_cut}
use Rattle.cut_net.proofs.Places.{index_takes}
use Rattle.cut_part.specs.Apart.{flow_lines}
use Rattle.cut_part.specs.CapacityReduction.{IsUnreachable}
use Rattle.cut_part.proofs.Greatest.{end_unreached}
use Rattle.cut_preflow.specs.Preflow.{State, opening, run}
use Rattle.cut_preflow.specs.Kept.{IsFlowNetwork, IsQuiet, IsValidPreflow}
use Rattle.cut_preflow.specs.Flows.{AreEnds, network_between, value_of}
use Rattle.cut_preflow.proofs.Flowing as flowing
use Rattle.cut_preflow.proofs.Networks.{between_is}
use Rattle.cut_preflow.proofs.Opening.{runs_keep}
use Rattle.residual_graph.specs.declared.arc.Arc.{Arc}
use Rattle.residual_graph.specs.Graphs.{is_flagged}
use Rattle.cut_solve.specs.MaximumFlow.{IsMaximumFlow}
use Rattle.cut_solve.specs.Lines.{flow_line, has_flow, import_of_arc, is_reported_import}
use Rattle.cut_solve.specs.Settling.{arcs_with_flow}
use Rattle.cut_solve.specs.Solving.{IsSolveOutcome, SolveError, SameModule, NoSuchModule}
use Rattle.cut_solve.proofs.Answering.{answered, cheapest, kept_above_zero, kept_lines}
use Rattle.cut_solve.proofs.Flowing.{flow_on, lines_ascend}
use Rattle.cut_solve.proofs.LeastChain.{some_least_chain}
use Rattle.cut_solve.proofs.Reachable.{far_chains, far_marks, near_marks, near_reached, near_size}
use Rattle.cut_solve.proofs.Resting.{rests}
use Rattle.cut_solve.proofs.Settled.{agree, imports_are, same_closed, same_flow}

module _ (net : Network) (a b : ℕ) (is : IsNetwork net) (ends : AreEnds net a b) where
  -- a cheapest cut by the flow of a quiet preflow
  module _ (s : State) (kept : IsValidPreflow (network_between net a b) s) (quiet : IsQuiet (network_between net a b) s) where
    abbrev arcs : List Arc
    arcs = arcs_with_flow net.imports s.flow

    abbrev flow : List Priced
    flow = filter has_flow (map flow_line arcs)

    of : IsFlowNetwork (network_between net a b)
    of = between_is net a b is ends

    carries : IsFlow net a b (flow_on arcs) (value_of (network_between net a b) s)
    carries =
        same_flow net a b (flow_by (flow_lines net.imports s.flow)) (flow_on arcs) (agree net s.flow kept.flows is.imports_ascend) (value_of (network_between net a b) s)
        (flowing.has_flow net a b s of kept.flows kept quiet)

    barred : IsUnreachable net (flow_on arcs) a b
    barred =
        let shut = flowing.shut_off net a b s of kept.flows kept quiet in (
          shut.0,
          record {
            start = shut.1.start;
            end = shut.1.end;
            closed = same_closed net a b (flow_by (flow_lines net.imports s.flow)) (flow_on arcs) (agree net s.flow kept.flows is.imports_ascend) shut.0 shut.1.closed;
          },
        )

    abbrev source_side : List Bool
    source_side = near_marks net (flow_on arcs) a

    known : (line : Priced) → Contains (map flow_line arcs) line → IsImport net line
    known line c =
        let (r, there, e) = from_map flow_line arcs line c in (
          import_of_arc r,
          subst (λ (v : List Priced). Contains v (import_of_arc r)) (imports_are net s.flow kept.flows is.imports_ascend) (in_map import_of_arc arcs r there),
          ap (λ (v : Priced). v.from) e,
          ap (λ (v : Priced). v.to) e,
          tt,
        )

    greatest : IsMaximumFlow net a b source_side flow
    greatest = record {
      size = near_size net (flow_on arcs) a;
      reached = near_reached net (flow_on arcs) a is.between ends.from_in;
      end = end_unreached net a b (flow_on arcs) (is_flagged source_side) barred (near_reached net (flow_on arcs) a is.between ends.from_in);
      in_order = kept_lines net (map flow_line arcs) (lines_ascend arcs (subst IsAscending (sym (imports_are net s.flow kept.flows is.imports_ascend)) is.imports_ascend)) known;
      above_zero = kept_above_zero (map flow_line arcs);
      value = value_of (network_between net a b) s;
      is_flow = carries;
    }

    cut_here : (claim : AnswerClaim) × IsAnswer net a b claim × IsCheapestAnswer net a b claim
    cut_here =
        let sink_side = far_marks net (leaves (is_flagged source_side)) b in
        let chains = far_chains net (leaves (is_flagged source_side)) b is.between ends.to_in in
        let printed = filter (is_reported_import source_side sink_side) net.imports in (
          CutOf (sum_by (λ (i : Priced). i.amount) printed) printed flow,
          answered net a b source_side sink_side flow is.imports_ascend is.between ends.from_in greatest chains,
          cheapest net a b source_side sink_side flow is.imports_ascend is.between ends.from_in greatest chains,
        )

  some_cut : (claim : AnswerClaim) × IsAnswer net a b claim × IsCheapestAnswer net a b claim
  some_cut =
      let of = between_is net a b is ends in
      let (events, quiet) = rests (network_between net a b) of in
      cut_here (run (network_between net a b) (opening (network_between net a b)) events) (runs_keep (network_between net a b) events of) quiet

  by_pin : (i : Priced) → ByPin net i ⊎ (ByPin net i → ⊥)
  by_pin i = elim (cases_Bool (is_pinned net i)) [ inl t ↦ inl t | inr f ↦ inr (λ t. both_ways (is_pinned net i) f t) ]

  -- a cut, or the least path of pins
  some_said : ArePins net → (claim : AnswerClaim) × IsAnswerWithPins net a b claim × IsCheapestAnswerWithPins net a b claim
  some_said pins = elim (chain_or_none net.imports (ByPin net) by_pin a b) [
    | inl chain ↦
        let edges = map edge_of net.pins in
        let least = some_least_chain edges b a (chain.0, chain_as (Leads edges) (Imports net.imports (ByPin net)) (same_pins net pins) a chain.0 b chain.1) in
        (BlockedBy least.0, least_of_pins net pins a b least.0 least.1, λ x cut. no_cut net a b x chain cut)
    | inr none ↦
        let (claim, answer, least) = some_cut in
        (claim, answer_is net a b pins none claim answer least, cheapest_said net a b pins none claim answer least)
  ]

pub outcome_exists : (net : Network) (from to : List ℕ) → IsNetwork net → ArePins net → (o : Result AnswerClaim SolveError) × IsSolveOutcome net from to o
outcome_exists net from to is pins = go (index_of net from) (index_of net to) refl refl
  where
    go : (first second : Option ℕ) → index_of net from ≡ first → index_of net to ≡ second → (o : Result AnswerClaim SolveError) × IsSolveOutcome net from to o
    go None second from_is to_is = (Err (NoSuchModule from), inl (from_is, refl))
    go (Some a) None from_is to_is = (Err (NoSuchModule to), inr ((a, from_is), to_is, refl))
    go (Some a) (Some b) from_is to_is = elim (cases_eq a b) [
      | inl e ↦ (Err SameModule, record { a = a; from_is = from_is; to_is = to_is ∙ ap (λ (m : ℕ). Some m) (sym e) })
      | inr apart ↦
          let claim = some_said net a b is (record { from_in = (index_takes net from a from_is).0; to_in = (index_takes net to b to_is).0; apart = apart }) pins in
          (Ok claim.0, record { a = a; b = b; from_is = from_is; to_is = to_is; apart = apart; answer = claim.1; cheapest = claim.2 })
    ]
