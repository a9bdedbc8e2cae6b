use Rattle.std.proofs.Common.{◌≡◌, ◌∙◌, ◌<◌, ◌+◌, ℕ, List, inl, inr, false, get_or, map, length, refl, sym, ap, subst, arith}
use Rattle.std.specs.Prelude.{All, Contains}
use Rattle.std.proofs.lemmas.List.{get_or-drop, get_or-map, get_or-take, length-map}
use Rattle.std.proofs.lemmas.List.Elements.{All-append}
use Rattle.residual_graph.specs.declared.arc.OutArc.{OutArc}
use Rattle.residual_graph.specs.OutArcs.{no_out_arc}
use Rattle.cut_preflow.specs.FlowGraphs.{IsArcFrom, out_arc_number}
use Rattle.cut_preflow.specs.Preflow.{FlowNetwork, State, can_push, label_at, tail}
use Rattle.cut_preflow.specs.Trace.{flow_graph_model_of, state_of}
use Rattle.cut_preflow.proofs.Arcs.{pushable_from}
use Rattle.cut_preflow.proofs.Choices.{true_or_false}
use Rattle.cut_preflow.proofs.preflow_core.PreflowCore.find_pushable_arc.Goals as goal

-- what is so of each arc's number is so of each number
of_number : (P : ℕ → Type 0) (outs : List OutArc) → All (λ out. P (out_arc_number out)) outs → (a : ℕ) → Contains (map out_arc_number outs) a → P a
of_number P outs each a (j, in_map, at) =
    let len = length-map outs out_arc_number in
    let in_outs : j < length outs = omega arith in
    subst P (sym (get_or-map out_arc_number outs j no_out_arc a in_outs) ∙ at) (each j no_out_arc in_outs)

-- from a label 0 no push goes
none_from_0 : (net : FlowNetwork) (s : State) (a : ℕ) → label_at s (tail net a) ≡ 0 → can_push net s a ≡ false
none_from_0 net s a low = elim (true_or_false (can_push net s a)) [
  | inl on ↦ absurd (omega (arith, (pushable_from net s a on).downhill, low))
  | inr off ↦ off
]

pub returns-then-label-eq0-clause-none : goal.returns-then-label-eq0-clause-none
returns-then-label-eq0-clause-none c none a low leaves =
    let net = c.args.self.now.net in
    let s = state_of c.args.self.now in
    none_from_0 net s a (ap (label_at s) leaves ∙ sym c.label.ensures.value ∙ c.if-label-eq0.true)

pub first_pushable_arc-requires-clause-each : goal.first_pushable_arc-requires-clause-each
first_pushable_arc-requires-clause-each c k d low =
    let outs = c.out_arcs-outs.result.now in
    let within : c.min.result + k < length outs = omega (arith, low, c.split_at.ensures.back_len) in
    subst (IsArcFrom (flow_graph_model_of c.args.self.now.net (state_of c.args.self.now)) c.args.node)
    (sym (ap (λ xs. get_or xs k d) c.split_at.ensures.back ∙ get_or-drop c.min.result outs k d))
    (c.out_arcs-outs.ensures.each (c.min.result + k) d within)

pub first_pushable_arc-requires-in-None-clause-each : goal.first_pushable_arc-requires-in-None-clause-each
first_pushable_arc-requires-in-None-clause-each c k d low =
    let outs = c.out_arcs-outs.result.now in
    let mid : k < c.min.result = omega (arith, low, c.split_at.ensures.front_len) in
    let within : k < length outs = omega (arith, mid, c.split_at.ensures.back_len) in
    subst (IsArcFrom (flow_graph_model_of c.args.self.now.net (state_of c.args.self.now)) c.args.node)
    (sym (ap (λ xs. get_or xs k d) c.split_at.ensures.front ∙ get_or-take c.min.result outs k d mid))
    (c.out_arcs-outs.ensures.each k d within)

pub returns-in-None-clause-none : goal.returns-in-None-clause-none
returns-in-None-clause-none c none a low leaves =
    let rests = λ (n : ℕ). can_push c.args.self.now.net (state_of c.args.self.now) n ≡ false in
    let both = All-append (λ out. rests (out_arc_number out)) c.split_at.result.0.now c.split_at.result.1.now (c.first_pushable_arc-in-None.ensures.none none) (c.in-None.ensures.none refl) in
    of_number rests c.out_arcs-outs.result.now (subst (All (λ out. rests (out_arc_number out))) (sym c.split_at.ensures.by_index.0) both) a ((c.out_arcs-outs.ensures.arcs a).1 (low, leaves))
