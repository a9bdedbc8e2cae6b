use Rattle.std.proofs.Common.{◌<◌, ℕ, List, ◌∙◌, ap, length, arith}
use Rattle.std.proofs.lemmas.List.{get_or_read}
use Rattle.cut_preflow.specs.declared.ends.FlowEnds.{FlowEnds}
use Rattle.cut_net.specs.declared.priced.Priced.{Priced}
use Rattle.cut_preflow.specs.declared.event.Event.{Event}
use Rattle.cut_preflow.specs.Preflow.{label_at}
use Rattle.cut_preflow.specs.Trace.{flow_network, state_of, IsTrace, IsSound}
use Rattle.cut_preflow.proofs.Histories.{played_sound, played_state}
use Rattle.cut_preflow.proofs.preflow_core.PreflowCore.label.Goals as goal

sound : (ends : FlowEnds) (imports : List Priced) (flows labels : List ℕ) (history : List Event) → IsTrace (flow_network ends imports) flows labels history → IsSound (flow_network ends imports) (record { flow = flows; label = labels })
sound ends imports flows labels history p = played_sound (flow_network ends imports) (record { flow = flows; label = labels }) history p

pub index-requires : goal.index-requires
index-requires c =
    let size = ap (λ p. p.net.nodes) c.self.view_is in
    omega (arith, c.requires, size, (sound c.self.inside.ends c.self.inside.graph.imports c.self.inside.graph.flow c.self.inside.labels.items c.self.inside.history.items c.self.invariant.0).kept.labels, c.self.inside.labels.ok.0)

pub returns-clause-value : goal.returns-clause-value
returns-clause-value c =
    let size = ap (λ p. p.net.nodes) c.self.view_is in
    let within : c.args.node < length c.self.inside.labels.items = omega (arith, c.requires, size, (sound c.self.inside.ends c.self.inside.graph.imports c.self.inside.graph.flow c.self.inside.labels.items c.self.inside.history.items c.self.invariant.0).kept.labels) in
    get_or_read c.self.inside.labels.items c.args.node c.index.result.now within c.index.ensures 0
    ∙ ap (λ t. label_at t c.args.node) (played_state (flow_network c.self.inside.ends c.self.inside.graph.imports) (record { flow = c.self.inside.graph.flow; label = c.self.inside.labels.items }) c.self.inside.history.items c.self.invariant.0)
    ∙ ap (λ p. label_at (state_of p) c.args.node) c.self.view_is

pub returns-clause-low : goal.returns-clause-low
returns-clause-low c =
    let size = ap (λ p. p.net.nodes) c.self.view_is in
    let within : c.args.node < length c.self.inside.labels.items = omega (arith, c.requires, size, (sound c.self.inside.ends c.self.inside.graph.imports c.self.inside.graph.flow c.self.inside.labels.items c.self.inside.history.items c.self.invariant.0).kept.labels) in
    omega (arith, get_or_read c.self.inside.labels.items c.args.node c.index.result.now within c.index.ensures 0, (sound c.self.inside.ends c.self.inside.graph.imports c.self.inside.graph.flow c.self.inside.labels.items c.self.inside.history.items c.self.invariant.0).kept.low c.args.node (omega (arith, c.requires, size)), ap (λ p. p.net.nodes) c.self.view_is)
