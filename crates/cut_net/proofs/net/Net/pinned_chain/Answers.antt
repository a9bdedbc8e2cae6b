-- The edges are those of the pinned imports.
use Rattle.std.proofs.Common.{◌≡◌, ◌∙◌, List, length, map, ap, subst}
use Rattle.std.proofs.lemmas.Option.{IfSome_then}
use Rattle.std.proofs.lemmas.Result.{IfOk-weaker}
use Rattle.digraph.specs.declared.edge.Edge.{Edge}
use Rattle.digraph.specs.Chains.{Chain}
use Rattle.digraph.specs.Edges as edges
use Rattle.digraph.specs.ShortestPaths.{IsLeastChain}
use Rattle.cut_net.specs.Lines.{edge_of}
use Rattle.cut_net.proofs.Cycles.{pairs_ascend, pairs_between, IfNone_then}
use Rattle.cut_net.proofs.PinChains.{least_of_pins, no_pin_chain, pins_between}
use Rattle.cut_net.proofs.net.Net.pinned_chain.Goals as goal

pub shortest_path-requires-clause-between : goal.shortest_path-requires-clause-between
shortest_path-requires-clause-between c =
    rw (c.as_slice.ensures.value, c.in_ok-pairs.ensures, c.pins.ensures, c.nodes.ensures)
    (pairs_between c.args.self.now.pins (length c.args.self.now.names) (pins_between c.args.self.now (length c.args.self.now.names) c.invariants.ensures.network.between c.invariants.ensures.pins))

pub shortest_path-requires-clause-ascending : goal.shortest_path-requires-clause-ascending
shortest_path-requires-clause-ascending c =
    rw (c.as_slice.ensures.value, c.in_ok-pairs.ensures, c.pins.ensures) (pairs_ascend c.args.self.now.pins c.invariants.ensures.pins.in_order.ascending)

pub returns-clause-found : goal.returns-clause-found
returns-clause-found c =
    let net = c.args.self.now in
    let pairs : c.as_slice.result.now ≡ map edge_of net.pins = c.as_slice.ensures.value ∙ c.in_ok-pairs.ensures ∙ ap (map edge_of) c.pins.ensures in
    IfOk-weaker c.shortest_path.result _ _
    (λ answer h. IfSome_then answer h (λ chain is. least_of_pins net c.invariants.ensures.pins c.args.from c.args.to chain.items
    (subst (λ (es : List Edge). IsLeastChain (edges.Leads es) c.args.from c.args.to chain.items) pairs is))) c.shortest_path.ensures.found

pub returns-clause-none : goal.returns-clause-none
returns-clause-none c =
    let net = c.args.self.now in
    let pairs : c.as_slice.result.now ≡ map edge_of net.pins = c.as_slice.ensures.value ∙ c.in_ok-pairs.ensures ∙ ap (map edge_of) c.pins.ensures in
    IfOk-weaker c.shortest_path.result _ _
    (λ answer. IfNone_then answer (λ none. no_pin_chain net c.invariants.ensures.pins c.args.from c.args.to
    (subst (λ (es : List Edge). Chain (edges.Leads es) c.args.from c.args.to → ⊥) pairs none))) c.shortest_path.ensures.none
