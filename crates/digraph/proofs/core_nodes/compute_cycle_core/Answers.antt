-- Initially all nodes are candidates; then nodes are removed until the cycle core is left.
use Rattle.std.proofs.Common.{arith}
use Rattle.digraph.specs.Marks.{edge_at, index_at}
use Rattle.digraph.proofs.Settling.{settling_first, settled_leads, settled_next}
use Rattle.digraph.proofs.core_nodes.compute_cycle_core.Goals as goal

pub prune-requires-clause-begun : goal.prune-requires-clause-begun
prune-requires-clause-begun c again all =
    let full = c.in_ok-marks.ensures.items_if_clones_equal (λ y e. e) in
    let ok = c.in_ok-marks.marks.ok in
    let len = c.in_ok-marks.ensures.len in
    settling_first c.args.edges.now c.args.nodes c.in_ok-marks.marks.items c.in_ok-places.places.items again c.requires.between full (omega arith) c.in_ok-places.ensures all

pub returns-clause-core_nodes : goal.returns-clause-core_nodes
returns-clause-core_nodes c =
    let edges = c.args.edges.now in
    let core_nodes = c.prune.new.self in
    let places = core_nodes.places.items in
    record {
      each = λ v on.
          let next = settled_next edges c.args.nodes core_nodes.marks.items places c.requires.ascending c.in_ok-prune.ensures v on in
          ((edge_at edges (index_at places v)).to, next.leads, next.member);
      greatest = c.in_ok-prune.ensures.greatest;
    }

pub returns-clause-size : goal.returns-clause-size
returns-clause-size c =
    let ok = c.prune.new.self.marks.ok in
    let size = c.in_ok-prune.ensures.size in
    omega arith

pub returns-clause-placed : goal.returns-clause-placed
returns-clause-placed c =
    let ok = c.prune.new.self.places.ok in
    let placed = c.in_ok-prune.ensures.placed in
    omega arith

pub returns-clause-within : goal.returns-clause-within
returns-clause-within c v on = (settled_leads c.args.edges.now c.args.nodes c.prune.new.self.marks.items c.prune.new.self.places.items c.in_ok-prune.ensures v on).within

pub returns-clause-next : goal.returns-clause-next
returns-clause-next c = settled_next c.args.edges.now c.args.nodes c.prune.new.self.marks.items c.prune.new.self.places.items c.requires.ascending c.in_ok-prune.ensures
