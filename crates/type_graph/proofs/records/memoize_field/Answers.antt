use Rattle.std.proofs.Common.{sym, subst}
use Rattle.type_graph.specs.Extending.{IsFieldIn}
use Rattle.type_graph.proofs.Extending.{found_all, found_more}
use Rattle.type_graph.proofs.records.memoize_field.Goals as goal

pub loop-record-preserved : goal.loop-record-preserved
loop-record-preserved g c =
    let shape = g.G.TypeGraph.shape c.args.graph.now in
    let base = g.G.TypeGraph.base_of c.args.graph.now in
    found_more shape base (g.G.TypeGraph.field_of c.args.graph.now) g.G.Record.PartialEq.eq g.met.G.TypeGraph.eq_is_identity c.loop-record.found c.insert.new.self c.record-item.result (record { bytes = c.args.name }) c.args.field c.loop-record.invariant
    c.in_ok-insert.ensures.updates.0
    (subst (λ (r : g.row.G-Record.Denot). IsFieldIn shape base (λ s. g.G.TypeGraph.field_of c.args.graph.now s c.args.name.now) r c.args.field) (sym c.record-item.is)
    (c.requires.checkpoints c.loop-record.record-index c.record-item.result c.loop-record-test.true))

pub returns-in_err-insert : goal.returns-in_err-insert
returns-in_err-insert g c =
    found_all (g.G.TypeGraph.shape c.args.graph.now) (g.G.TypeGraph.base_of c.args.graph.now) (g.G.TypeGraph.field_of c.args.graph.now) g.G.Record.PartialEq.eq g.met.G.TypeGraph.eq_is_identity c.loop-record.found c.insert.new.self
    c.in_err-insert.ensures.err c.loop-record.invariant
