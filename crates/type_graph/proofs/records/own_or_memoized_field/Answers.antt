use Rattle.std.proofs.Common.{Option, sym, subst}
use Rattle.std.specs.Prelude.{IfSome}
use Rattle.type_graph.specs.Extending.{IsFieldIn}
use Rattle.type_graph.proofs.Extending.{kept_is, own_is}
use Rattle.type_graph.proofs.records.own_or_memoized_field.Goals as goal

pub returns-in-Some-clause-some : goal.returns-in-Some-clause-some
returns-in-Some-clause-some g c =
    let field = λ (r : g.row.G-Record.Denot). g.G.TypeGraph.field_of c.args.graph.now r c.args.name.now in
    own_is (g.G.TypeGraph.shape c.args.graph.now) (g.G.TypeGraph.base_of c.args.graph.now) field c.args.«record» c.in-Some.field c.field.result c.field.ensures c.in-Some.is

pub returns-then-is_memoized-clause-some : goal.returns-then-is_memoized-clause-some
returns-then-is_memoized-clause-some g c =
    let shape = g.G.TypeGraph.shape c.args.graph.now in
    let base = g.G.TypeGraph.base_of c.args.graph.now in
    let field = λ (r : g.row.G-Record.Denot). g.G.TypeGraph.field_of c.args.graph.now r c.args.name.now in
    subst (λ (o : Option (Option g.row.G-Field.Denot)). IfSome o (IsFieldIn shape base field c.args.«record»)) (sym c.copied.ensures)
    (kept_is shape base (g.G.TypeGraph.field_of c.args.graph.now) g.G.Record.PartialEq.eq g.met.G.TypeGraph.eq_is_identity c.args.found.now c.args.«record» (record { bytes = c.args.name }) c.get.result c.requires c.get.ensures.value)
