use Rattle.std.proofs.Common.{◌<◌, ◌^◌, Option, arith, subst}
use Rattle.std.specs.Prelude.{IfSome}
use Rattle.type_graph.specs.Progress.{progress}
use Rattle.type_graph.proofs.Extending.{climbs_nowhere, ends_here, progresses, known_here}
use Rattle.type_graph.proofs.records.field_of.Goals as goal

pub records-init : goal.records-init
records-init g c =
    let shape = g.G.TypeGraph.shape c.args.graph.now in
    let base = g.G.TypeGraph.base_of c.args.graph.now in
    let field = λ (r : g.row.G-Record.Denot). g.G.TypeGraph.field_of c.args.graph.now r c.args.name.now in
    record { cache = record { parents = c.requires.cache.parents; paths = c.requires.cache.paths; fields = c.requires.cache.fields }; climbs = climbs_nowhere shape base field g.G.Record.PartialEq.eq g.met.G.TypeGraph.eq_is_identity c.args.from c.args.detector.now.checkpoints.items c.requires.none_passed }

pub returns-in-Some-clause-fields : goal.returns-in-Some-clause-fields
returns-in-Some-clause-fields g c =
    let shape = g.G.TypeGraph.shape c.args.graph.now in
    let base = g.G.TypeGraph.base_of c.args.graph.now in
    let field = λ (r : g.row.G-Record.Denot). g.G.TypeGraph.field_of c.args.graph.now r c.args.name.now in
    known_here shape base field g.G.Record.PartialEq.eq g.met.G.TypeGraph.eq_is_identity c.args.from c.records.«record» c.records.detector.checkpoints.items c.own_or_memoized_field.result c.in-Some.field c.in-Some.is c.own_or_memoized_field.ensures.some
    c.records.invariant.climbs

pub returns-in-None-clause-fields : goal.returns-in-None-clause-fields
returns-in-None-clause-fields g c =
    let shape = g.G.TypeGraph.shape c.args.graph.now in
    let base = g.G.TypeGraph.base_of c.args.graph.now in
    let field = λ (r : g.row.G-Record.Denot). g.G.TypeGraph.field_of c.args.graph.now r c.args.name.now in
    ends_here shape base field g.G.Record.PartialEq.eq g.met.G.TypeGraph.eq_is_identity c.args.from c.records.«record» c.records.detector.checkpoints.items c.climb_to_ancestor.new.detector.checkpoints.items c.in_ok-climb_to_ancestor.field-0 c.in-None.is c.in_ok-climb_to_ancestor.ensures.next
    c.records.invariant.climbs

pub records-preserved : goal.records-preserved
records-preserved g c =
    let shape = g.G.TypeGraph.shape c.args.graph.now in
    let base = g.G.TypeGraph.base_of c.args.graph.now in
    let field = λ (r : g.row.G-Record.Denot). g.G.TypeGraph.field_of c.args.graph.now r c.args.name.now in
    record {
      cache = c.in_ok-climb_to_ancestor.ensures.cache;
      climbs = progresses shape base field g.G.Record.PartialEq.eq g.met.G.TypeGraph.eq_is_identity c.args.from c.records.«record» c.in-Some-2.parent c.records.detector.checkpoints.items c.climb_to_ancestor.new.detector.checkpoints.items
          c.in_ok-climb_to_ancestor.field-0 c.in-Some-2.is c.in_ok-climb_to_ancestor.ensures.next c.records.invariant.climbs;
    }

pub records-smaller : goal.records-smaller
records-smaller g c =
    let more = subst (λ (o : Option g.row.G-Record.Denot). IfSome o (λ _. (progress c.records.detector < progress c.climb_to_ancestor.new.detector) × (progress c.climb_to_ancestor.new.detector < 2 ^ 65))) c.in-Some-2.is c.in_ok-climb_to_ancestor.ensures.visited in
    omega (arith, more.0, more.1)
