use Rattle.std.proofs.lemmas.Result.{IfOk-weaker}
use Rattle.std.proofs.Common.{[]}
use Rattle.std.specs.Prelude.{IfNone, IfSome}
use Rattle.type_graph.specs.Extending.{IsFieldIn}
use Rattle.type_graph.specs.Searches.{DenotesField}
use Rattle.type_graph.proofs.Coming.{field_told, no_field_told}
use Rattle.type_graph.proofs.records.find_field_at.Goals as goal

pub returns-in-None-clause-none : goal.returns-in-None-clause-none
returns-in-None-clause-none g c =
    let shape = g.G.TypeGraph.shape c.args.graph.now in
    let base = g.G.TypeGraph.base_of c.args.graph.now in
    let field = λ (r : g.row.G-Record.Denot). g.G.TypeGraph.field_of c.args.graph.now r c.args.name.now in
    no_field_told g.G.Declaration.PartialEq.eq shape (g.met.G.TypeGraph.named c.args.graph.now) field base c.args.from c.in_ok-denoted_record.field-0 c.in-None.is c.in_ok-denoted_record.ensures.is

pub returns-in-Some-clause-found : goal.returns-in-Some-clause-found
returns-in-Some-clause-found g c =
    let shape = g.G.TypeGraph.shape c.args.graph.now in
    let base = g.G.TypeGraph.base_of c.args.graph.now in
    let field = λ (r : g.row.G-Record.Denot). g.G.TypeGraph.field_of c.args.graph.now r c.args.name.now in
    let finds = DenotesField g.G.Declaration.PartialEq.eq shape field base [] c.args.from in
    IfOk-weaker c.find_field_in_record.result (IsFieldIn shape base field c.in-Some.«record») (λ o. IfSome o finds)
    (λ o h. (field_told g.G.Declaration.PartialEq.eq shape (g.met.G.TypeGraph.named c.args.graph.now) field base c.args.from c.in-Some.«record» c.in_ok-denoted_record.field-0 o c.in-Some.is c.in_ok-denoted_record.ensures.is h).0) c.find_field_in_record.ensures.is

pub returns-in-Some-clause-none : goal.returns-in-Some-clause-none
returns-in-Some-clause-none g c =
    let shape = g.G.TypeGraph.shape c.args.graph.now in
    let base = g.G.TypeGraph.base_of c.args.graph.now in
    let field = λ (r : g.row.G-Record.Denot). g.G.TypeGraph.field_of c.args.graph.now r c.args.name.now in
    let finds = DenotesField g.G.Declaration.PartialEq.eq shape field base [] c.args.from in
    IfOk-weaker c.find_field_in_record.result (IsFieldIn shape base field c.in-Some.«record») (λ o. IfNone o ((f : g.row.G-Field.Denot) → finds f → ⊥))
    (λ o h. (field_told g.G.Declaration.PartialEq.eq shape (g.met.G.TypeGraph.named c.args.graph.now) field base c.args.from c.in-Some.«record» c.in_ok-denoted_record.field-0 o c.in-Some.is c.in_ok-denoted_record.ensures.is h).1) c.find_field_in_record.ensures.is
