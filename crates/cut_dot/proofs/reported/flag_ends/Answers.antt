use Rattle.std.proofs.Common.{List, get_or, set, subst, true, ◌∙◌, arith}
use Rattle.std.proofs.lemmas.List.{length-set, take_all}
use Rattle.cut_net.specs.declared.priced.Priced.{Priced}
use Rattle.cut_net.specs.Network.{missing_item}
use Rattle.cut_net.specs.Cuts.{IsSetOf}
use Rattle.cut_part.proofs.Adding.{from_in, to_in}
use Rattle.residual_graph.specs.Graphs.{is_flagged}
use Rattle.cut_dot.specs.Pictures.{IsImportEnd}
use Rattle.cut_dot.proofs.Ends.{one_more_at_end}
use Rattle.cut_dot.proofs.reported.flag_ends.Goals as goal

pub index_mut-requires : goal.index_mut-requires
index_mut-requires c =
    let below = from_in c.args.imports.now c.args.modules c.loop-import.import-index c.requires c.loop-import-test.true in
    let size = c.loop-import.invariant.size in
    let long = c.loop-import.marks.ok.0 in
    omega arith

pub index_mut-requires-in-loop-import : goal.index_mut-requires-in-loop-import
index_mut-requires-in-loop-import c =
    let below = to_in c.args.imports.now c.args.modules c.loop-import.import-index c.requires c.loop-import-test.true in
    let size = c.loop-import.invariant.size in
    let long = c.loop-import.marks.ok.0 in
    omega arith

pub loop-import-preserved : goal.loop-import-preserved
loop-import-preserved c =
    let imports = c.args.imports.now in
    let k = c.loop-import.import-index in
    let marks = c.loop-import.marks.items in
    let in_k = c.loop-import-test.true in
    let size = c.loop-import.invariant.size in
    let from_low = from_in imports c.args.modules k c.requires in_k in
    let to_low = to_in imports c.args.modules k c.requires in_k in
    record {
      size = length-set (set marks (get_or imports k missing_item).from true) (get_or imports k missing_item).to true ∙ length-set marks (get_or imports k missing_item).from true ∙ size;
      ends = one_more_at_end imports k missing_item marks in_k (omega arith) (omega arith) c.loop-import.invariant.ends;
    }

pub returns-clause-ends : goal.returns-clause-ends
returns-clause-ends c = subst (λ (v : List Priced). IsSetOf (is_flagged c.loop-import.marks.items) (IsImportEnd v)) (take_all c.loop-import.import-index c.args.imports.now (let past = c.loop-import-test.false in omega arith)) c.loop-import.invariant.ends
