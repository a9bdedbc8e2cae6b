use Rattle.std.proofs.Common.{◌≡◌, ◌<◌, ◌∙◌, length, sym, ap, Some, arith}
use Rattle.std.specs.Prelude.{slice_get}
use Rattle.std.proofs.lemmas.Option.{slice_get-get_or}
use Rattle.source_tree.proofs.TreeFiles.{parsed_all, parsed_next}
use Rattle.source_tree.proofs.tree_reading.all_graph_inputs.Goals as goal

pub loop-i-preserved : goal.loop-i-preserved
loop-i-preserved c files read =
    let sources = c.args.sources.now in
    let ss = c.args.scopes.now in
    let i = c.loop-i.i in
    let test = c.loop-i-test.true in
    let same = c.requires in
    let within : i < length sources = omega arith in
    let within_scopes : i < length ss = omega arith in
    let source = c.index-sources-i.result in
    let s = c.index-scopes-i.result in
    let at_source : slice_get sources i ≡ Some source = slice_get-get_or sources i source within ∙ ap Some (sym c.index-sources-i.is) in
    let at_scopes : slice_get ss i ≡ Some s = slice_get-get_or ss i s within_scopes ∙ ap Some (sym c.index-scopes-i.is) in
    rw c.in_ok-push.ensures.items
    (parsed_next sources ss files c.loop-i.all.items c.in_ok-graph_input.field-0 i source s read within at_source at_scopes c.in_ok-graph_input.ensures (c.loop-i.invariant files read))

pub returns : goal.returns
returns c files read =
    let test = c.loop-i-test.false in
    let bound = c.loop-i.auto.i-end in
    let end : c.loop-i.i ≡ length c.args.sources.now = omega arith in
    parsed_all c.args.sources.now c.args.scopes.now files c.loop-i.all.items c.loop-i.i read end (c.loop-i.invariant files read)
