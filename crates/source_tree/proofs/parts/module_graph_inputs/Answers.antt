use Rattle.std.proofs.Common.{◌≡◌, ◌<◌, ◌∙◌, length, map, sym, ap, Some, arith}
use Rattle.std.specs.Prelude.{slice_get, option_map}
use Rattle.std.proofs.lemmas.Option.{slice_get-get_or, slice_get-map}
use Rattle.source_tree.proofs.PartsOfFiles.{parts_read}
use Rattle.source_tree.proofs.TreeFiles.{parsed_all, parsed_next}
use Rattle.source_tree.proofs.parts.module_graph_inputs.Goals as goal

pub loop-i-preserved : goal.loop-i-preserved
loop-i-preserved c files are =
    let sources = c.args.sources.now in
    let modules = c.args.modules.now in
    let i = c.loop-i.i in
    let test = c.loop-i-test.true in
    let same = c.requires in
    let within : i < length sources = omega arith in
    let within_modules : i < length modules = omega arith in
    let source = c.index-sources-i.result in
    let parts = c.index-modules-i.result in
    let at_source : slice_get sources i ≡ Some source = slice_get-get_or sources i source within ∙ ap Some (sym c.index-sources-i.is) in
    let at_parts : slice_get modules i ≡ Some parts = slice_get-get_or modules i parts within_modules ∙ ap Some (sym c.index-modules-i.is) in
    let at_scopes = slice_get-map (λ b. b.value.scopes) modules i ∙ ap (option_map (λ b. b.value.scopes)) at_parts in
    let message = rw c.deref.ensures at c.in_ok-graph_input.ensures in
    rw c.in_ok-push.ensures.items
    (parsed_next sources (map (λ b. b.value.scopes) modules) files c.loop-i.all.items c.in_ok-graph_input.field-0 i source parts.value.scopes (parts_read sources files modules are) within at_source at_scopes message (c.loop-i.invariant files are))

pub returns : goal.returns
returns c files are =
    let test = c.loop-i-test.false in
    let bound = c.loop-i.auto.i-end in
    let end : c.loop-i.i ≡ length c.args.sources.now = omega arith in
    parsed_all c.args.sources.now (map (λ b. b.value.scopes) c.args.modules.now) files c.loop-i.all.items c.loop-i.i (parts_read c.args.sources.now files c.args.modules.now are) end (c.loop-i.invariant files are)
