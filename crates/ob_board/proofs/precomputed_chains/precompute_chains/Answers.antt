use Rattle.std.proofs.Common.{◌≡◌, ◌<◌, length, map, Some, sym, ap, ◌∙◌, subst, arith}
use Rattle.std.specs.Arc.{arc_value}
use Rattle.std.specs.Prelude.{slice_get}
use Rattle.std.proofs.lemmas.List.Sorted.{length_permutation}
use Rattle.std.proofs.lemmas.Option.{slice_get_read, IfSome_then}
use Rattle.std.proofs.lemmas.Result.{IfOk-weaker}
use Rattle.ob_scan.specs.Spelling.{AreInText}
use Rattle.ob_view.specs.World.{World}
use Rattle.source_tree.specs.declared.parts.ModuleParts.{ModuleParts}
use Rattle.ob_board.specs.PrecomputedChains.{AreAllByName}
use Rattle.ob_board.specs.Entries.{interfaces_of}
use Rattle.ob_board.proofs.AtHand.{few_modules}
use Rattle.ob_board.proofs.Within.{all_by_name}
use Rattle.ob_board.proofs.precomputed_chains.precompute_chains.Goals as goal
use Rattle.ob_board.proofs.precomputed_chains.precompute_chains.Goals.{After-sort_by_name}

pub types_with_interfaces-requires-clause-in_text : goal.types_with_interfaces-requires-clause-in_text
types_with_interfaces-requires-clause-in_text c =
    let sources = c.args.sources.now in
    let modules = c.args.modules.now in
    let place = c.shortest_source-place.result in
    let source = c.index-sources-place.result in
    let parts = c.index-modules-place.result in
    let many : length modules ≡ length sources = c.requires.1.as_many in
    let within : place < length sources = c.shortest_source-place.ensures in
    let here : slice_get sources place ≡ Some source = slice_get_read sources (length sources) place source (omega arith) within c.index-sources-place.is in
    let there : slice_get modules place ≡ Some parts = slice_get_read modules (length modules) place parts (omega arith) (omega (arith, many, within)) c.index-modules-place.is in
    let read = c.requires.1.each place source parts here there in
    subst (λ (p : ModuleParts). AreInText source.bytes.items p.tokens) (sym c.deref.ensures) (c.tokens_in_text.ensures source.bytes.items (parts.value).tokens read.reads.1)

by_name : (c : After-sort_by_name) → AreAllByName (interfaces_of c.args.modules.now) (map arc_value c.sort_by_name.new.all.items)
by_name c =
    all_by_name c.args.sources.now c.args.modules.now c.requires.0 c.requires.1 c.in_ok-all.all.items c.sort_by_name.new.all.items c.in_ok-all.ensures c.sort_by_name.ensures.same c.sort_by_name.ensures.sorted

pub types_with_interfaces-requires-clause-few : goal.types_with_interfaces-requires-clause-few
types_with_interfaces-requires-clause-few c =
    let modules = c.args.modules.now in
    let all = by_name (goal.at.types_with_interfaces-requires-clause-few c).After-sort_by_name in
    rw c.as_slice.ensures.value
    (omega (arith, few_modules c.args.sources.now modules c.requires.0 c.requires.1, length_permutation (interfaces_of modules) (map arc_value c.sort_by_name.new.all.items) all.same))

pub types_with_interfaces-requires-clause-by_name : goal.types_with_interfaces-requires-clause-by_name
types_with_interfaces-requires-clause-by_name c = rw c.as_slice.ensures.value (by_name (goal.at.types_with_interfaces-requires-clause-by_name c).After-sort_by_name).by_name

pub returns : goal.returns
returns c =
    let all = by_name (goal.at.returns c).After-sort_by_name in
    let reached = ap (λ (w : World). w.reached) c.in_ok-types.ensures ∙ ap (map arc_value) c.as_slice.ensures.value in
    IfOk-weaker c.precompute_types.result _ _
    (λ outcome some. IfSome_then outcome some (λ s is. subst (AreAllByName (interfaces_of c.args.modules.now)) (sym (is ∙ reached)) all)) c.precompute_types.ensures
