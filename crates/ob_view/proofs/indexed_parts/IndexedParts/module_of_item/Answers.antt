-- The stored index is that of the item's module.
use Rattle.std.proofs.Common.{ℕ, List, Option, refl, sym, ap, ◌∙◌}
use Rattle.std.specs.Prelude.{slice_get}
use Rattle.std.proofs.lemmas.Option.{slice_get_past, slice_get_read}
use Rattle.ob_view.specs.WorldOfParts.{module_by_item, world_of}
use Rattle.ob_view.specs.World.{module_number, module_of_item}
use Rattle.ob_view.proofs.Ascending.{item_home, no_item}
use Rattle.ob_view.proofs.indexed_parts.IndexedParts.module_of_item.Goals as goal

pub returns-in-Some : goal.returns-in-Some
unfolding module_number module_of_item
returns-in-Some c =
    let w = world_of c.args.self.now.parts in
    let kept = c.as_slice.ensures.value ∙ c.args.self.now.imported_modules_exact in
    let external = slice_get_read c.as_slice.result.now _ c.args.item c.in-Some.module_number.now refl c.in-Some.ensures.lookup.3.0 c.in-Some.ensures.lookup.1 in
    item_home (module_by_item w) w.rows.imports c.args.item _ _ (sym external ∙ ap (λ (xs : List (Option ℕ)). slice_get xs c.args.item) kept) refl

pub returns-in-None : goal.returns-in-None
unfolding module_number module_of_item
returns-in-None c =
    let w = world_of c.args.self.now.parts in
    let kept = c.as_slice.ensures.value ∙ c.args.self.now.imported_modules_exact in
    let past = slice_get_past c.as_slice.result.now c.args.item c.in-None.ensures.lookup.3 in
    no_item (module_by_item w) w.rows.imports c.args.item _ (sym past ∙ ap (λ (xs : List (Option ℕ)). slice_get xs c.args.item) kept) refl
