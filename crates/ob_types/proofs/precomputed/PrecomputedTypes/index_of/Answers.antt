use Rattle.std.proofs.Common.{ap, ◌∙◌, ◌≡◌, Some}
use Rattle.std.specs.Arc.{arc_value}
use Rattle.std.specs.Option.{option_map}
use Rattle.std.specs.Prelude.{slice_get}
use Rattle.std.proofs.lemmas.Option.{slice_get-get_or, slice_get-map}
use Rattle.ob_types.proofs.Lending.{place_told}
use Rattle.ob_types.proofs.precomputed.PrecomputedTypes.index_of.Goals as goal

pub returns : goal.returns
returns c = λ v same.
    (let clone_interfaces : slice_get c.as_slice.result.now c.args.number ≡ Some c.in_ok-module.module.now = rw (← c.in_ok-module.ensures.lookup.1) at (slice_get-get_or c.as_slice.result.now c.args.number c.in_ok-module.module.now c.in_ok-module.ensures.lookup.3.0) in
    let found = slice_get-map arc_value c.as_slice.result.now c.args.number ∙ ap (option_map arc_value) clone_interfaces in
    let at : slice_get c.args.self.now c.args.number ≡ Some c.deref.result.now = rw (c.as_slice.ensures.value, c.self.view_is, ← c.deref.ensures) at found in
    place_told c.args.here.now.view v c.args.self.now same c.requires c.args.number c.deref.result.now c.name.result.now c.module_number_by_name.result at c.name.ensures c.module_number_by_name.ensures)
