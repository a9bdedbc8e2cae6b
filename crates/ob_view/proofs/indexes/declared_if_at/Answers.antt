use Rattle.std.proofs.Common.{refl}
use Rattle.std.proofs.lemmas.Option.{slice_get_read}
use Rattle.module_table.specs.declared.rows.Declared.{Declared}
use Rattle.ob_view.proofs.Firsts.{found_here}
use Rattle.ob_view.proofs.indexes.declared_if_at.Goals as goal

pub returns-then-row-number : goal.returns-then-row-number
returns-then-row-number c =
    let external = slice_get_read c.args.rows.now _ c.args.at c.in_ok-row.row.now refl c.in_ok-row.ensures.lookup.3.0 c.in_ok-row.ensures.lookup.1 in
    found_here (λ (r : Declared). r.number) c.args.rows.now c.args.number c.requires c.in_ok-row.row.now c.args.at external c.if-row-number.true
