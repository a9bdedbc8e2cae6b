use Rattle.std.proofs.Common.{refl}
use Rattle.std.proofs.lemmas.Option.{slice_get_read}
use Rattle.module_table.specs.declared.rows.DeclGroup.{DeclGroup}
use Rattle.ob_view.proofs.Firsts.{found_here}
use Rattle.ob_view.proofs.indexes.decl_group_if_at.Goals as goal

pub returns-then-row-first : goal.returns-then-row-first
returns-then-row-first c =
    let external = slice_get_read c.args.rows.now _ c.args.at c.in_ok-row.row.now refl c.in_ok-row.ensures.lookup.3.0 c.in_ok-row.ensures.lookup.1 in
    found_here (λ (r : DeclGroup). r.first) c.args.rows.now c.args.first c.requires c.in_ok-row.row.now c.args.at external c.if-row-first.true
