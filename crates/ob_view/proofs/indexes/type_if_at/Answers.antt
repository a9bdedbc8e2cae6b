use Rattle.std.proofs.Common.{refl}
use Rattle.std.proofs.lemmas.Option.{slice_get_read}
use Rattle.module_table.specs.declared.rows.TypePart.{TypePart}
use Rattle.ob_view.proofs.Firsts.{placed_first}
use Rattle.ob_view.proofs.indexes.type_if_at.Goals as goal

pub returns-then-begins_type_expr : goal.returns-then-begins_type_expr
returns-then-begins_type_expr c =
    let external = slice_get_read c.args.parts.now _ c.args.at c.in_ok-part.part.now refl c.in_ok-part.ensures.lookup.3.0 c.in_ok-part.ensures.lookup.1 in
    placed_first (λ (p : TypePart). p.declared_by) c.args.parts.now c.args.first c.args.at c.in_ok-part.part.now external c.if-part-first.true (c.begins_type_expr.ensures c.if-begins_type_expr.true)
