use Rattle.std.specs.Prelude.{take}
use Rattle.std.specs.List.{filter_map}
use Rattle.ob_interface.specs.Interfaces.{declaration_by, module_level_by}
use Rattle.ob_interface.specs.Texts.{IsGrown, AllDecodeTo, declaration_in, type_expr_at}
use Rattle.ob_interface.proofs.members.collect_declarations.Given as goal

abbrev pub invariant-loop-i : goal.invariant-loop-i
invariant-loop-i l = record {
  grown : IsGrown l.fn.text.items l.text.items;
  decode : AllDecodeTo (declaration_in (type_expr_at l.source.bytes.now l.source.tokens.now l.parts)) l.text.items l.rows.items
      (filter_map (λ r. declaration_by l.source.bytes.now l.source.tokens.now l.parts r (module_level_by l.decl_groups r.declared_by)) (take l.i l.declared));
}
