use Rattle.std.specs.Prelude.{take}
use Rattle.std.specs.List.{filter_map}
use Rattle.ob_interface.specs.Interfaces.{base_by, module_level_by}
use Rattle.ob_interface.specs.Texts.{IsGrown, AllDecodeTo, base_in}
use Rattle.ob_interface.proofs.members.collect_bases.Given as goal

abbrev pub invariant-loop-i : goal.invariant-loop-i
invariant-loop-i l = record {
  grown : IsGrown l.fn.text.items l.text.items;
  decode : AllDecodeTo base_in l.text.items l.rows.items (filter_map (λ r. base_by l.source.bytes.now l.source.tokens.now r (module_level_by l.decl_groups r.owner)) (take l.i l.records));
}
