use Rattle.std.specs.Prelude.{take, map}
use Rattle.ob_interface.specs.Interfaces.{part_of}
use Rattle.ob_interface.specs.Texts.{IsGrown, AllDecodeTo, part_row_in}
use Rattle.ob_interface.proofs.type_exprs.collect_components.Given as goal

abbrev pub invariant-loop-i : goal.invariant-loop-i
invariant-loop-i l = record {
  grown : IsGrown l.fn.text.items l.text.items;
  decode : AllDecodeTo part_row_in l.text.items l.rows.items (map (part_of l.source.bytes.now l.source.tokens.now) (take l.i l.parts));
}
