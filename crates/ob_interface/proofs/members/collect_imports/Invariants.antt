use Rattle.std.specs.Prelude.{take, map}
use Rattle.ob_interface.specs.Interfaces.{imported_of}
use Rattle.ob_interface.specs.Texts.{IsGrown, AllDecodeTo, import_in}
use Rattle.ob_interface.proofs.members.collect_imports.Given as goal

abbrev pub invariant-loop-i : goal.invariant-loop-i
invariant-loop-i l = record {
  grown : IsGrown l.fn.text.items l.text.items;
  decode : AllDecodeTo import_in l.text.items l.rows.items (map (imported_of l.source.bytes.now l.source.tokens.now) (take l.i l.imports));
}
