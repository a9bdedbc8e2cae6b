use Rattle.std.proofs.Common.{◌≡◌, ℕ, List, length}
use Rattle.ob_emit.specs.StoredTexts.{ArePrefixes, AreModuleTexts}
use Rattle.ob_emit.proofs.foreign_texts.module_texts.Given as goal

abbrev pub invariant-loop-item : goal.invariant-loop-item
invariant-loop-item l = record {
  long : length l.texts.items ≡ l.item;
  each : (p : List ℕ) → ArePrefixes p l.prefixes → AreModuleTexts l.view p l.texts.items;
}
