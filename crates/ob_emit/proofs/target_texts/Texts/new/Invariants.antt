use Rattle.ob_emit.specs.StoredTexts.{AreSymbolTexts}
use Rattle.ob_emit.proofs.target_texts.Texts.new.Given as goal

abbrev pub invariant-loop-reference : goal.invariant-loop-reference
invariant-loop-reference l = AreSymbolTexts l.view l.package_name l.texts
