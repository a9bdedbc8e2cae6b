-- One table has one more symbol string.
use Rattle.std.proofs.Common.{◌∙◌}
use Rattle.std.proofs.lemmas.Result.{on_ok_weaker}
use Rattle.ob_emit.proofs.foreign_texts.ForeignTexts.intern.Goals as goal

pub returns-in-Imported : goal.returns-in-Imported
returns-in-Imported c = λ p prefixes before.
    on_ok_weaker c.intern.result (λ more. record { imported = more; modules = before.modules; names = before.names })
    (c.intern.ensures p (c.as_str.ensures.value ∙ prefixes.tree) before.imported)
