-- The stored symbol string.
use Rattle.std.proofs.Common.{sym, ◌∙◌, subst}
use Rattle.ob_emit.specs.StoredTexts.{AreForeignTexts}
use Rattle.ob_emit.proofs.target_texts.Texts.stored_imported_text.Goals as goal

pub returns-in-Some : goal.returns-in-Some
returns-in-Some c = λ p made.
    let foreign : AreForeignTexts c.args.view.now p c.deref.result.now = subst (AreForeignTexts c.args.view.now p) (sym c.deref.ensures) made.foreign in
    c.borrow_text.ensures ∙ c.in-Some.ensures c.args.view.now p foreign.imported
