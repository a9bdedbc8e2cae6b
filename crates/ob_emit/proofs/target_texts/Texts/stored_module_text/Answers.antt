-- The symbol string at the item's index.
use Rattle.std.proofs.Common.{List, Option, String, Global, refl, sym, ap, ◌∙◌, subst}
use Rattle.std.specs.Prelude.{slice_get}
use Rattle.std.proofs.lemmas.Option.{slice_get_read}
use Rattle.ob_emit.specs.StoredTexts.{AreForeignTexts}
use Rattle.ob_emit.proofs.target_texts.Texts.stored_module_text.Goals as goal

pub returns-in-Some : goal.returns-in-Some
returns-in-Some c = λ p made.
    let foreign : AreForeignTexts c.args.view.now p c.deref.result.now = subst (AreForeignTexts c.args.view.now p) (sym c.deref.ensures) made.foreign in
    let at = slice_get_read c.deref-2.result.now _ c.args.item c.in-Some.text.now refl c.in-Some.ensures.lookup.3.0 c.in-Some.ensures.lookup.1 in
    c.borrow_text.ensures ∙ foreign.modules c.args.item c.in-Some.text.now (ap (λ (xs : List (Option (String Global))). slice_get xs c.args.item) (sym c.deref-2.ensures.value) ∙ at)
