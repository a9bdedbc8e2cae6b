-- The stored symbol string, or a new one.
use Rattle.std.proofs.Common.{◌≡◌, ℕ, List, Option, String, Global, refl, sym, ap, ◌∙◌, subst}
use Rattle.std.specs.Prelude.{IfOk, slice_get}
use Rattle.std.proofs.lemmas.Option.{slice_get_read}
use Rattle.std.specs.Option.{option_map}
use Rattle.std.specs.String.{string_bytes}
use Rattle.ob_emit.specs.StoredTexts.{AreForeignTexts}
use Rattle.ob_emit.proofs.target_texts.Texts.module_text.Goals as goal

pub returns-in-Some : goal.returns-in-Some
returns-in-Some c = λ p made.
    let foreign : AreForeignTexts c.args.view.now p c.deref.result.now = subst (AreForeignTexts c.args.view.now p) (sym c.deref.ensures) made.foreign in
    let at = slice_get_read c.deref-2.result.now _ c.args.item c.in-Some.text.now refl c.in-Some.ensures.lookup.3.0 c.in-Some.ensures.lookup.1 in
    subst (λ (t : Option (List ℕ)). IfOk c.copy_text.result (λ (more : Option (String Global)). option_map string_bytes more ≡ t))
    (foreign.modules c.args.item c.in-Some.text.now (ap (λ (xs : List (Option (String Global))). slice_get xs c.args.item) (sym c.deref-2.ensures.value) ∙ at)) c.copy_text.ensures

pub returns-in-None : goal.returns-in-None
returns-in-None c = λ p made. c.imported_module_text.ensures p made.prefixes
