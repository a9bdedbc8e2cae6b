-- The stored symbol string, or a new one.
use Rattle.std.proofs.Common.{◌≡◌, ℕ, List, Option, String, Global, sym, ◌∙◌, subst}
use Rattle.std.specs.Prelude.{IfOk}
use Rattle.std.specs.Option.{option_map}
use Rattle.std.specs.String.{string_bytes}
use Rattle.ob_emit.specs.StoredTexts.{AreForeignTexts}
use Rattle.ob_emit.proofs.target_texts.Texts.external_text.Goals as goal

pub returns-in-Some : goal.returns-in-Some
returns-in-Some c = λ p made.
    let foreign : AreForeignTexts c.args.view.now p c.deref.result.now = subst (AreForeignTexts c.args.view.now p) (sym c.deref.ensures) made.foreign in
    subst (λ (t : Option (List ℕ)). IfOk c.copy_text.result (λ (more : Option (String Global)). option_map string_bytes more ≡ t))
    (foreign.names (c.args.item, c.args.name) c.in-Some.text.now (sym c.in-Some.ensures.value)) c.copy_text.ensures

pub returns-in-None : goal.returns-in-None
returns-in-None c = λ p made. c.external_text.ensures (c.as_str.ensures.value ∙ made.prefixes.outside)
