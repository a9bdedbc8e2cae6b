-- The symbol string at the declaration's index.
use Rattle.std.proofs.Common.{List, Option, String, Global, refl, sym, ap, ◌∙◌}
use Rattle.std.specs.Prelude.{slice_get}
use Rattle.std.specs.Option.{option_and_then, option_map}
use Rattle.std.specs.String.{string_bytes}
use Rattle.std.proofs.lemmas.Option.{slice_get_read}
use Rattle.ob_emit.proofs.Texting.{declared_text}
use Rattle.ob_emit.proofs.target_texts.Texts.stored_declaration_text.Goals as goal

pub returns-in-Some-get : goal.returns-in-Some-get
returns-in-Some-get c = λ p made.
    let all = c.args.self.now.declared.items in
    let text = c.in-Some-get.text.now in
    let at = c.in-Some.at in
    let there = ap (option_and_then (option_map string_bytes)) (sym (slice_get_read c.deref.result.now _ at text refl c.in-Some-get.ensures.lookup.3.0 c.in-Some-get.ensures.lookup.1) ∙ ap (λ (xs : List (Option (String Global))). slice_get xs at) c.deref.ensures.value) in
    c.borrow_text.ensures ∙ there ∙ declared_text c.args.view.now p c.args.number at c.args.self.now.locations.declared.now c.index_by_hint.result all made.declared made.locations c.index_by_hint.ensures c.in-Some.is
