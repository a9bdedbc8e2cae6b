-- The symbol string at the declaration's index.
use Rattle.std.proofs.Common.{◌≡◌, ℕ, List, Option, String, Global, refl, sym, ap, ◌∙◌, subst}
use Rattle.std.specs.Prelude.{IfOk, slice_get}
use Rattle.std.specs.Option.{option_and_then, option_map}
use Rattle.std.specs.String.{string_bytes}
use Rattle.std.proofs.lemmas.Option.{slice_get_past, slice_get_read}
use Rattle.ob_emit.proofs.Texting.{declared_text}
use Rattle.ob_emit.proofs.target_texts.Texts.declared_text.Goals as goal

pub returns-in-Some-get : goal.returns-in-Some-get
returns-in-Some-get c = λ p made.
    let all = c.args.self.now.declared.items in
    let text = c.in-Some-get.text.now in
    let at = c.in-Some.at in
    let there = ap (option_and_then (option_map string_bytes)) (sym (slice_get_read c.deref.result.now _ at text refl c.in-Some-get.ensures.lookup.3.0 c.in-Some-get.ensures.lookup.1) ∙ ap (λ (xs : List (Option (String Global))). slice_get xs at) c.deref.ensures.value) in
    let is = declared_text c.args.view.now p c.args.number at c.args.self.now.locations.declared.now c.index_of.result all made.declared made.locations c.index_of.ensures c.in-Some.is in
    subst (λ (t : Option (List ℕ)). IfOk c.copy_text.result (λ (more : Option (String Global)). option_map string_bytes more ≡ t)) (there ∙ is) c.copy_text.ensures

pub returns-in-None : goal.returns-in-None
returns-in-None c = λ p made.
    let all = c.args.self.now.declared.items in
    let at = c.in-Some.at in
    let there = ap (option_and_then (option_map string_bytes)) (sym (slice_get_past c.deref.result.now at c.in-None.ensures.lookup.3) ∙ ap (λ (xs : List (Option (String Global))). slice_get xs at) c.deref.ensures.value) in
    there ∙ declared_text c.args.view.now p c.args.number at c.args.self.now.locations.declared.now c.index_of.result all made.declared made.locations c.index_of.ensures c.in-Some.is
