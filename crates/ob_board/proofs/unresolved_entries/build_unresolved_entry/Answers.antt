use Rattle.std.proofs.Common.{ℕ, List, get_or, sym, ◌∙◌, subst}
use Rattle.std.specs.Prelude.{Contains}
use Rattle.std.specs.Str.{IsUtf8}
use Rattle.std.proofs.lemmas.List.Elements.{Contains-get_or}
use Rattle.ob_scan.specs.declared.token.Token.{Token}
use Rattle.ob_scan.specs.Texts.{text_at}
use Rattle.ob_targets.specs.Refers.{unresolved}
use Rattle.ob_board.proofs.Identifiers.{texts_of}
use Rattle.ob_board.proofs.unresolved_entries.build_unresolved_entry.Goals as goal

pub locate_all_unresolved-requires-clause-texts : goal.locate_all_unresolved-requires-clause-texts
locate_all_unresolved-requires-clause-texts g c =
    let (refs, is, output_is) = c.in_ok-numbers.ensures in
    let whole = c.as_slice-2.ensures.value ∙ is in
    let bytes = c.args.source.now.bytes.items in
    let ts = c.args.parts.now.tokens in
    λ k d lt.
    let x = get_or c.as_slice-2.result.now k d in
    let has : Contains (unresolved refs) x = subst (λ (ks : List ℕ). Contains ks x) whole (Contains-get_or c.as_slice-2.result.now k d lt) in
    let text : IsUtf8 (text_at bytes ts x) = texts_of bytes ts refs c.requires.input.is_read.reads.1 output_is.numbers x has in
    subst (λ (bs : List ℕ). IsUtf8 (text_at bs c.as_slice.result.now x)) (sym c.as_slice-bytes.ensures.value) (subst (λ (us : List Token). IsUtf8 (text_at bytes us x)) (sym c.as_slice.ensures) text)
