use Rattle.std.proofs.Common.{[], ap, sym, ◌∙◌}
use Rattle.std.specs.String.{string_bytes}
use Rattle.std.proofs.lemmas.List.{get_or-map}
use Rattle.std.proofs.lemmas.Slice.Eq.{bytes_eq-Decides}
use Rattle.cut_net.proofs.numbering.number_by_guess.Goals as goal

pub returns-then-eq-clause-place : goal.returns-then-eq-clause-place
returns-then-eq-clause-place c =
    let kept = c.index-names-cached_index.result in
    get_or-map string_bytes c.args.names.now c.args.cached_index kept [] c.if-cached_index-names.true ∙ ap string_bytes (sym c.index-names-cached_index.is) ∙ sym c.as_str.ensures.value ∙ (bytes_eq-Decides _ _).0 (sym c.eq.ensures ∙ c.if-eq.true)
