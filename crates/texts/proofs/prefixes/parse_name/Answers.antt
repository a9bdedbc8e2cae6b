use Rattle.std.proofs.Common.{◌∙◌, take, ap, sym}
use Rattle.texts.proofs.FieldNames.{name_is_text}
use Rattle.texts.proofs.NamePrefixes.{run_is_name}
use Rattle.texts.proofs.prefixes.parse_name.Goals as goal

pub from_utf8_unchecked-requires : goal.from_utf8_unchecked-requires
from_utf8_unchecked-requires c =
    name_is_text _ (run_is_name c.args.text.now c.split_at.result.0.now _ _ (c.split_at.ensures.front ∙ ap (λ n. take n c.args.text.now) c.alnum_prefix_len.ensures.value)
    c.in_ok-first.ensures.cases.0 (sym c.if-not-is_ascii_alphabetic.ensures.value))

pub returns-clause-name : goal.returns-clause-name
returns-clause-name c =
    let name = run_is_name c.args.text.now c.split_at.result.0.now _ _ (c.split_at.ensures.front ∙ ap (λ n. take n c.args.text.now) c.alnum_prefix_len.ensures.value)
    c.in_ok-first.ensures.cases.0 (sym c.if-not-is_ascii_alphabetic.ensures.value) in
    rw c.from_utf8_unchecked.ensures name
