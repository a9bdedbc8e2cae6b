use Rattle.std.proofs.Common.{◌≡◌, ◌∙◌, ℕ, length, sym, ap, Option}
use Rattle.std.specs.List.{position_or_len}
use Rattle.std.specs.Prelude.{unwrap_or}
use Rattle.texts.specs.Fields.{named}
use Rattle.cut_rules.specs.LineReading.{is_empty_or_comment}
use Rattle.cut_rules.specs.RuleLines.{is_blank}
use Rattle.cut_rules.proofs.LineLaws.{index_or_len, last_by, last_none}
use Rattle.cut_rules.proofs.line.last_name.Goals as goal

pub returns-then-not-is_empty_or_comment : goal.returns-then-not-is_empty_or_comment
returns-then-not-is_empty_or_comment c =
    let fields = c.args.fields.now in
    let end : c.unwrap_or-end.result ≡ position_or_len is_blank fields = c.unwrap_or-end.ensures ∙ ap (λ (o : Option ℕ). unwrap_or o (length fields)) c.blank_index.ensures ∙ index_or_len is_blank fields in
    sym (last_none fields c.unwrap_or-end.result end (ap is_empty_or_comment (sym c.split_at.ensures.back) ∙ sym c.is_empty_or_comment.ensures ∙ c.if-not-is_empty_or_comment.true))

pub returns : goal.returns
returns c =
    let fields = c.args.fields.now in
    let end : c.unwrap_or-end.result ≡ position_or_len is_blank fields = c.unwrap_or-end.ensures ∙ ap (λ (o : Option ℕ). unwrap_or o (length fields)) c.blank_index.ensures ∙ index_or_len is_blank fields in
    c.parse_field_name.ensures ∙ ap named c.split_at.ensures.front ∙ sym (last_by fields c.unwrap_or-end.result end (ap is_empty_or_comment (sym c.split_at.ensures.back) ∙ sym c.is_empty_or_comment.ensures ∙ c.if-not-is_empty_or_comment.false))
