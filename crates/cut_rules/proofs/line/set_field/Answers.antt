use Rattle.std.proofs.Common.{◌≡◌, ◌∙◌, ℕ, List, Option, Some, None, length, take, ap}
use Rattle.std.specs.Prelude.{unwrap_or}
use Rattle.std.specs.List.{position_or_len}
use Rattle.texts.proofs.FieldCuts.{some_is}
use Rattle.cut_rules.specs.RuleLines.{is_blank}
use Rattle.cut_rules.proofs.LineLaws.{index_or_len, set_field_is}
use Rattle.cut_rules.proofs.line.set_field.Goals as goal

pub returns-in_err-fields : goal.returns-in_err-fields
returns-in_err-fields c s is =
    let (parts, cut, e) = set_field_is c.args.piece.now s is in
    let bad : None ≡ Some parts = c.in_err-fields.ensures ∙ cut in
    cc

pub returns : goal.returns
returns c s is =
    let (parts, cut, e) = set_field_is c.args.piece.now s is in
    let fields = c.in_ok-fields.fields.now in
    let same = some_is (c.in_ok-fields.field-0-0.now, fields) parts (c.in_ok-fields.ensures ∙ cut) in
    let second : fields ≡ parts.1 = ap (λ (p : List ℕ × List ℕ). p.1) same in
    let end : c.unwrap_or-end.result ≡ position_or_len is_blank fields = c.unwrap_or-end.ensures ∙ ap (λ (o : Option ℕ). unwrap_or o (length fields)) c.blank_index.ensures ∙ index_or_len is_blank fields in
    ap (λ (t : List ℕ). Some t) (ap (λ (n : ℕ). take n fields) end ∙ ap (λ (fs : List ℕ). take (position_or_len is_blank fs) fs) second ∙ e)
