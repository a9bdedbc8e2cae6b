use Rattle.std.proofs.Common.{◌∙◌, List, ℕ, Some, ap, sym}
use Rattle.cut_rules.proofs.LineLaws.{text_again, text_none}
use Rattle.cut_rules.proofs.line.utf8_text.Goals as goal

pub returns-in-Ok : goal.returns-in-Ok
returns-in-Ok c =
    let is = c.in-Ok.ensures.cases in
    ap (λ (t : List ℕ). Some t) is.0 ∙ sym (text_again c.args.bytes.now is.1)

pub returns-in-Err : goal.returns-in-Err
returns-in-Err c = sym (text_none c.args.bytes.now c.in-Err.ensures.cases.0)
