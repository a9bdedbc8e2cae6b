use Rattle.std.proofs.Common.{◌∙◌, sym, ap}
use Rattle.std.specs.Prelude.{option_map}
use Rattle.cut_rules.proofs.LineLaws.{no_kind, rule_by}
use Rattle.cut_rules.proofs.line.parse_rule_names.Goals as goal

pub returns-in_err-kind_of : goal.returns-in_err-kind_of
returns-in_err-kind_of c =
    ap (option_map _) c.from_residual-in_err-kind_of.ensures
    ∙ sym (rule_by c.args.piece.now c.in_ok-word.word.now c.in_ok-word.fields.now (sym c.in_ok-word.ensures) ∙ no_kind c.in_ok-word.word.now c.in_ok-word.fields.now (sym c.kind_of.ensures ∙ c.in_err-kind_of.was))
