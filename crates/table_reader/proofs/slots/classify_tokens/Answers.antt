use Rattle.std.proofs.Common.{sym, ap, ◌∙◌}
use Rattle.ob_grammar.specs.ParsesAs.{with_remaining}
use Rattle.table_reader.proofs.SoleEnds.{name_then_told}
use Rattle.table_reader.proofs.slots.classify_tokens.Goals as goal

pub returns-else-number-2-clause-sole : goal.returns-else-number-2-clause-sole
returns-else-number-2-clause-sole c ls h left =
    name_then_told c.classify_after_name.result c.in-Some.field-0-0 c.args.tokens.now c.args.input c.in-Some.following c.args.here ls (sym (ap (with_remaining c.args.tokens.now) c.in-Some.is) ∙ c.name_at.ensures.read)
    (λ e. c.if-number.false (c.number.ensures ∙ e ∙ sym c.number-2.ensures)) (λ e. c.if-number-2.false (c.number-in-Some.ensures ∙ e ∙ sym c.number-in-Some-2.ensures)) h left c.classify_after_name.ensures.sole
