use Rattle.std.proofs.Common.{sym, ap, ◌∙◌}
use Rattle.ob_scan.specs.declared.kind.Kind.TheVariants as kinds
use Rattle.ob_grammar.specs.ParsesAs.{remaining, with_remaining, skipped}
use Rattle.table_reader.proofs.SoleEnds.{same_ahead, no_dot_told, no_second_told, second_told, third_told}
use Rattle.table_reader.proofs.slots.classify_after_name.Goals as goal

pub returns-in-None-clause-sole : goal.returns-in-None-clause-sole
returns-in-None-clause-sole c n ls h left some = no_dot_told n (remaining c.args.tokens.now c.args.input) ls _ (sym (ap (skipped c.args.tokens.now kinds.Dot) c.in-None.is) ∙ c.accept.ensures.read) h some

pub returns-in-None-name_at-clause-sole : goal.returns-in-None-name_at-clause-sole
returns-in-None-name_at-clause-sole c n ls h left some =
    no_second_told n (remaining c.args.tokens.now c.args.input) (remaining c.args.tokens.now c.in-Some.following) ls _ (sym (ap (skipped c.args.tokens.now kinds.Dot) c.in-Some.is) ∙ c.accept.ensures.read) (sym (ap (with_remaining c.args.tokens.now) c.in-None-name_at.is) ∙ c.name_at.ensures.read) h some

pub returns-then-number-clause-sole : goal.returns-then-number-clause-sole
returns-then-number-clause-sole c n ls h left some =
    second_told n c.in-Some-name_at.field-0-0 (remaining c.args.tokens.now c.args.input) (remaining c.args.tokens.now c.in-Some.following) (remaining c.args.tokens.now c.in-Some-name_at.following) ls _ (sym (ap (skipped c.args.tokens.now kinds.Dot) c.in-Some.is) ∙ c.accept.ensures.read) (sym (ap (with_remaining c.args.tokens.now) c.in-Some-name_at.is) ∙ c.name_at.ensures.read)
    (same_ahead c.args.tokens.now c.in-Some-name_at.following c.args.here (sym c.number.ensures ∙ c.if-number.true ∙ c.number-in-Some-name_at.ensures)) h some

pub returns-else-number-clause-sole : goal.returns-else-number-clause-sole
returns-else-number-clause-sole c n ls h left some =
    third_told n c.in-Some-name_at.field-0-0 c.args.tokens.now c.args.input c.in-Some.following c.in-Some-name_at.following c.args.here ls (sym (ap (skipped c.args.tokens.now kinds.Dot) c.in-Some.is) ∙ c.accept.ensures.read) (sym (ap (with_remaining c.args.tokens.now) c.in-Some-name_at.is) ∙ c.name_at.ensures.read)
    (λ e. c.if-number.false (c.number.ensures ∙ e ∙ sym c.number-in-Some-name_at.ensures)) h left some
