use Rattle.std.proofs.Common.{sym, ◌∙◌, arith}
use Rattle.ob_scan.specs.Spelling.{blank}
use Rattle.ob_scan.proofs.Lexemes.{begun, one_gap, one_token, fits}
use Rattle.std.proofs.lemmas.Grind.{common_steps}
use Rattle.ob_scan.proofs.scanner.scan_tokens.Goals as goal

pub lexemes-init : goal.lexemes-init
lexemes-init c = record { within = omega arith; so_far = begun _ _ c.token_buffer-tokens.ensures }

pub lexemes-preserved-then-begins_blank : goal.lexemes-preserved-then-begins_blank
lexemes-preserved-then-begins_blank c = record { within = omega arith; so_far = one_gap _ _ _ _ c.lexemes.invariant.within c.lexemes.invariant.so_far (blank (sym c.begins_blank.ensures ∙ c.if-begins_blank.true)) }

pub lexemes-preserved-in-Gap : goal.lexemes-preserved-in-Gap
lexemes-preserved-in-Gap c = record { within = fits c.args.bytes.now c.lexemes.at c.in-Gap.n c.lexemes.invariant.within c.in-Gap.ensures.2; so_far = one_gap _ _ _ _ c.lexemes.invariant.within c.lexemes.invariant.so_far c.in-Gap.ensures.0 }

pub lexemes-preserved : goal.lexemes-preserved
lexemes-preserved c = record { within = fits c.args.bytes.now c.lexemes.at c.in-Token.n c.lexemes.invariant.within c.in-Token.ensures.2; so_far = one_token _ _ _ _ _ _ c.lexemes.invariant.within c.lexemes.invariant.so_far c.in-Token.ensures.0 c.in_ok-push-in-Token.ensures.items }

pub returns-in-Nothing : goal.returns-in-Nothing
returns-in-Nothing c = grind (arith, common_steps)
