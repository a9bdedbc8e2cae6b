use Rattle.std.proofs.Common.{◌≡◌, ◌+◌, ◌∙◌, ◌++◌, [], ℕ, length, refl, ap, subst, arith}
use Rattle.std.specs.String.{string_bytes}
use Rattle.std.proofs.lemmas.Result.{err_from_is_err_and}
use Rattle.texts.specs.Places.{writer_style}
use Rattle.cut_rules.specs.Judged.{AreRuleViolations}
use Rattle.cut_rules.specs.Verdicts.{violation_line}
use Rattle.cut_rules.proofs.Violations.{any_more, none_between, of_rule_joined}
use Rattle.cut_rules.proofs.Writing.{front_more_of, puts_more, puts_none}
use Rattle.cut_rules.proofs.verdict.RuleChecker.write_imports.Goals as goal

pub loop-import-init : goal.loop-import-init
loop-import-init g c = record {
  style = refl;
  written = λ files pieces elements for. ([], none_between c.args.self.now.net.now files pieces c.args.line 0, refl, puts_none (violation_line (writer_style c.args.lines.now.places) c.args.self.now.net.now c.args.self.now.sites.now) (string_bytes c.args.lines.now.text) _);
  failures = refl;
}

pub returns-in_err-any-clause-prefix : goal.returns-in_err-any-clause-prefix
returns-in_err-any-clause-prefix g c =
    let p = err_from_is_err_and c.from_residual.result c.from_residual.ensures.1 in
    rw p.1 (λ files pieces elements for.
    let line = violation_line (writer_style c.args.lines.now.places) c.args.self.now.net.now c.args.self.now.sites.now in
    let (first, is, any, writes) = c.loop-import.invariant.written files pieces elements for in
    let (high, more, above, second, front) = c.in_err-any.ensures.prefix files pieces elements for in
    (high, first ++ more, of_rule_joined c.args.self.now.net.now files pieces c.args.line 0 c.loop-import.import high first more (omega arith) above is second, front_more_of c.args.self.now.net.now c.args.self.now.sites.now (writer_style c.args.lines.now.places) (writer_style c.loop-import.lines.places) c.loop-import.invariant.style (string_bytes c.args.lines.now.text) _ _ _ first more (string_bytes c.loop-import.lines.text) writes front))

pub loop-import-preserved : goal.loop-import-preserved
loop-import-preserved g c =
    record {
      style = c.in_ok-any.ensures.style ∙ c.loop-import.invariant.style;
      written = λ files pieces elements for.
          let (first, is, any, writes) = c.loop-import.invariant.written files pieces elements for in
          let (more, second, found, gathered) = c.in_ok-any.ensures.written files pieces elements for in (
            first ++ more,
            of_rule_joined c.args.self.now.net.now files pieces c.args.line 0 c.loop-import.import (c.loop-import.import + 1) first more (omega arith) (omega arith) is second,
            any_more first more _ _ any found,
            puts_more c.args.self.now.net.now c.args.self.now.sites.now (writer_style c.args.lines.now.places) (writer_style c.loop-import.lines.places) c.loop-import.invariant.style (string_bytes c.args.lines.now.text) _ _ _ first more (string_bytes c.loop-import.lines.text) (string_bytes c.write_if_violation.new.lines.text) writes gathered,
          );
      failures = c.in_ok-any.ensures.failures ∙ c.loop-import.invariant.failures;
    }

pub returns-clause-written : goal.returns-clause-written
returns-clause-written g c = λ files pieces elements for.
    let size = ap length c.imports-import-end.ensures in
    let past = c.loop-import-test.false in
    let low = c.loop-import.auto.import-end in
    let end : c.loop-import.import ≡ length c.args.self.now.net.now.imports = omega arith in
    let (first, is, any, writes) = c.loop-import.invariant.written files pieces elements for in
    (first, subst (λ (n : ℕ). AreRuleViolations c.args.self.now.net.now files pieces c.args.line 0 n first) end is, any, writes)
