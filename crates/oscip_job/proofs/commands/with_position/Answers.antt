use Rattle.std.proofs.Common.{◌≡◌, codes, rules, subst}
use Rattle.std.specs.Prelude.{IfOk}
use Rattle.std.proofs.lemmas.Result.{IfOk-at_ok}
use Rattle.clap.specs.Walk.{Rule}
use Rattle.clap.specs.Words.{new_rule, rule_of, with_rule}
use Rattle.oscip_job.specs.Making.{ParsesArguments}
use Rattle.oscip_job.proofs.commands.with_position.Goals as goal

pub returns : goal.returns
returns c app reads =
    let same : rule_of c.help-path.result ≡ record (new_rule (codes "PATH")) { required = c.args.required } = search rules in
    let before = IfOk-at_ok (λ k. ParsesArguments app k.value) c.in_ok-command.was reads in
    let path = subst (λ (r : Rule). IfOk c.with_arg-command.result (λ k. ParsesArguments (with_rule app r) k.value)) same (c.with_arg-command.ensures app before) in
    c.with_number_argument.ensures _ (c.with_number_argument-command.ensures _ path)
