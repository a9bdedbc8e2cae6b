use Rattle.std.proofs.Common.{◌≡◌, rules, subst}
use Rattle.std.specs.Prelude.{IfOk}
use Rattle.std.proofs.lemmas.Result.{IfOk-at_ok}
use Rattle.clap.specs.Walk.{Rule}
use Rattle.clap.specs.Words.{rule_of, with_rule}
use Rattle.oscip_job.specs.Jobs.{number_rule}
use Rattle.oscip_job.specs.Making.{ParsesArguments}
use Rattle.oscip_job.proofs.commands.with_number_argument.Goals as goal

pub returns : goal.returns
returns c app reads =
    let same : rule_of c.help-number.result ≡ number_rule c.args.required c.args.id.now = search rules in
    let before = IfOk-at_ok (λ k. ParsesArguments app k.value) c.in_ok-command.was reads in
    subst (λ (r : Rule). IfOk c.with_arg.result (λ k. ParsesArguments (with_rule app r) k.value)) same (c.with_arg.ensures app before)
