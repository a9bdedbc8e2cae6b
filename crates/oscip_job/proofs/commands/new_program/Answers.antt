use Rattle.std.proofs.Common.{◌≡◌, ◌∙◌, ap, rules}
use Rattle.std.proofs.lemmas.Result.{IfOk-weaker}
use Rattle.clap.specs.Words.{app_of}
use Rattle.oscip_job.specs.Jobs.{program_app}
use Rattle.oscip_job.proofs.commands.new_program.Goals as goal

pub returns : goal.returns
returns c =
    let all : app_of c.subcommand_required-program.result ≡ program_app = search rules in
    IfOk-weaker c.box_command.result _ _ (λ it h. ap app_of h ∙ all) c.box_command.ensures
