use Rattle.oscip_job.proofs.commands.with_two_modules.Goals as goal

pub returns : goal.returns
returns c app reads = c.with_required_argument.ensures _ (c.with_required_argument-command.ensures app reads)
