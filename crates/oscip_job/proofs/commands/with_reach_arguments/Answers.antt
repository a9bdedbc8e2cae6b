use Rattle.oscip_job.proofs.commands.with_reach_arguments.Goals as goal

pub returns : goal.returns
returns c app reads = c.with_flag.ensures _ (c.with_required_argument-command.ensures app reads)
