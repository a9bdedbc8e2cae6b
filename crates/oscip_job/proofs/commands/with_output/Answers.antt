use Rattle.oscip_job.proofs.commands.with_output.Goals as goal

pub returns : goal.returns
returns c app reads = c.with_flag.ensures _ (c.with_optional_argument-command.ensures app reads)
