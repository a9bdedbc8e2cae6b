use Rattle.oscip_job.proofs.commands.with_editor.Goals as goal

pub returns : goal.returns
returns c app reads = c.with_flag.ensures app reads
