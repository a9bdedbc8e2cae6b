use Rattle.oscip_job.proofs.commands.with_walk_options.Goals as goal

pub returns : goal.returns
returns c app reads = c.with_editor.ensures _ (c.with_exclude-command.ensures app reads)
