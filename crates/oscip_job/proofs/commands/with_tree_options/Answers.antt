use Rattle.oscip_job.proofs.commands.with_tree_options.Goals as goal

pub returns : goal.returns
returns c app reads = c.with_flag.ensures _ (c.with_walk_options-command.ensures app reads)
