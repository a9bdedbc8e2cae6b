use Rattle.oscip_job.proofs.commands.reach_command.Goals as goal

pub returns : goal.returns
returns c = c.with_tree_options.ensures _ (c.with_reach_arguments-command.ensures _ (c.with_required_argument-command.ensures _ c.new_command-command.ensures))
