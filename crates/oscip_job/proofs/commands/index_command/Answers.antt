use Rattle.oscip_job.proofs.commands.index_command.Goals as goal

pub returns : goal.returns
returns c = c.with_usage.ensures _ (c.with_tree_options-command.ensures _ (c.with_index_options-command.ensures _ (c.with_output-command.ensures _ (c.with_required_argument-command.ensures _ c.new_command-command.ensures))))
