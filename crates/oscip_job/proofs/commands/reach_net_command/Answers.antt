use Rattle.oscip_job.proofs.commands.reach_net_command.Goals as goal

pub returns : goal.returns
returns c = c.with_reach_arguments.ensures _ (c.with_required_argument-command.ensures _ c.new_command-command.ensures)
