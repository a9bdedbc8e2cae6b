use Rattle.oscip_job.proofs.commands.new_index_query.Goals as goal

pub returns : goal.returns
returns c = c.with_required_argument.ensures _ c.new_command-command.ensures
