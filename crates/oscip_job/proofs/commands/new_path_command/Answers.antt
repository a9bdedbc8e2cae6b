use Rattle.oscip_job.proofs.commands.new_path_command.Goals as goal

pub returns : goal.returns
returns c = c.with_modules.ensures _ (c.with_required_argument-command.ensures _ c.new_command-command.ensures)
