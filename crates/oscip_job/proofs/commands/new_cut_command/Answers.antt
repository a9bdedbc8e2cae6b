use Rattle.oscip_job.proofs.commands.new_cut_command.Goals as goal

pub returns : goal.returns
returns c = c.with_cut_options.ensures _ (c.with_modules-command.ensures _ (c.with_required_argument-command.ensures _ c.new_command-command.ensures))
