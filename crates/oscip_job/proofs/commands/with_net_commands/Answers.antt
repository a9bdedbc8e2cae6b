use Rattle.oscip_job.proofs.commands.with_net_commands.Goals as goal

pub returns : goal.returns
returns c app is = c.add_command.ensures _ _ (c.add_command-program-2.ensures _ _ (c.add_command-program.ensures _ _ is c.new_cut_command-cut.ensures) c.new_report_command-check.ensures) c.new_path_command-why.ensures
