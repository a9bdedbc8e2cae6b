use Rattle.oscip_job.proofs.commands.with_tree_commands.Goals as goal

pub returns : goal.returns
returns c app is = c.add_command.ensures _ _ (c.add_command-program-2.ensures _ _ (c.add_command-program.ensures _ _ is (c.with_tree_options-cut.ensures _ c.new_cut_command-cut.ensures)) (c.with_tree_options-check.ensures _ c.new_report_command-check.ensures)) c.crossings_command-crossings.ensures
