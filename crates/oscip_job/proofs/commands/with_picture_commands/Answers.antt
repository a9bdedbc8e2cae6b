use Rattle.oscip_job.proofs.commands.with_picture_commands.Goals as goal

pub returns : goal.returns
returns c app is = c.add_command.ensures _ _ (c.add_command-program.ensures _ _ is (c.with_tree_options-tree.ensures _ (c.with_flow-tree.ensures _ c.new_report_command-tree.ensures))) (c.with_flow-net.ensures _ c.new_report_command-net.ensures)
