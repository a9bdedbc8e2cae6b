use Rattle.oscip_job.proofs.commands.with_import_commands.Goals as goal

pub returns : goal.returns
returns c app is =
    c.add_command.ensures _ _ (c.add_command-program-2.ensures _ _ (c.add_command-program.ensures _ _ is c.net_command-net.ensures) (c.with_tree_options-why.ensures _ c.new_path_command-why.ensures)) c.rules_command-rules.ensures
