use Rattle.oscip_job.proofs.commands.command.Goals as goal

pub returns : goal.returns
returns c =
    c.with_index_commands.ensures _ (c.with_symbol_commands-program.ensures _ (c.with_location_commands-program.ensures _ (c.with_picture_commands-program.ensures _ (c.with_list_commands-program.ensures _ (c.with_net_commands-program.ensures _ (c.with_import_commands-program.ensures _ (c.with_tree_commands-program.ensures _ c.new_program-program.ensures)))))))
