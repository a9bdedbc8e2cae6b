use Rattle.oscip_job.proofs.commands.with_list_commands.Goals as goal

pub returns : goal.returns
returns c app is =
    c.add_command.ensures _ _ (c.add_command-program-2.ensures _ _ (c.add_command-program.ensures _ _ is c.modules_command-modules.ensures) c.reach_command-reach.ensures) c.reach_net_command-reach_net.ensures
