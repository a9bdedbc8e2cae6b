use Rattle.oscip_job.proofs.commands.with_index_commands.Goals as goal

pub returns : goal.returns
returns c app is =
    c.add_command.ensures _ _ (c.add_command-program-2.ensures _ _ (c.add_command-program.ensures _ _ is c.index_command-index.ensures) c.unresolved_command-unresolved.ensures)
    c.faults_command-faults.ensures
