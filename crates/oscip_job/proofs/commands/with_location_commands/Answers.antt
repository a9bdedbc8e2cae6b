use Rattle.oscip_job.proofs.commands.with_location_commands.Goals as goal

pub returns : goal.returns
returns c app is = c.add_command.ensures _ _ (c.add_command-program.ensures _ _ is c.new_location_query-def.ensures) c.new_location_query-refs.ensures
