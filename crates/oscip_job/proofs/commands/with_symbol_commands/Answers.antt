use Rattle.oscip_job.proofs.commands.with_symbol_commands.Goals as goal

pub returns : goal.returns
returns c app is = c.add_command.ensures _ _ (c.add_command-program.ensures _ _ is c.symbol_command-symbol.ensures) c.symbols_command-symbols.ensures
