use Rattle.oscip_job.proofs.commands.symbol_command.Goals as goal

pub returns : goal.returns
returns c = c.with_editor.ensures _ (c.with_position-command.ensures _ c.new_index_query-command.ensures)
