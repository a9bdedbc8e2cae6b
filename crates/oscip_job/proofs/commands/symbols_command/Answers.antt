use Rattle.oscip_job.proofs.commands.symbols_command.Goals as goal

pub returns : goal.returns
returns c = c.with_editor.ensures _ (c.with_optional_argument-command.ensures _ c.new_index_query-command.ensures)
