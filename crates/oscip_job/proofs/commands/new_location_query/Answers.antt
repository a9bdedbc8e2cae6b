use Rattle.oscip_job.proofs.commands.new_location_query.Goals as goal

pub returns : goal.returns
returns c = c.with_usage.ensures _ (c.with_editor-command.ensures _ (c.with_symbol-command.ensures _ (c.with_position-command.ensures _ c.new_index_query-command.ensures)))
