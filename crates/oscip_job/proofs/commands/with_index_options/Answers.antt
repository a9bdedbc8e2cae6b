use Rattle.oscip_job.proofs.commands.with_index_options.Goals as goal

pub returns : goal.returns
returns c app reads = c.with_flag.ensures _ (c.with_workers-command.ensures _ (c.with_text_option-command-2.ensures _ (c.with_text_option-command.ensures app reads)))
