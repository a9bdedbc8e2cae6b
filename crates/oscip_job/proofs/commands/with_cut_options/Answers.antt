use Rattle.oscip_job.proofs.commands.with_cut_options.Goals as goal

pub returns : goal.returns
returns c app reads = c.with_prices.ensures _ (c.with_workers-command.ensures app reads)
