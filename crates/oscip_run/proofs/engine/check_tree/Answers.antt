use Rattle.std.proofs.lemmas.Result.{err_from_is_err_and}
use Rattle.std.specs.Prelude.{option_copied}
use Rattle.oscip_run.specs.PricedInputs.{IsNetOfPricedTree, IsRejectedPricedTree}
use Rattle.oscip_run.proofs.CheckRuns.{no_net, run_of}
use Rattle.oscip_run.proofs.engine.check_tree.Goals as goal

pub returns-in_err-net-clause-run : goal.returns-in_err-net-clause-run
returns-in_err-net-clause-run g c =
    let p = err_from_is_err_and c.from_residual.result c.from_residual.ensures.1 in
    rw (p.1, p.2) (no_net (IsNetOfPricedTree c.args.sources.now (option_copied c.args.prices)) (IsRejectedPricedTree c.args.sources.now (option_copied c.args.prices)) _ _ _ c.in_err-net.ensures.fault)

pub returns-clause-run : goal.returns-clause-run
returns-clause-run g c = run_of (IsNetOfPricedTree c.args.sources.now (option_copied c.args.prices)) (IsRejectedPricedTree c.args.sources.now (option_copied c.args.prices)) c.in_ok-net.net c.in_ok-net.ensures.net _ _ _ _ c.check_report.ensures.run
