use Rattle.std.specs.Prelude.{option_copied}
use Rattle.std.proofs.lemmas.Result.{err_from_is_err_and, IfErr-weaker, IfOk-weaker}
use Rattle.source_tree.specs.Trees.{IsNetOfTree}
use Rattle.oscip_run.specs.Runs.{IsRejectedTree}
use Rattle.oscip_run.proofs.PricedInputs.{priced_of, refused_of, refused_files}
use Rattle.oscip_run.proofs.priced_network.net_of_tree.Goals as goal

pub returns-in_err-net-clause-fault : goal.returns-in_err-net-clause-fault
returns-in_err-net-clause-fault g c =
    let p = err_from_is_err_and c.from_residual.result c.from_residual.ensures.1 in
    rw (p.1, p.2) (refused_files _ _ _ c.in_err-net.ensures.fault)

pub returns-clause-net : goal.returns-clause-net
returns-clause-net g c = IfOk-weaker c.with_prices.result _ _ (λ net h. priced_of (IsNetOfTree c.args.sources.now) c.in_ok-net.net c.in_ok-net.ensures.net (option_copied c.args.prices) net h) c.with_prices.ensures.net

pub returns-clause-fault : goal.returns-clause-fault
returns-clause-fault g c =
    IfErr-weaker c.with_prices.result _ _ (λ fault h. refused_of (IsNetOfTree c.args.sources.now) (IsRejectedTree c.args.sources.now) c.in_ok-net.net c.in_ok-net.ensures.net (option_copied c.args.prices) fault h) c.with_prices.ensures.fault
