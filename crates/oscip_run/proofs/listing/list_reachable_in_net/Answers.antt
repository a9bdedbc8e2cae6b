use Rattle.std.proofs.Common.{Err, inl}
use Rattle.std.proofs.lemmas.Result.{err_from_is_err_and}
use Rattle.oscip_run.specs.ReachRuns.{IsReachRun}
use Rattle.oscip_run.specs.Runs.{IsNetOfText, IsRejectedText}
use Rattle.oscip_run.specs.declared.fault.RunFault.{RunFault}
use Rattle.oscip_run.proofs.CheckRuns.{refused_net, Keeps-same}
use Rattle.oscip_run.proofs.ModuleLists.{reach_run_of}
use Rattle.oscip_run.proofs.listing.list_reachable_in_net.Goals as goal

pub returns-in_err-net-clause-run : goal.returns-in_err-net-clause-run
returns-in_err-net-clause-run g c =
    let p = err_from_is_err_and c.from_residual.result c.from_residual.ensures.1 in
    rw (p.1, p.2) (refused_net (λ (fault : RunFault). IsReachRun (IsNetOfText c.args.network.now) (IsRejectedText c.args.network.now) c.args.name.now c.args.direction (g.S.Sink.taken c.args.sink.now) (g.S.Sink.taken c.args.sink.now) (Err fault)) _
    (λ fault h. (h, Keeps-same _)) (inl (Keeps-same _)) _ c.in_err-net.ensures.exact)

pub returns-clause-run : goal.returns-clause-run
returns-clause-run g c = reach_run_of (IsNetOfText c.args.network.now) (IsRejectedText c.args.network.now) c.in_ok-net.net c.in_ok-net.ensures.exact _ _ _ _ _ c.write_reached_modules.ensures.run
