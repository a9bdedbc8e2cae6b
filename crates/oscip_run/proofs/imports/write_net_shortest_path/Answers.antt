use Rattle.std.proofs.Common.{Err, inl}
use Rattle.std.proofs.lemmas.Result.{err_from_is_err_and}
use Rattle.oscip_run.specs.ImportRuns.{IsWhyRun}
use Rattle.oscip_run.specs.Runs.{IsNetOfText, IsRejectedText}
use Rattle.oscip_run.specs.declared.fault.RunFault.{RunFault}
use Rattle.oscip_run.proofs.CheckRuns.{refused_net, Keeps-same}
use Rattle.oscip_run.proofs.ImportRuns.{run_of}
use Rattle.oscip_run.proofs.imports.write_net_shortest_path.Goals as goal

pub write_shortest_path-requires : goal.write_shortest_path-requires
write_shortest_path-requires g c = c.in_ok-net.ensures.exact.0.is_net.no_pins

pub returns-in_err-net-clause-run : goal.returns-in_err-net-clause-run
returns-in_err-net-clause-run g c =
    let p = err_from_is_err_and c.from_residual.result c.from_residual.ensures.1 in
    rw (p.1, p.2) (refused_net (λ (fault : RunFault). IsWhyRun (IsNetOfText c.args.network.now) (IsRejectedText c.args.network.now) c.args.a.now c.args.b.now (g.S.Sink.taken c.args.sink.now) (g.S.Sink.taken c.args.sink.now) (Err fault)) _
    (λ fault h. (h, Keeps-same _)) (inl (Keeps-same _)) _ c.in_err-net.ensures.exact)

pub returns-clause-run : goal.returns-clause-run
returns-clause-run g c = run_of (IsNetOfText c.args.network.now) (IsRejectedText c.args.network.now) c.in_ok-net.net c.in_ok-net.ensures.exact _ _ _ _ _ c.write_shortest_path.ensures.run
