use Rattle.std.proofs.Common.{Err, inl}
use Rattle.std.proofs.lemmas.Result.{err_from_is_err_and}
use Rattle.oscip_run.specs.ImportRuns.{IsNetTextRun}
use Rattle.oscip_run.specs.Runs.{IsRejectedTree}
use Rattle.oscip_run.specs.declared.fault.RunFault.{RunFault}
use Rattle.source_tree.specs.Trees.{IsNetOfTree}
use Rattle.oscip_run.proofs.CheckRuns.{refused_tree, Keeps-same}
use Rattle.oscip_run.proofs.ImportRuns.{net_run_of}
use Rattle.oscip_run.proofs.imports.write_tree_net.Goals as goal

pub write_net_text-requires : goal.write_net_text-requires
write_net_text-requires g c = c.in_ok-net.ensures.net.no_pins

pub returns-in_err-net-clause-run : goal.returns-in_err-net-clause-run
returns-in_err-net-clause-run g c =
    let p = err_from_is_err_and c.from_residual.result c.from_residual.ensures.1 in
    rw (p.1, p.2) (refused_tree (λ (fault : RunFault). IsNetTextRun (IsNetOfTree c.args.sources.now) (IsRejectedTree c.args.sources.now) (g.S.Sink.taken c.args.sink.now) (g.S.Sink.taken c.args.sink.now) (Err fault)) _
    (λ fault h. (h, Keeps-same _)) (inl (Keeps-same _)) _ c.in_err-net.ensures.fault)

pub returns-clause-run : goal.returns-clause-run
returns-clause-run g c = net_run_of (IsNetOfTree c.args.sources.now) (IsRejectedTree c.args.sources.now) c.in_ok-net.net c.in_ok-net.ensures.net _ _ _ c.write_net_text.ensures.run
