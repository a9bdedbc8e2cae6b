use Rattle.std.proofs.lemmas.Result.{err_from_is_err_and}
use Rattle.oscip_run.specs.ImportRuns.{IsNetText}
use Rattle.oscip_run.specs.Runs.{IsNeverRejected, IsThis}
use Rattle.oscip_run.proofs.ImportRuns.{error_prefix, net_text_of}
use Rattle.oscip_run.proofs.imports.write_net_text.Goals as goal

pub returns-in_err-write_net-clause-run : goal.returns-in_err-write_net-clause-run
returns-in_err-write_net-clause-run g c =
    let p = err_from_is_err_and c.from_residual.result c.from_residual.ensures.1 in
    let text = net_text_of c.args.net.now (c.net_read_inverts_write_net.ensures.read _ c.invariants.ensures.network c.requires) in
    rw (p.1, p.2) (error_prefix (IsNetText (IsThis c.args.net.now)) IsNeverRejected _ _ _ _ text c.in_err-write_net.ensures.writes)

pub returns-clause-run : goal.returns-clause-run
returns-clause-run g c = (_, net_text_of c.args.net.now (c.net_read_inverts_write_net.ensures.read _ c.invariants.ensures.network c.requires), c.in_ok-write_net.ensures.writes)
