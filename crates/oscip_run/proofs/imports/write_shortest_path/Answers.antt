use Rattle.std.proofs.Common.{List, ℕ, [], subst, true}
use Rattle.std.proofs.lemmas.Result.{err_from_is_err_and}
use Rattle.byte_sink.specs.Sinks.{AppendsPrefix}
use Rattle.cut_report.specs.NetLines.{chain_text}
use Rattle.oscip_run.specs.ImportRuns.{IsWhyRejected, IsWhyText}
use Rattle.oscip_run.specs.Runs.{IsNeverRejected, IsThis}
use Rattle.oscip_run.proofs.ImportRuns.{error_prefix, no_chain, why_text, Appends-none}
use Rattle.oscip_run.proofs.imports.write_shortest_path.Goals as goal

pub returns-in_default-clause-run : goal.returns-in_default-clause-run
returns-in_default-clause-run g c =
    let names = c.in_ok-from.ensures.found in
    let none = rw c.in_default.is at c.in_ok-found.ensures.none in
    ([], no_chain c.args.a.now c.args.b.now c.args.net.now c.in_ok-from.from c.in_ok-from.to names.0 names.1 names.2 none, Appends-none _)

pub returns-in_err-write_chain-clause-run : goal.returns-in_err-write_chain-clause-run
returns-in_err-write_chain-clause-run g c =
    let p = err_from_is_err_and c.from_residual-in_err-write_chain.result c.from_residual-in_err-write_chain.ensures.1 in
    let names = c.in_ok-from.ensures.found in
    let least = rw c.in-Some.is at c.in_ok-found.ensures.found in
    let text = why_text c.args.a.now c.args.b.now c.args.net.now c.in_ok-from.from c.in_ok-from.to c.in-Some.chain.items names.0 names.1 names.2 least in
    let front = subst (λ (chain : List ℕ). AppendsPrefix (g.S.Sink.taken c.args.sink.now) (g.S.Sink.taken c.write_chain.new.sink) (chain_text c.args.net.now chain))
    c.as_slice.ensures.value c.in_err-write_chain.ensures.writes in
    rw (p.1, p.2) (error_prefix (IsWhyText (IsThis c.args.net.now) c.args.a.now c.args.b.now true) (IsWhyRejected (IsThis c.args.net.now) IsNeverRejected c.args.a.now c.args.b.now) _ _ _ _ text front)
