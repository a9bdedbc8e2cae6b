use Rattle.std.specs.String.{string_bytes}
use Rattle.std.proofs.lemmas.Result.{err_from_is_err_and}
use Rattle.byte_sink.proofs.Joining.{puts_then}
use Rattle.cut_report.proofs.ChainImports.{along_in}
use Rattle.cut_report.proofs.net_writer.write_chain.Goals as goal

pub write_imports-requires : goal.write_imports-requires
write_imports-requires g c = rw (c.as_slice.ensures.value, c.in-Ok.ensures) (λ i present. c.invariants.ensures.network.between i (along_in c.args.net.now c.args.chain.now i c.requires.chain present))

pub returns-in_err-write_imports-clause-writes : goal.returns-in_err-write_imports-clause-writes
returns-in_err-write_imports-clause-writes g c =
    let p = err_from_is_err_and c.from_residual.result c.from_residual.ensures.1 in
    rw p.1 (rw (c.new-text.ensures.bytes, c.as_slice.ensures.value, c.in-Ok.ensures) at c.in_err-write_imports.ensures.error_prefix)

pub returns-clause-writes : goal.returns-clause-writes
returns-clause-writes g c =
    let all = rw (c.new-text.ensures.bytes, c.as_slice.ensures.value, c.in-Ok.ensures) at c.in_ok-write_imports.ensures.gathered in
    puts_then _ _ _ _ (string_bytes c.write_imports.new.text) c.write_fully.result all (rw c.as_bytes.ensures.value at c.write_fully.ensures.writes)
