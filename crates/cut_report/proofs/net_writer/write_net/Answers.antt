use Rattle.std.proofs.Common.{◌++◌, [], ◌∙◌, append-nil, map, sym}
use Rattle.std.specs.String.{string_bytes}
use Rattle.std.proofs.lemmas.Grind.{flat_map-append}
use Rattle.std.proofs.lemmas.Result.{err_from_is_err_and}
use Rattle.byte_sink.proofs.Joining.{front_joined, front_more, joined, puts_then}
use Rattle.cut_net.specs.NetReading.{import_line}
use Rattle.cut_net.specs.NetText.{Module}
use Rattle.cut_report.specs.NetLines.{ended_line, ended_lines}
use Rattle.cut_report.proofs.net_writer.write_net.Goals as goal

pub write_imports-requires : goal.write_imports-requires
write_imports-requires g c = rw c.imports.ensures c.invariants.ensures.network.between

pub returns-in_err-write_modules-clause-writes : goal.returns-in_err-write_modules-clause-writes
returns-in_err-write_modules-clause-writes g c =
    let p = err_from_is_err_and c.from_residual.result c.from_residual.ensures.1 in
    let net = c.args.net.now in
    rw p.1 (front_more _ _ [] (ended_lines (map Module net.names)) (ended_lines (map (import_line net.names) net.imports)) _
    (flat_map-append ended_line (map Module net.names) (map (import_line net.names) net.imports)) (rw c.new-text.ensures.bytes at c.in_err-write_modules.ensures.error_prefix))

pub returns-in_err-write_imports-clause-writes : goal.returns-in_err-write_imports-clause-writes
returns-in_err-write_imports-clause-writes g c =
    let p = err_from_is_err_and c.from_residual-in_err-write_imports.result c.from_residual-in_err-write_imports.ensures.1 in
    let net = c.args.net.now in
    let modules = ended_lines (map Module net.names) in
    let imports = ended_lines (map (import_line net.names) net.imports) in
    let first = rw c.new-text.ensures.bytes at c.in_ok-write_modules.ensures.gathered in
    rw p.1 (front_joined _ _ _ [] modules imports (string_bytes c.write_modules.new.text) [] _
    (flat_map-append ended_line (map Module net.names) (map (import_line net.names) net.imports) ∙ sym (append-nil (modules ++ imports))) first
    (rw c.imports.ensures at c.in_err-write_imports.ensures.error_prefix))

pub returns-clause-writes : goal.returns-clause-writes
returns-clause-writes g c =
    let net = c.args.net.now in
    let modules = ended_lines (map Module net.names) in
    let imports = ended_lines (map (import_line net.names) net.imports) in
    let first = rw c.new-text.ensures.bytes at c.in_ok-write_modules.ensures.gathered in
    let all = joined _ _ _ [] modules imports (string_bytes c.write_modules.new.text) (string_bytes c.write_imports.new.text) _
    (flat_map-append ended_line (map Module net.names) (map (import_line net.names) net.imports)) first (rw c.imports.ensures at c.in_ok-write_imports.ensures.gathered) in
    puts_then _ _ _ _ (string_bytes c.write_imports.new.text) c.write_fully.result all (rw c.as_bytes.ensures.value at c.write_fully.ensures.writes)
