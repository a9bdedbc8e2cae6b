use Rattle.std.proofs.Common.{◌≡◌, ◌∙◌, length}
use Rattle.cut_dot.specs.Pictures.{is_reported, reported_imports}
use Rattle.cut_dot.proofs.Staying.{some_between}
use Rattle.cut_dot.proofs.drawing.draw_flow_of_cut.Goals as goal

pub draw_imports-requires-clause-imports : goal.draw_imports-requires-clause-imports
draw_imports-requires-clause-imports g c =
    let net = c.args.net.now in
    rw (c.deref.ensures.value, c.in-Ok.ensures, c.imports.ensures)
    (some_between (is_reported c.as_slice-removed.result.now c.as_slice.result.now) net.imports (length net.names) c.invariants.ensures.network.between)

pub returns-clause-run : goal.returns-clause-run
returns-clause-run g c =
    let cut = c.args.cut.now in
    let imports : c.deref.result.now ≡ reported_imports c.args.net.now cut.imports.items cut.flow.items =
    c.deref.ensures.value ∙ (rw (c.as_slice-removed.ensures.value, c.as_slice.ensures.value, c.imports.ensures) at c.in-Ok.ensures) in
    rw imports at c.draw_imports.ensures.run
