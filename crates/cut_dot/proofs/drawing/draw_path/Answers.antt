use Rattle.std.proofs.Common.{◌≡◌, ◌∙◌, ap, length, filter, List}
use Rattle.cut_net.specs.declared.priced.Priced.{Priced}
use Rattle.cut_dot.specs.Pictures.{is_step, path_imports}
use Rattle.cut_dot.proofs.Staying.{some_between}
use Rattle.cut_dot.proofs.drawing.draw_path.Goals as goal

pub draw_imports-requires-clause-imports : goal.draw_imports-requires-clause-imports
draw_imports-requires-clause-imports g c =
    let net = c.args.net.now in
    rw (c.deref.ensures.value, c.in-Ok.ensures, c.imports.ensures) (some_between (is_step c.args.path.now) net.imports (length net.names) c.invariants.ensures.network.between)

pub returns-clause-run : goal.returns-clause-run
returns-clause-run g c =
    let net = c.args.net.now in
    let path = c.args.path.now in
    let imports : c.deref.result.now ≡ path_imports net path = c.deref.ensures.value ∙ c.in-Ok.ensures ∙ ap (λ (v : List Priced). filter (is_step path) v) c.imports.ensures in
    rw (c.empty_cut.ensures.removed, c.empty_cut.ensures.flow, imports) at c.draw_imports.ensures.run
