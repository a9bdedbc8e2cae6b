use Rattle.std.proofs.Common.{◌≡◌, ◌∙◌, ◌++◌, ◌∷◌, [], ap, sym, length, arith}
use Rattle.cut_part.specs.CapacityReduction.{import_in}
use Rattle.cut_preflow.specs.Trace.{state_of}
use Rattle.cut_solve.proofs.Settled.{arc_with, carrying_all, carrying_more}
use Rattle.cut_solve.proofs.settling.arcs_with_flow.Goals as goal

pub loop-number-preserved : goal.loop-number-preserved
loop-number-preserved g c =
    let imports = c.args.imports.now in
    let flow = (state_of c.args.preflow.now.trace).flow in
    let same : length flow ≡ length imports = c.invariants.ensures.sound.kept.flows ∙ c.requires.imports in
    c.in_ok-push.ensures.items
    ∙ ap (λ xs. xs ++ arc_with (import_in imports c.loop-number.number) c.flow.result ∷ []) c.loop-number.invariant
    ∙ sym (carrying_more imports flow c.loop-number.number c.flow.result same c.loop-number-test.true c.flow.ensures.value)

pub returns : goal.returns
returns g c =
    let imports = c.args.imports.now in
    let flow = (state_of c.args.preflow.now.trace).flow in
    let same : length flow ≡ length imports = c.invariants.ensures.sound.kept.flows ∙ c.requires.imports in
    c.loop-number.invariant ∙ carrying_all imports flow c.loop-number.number same (omega (arith, c.loop-number-test.false))
