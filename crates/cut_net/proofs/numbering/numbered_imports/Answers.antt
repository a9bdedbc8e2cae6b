use Rattle.std.proofs.Common.{arith, refl}
use Rattle.std.specs.String.{string_bytes}
use Rattle.std.proofs.lemmas.List.{length-map}
use Rattle.std.specs.Map.Iter.{deref_pair}
use Rattle.cut_net.specs.Network.{texts}
use Rattle.cut_net.specs.NetReading.{entry_line, import_line}
use Rattle.cut_net.proofs.Numbers.{AreNumbers}
use Rattle.cut_net.proofs.Networks.{between_next, listed_next}
use Rattle.cut_net.proofs.numbering.numbered_imports.Goals as goal

pub loop-ends-preserved : goal.loop-ends-preserved
loop-ends-preserved c =
    let old = texts c.args.builder.now.names.keys in
    let names = texts c.args.names.now in
    let are : AreNumbers old names c.deref.result.now = rw (c.deref.ensures.value, ← c.as_slice.ensures.keys) c.in_ok-numbers.ensures.numbers in
    let within = rw (length-map c.args.names.now string_bytes) at (c.renumbered_import.ensures.between old names are) in
    rw c.in_ok-push.ensures.items (
      between_next _ _ _ c.loop-ends.invariant.0 within,
      listed_next (import_line names) (entry_line old) deref_pair _ _ c.loop-ends.yielded (c.in-Some.ends, c.in-Some.weight) c.loop-ends.invariant.1 (c.renumbered_import.ensures.line old names are),
    )

pub loop-ends-init : goal.loop-ends-init
loop-ends-init c = rw c.in_ok-imports.ensures.items (λ i h. absurd (omega (arith, h.1)), refl)

pub returns-clause-between : goal.returns-clause-between
returns-clause-between c = c.loop-ends.invariant.0
