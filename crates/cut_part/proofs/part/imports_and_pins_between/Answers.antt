use Rattle.std.proofs.Common.{length}
use Rattle.cut_net.proofs.PinChains.{pins_between}
use Rattle.cut_part.proofs.part.imports_and_pins_between.Goals as goal

pub imports_between-requires-clause-between : goal.imports_between-requires-clause-between
imports_between-requires-clause-between c =
    rw (c.imports.ensures, c.requires.marks) c.invariants.ensures.network.between

pub imports_between-requires-2-clause-between : goal.imports_between-requires-2-clause-between
imports_between-requires-2-clause-between c =
    rw (c.pins.ensures, c.requires.marks)
    (pins_between c.args.net.now (length c.args.net.now.names) c.invariants.ensures.network.between c.invariants.ensures.pins)
