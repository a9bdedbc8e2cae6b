use Rattle.cut_dot.proofs.text.append_pin.Goals as goal

pub returns : goal.returns
returns c = rw (← c.removed_attributes-removed.ensures) c.writeln.ensures.bytes
