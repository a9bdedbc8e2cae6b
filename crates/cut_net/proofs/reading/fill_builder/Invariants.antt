use Rattle.std.proofs.Common.{◌≡◌, List, length, map}
use Rattle.cut_net.specs.NetText.{NetLine, Spell}
use Rattle.cut_net.specs.NetReading.{HasLines}
use Rattle.cut_net.proofs.reading.fill_builder.Given as goal

abbrev pub invariant-loop-piece : goal.invariant-loop-piece
invariant-loop-piece l = (l.line ≡ length l.yielded) × (lines : List NetLine) × Spell (map (λ x. x.now) l.yielded) lines × HasLines lines l.builder
