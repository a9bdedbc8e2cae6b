use Rattle.std.proofs.Common.{sym}
use Rattle.std.proofs.lemmas.List.{map_more}
use Rattle.cut_net.specs.Network.{missing_item}
use Rattle.cut_part.specs.Reversal.{reversed}
use Rattle.cut_part.proofs.part.reversed_imports.Goals as goal

pub loop-i-preserved : goal.loop-i-preserved
loop-i-preserved c = rw (c.in_ok-push.ensures.items, c.loop-i.invariant) (sym (map_more reversed c.args.imports.now c.loop-i.i-index missing_item c.loop-i-test.true))
