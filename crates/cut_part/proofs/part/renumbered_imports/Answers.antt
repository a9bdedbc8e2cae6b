use Rattle.std.proofs.Common.{length, get_or, sym, arith}
use Rattle.std.proofs.lemmas.List.{map_more}
use Rattle.cut_net.specs.Network.{missing_item}
use Rattle.cut_part.specs.Renumbering.{renumbered}
use Rattle.cut_part.proofs.Adding.{from_in, to_in}
use Rattle.std.proofs.lemmas.Grind.{common_steps}
use Rattle.cut_part.proofs.part.renumbered_imports.Goals as goal

pub renumbered_import-requires-clause-from : goal.renumbered_import-requires-clause-from
renumbered_import-requires-clause-from c = from_in c.args.lines.now (length c.args.numbers.now) c.loop-line.line-index c.requires c.loop-line-test.true

pub renumbered_import-requires-clause-to : goal.renumbered_import-requires-clause-to
renumbered_import-requires-clause-to c = to_in c.args.lines.now (length c.args.numbers.now) c.loop-line.line-index c.requires c.loop-line-test.true

pub loop-line-preserved : goal.loop-line-preserved
loop-line-preserved c = rw (c.in_ok-push.ensures.items, c.renumbered_import.ensures, c.loop-line.invariant)
    (sym (map_more (renumbered (λ m. get_or c.args.numbers.now m 0)) c.args.lines.now c.loop-line.line-index missing_item c.loop-line-test.true))

pub returns : goal.returns
returns c = grind (arith, common_steps)
