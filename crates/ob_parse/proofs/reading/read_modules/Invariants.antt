use Rattle.ob_parse.proofs.FilesRead.{AreReadTo}
use Rattle.ob_parse.proofs.reading.read_modules.Given as goal

abbrev pub invariant-loop-parts : goal.invariant-loop-parts
invariant-loop-parts l = AreReadTo l.sources l.fn.modules.items l.all.items l.parts-iterator.rest.items
