use Rattle.ob_view.specs.World.{meaning}
use Rattle.ob_view.proofs.Firsts.{meant}
use Rattle.ob_view.proofs.parts.Parts.meaning.Goals as goal

pub returns : goal.returns
unfolding meaning
returns c = meant _ c.args.used _ c.invariants.ensures.meanings_ascend c.resolve.ensures.found c.resolve.ensures.none
