use Rattle.cut_net.specs.Network.{texts}
use Rattle.cut_net.proofs.Noted.{there_noted}
use Rattle.cut_net.proofs.recent.NameCache.intern.Goals as goal

pub returns-in-Some-clause-names : goal.returns-in-Some-clause-names
returns-in-Some-clause-names c = there_noted (texts c.args.names.now.keys) c.args.name.now c.in-Some.at c.in-Some.ensures.within c.in-Some.ensures.place
