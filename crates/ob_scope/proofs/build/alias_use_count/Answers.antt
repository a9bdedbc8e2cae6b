-- The count of the member that was found.
use Rattle.ob_scope.proofs.Placing.{count_found, count_none}
use Rattle.ob_scope.proofs.build.alias_use_count.Goals as goal

pub returns-in-Some : goal.returns-in-Some
returns-in-Some c = count_found c.args.members.now c.args.counts.now c.args.alias c.in-Some.at c.requires.sorted c.in-Some.ensures.found

pub returns-in-None : goal.returns-in-None
returns-in-None c = count_none c.args.members.now c.args.counts.now c.args.alias c.in-None.ensures.none
