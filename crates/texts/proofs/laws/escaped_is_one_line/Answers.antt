use Rattle.texts.proofs.EscapeLemmas.{one_line, plain, stays}
use Rattle.texts.proofs.laws.escaped_is_one_line.Goals as goal

pub returns-clause-none : goal.returns-clause-none
returns-clause-none c = plain

pub returns-clause-stays : goal.returns-clause-stays
returns-clause-stays c = stays

pub returns-clause-line : goal.returns-clause-line
returns-clause-line c = one_line
