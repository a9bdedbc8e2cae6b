use Rattle.std.proofs.Common.{sym}
use Rattle.cut_net.proofs.Noted.{found_noted, found_place, texts_noted, place_noted}
use Rattle.cut_net.proofs.builder.intern_name.Goals as goal

pub returns-clause-names : goal.returns-clause-names
returns-clause-names c = rw c.in_ok-at.ensures.keys (texts_noted c.args.names.now.keys c.in_ok-from_str.field-0 _ c.in_ok-from_str.ensures.ok)

pub returns-clause-within : goal.returns-clause-within
returns-clause-within c = (place_noted c.insert_full.new.self.keys c.in_ok-from_str.field-0 _ c.in_ok-at.at c.in_ok-from_str.ensures.ok c.in_ok-at.ensures.stored).0

pub returns-clause-place : goal.returns-clause-place
returns-clause-place c = (place_noted c.insert_full.new.self.keys c.in_ok-from_str.field-0 _ c.in_ok-at.at c.in_ok-from_str.ensures.ok c.in_ok-at.ensures.stored).1

pub returns-in-Some-clause-names : goal.returns-in-Some-clause-names
returns-in-Some-clause-names c = found_noted c.args.names.now.keys c.args.name.now (sym c.in-Some.ensures.found)

pub returns-in-Some-clause-place : goal.returns-in-Some-clause-place
returns-in-Some-clause-place c = found_place c.args.names.now.keys c.args.name.now c.in-Some.at (sym c.in-Some.ensures.index)
