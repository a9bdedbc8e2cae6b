use Rattle.cut_rules.proofs.Marking.{AreMarks, HasMarkBefore}
use Rattle.cut_rules.proofs.members.flag_modules.Given as goal

abbrev pub invariant-loop-place : goal.invariant-loop-place
invariant-loop-place l = AreMarks l.initial.flags l.flags (HasMarkBefore l.files l.places l.place)
