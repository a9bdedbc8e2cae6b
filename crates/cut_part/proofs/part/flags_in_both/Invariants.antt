use Rattle.std.proofs.Common.{ℕ, ◌≡◌, ◌<◌, ◌&&◌, false, get_or, length}
use Rattle.cut_part.proofs.part.flags_in_both.Given as goal

abbrev pub invariant-loop-m : goal.invariant-loop-m
invariant-loop-m l = (length l.marks.items ≡ l.m) × ((j : ℕ) → j < l.m → get_or l.marks.items j false ≡ (get_or l.some j false && get_or l.others j false))
