use Rattle.ob_types.proofs.precomputed.TypeEnds.select_end.Goals as goal

pub returns-then-pointers : goal.returns-then-pointers
returns-then-pointers c = λ w i d are. (rw c.if-pointers.true are.by_pointers)

pub returns-else-pointers : goal.returns-else-pointers
returns-else-pointers c = λ w i d are. (rw c.if-pointers.false are.by_names)
