use Rattle.std.proofs.Common.{refl}
use Rattle.cut_check.proofs.weights.has_right_weights.Goals as goal

pub returns-then-are_removable : goal.returns-then-are_removable
returns-then-are_removable c x marks =
    let free = (c.if-are_removable.ensures x marks).0 refl in
    let adds = (rw c.imports.ensures at c.is_total_of_weights.ensures) x marks in
    (λ adds_up. let h = adds.0 adds_up in (free, h.0, h.1), λ right. adds.1 (right.1, right.2))
