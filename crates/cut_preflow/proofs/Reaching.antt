-- What the source reaches, by arcs and by imports.
use Rattle.std.proofs.Common.{◌≡◌, ℕ, ◌+◌, ◌*◌, ◌/◌, Bool, true, sym, subst, inl, inr, arith}
use Rattle.cut_preflow.specs.Preflow.{FlowNetwork, State, count, is_forward}
use Rattle.cut_preflow.specs.Side.{IsClosedBelow}
use Rattle.cut_preflow.proofs.Choices.{true_or_false}
use Rattle.cut_preflow.proofs.Arcs.{ahead, back, ahead_of, back_of}
use Rattle.cut_preflow.proofs.Quiet.{IsShut}

pub closed_by_imports : (net : FlowNetwork) (s : State) (side : ℕ → Bool) → IsClosedBelow net.imports s.flow side (2 * count net) → IsShut net s side
closed_by_imports net s side closed i l = (
  λ room on. (let way = ahead_of net s i in
      subst (λ x. side x ≡ true) way.head_is (closed (2 * i) (omega arith) (omega (arith, way.residual_is)) (subst (λ x. side x ≡ true) (sym way.tail_is) on))),
  λ some on. (let way = back_of net s i in
      subst (λ x. side x ≡ true) way.head_is (closed (2 * i + 1) (omega arith) (omega (arith, way.residual_is)) (subst (λ x. side x ≡ true) (sym way.tail_is) on))),
)

pub closed_by_arcs : (net : FlowNetwork) (s : State) (side : ℕ → Bool) → IsShut net s side → IsClosedBelow net.imports s.flow side (2 * count net)
closed_by_arcs net s side closed arc l r on = elim (true_or_false (is_forward arc)) [
  | inl e ↦
      (let way = ahead net s arc e in
      subst (λ x. side x ≡ true) (sym way.head_is) ((closed (arc / 2) (omega arith)).0 (omega (arith, way.residual_is, r)) (subst (λ x. side x ≡ true) way.tail_is on)))
  | inr e ↦
      (let way = back net s arc e in
      subst (λ x. side x ≡ true) (sym way.head_is) ((closed (arc / 2) (omega arith)).1 (omega (arith, way.residual_is, r)) (subst (λ x. side x ≡ true) way.tail_is on)))
]
