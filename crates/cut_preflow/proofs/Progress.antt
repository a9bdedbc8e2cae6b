-- While a node has excess, a step applies.
use Rattle.std.proofs.Common.{◌≡◌, ℕ, zero, suc, ◌+◌, ◌*◌, ◌/◌, ◌<◌, ◌≤◌, ◌⊎◌, inl, inr, true, ◌==◌, if◌then◌else◌, Some, sym, ap, ◌∙◌, subst, arith}
use Rattle.std.proofs.lemmas.Bool.{cases_lt, cases_eq}
use Rattle.cut_preflow.specs.Total.{total}
use Rattle.cut_preflow.specs.Preflow.{FlowNetwork, State, count, import_at, flow_at, label_at, inflow, outflow, is_forward, tail, head, residual, can_push, least_head, relabel_target}
use Rattle.cut_preflow.specs.Kept.{IsValidPreflow}
use Rattle.cut_preflow.proofs.Choices.{choice_same, choice_other, true_or_false}
use Rattle.cut_preflow.proofs.Arcs.{Active, pushable_true, ahead, back, back_of, least_some, least_at, raised_some}

-- a sum above 0 has a term above 0
total_some : (n : ℕ) (g : ℕ → ℕ) → 0 < total n g → (i : ℕ) × (i < n) × (0 < g i)
total_some zero g h = absurd (omega arith)
total_some (suc n) g h = elim (cases_eq (g n) 0) [
  | inl e ↦ later (total_some n g (omega arith))
  | inr ne ↦ (n, (omega arith), (omega arith))
]
  where
    later : (i : ℕ) × (i < n) × (0 < g i) → (i : ℕ) × (i < suc n) × (0 < g i)
    later w = (w.0, (omega (arith, w.1)), w.2)

-- over an arc with residual capacity the label falls by one at most
pub near_over : (net : FlowNetwork) (s : State) (arc : ℕ) → IsValidPreflow net s → arc < 2 * count net → 0 < residual net s arc → label_at s (tail net arc) ≤ label_at s (head net arc) + 1
near_over net s arc kept l r = elim (true_or_false (is_forward arc)) [
  | inl e ↦
      (let way = ahead net s arc e in
      let near = (kept.valid (arc / 2) (omega arith)).0 (omega (arith, way.residual_is)) in
      let t = ap (label_at s) way.tail_is in
      let h = ap (label_at s) way.head_is in
      omega (arith, near, t, h))
  | inr e ↦
      (let way = back net s arc e in
      let near = (kept.valid (arc / 2) (omega arith)).1 (omega (arith, way.residual_is)) in
      let t = ap (label_at s) way.tail_is in
      let h = ap (label_at s) way.head_is in
      omega (arith, near, t, h))
]

-- an active node has an arc with residual capacity
pub active_arc : (net : FlowNetwork) (s : State) (v : ℕ) → Active net s v → (arc : ℕ) × (arc < 2 * count net) × (tail net arc ≡ v) × (0 < residual net s arc)
active_arc net s v a =
    let more : outflow net s v < inflow net s v = a.more in
    go (total_some (count net) (λ i. if (import_at net i).to == v then flow_at s i else 0) (omega arith))
  where
    go : (i : ℕ) × (i < count net) × (0 < (if (import_at net i).to == v then flow_at s i else 0)) → (arc : ℕ) × (arc < 2 * count net) × (tail net arc ≡ v) × (0 < residual net s arc)
    go w = elim (cases_eq (import_at net w.0).to v) [
      | inl e ↦
          (let way = back_of net s w.0 in
          (2 * w.0 + 1, (omega (arith, w.1)), (way.tail_is ∙ e), (omega (arith, way.residual_is, w.2, choice_same (import_at net w.0).to v (flow_at s w.0) 0 e))))
      | inr ne ↦ absurd (omega (arith, w.2, choice_other (import_at net w.0).to v (flow_at s w.0) 0 ne))
    ]

-- a push over an arc of an active node, or a relabel of the node, applies
pub progress : (net : FlowNetwork) (s : State) (v : ℕ) → IsValidPreflow net s → Active net s v → ((arc : ℕ) × (arc < 2 * count net) × (tail net arc ≡ v) × (can_push net s arc ≡ true)) ⊎ ((label : ℕ) × (relabel_target net s v ≡ Some label))
progress net s v kept a = go (active_arc net s v a)
  where
    over : (least : ℕ) → least_head net s v (2 * count net) ≡ Some least → ((arc : ℕ) × (arc < 2 * count net) × (tail net arc ≡ v) × (can_push net s arc ≡ true)) ⊎ ((label : ℕ) × (relabel_target net s v ≡ Some label))
    over least is = elim (cases_lt least (label_at s v)) [
      | inl lower ↦ inl (down (least_at net s v (2 * count net) least is) lower)
      | inr le ↦ inr (least + 1, raised_some net s v least a is le)
    ]
      where
        down : (arc : ℕ) × (arc < 2 * count net) × (tail net arc ≡ v) × (0 < residual net s arc) × (label_at s (head net arc) ≡ least) → least < label_at s v → (arc : ℕ) × (arc < 2 * count net) × (tail net arc ≡ v) × (can_push net s arc ≡ true)
        down w lower =
            let near = near_over net s w.0 kept w.1 w.3 in
            let t = ap (label_at s) w.2 in
            (w.0, w.1, w.2, pushable_true net s w.0 (record { below = omega (arith, w.1); active = subst (λ x. Active net s x) (sym w.2) a; room = w.3; downhill = omega (arith, near, t, w.4) }))

    go : (arc : ℕ) × (arc < 2 * count net) × (tail net arc ≡ v) × (0 < residual net s arc) → ((arc : ℕ) × (arc < 2 * count net) × (tail net arc ≡ v) × (can_push net s arc ≡ true)) ⊎ ((label : ℕ) × (relabel_target net s v ≡ Some label))
    go w =
        let found = least_some net s v (2 * count net) w.0 w.1 w.2 w.3 in
        over found.0 found.1
