-- The Boolean tests of the definitions as propositions.
use Rattle.std.proofs.Common.{◌≡◌, ◌≢◌, ℕ, zero, suc, ◌+◌, ◌-◌, ◌*◌, ◌/◌, ◌%◌, ◌<◌, ◌≤◌, min, inl, inr, Bool, true, false, not, ◌&&◌, ◌==◌, if◌then◌else◌, nat_lt, nat_le, Option, Some, None, refl, sym, subst, arith}
use Rattle.std.proofs.lemmas.Bool.{cases_lt, cases_eq}
use Rattle.std.proofs.lemmas.Bool.Decides.{nat_tests}
use Rattle.cut_preflow.specs.Preflow.{FlowNetwork, State, count, import_at, flow_at, label_at, inflow, outflow, excess, is_forward, tail, head, residual, is_active, can_push, smaller, least_head, raised_over, relabel_target}
use Rattle.cut_preflow.proofs.Choices.{pick_true, pick_false}

pub lt_true : (a b : ℕ) → a < b → nat_lt a b ≡ true
lt_true a b h = grind (arith, nat_tests)

pub lt_from : (a b : ℕ) → nat_lt a b ≡ true → a < b
lt_from a b h = grind (arith, nat_tests)

pub le_true : (a b : ℕ) → a ≤ b → nat_le a b ≡ true
le_true a b h = grind (arith, nat_tests)

pub le_from : (a b : ℕ) → nat_le a b ≡ true → a ≤ b
le_from a b h = grind (arith, nat_tests)

pub eq_true : (a b : ℕ) → a ≡ b → (a == b) ≡ true
eq_true a b h = grind (arith, nat_tests)

pub eq_from : (a b : ℕ) → (a == b) ≡ true → a ≡ b
eq_from a b h = grind (arith, nat_tests)

pub not_eq_true : (a b : ℕ) → a ≢ b → not (a == b) ≡ true
not_eq_true a b h = grind (arith, nat_tests)

pub not_eq_from : (a b : ℕ) → not (a == b) ≡ true → a ≢ b
not_eq_from a b h = grind (arith, nat_tests)

pub both_true : (a b : Bool) → a ≡ true → b ≡ true → (a && b) ≡ true
both_true a b p q = rw (p, q) refl

pub left_true : (a b : Bool) → (a && b) ≡ true → a ≡ true
left_true true b h = refl
left_true false b h = h

pub right_true : (a b : Bool) → (a && b) ≡ true → b ≡ true
right_true true b h = h
right_true false b h = cc

pub record Active (net : FlowNetwork) (s : State) (v : ℕ) : Type 0 where
  pub low : v < net.nodes
  pub not_source : v ≢ net.source
  pub not_sink : v ≢ net.sink
  pub more : outflow net s v < inflow net s v

pub active_from : (net : FlowNetwork) (s : State) (v : ℕ) → is_active net s v ≡ true → Active net s v
active_from net s v h =
    let a = nat_lt v net.nodes in
    let b = not (v == net.source) in
    let c = not (v == net.sink) in
    let d = nat_lt 0 (excess net s v) in
    let rest = right_true a (b && (c && d)) h in
    let last = right_true b (c && d) rest in
    let more : 0 < excess net s v = lt_from 0 (excess net s v) (right_true c d last) in
    record {
      low = lt_from v net.nodes (left_true a (b && (c && d)) h);
      not_source = not_eq_from v net.source (left_true b (c && d) rest);
      not_sink = not_eq_from v net.sink (left_true c d last);
      more = omega arith;
    }

pub active_true : (net : FlowNetwork) (s : State) (v : ℕ) → Active net s v → is_active net s v ≡ true
active_true net s v h =
    let a = nat_lt v net.nodes in
    let b = not (v == net.source) in
    let c = not (v == net.sink) in
    let d = nat_lt 0 (excess net s v) in
    let more : outflow net s v < inflow net s v = h.more in
    both_true a (b && (c && d)) (lt_true v net.nodes h.low)
    (both_true b (c && d) (not_eq_true v net.source h.not_source)
    (both_true c d (not_eq_true v net.sink h.not_sink) (lt_true 0 (excess net s v) (omega arith))))

pub record Pushable (net : FlowNetwork) (s : State) (arc : ℕ) : Type 0 where
  pub below : arc / 2 < count net
  pub active : Active net s (tail net arc)
  pub room : 0 < residual net s arc
  pub downhill : label_at s (tail net arc) ≡ label_at s (head net arc) + 1

pub pushable_from : (net : FlowNetwork) (s : State) (arc : ℕ) → can_push net s arc ≡ true → Pushable net s arc
pushable_from net s arc h =
    let a = nat_lt (arc / 2) (count net) in
    let b = is_active net s (tail net arc) in
    let c = nat_lt 0 (residual net s arc) in
    let d = label_at s (tail net arc) == label_at s (head net arc) + 1 in
    let rest = right_true a (b && (c && d)) h in
    let last = right_true b (c && d) rest in
    record {
      below = lt_from (arc / 2) (count net) (left_true a (b && (c && d)) h);
      active = active_from net s (tail net arc) (left_true b (c && d) rest);
      room = lt_from 0 (residual net s arc) (left_true c d last);
      downhill = eq_from (label_at s (tail net arc)) (label_at s (head net arc) + 1) (right_true c d last);
    }

pub pushable_true : (net : FlowNetwork) (s : State) (arc : ℕ) → Pushable net s arc → can_push net s arc ≡ true
pushable_true net s arc h =
    let a = nat_lt (arc / 2) (count net) in
    let b = is_active net s (tail net arc) in
    let c = nat_lt 0 (residual net s arc) in
    let d = label_at s (tail net arc) == label_at s (head net arc) + 1 in
    both_true a (b && (c && d)) (lt_true (arc / 2) (count net) h.below)
    (both_true b (c && d) (active_true net s (tail net arc) h.active)
    (both_true c d (lt_true 0 (residual net s arc) h.room) (eq_true (label_at s (tail net arc)) (label_at s (head net arc) + 1) h.downhill)))

-- the ends and the residual of an arc, by its direction
pub record Ahead (net : FlowNetwork) (s : State) (arc i : ℕ) : Type 0 where
  pub tail_is : tail net arc ≡ (import_at net i).from
  pub head_is : head net arc ≡ (import_at net i).to
  pub residual_is : residual net s arc ≡ (import_at net i).amount - flow_at s i

pub record Back (net : FlowNetwork) (s : State) (arc i : ℕ) : Type 0 where
  pub tail_is : tail net arc ≡ (import_at net i).to
  pub head_is : head net arc ≡ (import_at net i).from
  pub residual_is : residual net s arc ≡ flow_at s i

pub ahead : (net : FlowNetwork) (s : State) (arc : ℕ) → is_forward arc ≡ true → Ahead net s arc (arc / 2)
ahead net s arc e =
    record {
      tail_is = pick_true (is_forward arc) _ _ e;
      head_is = pick_true (is_forward arc) _ _ e;
      residual_is = pick_true (is_forward arc) _ _ e;
    }

pub back : (net : FlowNetwork) (s : State) (arc : ℕ) → is_forward arc ≡ false → Back net s arc (arc / 2)
back net s arc e =
    record {
      tail_is = pick_false (is_forward arc) _ _ e;
      head_is = pick_false (is_forward arc) _ _ e;
      residual_is = pick_false (is_forward arc) _ _ e;
    }

pub half_even : (i : ℕ) → (2 * i) / 2 ≡ i
half_even i = omega arith

pub half_odd : (i : ℕ) → (2 * i + 1) / 2 ≡ i
half_odd i = omega arith

pub even_forward : (i : ℕ) → is_forward (2 * i) ≡ true
even_forward i = eq_true ((2 * i) % 2) 0 (omega arith)

pub odd_back : (i : ℕ) → is_forward (2 * i + 1) ≡ false
odd_back i = go ((2 * i + 1) % 2) (omega arith)
  where
    go : (r : ℕ) → r ≡ 1 → (r == 0) ≡ false
    go r e = grind (arith, nat_tests)

pub ahead_of : (net : FlowNetwork) (s : State) (i : ℕ) → Ahead net s (2 * i) i
ahead_of net s i = subst (λ x. Ahead net s (2 * i) x) (half_even i) (ahead net s (2 * i) (even_forward i))

pub back_of : (net : FlowNetwork) (s : State) (i : ℕ) → Back net s (2 * i + 1) i
back_of net s i = subst (λ x. Back net s (2 * i + 1) x) (half_odd i) (back net s (2 * i + 1) (odd_back i))

-- the least label that the arcs of a node lead to is at most that of each such arc
pub least_some : (net : FlowNetwork) (s : State) (v k arc : ℕ) → arc < k → tail net arc ≡ v → 0 < residual net s arc → (least : ℕ) × (least_head net s v k ≡ Some least) × (least ≤ label_at s (head net arc))
least_some net s v zero arc l t r = absurd (omega arith)
least_some net s v (suc k) arc l t r =
    elim (cases_eq arc k) [
      | inl e ↦ at_last e
      | inr ne ↦ earlier (tail net k == v && nat_lt 0 (residual net s k)) (least_head net s v k) (label_at s (head net k)) (least_some net s v k arc (omega arith) t r)
    ]
  where
    smaller_le : (o : Option ℕ) (x : ℕ) → smaller o x ≤ x
    smaller_le None x = omega arith
    smaller_le (Some y) x = omega arith

    at_last : arc ≡ k → (least : ℕ) × (least_head net s v (suc k) ≡ Some least) × (least ≤ label_at s (head net arc))
    at_last e =
        let test : (tail net k == v && nat_lt 0 (residual net s k)) ≡ true =
        subst (λ x. (tail net x == v && nat_lt 0 (residual net s x)) ≡ true) e
        (both_true (tail net arc == v) (nat_lt 0 (residual net s arc)) (eq_true (tail net arc) v t) (lt_true 0 (residual net s arc) r)) in (
          smaller (least_head net s v k) (label_at s (head net k)),
          rw (test) refl,
          subst (λ x. smaller (least_head net s v k) (label_at s (head net k)) ≤ label_at s (head net x)) (sym e) (smaller_le (least_head net s v k) (label_at s (head net k))),
        )

    earlier : (b : Bool) (o : Option ℕ) (x : ℕ) → (least : ℕ) × (o ≡ Some least) × (least ≤ label_at s (head net arc)) → (least : ℕ) × ((if b then Some (smaller o x) else o) ≡ Some least) × (least ≤ label_at s (head net arc))
    earlier true o x w = (smaller (Some w.0) x, rw (w.1) refl, omega (arith, w.2))
    earlier false o x w = w

-- and an arc of the node with residual capacity leads to that label
pub least_at : (net : FlowNetwork) (s : State) (v k least : ℕ) → least_head net s v k ≡ Some least → (arc : ℕ) × (arc < k) × (tail net arc ≡ v) × (0 < residual net s arc) × (label_at s (head net arc) ≡ least)
least_at net s v zero least e = cc
least_at net s v (suc k) least e = go (tail net k == v && nat_lt 0 (residual net s k)) refl (least_head net s v k) (λ y q. least_at net s v k y q) e
  where
    Found : ℕ → ℕ → Type 0
    Found n y = (arc : ℕ) × (arc < n) × (tail net arc ≡ v) × (0 < residual net s arc) × (label_at s (head net arc) ≡ y)

    later : (y : ℕ) → Found k y → Found (suc k) y
    later y w = (w.0, (omega (arith, w.1)), w.2, w.3, w.4)

    here : (tail net k == v && nat_lt 0 (residual net s k)) ≡ true → (y : ℕ) → label_at s (head net k) ≡ y → Found (suc k) y
    here t y e = (k, (omega arith), eq_from (tail net k) v (left_true (tail net k == v) (nat_lt 0 (residual net s k)) t), lt_from 0 (residual net s k) (right_true (tail net k == v) (nat_lt 0 (residual net s k)) t), e)

    same_some : (a b : ℕ) → Some a ≡ Some b → a ≡ b
    same_some a b e = cc

    go : (b : Bool) → (tail net k == v && nat_lt 0 (residual net s k)) ≡ b → (o : Option ℕ) → ((y : ℕ) → o ≡ Some y → Found k y) → (if b then Some (smaller o (label_at s (head net k))) else o) ≡ Some least → Found (suc k) least
    go true t None found e = here t least (same_some _ _ e)
    go true t (Some y) found e =
        let is : min y (label_at s (head net k)) ≡ least = same_some _ _ e in
        elim (cases_lt y (label_at s (head net k))) [
          | inl lt ↦ subst (λ z. Found (suc k) z) (omega arith) (later y (found y refl))
          | inr le ↦ here t least (omega arith)
        ]
    go false t o found e = later least (found least e)

-- what a relabel that applies says
pub record Raisable (net : FlowNetwork) (s : State) (v label : ℕ) : Type 0 where
  pub active : Active net s v
  pub least : ℕ
  pub is_least : least_head net s v (2 * count net) ≡ Some least
  pub none_lower : label_at s v ≤ least
  pub label_is : label ≡ least + 1

pub raisable_from : (net : FlowNetwork) (s : State) (v label : ℕ) → relabel_target net s v ≡ Some label → Raisable net s v label
raisable_from net s v label e = go (is_active net s v) refl (least_head net s v (2 * count net)) refl e
  where
    over : (least : ℕ) → (t : Bool) → nat_le (label_at s v) least ≡ t → (if t then Some (least + 1) else None) ≡ Some label → (label_at s v ≤ least) × (label ≡ least + 1)
    over least true t e = (le_from (label_at s v) least t, cc)
    over least false t e = cc

    go : (b : Bool) → is_active net s v ≡ b → (o : Option ℕ) → least_head net s v (2 * count net) ≡ o → (if b then raised_over (label_at s v) o else None) ≡ Some label → Raisable net s v label
    go true a None q e = cc
    go true a (Some least) q e =
        let both = over least (nat_le (label_at s v) least) refl e in
        record { active = active_from net s v a; least = least; is_least = q; none_lower = both.0; label_is = both.1 }
    go false a o q e = cc

pub raised_some : (net : FlowNetwork) (s : State) (v least : ℕ) → Active net s v → least_head net s v (2 * count net) ≡ Some least → label_at s v ≤ least → relabel_target net s v ≡ Some (least + 1)
raised_some net s v least a q le =
    let on : is_active net s v ≡ true = active_true net s v a in
    let up : nat_le (label_at s v) least ≡ true = le_true (label_at s v) least le in
    rw (on, q) (rw (up) refl)
