-- The excesses after a push, and the active nodes by a list of excesses.
use Rattle.std.proofs.Common.{◌≡◌, ◌≢◌, ℕ, ◌+◌, ◌-◌, ◌/◌, ◌^◌, ◌<◌, ◌≤◌, inl, inr, Bool, true, false, not, ◌&&◌, ◌==◌, if◌then◌else◌, nat_lt, List, length, get_or, set, refl, sym, ap, ◌∙◌, subst, arith, get_or-set_same, get_or-set_other}
use Rattle.std.proofs.lemmas.Bool.{cases_eq}
use Rattle.std.proofs.lemmas.Bool.Decides.{nat_tests}
use Rattle.std.proofs.lemmas.List.{length-set}
use Rattle.cut_net.specs.declared.priced.Priced.{Priced}
use Rattle.cut_preflow.specs.declared.ends.FlowEnds.{FlowEnds}
use Rattle.cut_preflow.specs.Preflow.{FlowNetwork, State, count, import_at, flow_at, inflow, outflow, excess, is_forward, tail, head, residual, is_active, push_amount, pushed}
use Rattle.cut_preflow.specs.Kept.{IsValidPreflow}
use Rattle.cut_preflow.specs.Trace.{IsSound, IsWithinLimits, flow_network}
use Rattle.cut_preflow.specs.Indexed.{AreActive, IsIndexed, with_added_excess, with_moved_excess, is_active_by}
use Rattle.cut_preflow.proofs.Choices.{choice_le, choice_same, choice_other, pick_true, pick_false, true_or_false}
use Rattle.cut_preflow.proofs.Totals.{total-le}
use Rattle.cut_preflow.proofs.Pushes.{by_key_raised}
use Rattle.cut_preflow.proofs.Arcs.{Pushable, ahead, back, eq_true, lt_from, not_eq_from}
use Rattle.cut_preflow.proofs.Kept.{moves, push_keeps}
use Rattle.cut_preflow.proofs.Sound.{head_low}

abbrev pub after_push : FlowNetwork → State → ℕ → State
after_push net s arc = record { flow = pushed net s arc; label = s.label }

module _ (net : FlowNetwork) (s : State) (arc : ℕ) (kept : IsValidPreflow net s) (can : Pushable net s arc) where
  others : (j : ℕ) → j < count net → j ≢ arc / 2 → get_or (pushed net s arc) j 0 ≡ flow_at s j
  others j l ne = get_or-set_other s.flow (arc / 2) j (if is_forward arc then flow_at s (arc / 2) + push_amount net s arc else flow_at s (arc / 2) - push_amount net s arc) 0 ne

  here : get_or (pushed net s arc) (arc / 2) 0 ≡ (if is_forward arc then flow_at s (arc / 2) + push_amount net s arc else flow_at s (arc / 2) - push_amount net s arc)
  here = get_or-set_same s.flow (arc / 2) (if is_forward arc then flow_at s (arc / 2) + push_amount net s arc else flow_at s (arc / 2) - push_amount net s arc) 0 (omega (arith, kept.flows, can.below))

  -- at each node what a push brings and takes
  pub balance : (v : ℕ) → inflow net (after_push net s arc) v + outflow net s v + (if tail net arc == v then push_amount net s arc else 0) ≡ inflow net s v + outflow net (after_push net s arc) v + (if head net arc == v then push_amount net s arc else 0)
  balance v = elim (true_or_false (is_forward arc)) [
    | inl e ↦
        (let way = ahead net s arc e in
        let up : get_or (pushed net s arc) (arc / 2) 0 ≡ flow_at s (arc / 2) + push_amount net s arc = here ∙ pick_true (is_forward arc) _ _ e in
        let enters = by_key_raised (count net) (λ j. (import_at net j).to) (flow_at s) (λ j. get_or (pushed net s arc) j 0) (arc / 2) (push_amount net s arc) can.below up others v in
        let leaves = by_key_raised (count net) (λ j. (import_at net j).from) (flow_at s) (λ j. get_or (pushed net s arc) j 0) (arc / 2) (push_amount net s arc) can.below up others v in
        let from = ap (λ x. if x == v then push_amount net s arc else 0) way.tail_is in
        let to = ap (λ x. if x == v then push_amount net s arc else 0) way.head_is in
        omega (arith, enters, leaves, from, to))
    | inr e ↦
        (let way = back net s arc e in
        let fits : push_amount net s arc ≤ residual net s arc = (moves net s arc can).fits in
        let down : get_or (pushed net s arc) (arc / 2) 0 ≡ flow_at s (arc / 2) - push_amount net s arc = here ∙ pick_false (is_forward arc) _ _ e in
        let up : flow_at s (arc / 2) ≡ get_or (pushed net s arc) (arc / 2) 0 + push_amount net s arc = omega (arith, down, fits, way.residual_is) in
        let enters = by_key_raised (count net) (λ j. (import_at net j).to) (λ j. get_or (pushed net s arc) j 0) (flow_at s) (arc / 2) (push_amount net s arc) can.below up (λ j l ne. sym (others j l ne)) v in
        let leaves = by_key_raised (count net) (λ j. (import_at net j).from) (λ j. get_or (pushed net s arc) j 0) (flow_at s) (arc / 2) (push_amount net s arc) can.below up (λ j l ne. sym (others j l ne)) v in
        let from = ap (λ x. if x == v then push_amount net s arc else 0) way.tail_is in
        let to = ap (λ x. if x == v then push_amount net s arc else 0) way.head_is in
        omega (arith, enters, leaves, from, to))
  ]

-- and the effect on the excess
pub push_carries : (net : FlowNetwork) (s : State) (arc : ℕ) → IsSound net s → Pushable net s arc → (v : ℕ) → v < net.nodes → v ≢ net.source →
    excess net (after_push net s arc) v + (if tail net arc == v then push_amount net s arc else 0) ≡ excess net s v + (if head net arc == v then push_amount net s arc else 0)
push_carries net s arc sound can v low ne =
    let kept = push_keeps net s arc sound.network sound.kept can in
    omega (arith, balance net s arc sound.kept can v, sound.kept.no_debt v low ne, kept.no_debt v low ne)

eq_false : (a b : ℕ) → a ≢ b → (a == b) ≡ false
eq_false a b h = grind (arith, nat_tests)

-- an excess after an amount came to a node
pub brought_at : (source : ℕ) (xs : List ℕ) (node amount v : ℕ) → node < length xs → v ≢ source → get_or (with_added_excess source xs node amount) v 0 ≡ get_or xs v 0 + (if node == v then amount else 0)
brought_at source xs node amount v l ne = elim (cases_eq node source) [
  | inl e ↦
      (let none = choice_other node v amount 0 (λ q. ne (sym q ∙ e)) in
      rw (eq_true node source e) (omega (arith, none)))
  | inr other ↦ rw (eq_false node source other) (elim (cases_eq node v) [
    | inl q ↦
        (let some = choice_same node v amount 0 q in
        let same = get_or-set_same xs node (get_or xs node 0 + amount) 0 l in
        let at = ap (λ x. get_or (set xs node (get_or xs node 0 + amount)) x 0) q in
        let was = ap (λ x. get_or xs x 0) q in
        omega (arith, some, same, at, was))
    | inr apart ↦
        (let none = choice_other node v amount 0 apart in
        let same = get_or-set_other xs node v (get_or xs node 0 + amount) 0 (λ q. apart (sym q)) in
        omega (arith, none, same))
  ])
]

-- and after it went from one node to another
carried_at : (source : ℕ) (xs : List ℕ) (from to amount v : ℕ) → from < length xs → to < length xs → amount ≤ get_or xs from 0 → v ≢ source →
    get_or (with_moved_excess source xs from to amount) v 0 + (if from == v then amount else 0) ≡ get_or xs v 0 + (if to == v then amount else 0)
carried_at source xs from to amount v in_from in_to pays ne =
    let comes = brought_at source (set xs from (get_or xs from 0 - amount)) to amount v (omega (arith, length-set xs from (get_or xs from 0 - amount))) ne in
    elim (cases_eq from v) [
      | inl q ↦
          (let some = choice_same from v amount 0 q in
          let same = get_or-set_same xs from (get_or xs from 0 - amount) 0 in_from in
          let at = ap (λ x. get_or (set xs from (get_or xs from 0 - amount)) x 0) q in
          let was = ap (λ x. get_or xs x 0) q in
          omega (arith, comes, some, same, at, was))
      | inr apart ↦
          (let none = choice_other from v amount 0 apart in
          let same = get_or-set_other xs from v (get_or xs from 0 - amount) 0 (λ q. apart (sym q)) in
          omega (arith, comes, none, same))
    ]

same_more : (a b c : Bool) (x y : ℕ) → (a ≡ true → not b ≡ true → x ≡ y) → (a && (not b && (c && nat_lt 0 x))) ≡ (a && (not b && (c && nat_lt 0 y)))
same_more true true c x y same = refl
same_more true false c x y same = ap (λ n. c && nat_lt 0 n) (same refl refl)
same_more false b c x y same = refl

-- with the right excesses a node is active by them where it is active
by_excesses : (ends : FlowEnds) (imports : List Priced) (s : State) (xs : List ℕ) → ((v : ℕ) → v < ends.nodes → v ≢ ends.source → get_or xs v 0 ≡ excess (flow_network ends imports) s v) → (v : ℕ) → is_active_by ends xs v ≡ is_active (flow_network ends imports) s v
by_excesses ends imports s xs are v =
    same_more (nat_lt v ends.nodes) (v == ends.source) (not (v == ends.sink)) (get_or xs v 0) (excess (flow_network ends imports) s v)
    (λ low other. are v (lt_from v ends.nodes low) (not_eq_from v ends.source other))

pub indexed_from : (ends : FlowEnds) (imports : List Priced) (s : State) (nodes : ℕ) (xs : List ℕ) (active : List Bool) → nodes ≡ ends.nodes → ((v : ℕ) → v < ends.nodes → v ≢ ends.source → get_or xs v 0 ≡ excess (flow_network ends imports) s v) → AreActive ends xs active → IsIndexed (flow_network ends imports) s nodes xs active
indexed_from ends imports s nodes xs active same are by = record {
  nodes_are = same;
  each_counted = by.each_counted;
  excesses_are = are;
  each_tested = by.each_tested;
  active_are = λ v. by.active_are v ∙ by_excesses ends imports s xs are v;
}

pub active_from_index : (ends : FlowEnds) (imports : List Priced) (s : State) (nodes : ℕ) (xs : List ℕ) (active : List Bool) → IsIndexed (flow_network ends imports) s nodes xs active → AreActive ends xs active
active_from_index ends imports s nodes xs active is = record {
  each_counted = is.each_counted;
  each_tested = is.each_tested;
  active_are = λ v. is.active_are v ∙ sym (by_excesses ends imports s xs is.excesses_are v);
}

inflow_fits : (net : FlowNetwork) (s : State) → IsWithinLimits net → IsValidPreflow net s → (v : ℕ) → inflow net s v < 2 ^ 64
inflow_fits net s limits kept v =
    let le = total-le (count net) (λ i. if (import_at net i).to == v then flow_at s i else 0) (λ i. (import_at net i).amount) (λ i l. omega (arith, choice_le ((import_at net i).to == v) (flow_at s i), kept.fits i l)) in
    omega (arith, le, limits.weights)

-- what a push needs of the excesses
pub record Carries (net : FlowNetwork) (xs : List ℕ) (from to amount : ℕ) : Type 0 where
  pub from_low : from < net.nodes
  pub to_low : to < net.nodes
  pub pays : amount ≤ get_or xs from 0
  pub fits : to ≢ net.source → get_or xs to 0 + amount < 2 ^ 64

pub carries : (net : FlowNetwork) (s : State) (nodes : ℕ) (xs : List ℕ) (active : List Bool) (arc : ℕ) → IsSound net s → IsIndexed net s nodes xs active → Pushable net s arc → Carries net xs (tail net arc) (head net arc) (push_amount net s arc)
carries net s nodes xs active arc sound is can = record {
  from_low = can.active.low;
  to_low = to_low;
  pays = omega (arith, is.excesses_are (tail net arc) can.active.low can.active.not_source, (moves net s arc can).paid);
  fits = λ other.
      let with_moved_excess = push_carries net s arc sound can (head net arc) to_low other in
      let none = choice_other (tail net arc) (head net arc) (push_amount net s arc) 0 apart in
      let some = choice_same (head net arc) (head net arc) (push_amount net s arc) 0 refl in
      omega (arith, with_moved_excess, none, some, inflow_fits net (after_push net s arc) sound.limits (push_keeps net s arc sound.network sound.kept can) (head net arc), is.excesses_are (head net arc) to_low other);
}
  where
    to_low : head net arc < net.nodes
    to_low = head_low net s sound arc can.below

    apart : tail net arc ≢ head net arc
    apart e = let same = ap (λ v. get_or s.label v 0) e in omega (arith, can.downhill, same)

-- after a push that applies they are those of the state after it
pub pushed_indexed : (ends : FlowEnds) (imports : List Priced) (s : State) (nodes : ℕ) (xs ys : List ℕ) (before after : List Bool) (arc : ℕ) → IsSound (flow_network ends imports) s → IsIndexed (flow_network ends imports) s nodes xs before → Pushable (flow_network ends imports) s arc →
    ys ≡ with_moved_excess ends.source xs (tail (flow_network ends imports) arc) (head (flow_network ends imports) arc) (push_amount (flow_network ends imports) s arc) → AreActive ends ys after →
    IsIndexed (flow_network ends imports) (after_push (flow_network ends imports) s arc) nodes ys after
pushed_indexed ends imports s nodes xs ys before after arc sound is can same by =
    indexed_from ends imports (after_push net s arc) nodes ys after is.nodes_are are by
  where
    net : FlowNetwork
    net = flow_network ends imports

    are : (v : ℕ) → v < ends.nodes → v ≢ ends.source → get_or ys v 0 ≡ excess (flow_network ends imports) (after_push net s arc) v
    are v low ne =
        let may = carries net s nodes xs before arc sound is can in
        let at = carried_at ends.source xs (tail net arc) (head net arc) (push_amount net s arc) v (omega (arith, may.from_low, is.each_counted)) (omega (arith, may.to_low, is.each_counted)) may.pays ne in
        let was = is.excesses_are v low ne in
        let now = ap (λ zs. get_or zs v 0) same in
        omega (arith, at, was, now, push_carries net s arc sound can v low ne)

-- a relabel changes none of it
pub relabelled_indexed : (net : FlowNetwork) (s : State) (labels : List ℕ) (nodes : ℕ) (xs : List ℕ) (active : List Bool) → IsIndexed net s nodes xs active → IsIndexed net (record { flow = s.flow; label = labels }) nodes xs active
relabelled_indexed net s labels nodes xs active is = record {
  nodes_are = is.nodes_are;
  each_counted = is.each_counted;
  excesses_are = is.excesses_are;
  each_tested = is.each_tested;
  active_are = is.active_are;
}

-- another excess of a node, which is a member by it now
pub active_written : (ends : FlowEnds) (excesses : List ℕ) (active : List Bool) (node excess : ℕ) (is : Bool) → node < ends.nodes → AreActive ends excesses active →
    is_active_by ends (set excesses node excess) node ≡ is → AreActive ends (set excesses node excess) (set active node is)
active_written ends excesses active node excess is low was by = record {
  each_counted = length-set excesses node excess ∙ was.each_counted;
  each_tested = length-set active node is ∙ was.each_tested;
  active_are = λ v. elim (cases_eq v node) [
    | inl e ↦
        subst (λ w. get_or (set active node is) w false ≡ is_active_by ends (set excesses node excess) w) (sym e)
        (get_or-set_same active node is false (omega (arith, low, was.each_tested)) ∙ sym by)
    | inr other ↦
        get_or-set_other active node v is false other ∙ was.active_are v
        ∙ ap (λ x. nat_lt v ends.nodes && (not (v == ends.source) && (not (v == ends.sink) && nat_lt 0 x))) (sym (get_or-set_other excesses node v excess 0 other))
  ];
}

-- another excess of an end, which is no member
pub active_kept : (ends : FlowEnds) (excesses : List ℕ) (active : List Bool) (node excess : ℕ) → AreActive ends excesses active →
    ((xs : List ℕ) → is_active_by ends xs node ≡ false) → AreActive ends (set excesses node excess) active
active_kept ends excesses active node excess was none = record {
  each_counted = length-set excesses node excess ∙ was.each_counted;
  each_tested = was.each_tested;
  active_are = λ v. elim (cases_eq v node) [
    | inl e ↦
        subst (λ w. get_or active w false ≡ is_active_by ends (set excesses node excess) w) (sym e)
        (was.active_are node ∙ none excesses ∙ sym (none (set excesses node excess)))
    | inr other ↦
        was.active_are v
        ∙ ap (λ x. nat_lt v ends.nodes && (not (v == ends.source) && (not (v == ends.sink) && nat_lt 0 x))) (sym (get_or-set_other excesses node v excess 0 other))
  ];
}
