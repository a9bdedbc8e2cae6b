use Rattle.std.proofs.Common.{◌≡◌, ◌∙◌, ◌+◌, ◌-◌, ◌/◌, ◌%◌, ℕ, false, inl, inr, Some, None, if◌then◌else◌, sym, ap, subst, arith}
use Rattle.cut_preflow.specs.declared.event.Outcome.TheVariants.{Moved, Stale}
use Rattle.cut_preflow.specs.Indexed.{IsIndexed, with_moved_excess}
use Rattle.cut_preflow.specs.FlowGraphs.{FlowGraphModel}
use Rattle.cut_preflow.specs.Preflow.{can_push, flow_at, head, is_forward, push_amount, tail}
use Rattle.cut_preflow.specs.Trace.{IsTrace, flow_network, state_of, state_with, step_outcome}
use Rattle.cut_preflow.proofs.Arcs.{eq_from, eq_true, pushable_from}
use Rattle.cut_preflow.proofs.Choices.{pick_false, pick_true, true_or_false}
use Rattle.cut_preflow.proofs.Kept.{moves}
use Rattle.cut_preflow.proofs.Carrying.{Carries, active_from_index, carries, pushed_indexed}
use Rattle.cut_preflow.proofs.Fields.{fields_of, net_of, sound_fields, unseen}
use Rattle.cut_preflow.proofs.Playing.{PushFits, push_fits, push_played, pushed_flow, some_from}
use Rattle.cut_preflow.proofs.preflow_core.PreflowCore.push.Goals as goal
use Rattle.cut_preflow.proofs.preflow_core.PreflowCore.push.Goals.{In-Ok}

-- an odd number's arc goes backwards
odd_back_of : (arc : ℕ) → (arc % 2 ≡ 0 → ⊥) → is_forward arc ≡ false
odd_back_of arc odd = elim (true_or_false (is_forward arc)) [
  | inl e ↦ absurd (odd (eq_from (arc % 2) 0 e))
  | inr e ↦ e
]

fits_of : (c : In-Ok) → PushFits (net_of c.self.inside) (fields_of c.self.inside) c.args.arc c.in-Some.amount
fits_of c =
    push_fits (net_of c.self.inside) (fields_of c.self.inside) c.args.arc c.in-Some.amount (sound_fields c.self.inside c.self.invariant.0)
    (unseen c.self.inside c.self.invariant.0 c.args.self.now c.self.view_is (λ net s. Some c.in-Some.amount ≡ (if can_push net s c.args.arc then Some (push_amount net s c.args.arc) else None)) c.in-Some.ensures)

from_is : (c : In-Ok) → c.tail-from.result ≡ tail (net_of c.self.inside) c.args.arc
from_is c = c.tail-from.ensures.value ∙ sym (ap (λ p. tail p.net c.args.arc) c.self.view_is)

to_is : (c : In-Ok) → c.head-to.result ≡ head (net_of c.self.inside) c.args.arc
to_is c = c.head-to.ensures.value ∙ sym (ap (λ p. head p.net c.args.arc) c.self.view_is)

carries_of : (c : In-Ok) → Carries (net_of c.self.inside) c.self.inside.excesses.items c.tail-from.result c.head-to.result c.in-Some.amount
carries_of c =
    let net = net_of c.self.inside in
    let s = fields_of c.self.inside in
    let xs = c.self.inside.excesses.items in
    let arc = c.args.arc in
    let fits = fits_of c in
    let may = carries net s c.self.inside.graph.nodes xs c.self.inside.active arc (sound_fields c.self.inside c.self.invariant.0) c.self.invariant.1 (pushable_from net s arc fits.on) in
    subst (λ x. Carries net xs x c.head-to.result c.in-Some.amount) (sym (from_is c))
    (subst (λ x. Carries net xs (tail net arc) x c.in-Some.amount) (sym (to_is c))
    (subst (λ x. Carries net xs (tail net arc) (head net arc) x) (sym fits.is) may))

pub send-requires-clause-known : goal.send-requires-clause-known
send-requires-clause-known c =
    let ok = (goal.at.send-requires-clause-known c).In-Ok in
    (pushable_from (net_of c.self.inside) (fields_of c.self.inside) c.args.arc (fits_of ok).on).below

pub send-requires-clause-left : goal.send-requires-clause-left
send-requires-clause-left c =
    let fits = fits_of (goal.at.send-requires-clause-left c).In-Ok in
    let net = net_of c.self.inside in
    let s = fields_of c.self.inside in
    omega (arith, fits.is, (moves net s c.args.arc (pushable_from net s c.args.arc fits.on)).fits)

pub move_excess-requires-clause-active : goal.move_excess-requires-clause-active
move_excess-requires-clause-active c =
    active_from_index c.self.inside.ends c.self.inside.graph.imports (fields_of c.self.inside) c.self.inside.graph.nodes c.self.inside.excesses.items c.self.inside.active c.self.invariant.1

pub move_excess-requires-clause-pays : goal.move_excess-requires-clause-pays
move_excess-requires-clause-pays c = (carries_of (goal.at.move_excess-requires-clause-pays c).In-Ok).pays

pub move_excess-requires-clause-fits : goal.move_excess-requires-clause-fits
move_excess-requires-clause-fits c = (carries_of (goal.at.move_excess-requires-clause-fits c).In-Ok).fits

pub invariant_of-self-2 : goal.invariant_of-self-2
invariant_of-self-2 c =
    let ok = (goal.at.invariant_of-self-2 c).In-Ok in
    let q = c.self.inside in
    let net = net_of q in
    let s = fields_of q in
    let arc = c.args.arc in
    let amount = c.in-Some.amount in
    let fits = fits_of ok in
    let next = if is_forward arc then flow_at s (arc / 2) + amount else flow_at s (arc / 2) - amount in
    let ahead : arc % 2 ≡ 0 → next ≡ flow_at s (arc / 2) + amount = λ even. pick_true (is_forward arc) _ _ (eq_true (arc % 2) 0 even) in
    let back : (arc % 2 ≡ 0 → ⊥) → next ≡ flow_at s (arc / 2) - amount = λ odd. pick_false (is_forward arc) _ _ (odd_back_of arc odd) in
    let flow = pushed_flow net s arc amount next fits ahead back in
    let same : c.move_excess.new.excesses.items ≡ with_moved_excess q.ends.source q.excesses.items (tail net arc) (head net arc) (push_amount net s arc) =
    c.move_excess.ensures.excesses
    ∙ ap (λ x. with_moved_excess q.ends.source q.excesses.items x c.head-to.result amount) (from_is ok)
    ∙ ap (λ x. with_moved_excess q.ends.source q.excesses.items (tail net arc) x amount) (to_is ok)
    ∙ ap (λ x. with_moved_excess q.ends.source q.excesses.items (tail net arc) (head net arc) x) fits.is in
    let at = pushed_indexed q.ends q.graph.imports s q.graph.nodes q.excesses.items c.move_excess.new.excesses.items q.active c.move_excess.new.active arc (sound_fields q c.self.invariant.0) c.self.invariant.1 (pushable_from net s arc fits.on) same c.move_excess.ensures.active in
    subst (λ (g : FlowGraphModel). IsTrace (flow_network q.ends g.imports) g.flow q.labels.items c.push.new.self.items × IsIndexed (flow_network q.ends g.imports) (state_with g.flow q.labels.items) g.nodes c.move_excess.new.excesses.items c.move_excess.new.active) (sym c.send.ensures)
    (rw (c.in-Ok.ensures.items) (
      push_played net s q.history.items c.args.event arc amount next c.self.invariant.0 c.requires fits ahead back,
      subst (λ ys. IsIndexed net (record { flow = ys; label = q.labels.items }) q.graph.nodes c.move_excess.new.excesses.items c.move_excess.new.active) (sym flow) at,
    ))

pub returns-clause-outcome : goal.returns-clause-outcome
returns-clause-outcome c = λ _.
    let net = c.args.self.now.net in
    let s = state_of c.args.self.now in
    let got = some_from (can_push net s c.args.arc) (push_amount net s c.args.arc) c.in-Some.amount c.in-Some.ensures in
    ap Moved got.1 ∙ sym (ap (λ b. if b then Moved (push_amount net s c.args.arc) else Stale) got.0) ∙ sym (ap (step_outcome net s) c.requires)
