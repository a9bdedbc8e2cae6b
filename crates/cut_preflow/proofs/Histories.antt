-- A history with one more event.
use Rattle.std.proofs.Common.{◌≡◌, ℕ, true, List, [], ◌∷◌, ◌++◌, refl, sym, ap, ◌∙◌, subst}
use Rattle.cut_net.specs.declared.priced.Priced.{Priced}
use Rattle.cut_preflow.specs.declared.ends.FlowEnds.{FlowEnds}
use Rattle.cut_preflow.specs.declared.event.Event.{Event}
use Rattle.cut_preflow.specs.Preflow.{FlowNetwork, State, after, applies, run, opening, is_legal}
use Rattle.cut_preflow.specs.Trace.{Trace, flow_network, state_of, IsTrace, IsSound}
use Rattle.cut_preflow.proofs.Arcs.{left_true, right_true}
use Rattle.cut_preflow.proofs.Opening.{runs_keep}

pub run-push : (net : FlowNetwork) (s : State) (es : List Event) (e : Event) → run net s (es ++ e ∷ []) ≡ after net (run net s es) e.step
run-push net s [] e = refl
run-push net s (x ∷ xs) e = run-push net (after net s x.step) xs e

pub legal-push : (net : FlowNetwork) (s : State) (es : List Event) (e : Event) → is_legal net s es ≡ true → applies net (run net s es) e.step ≡ true → is_legal net s (es ++ e ∷ []) ≡ true
legal-push net s [] e h on = rw (on) refl
legal-push net s (x ∷ xs) e h on =
    let first = left_true (applies net s x.step) (is_legal net (after net s x.step) xs) h in
    let rest = legal-push net (after net s x.step) xs e (right_true (applies net s x.step) (is_legal net (after net s x.step) xs) h) on in
    rw (first) rest

-- the flows and labels of a preflow are the state of its history
pub played_state : (net : FlowNetwork) (s : State) (history : List Event) → IsTrace net s.flow s.label history → s ≡ run net (opening net) history
played_state net s history p = λ i. record { flow = p.flows_are i; label = p.labels_are i }

pub played_sound : (net : FlowNetwork) (s : State) (history : List Event) → IsTrace net s.flow s.label history → IsSound net s
played_sound net s history p =
    subst (λ t. IsSound net t) (sym (played_state net s history p)) (record { network = p.network; limits = p.limits; kept = runs_keep net history p.network })

-- so contracts describe a reachable state
pub played_keeps : (ends : FlowEnds) (imports : List Priced) (flows labels : List ℕ) (history : List Event) (p : Trace) → IsTrace (flow_network ends imports) flows labels history → record { net = flow_network ends imports; history = history } ≡ p → IsSound p.net (state_of p)
played_keeps ends imports flows labels history p is view =
    subst (λ q. IsSound q.net (state_of q)) view (record { network = is.network; limits = is.limits; kept = runs_keep (flow_network ends imports) history is.network })

-- one more event that applies
pub played-push : (net : FlowNetwork) (s t : State) (history : List Event) (e : Event) → IsTrace net s.flow s.label history → applies net s e.step ≡ true → t ≡ after net s e.step → IsTrace net t.flow t.label (history ++ e ∷ [])
played-push net s t history e p on is =
    let was = played_state net s history p in
    let now : t ≡ run net (opening net) (history ++ e ∷ []) = is ∙ ap (λ x. after net x e.step) was ∙ sym (run-push net (opening net) history e) in
    record {
      network = p.network;
      limits = p.limits;
      flows_are = ap (λ x. x.flow) now;
      labels_are = ap (λ x. x.label) now;
      legal = legal-push net (opening net) history e p.legal (subst (λ x. applies net x e.step ≡ true) was on);
    }
