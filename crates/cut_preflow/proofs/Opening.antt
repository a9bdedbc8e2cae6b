-- The initial state satisfies the invariant.
use Rattle.std.proofs.Common.{◌≡◌, ◌≢◌, ℕ, zero, suc, ◌+◌, ◌*◌, ◌<◌, ◌≤◌, inl, inr, ◌==◌, if◌then◌else◌, List, [], ◌∷◌, length, get_or, replicate, slice_index_or, refl, sym, ap, ◌∙◌, subst, arith, get_or-set_same, get_or-set_other}
use Rattle.std.proofs.lemmas.List.{length-set, length-replicate}
use Rattle.std.proofs.lemmas.Bool.{cases_eq}
use Rattle.cut_net.specs.declared.priced.Priced.{Priced}
use Rattle.cut_preflow.specs.declared.event.Event.{Event}
use Rattle.cut_preflow.specs.Preflow.{FlowNetwork, count, import_at, flow_at, label_at, inflow, outflow, run, opening, opening_flows}
use Rattle.cut_preflow.specs.Kept.{IsFlowNetwork, IsValidPreflow}
use Rattle.cut_preflow.proofs.Choices.{choice_same, choice_other, same_either_way}
use Rattle.cut_preflow.proofs.Totals.{total-zero}
use Rattle.cut_preflow.proofs.Kept.{run_keeps}

abbrev none : Priced
none = record { from = 0; to = 0; amount = 0 }

pub length-opening_flows : (source : ℕ) (es : List Priced) → length (opening_flows source es) ≡ length es
length-opening_flows source [] = refl
length-opening_flows source (e ∷ es) = ap suc (length-opening_flows source es)

pub get_or-opening_flows : (source : ℕ) (es : List Priced) (i : ℕ) → get_or (opening_flows source es) i 0 ≡ (if (slice_index_or es i none).from == source then (slice_index_or es i none).amount else 0)
get_or-opening_flows source [] i = sym (same_either_way (0 == source) 0)
get_or-opening_flows source (e ∷ es) zero = refl
get_or-opening_flows source (e ∷ es) (suc i) = get_or-opening_flows source es i

-- a list of one value, read with that value past its end
pub get_or-alike : {A : Type 0} (n v : ℕ) (x : A) → get_or (replicate n x) v x ≡ x
get_or-alike zero v x = refl
get_or-alike (suc n) zero x = refl
get_or-alike (suc n) (suc v) x = get_or-alike n v x

-- every label but the source's is 0
pub opening_label : (net : FlowNetwork) (v : ℕ) → v ≢ net.source → label_at (opening net) v ≡ 0
opening_label net v ne = get_or-set_other (replicate net.nodes 0) net.source v net.nodes 0 ne ∙ get_or-alike {A = ℕ} net.nodes v 0

-- nothing leaves a node but the source
pub opening_outflow : (net : FlowNetwork) (v : ℕ) → v ≢ net.source → outflow net (opening net) v ≡ 0
opening_outflow net v ne = total-zero (count net) (λ i. if (import_at net i).from == v then flow_at (opening net) i else 0) each
  where
    each : (i : ℕ) → i < count net → (if (import_at net i).from == v then flow_at (opening net) i else 0) ≡ 0
    each i il = elim (cases_eq (import_at net i).from v) [
      | inl e ↦
          choice_same (import_at net i).from v (flow_at (opening net) i) 0 e
          ∙ get_or-opening_flows net.source net.imports i
          ∙ choice_other (import_at net i).from net.source (import_at net i).amount 0 (λ q. ne (sym e ∙ q))
      | inr other ↦ choice_other (import_at net i).from v (flow_at (opening net) i) 0 other
    ]

pub opening_keeps : (net : FlowNetwork) → IsFlowNetwork net → IsValidPreflow net (opening net)
opening_keeps net is =
    record {
      flows = length-opening_flows net.source net.imports;
      labels = length-set (replicate net.nodes 0) net.source net.nodes ∙ length-replicate {A = ℕ} net.nodes 0;
      fits = fits;
      no_debt = no_debt;
      valid = valid;
      source_label = at_source;
      sink_label = elsewhere net.sink (λ e. is.apart (sym e));
      low = low;
    }
  where
    flow_is : (i : ℕ) → flow_at (opening net) i ≡ (if (import_at net i).from == net.source then (import_at net i).amount else 0)
    flow_is i = get_or-opening_flows net.source net.imports i

    full : (i : ℕ) → (import_at net i).from ≡ net.source → flow_at (opening net) i ≡ (import_at net i).amount
    full i e = flow_is i ∙ choice_same (import_at net i).from net.source (import_at net i).amount 0 e

    empty : (i : ℕ) → (import_at net i).from ≢ net.source → flow_at (opening net) i ≡ 0
    empty i ne = flow_is i ∙ choice_other (import_at net i).from net.source (import_at net i).amount 0 ne

    at_source : label_at (opening net) net.source ≡ net.nodes
    at_source =
        let low : net.source < net.nodes = is.source_low in
        get_or-set_same (replicate net.nodes 0) net.source net.nodes 0 (omega (arith, length-replicate {A = ℕ} net.nodes 0))

    elsewhere : (v : ℕ) → v ≢ net.source → label_at (opening net) v ≡ 0
    elsewhere v ne = opening_label net v ne

    fits : (i : ℕ) → i < count net → flow_at (opening net) i ≤ (import_at net i).amount
    fits i l = elim (cases_eq (import_at net i).from net.source) [
      | inl e ↦ omega (arith, full i e)
      | inr ne ↦ omega (arith, empty i ne)
    ]

    no_debt : (v : ℕ) → v < net.nodes → v ≢ net.source → outflow net (opening net) v ≤ inflow net (opening net) v
    no_debt v l ne = omega (arith, opening_outflow net v ne)

    label_le : (v : ℕ) → label_at (opening net) v ≤ net.nodes
    label_le v = elim (cases_eq v net.source) [
      | inl e ↦ subst (λ x. label_at (opening net) x ≤ net.nodes) (sym e) (omega (arith, at_source))
      | inr ne ↦ omega (arith, elsewhere v ne)
    ]

    valid : (i : ℕ) → i < count net → (flow_at (opening net) i < (import_at net i).amount → label_at (opening net) (import_at net i).from ≤ label_at (opening net) (import_at net i).to + 1) × (0 < flow_at (opening net) i → label_at (opening net) (import_at net i).to ≤ label_at (opening net) (import_at net i).from + 1)
    valid i l = elim (cases_eq (import_at net i).from net.source) [
      | inl e ↦ (
        (λ has. absurd (omega (arith, full i e, has))),
        (λ has. let top = ap (label_at (opening net)) e in omega (arith, top, at_source, label_le (import_at net i).to)),
      )
      | inr ne ↦ (
        (λ has. omega (arith, elsewhere (import_at net i).from ne)),
        (λ has. absurd (omega (arith, empty i ne, has))),
      )
    ]

    low : (v : ℕ) → v < net.nodes → label_at (opening net) v < 2 * net.nodes
    low v l = omega (arith, label_le v)

-- every list of events preserves the invariant
pub runs_keep : (net : FlowNetwork) (events : List Event) → IsFlowNetwork net → IsValidPreflow net (run net (opening net) events)
runs_keep net events is = run_keeps net (opening net) events is (opening_keeps net is)
