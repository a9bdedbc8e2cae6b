-- The excesses that the imports out of the source bring to the nodes in the initial state, one import after another.
use Rattle.std.proofs.Common.{◌≡◌, ◌≢◌, ℕ, ◌+◌, ◌^◌, ◌<◌, Bool, ◌==◌, if◌then◌else◌, List, length, get_or, ap, ◌∙◌, add-one, arith}
use Rattle.cut_net.specs.declared.priced.Priced.{Priced}
use Rattle.cut_preflow.specs.declared.ends.FlowEnds.{FlowEnds}
use Rattle.cut_preflow.specs.Total.{total}
use Rattle.cut_preflow.specs.Preflow.{import_in, into, opening, opening_flows}
use Rattle.cut_preflow.specs.Trace.{flow_network}
use Rattle.cut_preflow.specs.Indexed.{AreActive, IsIndexed, with_added_excess}
use Rattle.cut_preflow.proofs.Choices.{choice_le, choice_same, choice_other}
use Rattle.cut_preflow.proofs.Totals.{part_le-total}
use Rattle.cut_preflow.proofs.Opening.{get_or-opening_flows, opening_outflow}
use Rattle.cut_preflow.proofs.Carrying.{brought_at, indexed_from}

-- what the imports below a number bring to a node
abbrev pub so_far : ℕ → List Priced → ℕ → ℕ → ℕ
so_far source imports k v = total k (λ i. if (import_in imports i).to == v then get_or (opening_flows source imports) i 0 else 0)

pub saturate_fits : (source : ℕ) (imports : List Priced) (k : ℕ) → k < length imports → total (length imports) (λ i. (import_in imports i).amount) < 2 ^ 64 → so_far source imports k (import_in imports k).to + (import_in imports k).amount < 2 ^ 64
saturate_fits source imports k l weights =
    let part = part_le-total (length imports) (λ i. if (import_in imports i).to == (import_in imports k).to then get_or (opening_flows source imports) i 0 else 0) (λ i. (import_in imports i).amount) k l
    (λ j. omega (arith, choice_le ((import_in imports j).to == (import_in imports k).to) (get_or (opening_flows source imports) j 0), get_or-opening_flows source imports j, choice_le ((import_in imports j).from == source) (import_in imports j).amount)) in
    omega (arith, part, weights)

-- an import out of the source
pub saturate_more : (source : ℕ) (imports : List Priced) (xs : List ℕ) (k v : ℕ) → (import_in imports k).to < length xs → (import_in imports k).from ≡ source → v ≢ source → get_or xs v 0 ≡ so_far source imports k v →
    get_or (with_added_excess source xs (import_in imports k).to (import_in imports k).amount) v 0 ≡ so_far source imports (k + 1) v
saturate_more source imports xs k v low from ne was =
    let comes = brought_at source xs (import_in imports k).to (import_in imports k).amount v low ne in
    let flow = get_or-opening_flows source imports k ∙ choice_same (import_in imports k).from source (import_in imports k).amount 0 from in
    let term = ap (λ x. if (import_in imports k).to == v then x else 0) flow in
    let next : so_far source imports (k + 1) v ≡ so_far source imports k v + (if (import_in imports k).to == v then get_or (opening_flows source imports) k 0 else 0) = ap (λ n. so_far source imports n v) (add-one k) in
    omega (arith, comes, term, was, next)

-- another import
pub saturate_same : (source : ℕ) (imports : List Priced) (xs : List ℕ) (k v : ℕ) → (import_in imports k).from ≢ source → get_or xs v 0 ≡ so_far source imports k v → get_or xs v 0 ≡ so_far source imports (k + 1) v
saturate_same source imports xs k v from was =
    let flow = get_or-opening_flows source imports k ∙ choice_other (import_in imports k).from source (import_in imports k).amount 0 from in
    let next : so_far source imports (k + 1) v ≡ so_far source imports k v + (if (import_in imports k).to == v then get_or (opening_flows source imports) k 0 else 0) = ap (λ n. so_far source imports n v) (add-one k) in
    omega (arith, flow, next, choice_le ((import_in imports k).to == v) (get_or (opening_flows source imports) k 0), was)

-- the excesses of the initial state
pub opening_indexed : (ends : FlowEnds) (imports : List Priced) (nodes : ℕ) (xs : List ℕ) (active : List Bool) → nodes ≡ ends.nodes →
    ((v : ℕ) → v ≢ ends.source → get_or xs v 0 ≡ into imports (opening_flows ends.source imports) v) → AreActive ends xs active →
    IsIndexed (flow_network ends imports) (opening (flow_network ends imports)) nodes xs active
opening_indexed ends imports nodes xs active same comes by =
    indexed_from ends imports (opening (flow_network ends imports)) nodes xs active same
    (λ v low ne. omega (arith, comes v ne, opening_outflow (flow_network ends imports) v ne)) by
