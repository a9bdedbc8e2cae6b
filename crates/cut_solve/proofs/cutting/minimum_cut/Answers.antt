use Rattle.std.proofs.Common.{◌≡◌, ◌∙◌, ◌<◌, ℕ, Bool, List, true, length, sym, ap, subst, arith, sum_by}
use Rattle.std.specs.Prelude.{◌↔◌, filter}
use Rattle.cut_net.specs.declared.priced.Priced.{Priced}
use Rattle.cut_net.specs.Lines.{removed_by, IsCutAnswer}
use Rattle.cut_net.specs.Cuts.{leaves, Chain, IsCheapest, Outside}
use Rattle.cut_net.specs.WellFormed.{AreBetween}
use Rattle.residual_graph.specs.Graphs.{is_flagged}
use Rattle.cut_solve.specs.Lines.{is_reported_import}
use Rattle.cut_solve.proofs.Answering.{answered, cheapest}
use Rattle.cut_solve.proofs.Listing.{kept_within}
use Rattle.cut_solve.proofs.cutting.minimum_cut.Goals as goal

pub sink_side_of-requires-clause-between : goal.sink_side_of-requires-clause-between
sink_side_of-requires-clause-between c =
    let between = subst (λ v. AreBetween v (length c.args.net.now.names)) (sym c.imports-imports.ensures) c.invariants.ensures.network.between in
    subst (AreBetween c.imports-imports.result.now) (sym c.nodes.ensures) between

pub sink_side_of-requires-clause-source_side : goal.sink_side_of-requires-clause-source_side
sink_side_of-requires-clause-source_side c = c.requires.greatest.size ∙ sym c.nodes.ensures

pub reported_imports-requires-clause-source_side : goal.reported_imports-requires-clause-source_side
reported_imports-requires-clause-source_side c =
    let between = subst (λ v. AreBetween v (length c.args.net.now.names)) (sym c.imports-imports.ensures) c.invariants.ensures.network.between in
    subst (AreBetween c.imports-imports.result.now) (sym c.requires.greatest.size) between

pub reported_imports-requires-clause-sink_side : goal.reported_imports-requires-clause-sink_side
reported_imports-requires-clause-sink_side c =
    let between = subst (λ v. AreBetween v (length c.args.net.now.names)) (sym c.imports-imports.ensures) c.invariants.ensures.network.between in
    subst (AreBetween c.imports-imports.result.now) (sym (ap length c.deref.ensures.value ∙ c.in_ok-sink_side.ensures.size ∙ c.nodes.ensures)) between

pub weight_of-weight-requires : goal.weight_of-weight-requires
weight_of-weight-requires c =
    let imports = c.imports-imports.result.now in
    let most = kept_within (is_reported_import c.args.source_side.now c.deref.result.now) imports in
    let fits : sum_by (λ (i : Priced). i.amount) imports < 18446744073709551616 = subst (λ v. sum_by (λ (i : Priced). i.amount) v < 18446744073709551616) (sym c.imports-imports.ensures) c.invariants.ensures.network.fits in
    subst (λ v. sum_by (λ (i : Priced). i.amount) v < 18446744073709551616) (sym (c.deref-2.ensures.value ∙ c.in_ok-printed.ensures)) (omega arith)

chains : (c : goal.After-drop-sink_side-2) →
    (m : ℕ) → (is_flagged c.in_ok-sink_side.sink_side.items m ≡ true) ↔ Chain c.args.net.now.imports (Outside (leaves (is_flagged c.args.source_side.now))) m c.args.to
chains c = subst (λ v. (m : ℕ) → (is_flagged c.in_ok-sink_side.sink_side.items m ≡ true) ↔ Chain v (Outside (leaves (is_flagged c.args.source_side.now))) m c.args.to) c.imports-imports.ensures c.in_ok-sink_side.ensures.sink_side

printed_is : (c : goal.After-drop-sink_side-2) → c.in_ok-printed.printed.items ≡ filter (is_reported_import c.args.source_side.now c.in_ok-sink_side.sink_side.items) c.args.net.now.imports
printed_is c = c.in_ok-printed.ensures ∙ ap (λ (v : List Bool). filter (is_reported_import c.args.source_side.now v) c.imports-imports.result.now) c.deref.ensures.value ∙ ap (filter (is_reported_import c.args.source_side.now c.in_ok-sink_side.sink_side.items)) c.imports-imports.ensures

pub returns-clause-answer : goal.returns-clause-answer
returns-clause-answer c =
    let net = c.args.net.now in
    let a = c.args.from in
    let b = c.args.to in
    let total_is : c.weight_of-weight.result ≡ sum_by (λ (i : Priced). i.amount) c.in_ok-printed.printed.items = c.weight_of-weight.ensures ∙ ap (sum_by (λ (i : Priced). i.amount)) c.deref-2.ensures.value in
    let whole = answered net a b c.args.source_side.now c.in_ok-sink_side.sink_side.items c.args.flow.items c.invariants.ensures.network.imports_ascend c.invariants.ensures.network.between c.requires.from c.requires.greatest (chains c) in
    let at_printed = subst (λ v. IsCutAnswer net a b v (sum_by (λ (i : Priced). i.amount) v) c.args.flow.items) (sym (printed_is c)) whole in
    subst (λ n. IsCutAnswer net a b c.in_ok-printed.printed.items n c.args.flow.items) (sym total_is) at_printed

pub returns-clause-cheapest : goal.returns-clause-cheapest
returns-clause-cheapest c =
    let net = c.args.net.now in
    subst (λ v. IsCheapest net c.args.from c.args.to (removed_by v)) (sym (printed_is c))
    (cheapest net c.args.from c.args.to c.args.source_side.now c.in_ok-sink_side.sink_side.items c.args.flow.items c.invariants.ensures.network.imports_ascend c.invariants.ensures.network.between c.requires.from c.requires.greatest (chains c))
