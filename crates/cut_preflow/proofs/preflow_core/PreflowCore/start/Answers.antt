use Rattle.std.proofs.Common.{◌∙◌, ℕ, List, sym, subst}
use Rattle.cut_net.specs.declared.priced.Priced.{Priced}
use Rattle.cut_preflow.specs.Preflow.{FlowNetwork}
use Rattle.cut_preflow.specs.Kept.{IsFlowNetwork}
use Rattle.cut_preflow.specs.Trace.{IsWithinLimits}
use Rattle.cut_preflow.proofs.Networks.{between_is, between_limits}
use Rattle.cut_preflow.proofs.preflow_core.PreflowCore.start.Goals as goal

abbrev at : ℕ → ℕ → ℕ → List Priced → FlowNetwork
at a b n xs = record { nodes = n; imports = xs; source = a; sink = b }

pub opening-requires-clause-network : goal.opening-requires-clause-network
opening-requires-clause-network c =
    let whole = between_is c.args.net.now c.args.from c.args.to c.invariants.ensures.network c.requires in
    subst (λ xs. IsFlowNetwork (at c.args.from c.args.to c.nodes.result xs)) (sym (c.in_ok-imports.ensures.items_if_clones_equal (λ x y same. same) ∙ c.imports.ensures))
    (subst (λ n. IsFlowNetwork (at c.args.from c.args.to n c.args.net.now.imports)) (sym c.nodes.ensures) whole)

pub opening-requires-clause-limits : goal.opening-requires-clause-limits
opening-requires-clause-limits c =
    let whole = between_limits c.args.net.now c.args.from c.args.to c.invariants.ensures.network in
    subst (λ xs. IsWithinLimits (at c.args.from c.args.to c.nodes.result xs)) (sym (c.in_ok-imports.ensures.items_if_clones_equal (λ x y same. same) ∙ c.imports.ensures))
    (subst (λ n. IsWithinLimits (at c.args.from c.args.to n c.args.net.now.imports)) (sym c.nodes.ensures) whole)
