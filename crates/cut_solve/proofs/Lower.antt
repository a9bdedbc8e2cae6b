-- Weights reduced to the flow of arcs.
use Rattle.std.proofs.Common.{◌≡◌, ℕ, zero, suc, ◌≤◌, List, [], ◌∷◌, map, refl, ap, subst, arith}
use Rattle.std.specs.Prelude.{All}
use Rattle.digraph.specs.declared.edge.Edge.{Edge}
use Rattle.cut_net.specs.declared.priced.Priced.{Priced}
use Rattle.cut_part.specs.CapacityReduction.{ends_of, import_in}
use Rattle.residual_graph.specs.declared.arc.Arc.{Arc}
use Rattle.residual_graph.specs.Graphs.{no_arc}
use Rattle.cut_solve.specs.Lines.{flow_line}
use Rattle.cut_solve.specs.Starts.{IsReducedFrom}
use Rattle.cut_solve.proofs.Flowing.{imports_of}

have_equal_ends : (arcs : List Arc) → ends_of (map flow_line arcs) ≡ ends_of (imports_of arcs)
have_equal_ends [] = refl
have_equal_ends (r ∷ more) = ap (λ (es : List Edge). record { from = r.from; to = r.to } ∷ es) (have_equal_ends more)

amounts : (arcs : List Arc) → All (λ r. r.flow ≤ r.capacity) arcs → (k : ℕ) → (import_in (map flow_line arcs) k).amount ≤ (import_in (imports_of arcs) k).amount
amounts [] within k = omega arith
amounts (r ∷ more) within zero = within 0 no_arc (omega arith)
amounts (r ∷ more) within (suc k) = amounts more (λ j d h. within (suc j) d (omega arith)) k

pub flows_lower : (imports : List Priced) (arcs : List Arc) → imports_of arcs ≡ imports → All (λ r. r.flow ≤ r.capacity) arcs → IsReducedFrom imports (map flow_line arcs)
flows_lower imports arcs same within = subst (λ v. IsReducedFrom v (map flow_line arcs)) same (record { ends = have_equal_ends arcs; reduced = amounts arcs within })
