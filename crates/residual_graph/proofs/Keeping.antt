-- Arcs that differ only in their flow.
use Rattle.std.proofs.Common.{◌≡◌, ℕ, zero, suc, ◌<◌, cond, List, [], ◌∷◌, length, get_or, refl, sym, ap, ◌∙◌, subst, arith}
use Rattle.std.specs.Prelude.{All, map}
use Rattle.std.proofs.lemmas.List.{length-map, get_or-map}
use Rattle.residual_graph.specs.declared.arc.Arc.{Arc}
use Rattle.residual_graph.specs.declared.arc.ResidualArc.{ResidualArc}
use Rattle.residual_graph.specs.Flows.{DifferInFlowOnly, without_flow}
use Rattle.residual_graph.specs.Graphs.{no_arc, tail}

arc_emptied : (arcs : List Arc) (k : ℕ) → get_or (map without_flow arcs) k no_arc ≡ without_flow (get_or arcs k no_arc)
arc_emptied [] k = refl
arc_emptied (r ∷ more) zero = refl
arc_emptied (r ∷ more) (suc k) = arc_emptied more k

tail_emptied : (arcs : List Arc) (s : ResidualArc) → tail (map without_flow arcs) s ≡ tail arcs s
tail_emptied arcs s = ap (λ (r : Arc). cond s.forward r.from r.to) (arc_emptied arcs s.arc)

module _ (old new : List Arc) (same : DifferInFlowOnly old new) where
  pub same_length : length new ≡ length old
  same_length = sym (length-map new without_flow) ∙ ap length same ∙ length-map old without_flow

  pub same_tail : (s : ResidualArc) → tail new s ≡ tail old s
  same_tail s = sym (tail_emptied new s) ∙ ap (λ v. tail v s) same ∙ tail_emptied old s

  pub between_kept : (n : ℕ) → All (λ r. (r.from < n) × (r.to < n)) old → All (λ r. (r.from < n) × (r.to < n)) new
  between_kept n all k d h =
      let len = same_length in
      let in_old : k < length old = omega arith in
      let e : without_flow (get_or new k d) ≡ without_flow (get_or old k d) =
      sym (get_or-map without_flow new k d (without_flow d) h) ∙ ap (λ v. get_or v k (without_flow d)) same ∙ get_or-map without_flow old k d (without_flow d) in_old in
      let f : (get_or new k d).from ≡ (get_or old k d).from = ap (λ v. v.from) e in
      let t : (get_or new k d).to ≡ (get_or old k d).to = ap (λ v. v.to) e in
      let was = all k d in_old in
      (subst (λ v. v < n) (sym f) was.0, subst (λ v. v < n) (sym t) was.1)
