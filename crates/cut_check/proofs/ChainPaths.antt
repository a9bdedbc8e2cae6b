-- Augmenting paths over the arcs of imports, and paths.
use Rattle.std.proofs.Common.{◌≡◌, ℕ, ◌<◌, Bool, true, false, cond, List, [], ◌∷◌, length, get_or, refl, sym, ap, ◌∙◌, subst, arith}
use Rattle.std.specs.Prelude.{All}
use Rattle.std.proofs.lemmas.List.{get_or_default}
use Rattle.cut_net.specs.declared.priced.Priced.{Priced}
use Rattle.cut_net.specs.Cuts.{IsChain, Chain}
use Rattle.cut_net.specs.WellFormed.{AreBetween}
use Rattle.cut_net.proofs.Chains.{joined, step}
use Rattle.residual_graph.specs.declared.arc.Arc.{Arc}
use Rattle.residual_graph.specs.declared.arc.ResidualArc.{ResidualArc}
use Rattle.residual_graph.specs.Graphs.{AreClosed, HasResidual, HasArc, Reaches, head, is_flagged, no_arc, room, tail}
use Rattle.residual_graph.proofs.Walking.{along}
use Rattle.cut_check.specs.Reaching.{AreArcs, IsAllowed, any, arc_if_allowed}

-- the arcs of the first k imports
pub record AreArcsTo (imports : List Priced) (allowed : List Bool) (k : ℕ) (arcs : List Arc) : Type 0 where
  pub size : length arcs ≡ k
  pub each : (j : ℕ) → j < k → get_or arcs j no_arc ≡ arc_if_allowed (get_or imports j any) (get_or allowed j false)

-- something can go over an arc forwards where its import may be used, and backwards nowhere
forward_only : (i : Priced) (allowed forward : Bool) → 0 < room (arc_if_allowed i allowed) forward → (forward ≡ true) × (allowed ≡ true)
forward_only i true true h = (refl, refl)
forward_only i false true h = absurd (omega arith)
forward_only i allowed false h = absurd (omega arith)

module _ (imports : List Priced) (allowed : List Bool) (nodes : ℕ) (arcs : List Arc) (are : AreArcs imports allowed arcs) where
  pub arcs_between : AreBetween imports nodes → All (λ r. (r.from < nodes) × (r.to < nodes)) arcs
  arcs_between between k d h =
      let size = are.size in
      let in_imports : k < length imports = omega arith in
      let is : get_or arcs k d ≡ arc_if_allowed (get_or imports k any) (get_or allowed k false) = get_or_default arcs k d no_arc h ∙ are.each k in_imports in
      rw is (between (get_or imports k any) (k, in_imports, get_or_default imports k (get_or imports k any) any in_imports))

  on : (start : ℕ) (s : ResidualArc) → HasArc arcs s → HasResidual arcs s →
      Chain imports (IsAllowed imports allowed) start (tail arcs s) → Chain imports (IsAllowed imports allowed) start (head arcs s)
  on start s known left chain =
      let size = are.size in
      let k = s.arc in
      let i = get_or imports k any in
      let in_imports : k < length imports = omega arith in
      let arc_is = are.each k in_imports in
      let ways = forward_only i (get_or allowed k false) s.forward (subst (λ (r : Arc). 0 < room r s.forward) arc_is left) in
      let tail_is : tail arcs s ≡ i.from = ap (λ (v : Bool). cond v (get_or arcs k no_arc).from (get_or arcs k no_arc).to) ways.0 ∙ ap (λ (r : Arc). r.from) arc_is in
      let head_is : head arcs s ≡ i.to = ap (λ (v : Bool). cond v (get_or arcs k no_arc).to (get_or arcs k no_arc).from) ways.0 ∙ ap (λ (r : Arc). r.to) arc_is in
      let itself : get_or imports k i ≡ i = get_or_default imports k i any in_imports in
      let more = step imports (IsAllowed imports allowed) i.to i (k, in_imports, itself) (k, in_imports, itself, ways.1) ([], refl) in
      subst (Chain imports (IsAllowed imports allowed) start) (sym head_is)
      (joined imports (IsAllowed imports allowed) start i.from i.to (subst (Chain imports (IsAllowed imports allowed) start) tail_is chain) more)

  pub chain_from_path : (start m : ℕ) → Reaches arcs start m → Chain imports (IsAllowed imports allowed) start m
  chain_from_path start m (path, way) =
      along (Chain imports (IsAllowed imports allowed) start) arcs (on start) start path m way.is_path.leads way.is_path.known way.left ([], refl)

  pub marked_by_chain : (reached_flags : List Bool) → AreClosed arcs reached_flags → (m : ℕ) (more : List ℕ) (b : ℕ) → is_flagged reached_flags m ≡ true →
      IsChain imports (IsAllowed imports allowed) m more b → is_flagged reached_flags b ≡ true
  marked_by_chain reached_flags closed m [] b h e = subst (λ v. is_flagged reached_flags v ≡ true) e h
  marked_by_chain reached_flags closed m (n ∷ more) b h ((i, c, from_is, to_is, (k, in_k, at_k, open_k)), rest) =
      let size = are.size in
      let s : ResidualArc = record { arc = k; forward = true } in
      let i_is : get_or imports k any ≡ i = get_or_default imports k any i in_k ∙ at_k in
      let arc_is : get_or arcs k no_arc ≡ arc_if_allowed i true = are.each k in_k ∙ ap (λ v. arc_if_allowed v (get_or allowed k false)) i_is ∙ ap (arc_if_allowed i) open_k in
      let left : HasResidual arcs s = subst (λ (r : Arc). 0 < room r true) (sym arc_is) (omega arith) in
      let tail_is : tail arcs s ≡ m = ap (λ (r : Arc). r.from) arc_is ∙ from_is in
      let head_is : head arcs s ≡ n = ap (λ (r : Arc). r.to) arc_is ∙ to_is in
      let marked = closed s (omega arith) left (subst (λ v. is_flagged reached_flags v ≡ true) (sym tail_is) h) in
      marked_by_chain reached_flags closed n more b (subst (λ v. is_flagged reached_flags v ≡ true) head_is marked) rest
