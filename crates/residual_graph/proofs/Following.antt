-- Residual arcs are followed along linked lists.
use Rattle.std.proofs.Common.{◌≡◌, ℕ, ◌+◌, ◌*◌, ◌/◌, ◌%◌, ◌<◌, Bool, true, false, cond, List, [], ◌∷◌, ◌++◌, length, replicate, set, refl, sym, ◌∙◌, subst, arith, inl, inr, length-set}
use Rattle.std.specs.Prelude.{All, Contains, ◌==◌}
use Rattle.std.proofs.lemmas.Bool.{eq-eqb, eqb-true, false_from_ne_true}
use Rattle.std.proofs.lemmas.List.Elements.{Contains-push}
use Rattle.digraph.specs.LinkedLists.{IsLast}
use Rattle.digraph.proofs.SpreadMarks.{follow_ends, follow_marked, follow_starts, follow_unmarked, mark_within, spread_starts}
use Rattle.residual_graph.specs.declared.arc.Arc.{Arc}
use Rattle.residual_graph.specs.declared.arc.ResidualArc.{ResidualArc}
use Rattle.residual_graph.specs.Graphs.{arc_of, head, is_flagged, no_arc, tail, AreClosed, AreReached, Graph, HasArc, HasResidual}
use Rattle.residual_graph.specs.Spreading.{head_at, residual_arc_at, IsFollowing, IsSpreading, LeavesFrom}
use Rattle.residual_graph.specs.Trees.{IsTree}
use Rattle.residual_graph.proofs.Searching.{searching_start, tree_more}
use Rattle.residual_graph.proofs.Walking.{reached}

-- ---- numbers of residual arcs

half : (k : ℕ) → (2 * k) / 2 ≡ k
half k = omega arith

half_more : (k : ℕ) → (2 * k + 1) / 2 ≡ k
half_more k = omega arith

pub step_in : (n count : ℕ) → n < count * 2 → n / 2 < count
step_in n count low = omega arith

-- each residual arc has a number
pub numbered : (s : ResidualArc) → (n : ℕ) × (residual_arc_at n ≡ s) × (n < s.arc * 2 + 2)
numbered s = by s.arc s.forward
  where
    by : (k : ℕ) (forward : Bool) → (n : ℕ) × (residual_arc_at n ≡ record { arc = k; forward = forward }) × (n < k * 2 + 2)
    by k true =
        let arc : (2 * k) / 2 ≡ k = half k in
        let forward : ((2 * k) % 2 == 0) ≡ true = eq-eqb ((2 * k) % 2) 0 (omega arith) in
        (2 * k, λ i. record { arc = arc i; forward = forward i }, omega arith)
    by k false =
        let arc : (2 * k + 1) / 2 ≡ k = half_more k in
        let one : (2 * k + 1) % 2 ≡ 1 = omega arith in
        let forward : ((2 * k + 1) % 2 == 0) ≡ false = false_from_ne_true _ (λ t. let zero : (2 * k + 1) % 2 ≡ 0 = eqb-true ((2 * k + 1) % 2) 0 t in omega arith) in
        (2 * k + 1, λ i. record { arc = arc i; forward = forward i }, omega arith)

-- its ends are nodes
module _ (arcs : List Arc) (nodes : ℕ) (between : All (λ r. (r.from < nodes) × (r.to < nodes)) arcs) (s : ResidualArc) (known : HasArc arcs s) where
  pub tail_low : tail arcs s < nodes
  tail_low = by s.forward
    where
      by : (b : Bool) → cond b (arc_of arcs s).from (arc_of arcs s).to < nodes
      by true = (between s.arc no_arc known).0
      by false = (between s.arc no_arc known).1

  pub head_low : head arcs s < nodes
  head_low = by s.forward
    where
      by : (b : Bool) → cond b (arc_of arcs s).to (arc_of arcs s).from < nodes
      by true = (between s.arc no_arc known).1
      by false = (between s.arc no_arc known).0

-- ---- one node's residual arcs

module _ (arcs : List Arc) (start : ℕ) (reached_flags : List Bool) (waiting : List ℕ) (v : ℕ) where
  pub following_starts : (next : ℕ) → IsLast (LeavesFrom arcs v) (length arcs * 2) next → IsSpreading arcs start reached_flags (waiting ++ v ∷ []) → IsFollowing arcs start reached_flags waiting v next
  following_starts next last s = record { tree = s.tree; spread = follow_starts (LeavesFrom arcs) (head_at arcs) (length arcs * 2) reached_flags waiting v next last s.spread }

  pub following_ends : IsFollowing arcs start reached_flags waiting v 0 → IsSpreading arcs start reached_flags waiting
  following_ends f = record { tree = f.tree; spread = follow_ends (LeavesFrom arcs) (head_at arcs) (length arcs * 2) reached_flags waiting v f.spread }

  module _ (number next : ℕ) (low : number < length arcs * 2) (own : LeavesFrom arcs v number) (last : IsLast (LeavesFrom arcs v) number next) (f : IsFollowing arcs start reached_flags waiting v (number + 1)) where
    -- what it leads to has its flag set already
    pub follows_marked : is_flagged reached_flags (head_at arcs number) ≡ true → IsFollowing arcs start reached_flags waiting v next
    follows_marked on = record { tree = f.tree; spread = follow_marked (LeavesFrom arcs) (head_at arcs) (length arcs * 2) reached_flags waiting v number next last f.spread on }

    -- it gets one, and waits
    pub follows_unmarked : head_at arcs number < length reached_flags → is_flagged reached_flags (head_at arcs number) ≡ false →
        IsFollowing arcs start (set reached_flags (head_at arcs number) true) (waiting ++ head_at arcs number ∷ []) v next
    follows_unmarked within off =
        let to = head_at arcs number in
        let (visits, tree) = f.tree in
        let (place, in_places, at_place) = tree.placed v f.spread.own in
        let known : HasArc arcs (residual_arc_at number) = step_in number (length arcs) low in
        let grown = tree_more (record { nodes = length reached_flags; arcs = arcs }) start reached_flags visits place (residual_arc_at number) tree in_places known (own.1 ∙ sym at_place) within (own.0, off) in
        let size : length reached_flags ≡ length (set reached_flags to true) = sym (length-set reached_flags to true) in
        record {
          tree = (_, subst (λ (m : ℕ). IsTree (record { nodes = m; arcs = arcs }) start (set reached_flags to true) (visits ++ (record { node = to; step = residual_arc_at number; parent = place }) ∷ [])) size grown);
          spread = follow_unmarked (LeavesFrom arcs) (head_at arcs) (length arcs * 2) reached_flags waiting v number next last f.spread within;
        }

-- ---- the whole

-- what waits last is a node
pub last_low : (reached_flags : List Bool) (waiting rest : List ℕ) (v : ℕ) → ((x : ℕ) → Contains waiting x → is_flagged reached_flags x ≡ true) → waiting ≡ rest ++ v ∷ [] → v < length reached_flags
last_low reached_flags waiting rest v waits e = mark_within reached_flags v (waits v (subst (λ (w : List ℕ). Contains w v) (sym e) (Contains-push rest v)))

pub spreading_starts : (arcs : List Arc) (start nodes : ℕ) → start < nodes → IsSpreading arcs start (set (replicate nodes false) start true) (start ∷ [])
spreading_starts arcs start nodes low =
    let g : Graph = record { nodes = nodes; arcs = arcs } in
    let first = searching_start g start (record { arc = 0; forward = false }) low in
    record {
      tree = (_, subst (λ (m : ℕ). IsTree (record { nodes = m; arcs = arcs }) start (set (replicate nodes false) start true) ((record { node = start; step = record { arc = 0; forward = false }; parent = 0 }) ∷ [])) (sym first.tree.size) first.tree);
      spread = spread_starts start nodes (LeavesFrom arcs) (head_at arcs) (length arcs * 2) low;
    }

module _ (arcs : List Arc) (start : ℕ) (reached_flags : List Bool) (s : IsSpreading arcs start reached_flags []) where
  pub spread_closed : AreClosed arcs reached_flags
  spread_closed step known left on =
      let (n, is, low) = numbered step in
      let in_arcs : n < length arcs * 2 = omega arith in
      let followed = s.spread.followed n (tail arcs (residual_arc_at n)) in_arcs (subst (HasResidual arcs) (sym is) left, refl) (subst (λ (r : ResidualArc). is_flagged reached_flags (tail arcs r) ≡ true) (sym is) on) in
      elim followed [
        | inl done ↦ subst (λ (r : ResidualArc). is_flagged reached_flags (head arcs r) ≡ true) is done
        | inr w ↦ absurd (omega (arith, w.1))
      ]

  pub spread_reached : (nodes : ℕ) → length reached_flags ≡ nodes → AreReached (record { nodes = nodes; arcs = arcs }) start reached_flags
  spread_reached nodes size =
      let (visits, tree) = s.tree in
      subst (λ (m : ℕ). AreReached (record { nodes = m; arcs = arcs }) start reached_flags) size (reached (record { nodes = length reached_flags; arcs = arcs }) start reached_flags visits tree spread_closed)
