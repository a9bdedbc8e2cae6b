-- The worklist of a reachability search over numbered residual arcs.
use Rattle.std.specs.Prelude.{◌≡◌, ℕ, ◌*◌, ◌/◌, ◌%◌, ◌==◌, Bool, List, length}
use Rattle.digraph.specs.Spreading.{IsSpread, IsSpreadBut}
use Rattle.digraph.specs.LinkedLists.{AreLinkedLists}
use Rattle.residual_graph.specs.declared.arc.Arc.{Arc}
use Rattle.residual_graph.specs.declared.arc.ResidualArc.{ResidualArc}
use Rattle.residual_graph.specs.declared.found.Visit.{Visit}
use Rattle.residual_graph.specs.Graphs.{head, tail, HasResidual}
use Rattle.residual_graph.specs.Trees.{IsTree}

-- the residual arc of this number: arc n / 2, in its direction if n is even
abbrev pub residual_arc_at : ℕ → ResidualArc
residual_arc_at n = record { arc = n / 2; forward = n % 2 == 0 }

-- the residual arc of this number has capacity, and leaves v
abbrev pub LeavesFrom : List Arc → ℕ → ℕ → Type 0
LeavesFrom arcs v n = HasResidual arcs (residual_arc_at n) × (tail arcs (residual_arc_at n) ≡ v)

-- the head of the residual arc of this number
abbrev pub head_at : List Arc → ℕ → ℕ
head_at arcs n = head arcs (residual_arc_at n)

-- `last` and `before` link, for each node, those of the first `count` residual arcs that leave it and have capacity: `last` has the last
-- one of each node, and `before` the previous one of each residual arc
abbrev pub AreArcLists : List Arc → ℕ → List ℕ → List ℕ → ℕ → Type 0
AreArcLists arcs nodes last before count = AreLinkedLists (LeavesFrom arcs) nodes last before count

-- the flagged nodes form a tree of residual arcs from the start; and if a flagged node isn't in the worklist, the heads of its residual
-- arcs with capacity are flagged
pub record IsSpreading (arcs : List Arc) (start : ℕ) (reached_flags : List Bool) (waiting : List ℕ) : Type 0 where
  pub tree : (visits : List Visit) × IsTree (record { nodes = length reached_flags; arcs = arcs }) start reached_flags visits
  pub spread : IsSpread (LeavesFrom arcs) (head_at arcs) (length arcs * 2) reached_flags waiting

-- as `IsSpreading`, but the residual arcs of node `one` whose number is below `next` may lead to unflagged heads: they are followed in
-- descending order of their numbers
pub record IsFollowing (arcs : List Arc) (start : ℕ) (reached_flags : List Bool) (waiting : List ℕ) (one next : ℕ) : Type 0 where
  pub tree : (visits : List Visit) × IsTree (record { nodes = length reached_flags; arcs = arcs }) start reached_flags visits
  pub spread : IsSpreadBut (LeavesFrom arcs) (head_at arcs) (length arcs * 2) reached_flags waiting one next
