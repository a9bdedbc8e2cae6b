-- A bound on the number of strictly sorted edges between few nodes.
use Rattle.std.proofs.Common.{ℕ, zero, suc, ◌+◌, ◌*◌, ◌<◌, ◌≤◌, List, length, arith}
use Rattle.std.specs.Prelude.{IsTrue}
use Rattle.std.proofs.lemmas.Bool.Decides.{nat_tests}
use Rattle.std.proofs.lemmas.List.Elements.{Contains-get_or}
use Rattle.digraph.specs.declared.edge.Edge.{Edge}
use Rattle.digraph.specs.Edges.{AreBetween, IsAscending, comes_before}
use Rattle.digraph.specs.Marks.{edge_at, missing_item}

module _ (edges : List Edge) (nodes : ℕ) (between : AreBetween edges nodes) (few : nodes ≤ 8192) (up : IsAscending edges) where
  above : (k : ℕ) → k < length edges → k ≤ (edge_at edges k).from * 8192 + (edge_at edges k).to
  above zero l = omega arith
  above (suc k) l =
      let p = edge_at edges k in
      let q = edge_at edges (suc k) in
      let low = above k (omega arith) in
      let to : p.to < nodes = (between p (Contains-get_or edges k missing_item (omega arith))).1 in
      let less = less_by p q (up k (suc k) missing_item (omega arith) l) (omega arith) in
      omega arith
    where
      less_by : (p q : Edge) → IsTrue (comes_before p q) → p.to < 8192 → p.from * 8192 + p.to < q.from * 8192 + q.to
      less_by p q before to = grind (arith, nat_tests)

  pub few_edges : length edges ≤ 8192 * 8192
  few_edges = by (length edges) (omega arith)
    where
      by : (count : ℕ) → count ≤ length edges → count ≤ 8192 * 8192
      by zero l = omega arith
      by (suc k) l =
          let p = edge_at edges k in
          let low = above k l in
          let known = between p (Contains-get_or edges k missing_item l) in
          let from : p.from < nodes = known.0 in
          let to : p.to < nodes = known.1 in
          omega arith
