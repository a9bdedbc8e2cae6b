-- The nodes whose current edge leads to a node are found along the linked list of its incoming edges.
use Rattle.std.proofs.Common.{◌≡◌, ℕ, ◌+◌, List, [], ◌∷◌, ◌++◌, sym, ap, ◌∙◌, arith, inl, inr}
use Rattle.std.proofs.lemmas.Bool.{cases_eq, cases_lt}
use Rattle.std.proofs.lemmas.List.{length_push}
use Rattle.std.proofs.lemmas.List.Elements.{Contains-push, Contains-append_left}
use Rattle.digraph.specs.declared.edge.Edge.{Edge}
use Rattle.digraph.specs.Incoming.{AreDependentsFrom, IsLastTo}
use Rattle.digraph.specs.Marks.{edge_at, index_at}

module _ (edges : List Edge) (places : List ℕ) (v : ℕ) where
  module _ (row : List ℕ) (number next : ℕ) (last : IsLastTo edges v number next) (w : AreDependentsFrom edges places v row (number + 1)) where
    pub waiting_more : index_at places (edge_at edges number).from ≡ number → AreDependentsFrom edges places v (row ++ (edge_at edges number).from ∷ []) next
    waiting_more here = record {
      all = λ k le l is at. elim (cases_eq k number) [
        | inl e ↦ rw e (Contains-push row (edge_at edges number).from)
        | inr ne ↦ elim (cases_lt k number) [
          | inl less ↦ absurd (last.none_after k le less is)
          | inr more ↦ Contains-append_left row ((edge_at edges number).from ∷ []) (edge_at edges k).from (w.all k (omega arith) l is at)
        ]
      ];
      few = (let few = w.few in let low = last.within in let long = length_push row (edge_at edges number).from in omega arith);
    }

    pub waiting_same : (index_at places (edge_at edges number).from ≡ number → ⊥) → AreDependentsFrom edges places v row next
    waiting_same other = record {
      all = λ k le l is at. elim (cases_eq k number) [
        | inl e ↦ absurd (other (ap (λ (j : ℕ). index_at places (edge_at edges j).from) (sym e) ∙ at ∙ e))
        | inr ne ↦ elim (cases_lt k number) [
          | inl less ↦ absurd (last.none_after k le less is)
          | inr more ↦ w.all k (omega arith) l is at
        ]
      ];
      few = (let few = w.few in let low = last.within in omega arith);
    }
