-- One more node.
use Rattle.std.proofs.Common.{◌≡◌, ℕ, ◌++◌, [], ◌∷◌, inl, inr, List, sym, subst, arith}
use Rattle.std.specs.Prelude.{Contains}
use Rattle.std.proofs.lemmas.Bool.{cases_eq}
use Rattle.std.proofs.lemmas.List.Elements.{Contains-append_left, Contains-push}
use Rattle.digraph.proofs.core_nodes.all_nodes.Goals as goal

pub loop-node-preserved : goal.loop-node-preserved
loop-node-preserved c = λ v l.
    let old = c.loop-node.all.items in
    let n = c.loop-node.node in
    let new : c.push.new.self.items ≡ old ++ n ∷ [] = c.in_ok-push.ensures.items in
    subst (λ (xs : List ℕ). Contains xs v) (sym new) (elim (cases_eq v n) [
      | inl e ↦ rw e (Contains-push old n)
      | inr ne ↦ Contains-append_left old (n ∷ []) v (c.loop-node.invariant v (omega arith))
    ])
