use Rattle.std.proofs.Common.{◌≡◌, ◌∙◌, ◌+◌, ◌-◌, ◌<◌, ◌≤◌, ◌++◌, ℕ, List, [], ◌∷◌, ap, sym, subst, arith, length, get_or, drop}
use Rattle.std.specs.Prelude.{◌↔◌, Contains}
use Rattle.digraph.specs.declared.edge.Edge.{Edge}
use Rattle.cut_dot.specs.Pictures.{steps}
use Rattle.cut_dot.proofs.PathSteps.{all_steps, edge, one_step_more}
use Rattle.cut_dot.proofs.path.steps_of.Goals as goal

pub loop-next-preserved : goal.loop-next-preserved
loop-next-preserved c =
    let path = c.args.path.now in
    let k = c.loop-next.next in
    let found = c.loop-next.found.items in
    let new = c.push.new.self.items in
    let low = c.loop-next-test.true in
    let from_one = c.loop-next.invariant.from_one in
    let back : k - 1 + 1 ≡ k = omega arith in
    let within : k - 1 + 1 < length path = omega arith in
    let is : new ≡ found ++ edge (get_or path (k - 1) 0) (get_or path (k - 1 + 1) 0) ∷ [] =
    c.in_ok-push.ensures.items ∙ ap (λ (n : ℕ). found ++ edge (get_or path (k - 1) 0) (get_or path n 0) ∷ []) (sym back) in
    let onward : k - 1 + 1 ≡ k + 1 - 1 = omega arith in
    record {
      from_one = omega arith;
      so_far = subst (λ (n : ℕ). new ++ steps (drop n path) ≡ steps path) onward (one_step_more path found new (k - 1) within is c.loop-next.invariant.so_far);
    }

pub returns-clause-same : goal.returns-clause-same
returns-clause-same c p =
    let path = c.args.path.now in
    let k = c.loop-next.next in
    let past = c.loop-next-test.false in
    let from_one = c.loop-next.invariant.from_one in
    let behind : length path ≤ k - 1 + 1 = omega arith in
    subst (λ (v : List Edge). Contains c.sort_and_dedup.new.edges.items p ↔ Contains v p) (all_steps path c.loop-next.found.items (k - 1) behind c.loop-next.invariant.so_far) (c.sort_and_dedup.ensures.same p)
