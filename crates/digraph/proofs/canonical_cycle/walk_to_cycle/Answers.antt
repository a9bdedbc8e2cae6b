-- The cycle is the suffix of the walk from its repeated node on, rotated.
use Rattle.std.proofs.Common.{◌≡◌, ℕ, ◌++◌, List, true, length, take, drop, arith, sym, ◌∙◌, ap, subst}
use Rattle.std.specs.Prelude.{All}
use Rattle.std.proofs.Math.Seq.{take-append_seam}
use Rattle.std.proofs.lemmas.List.Elements.{All-drop}
use Rattle.digraph.specs.Cycle.{IsRotated}
use Rattle.digraph.specs.Marks.{marked}
use Rattle.digraph.proofs.Walks.{All-rotated, rest_whole}
use Rattle.digraph.proofs.canonical_cycle.walk_to_cycle.Goals as goal

pub returns-clause-named : goal.returns-clause-named
returns-clause-named c =
    let cycle = c.in_ok-cycle.cycle in
    let new = c.rotate_to_min.new.numbers in
    let long : length new ≡ cycle.len = omega arith in
    let same : take cycle.len (new ++ drop (length new) cycle.items) ≡ new = rw (← long) (take-append_seam new _) in
    let loop : c.as_mut_slice.result.now ≡ drop c.in_ok-walk.place c.in_ok-walk.walk.items = c.as_mut_slice.ensures.value ∙ c.in_ok-cycle.ensures.items ∙ rest_whole c.as_slice.result.now c.in_ok-walk.place ∙ ap (drop c.in_ok-walk.place) c.as_slice.ensures.value in
    record {
      core_nodes = marked c.args.core_nodes.now.marks.items;
      is_core = c.requires.core_nodes;
      walk = c.in_ok-walk.walk.items;
      place = c.in_ok-walk.place;
      closes_at = c.in_ok-walk.ensures.back;
      rotated = subst (IsRotated (drop c.in_ok-walk.place c.in_ok-walk.walk.items)) (sym same) (subst (λ (x : List ℕ). IsRotated x new) loop c.rotate_to_min.ensures);
    }

pub returns-clause-members : goal.returns-clause-members
returns-clause-members c =
    let P : ℕ → Type 0 = λ m. marked c.args.core_nodes.now.marks.items m ≡ true in
    let cycle = c.in_ok-cycle.cycle in
    let new = c.rotate_to_min.new.numbers in
    let long : length new ≡ cycle.len = omega arith in
    let same : take cycle.len (new ++ drop (length new) cycle.items) ≡ new = rw (← long) (take-append_seam new _) in
    let loop : c.as_mut_slice.result.now ≡ drop c.in_ok-walk.place c.in_ok-walk.walk.items = c.as_mut_slice.ensures.value ∙ c.in_ok-cycle.ensures.items ∙ rest_whole c.as_slice.result.now c.in_ok-walk.place ∙ ap (drop c.in_ok-walk.place) c.as_slice.ensures.value in
    subst (All P) (sym same) (All-rotated P (drop c.in_ok-walk.place c.in_ok-walk.walk.items) new (subst (λ (x : List ℕ). IsRotated x new) loop c.rotate_to_min.ensures) (All-drop P c.in_ok-walk.place c.in_ok-walk.walk.items c.in_ok-walk.ensures.members))
