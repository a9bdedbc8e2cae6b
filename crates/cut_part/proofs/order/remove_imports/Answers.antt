use Rattle.std.proofs.Common.{ℕ, ◌<◌, ◌∙◌, length, ap, arith}
use Rattle.std.specs.Global.{Vec}
use Rattle.std.proofs.lemmas.List.Elements.{All-push}
use Rattle.cut_part.specs.CapacityReduction.{import_in}
use Rattle.cut_part.proofs.CapacityReduction.{renumbering}
use Rattle.cut_part.proofs.order.remove_imports.Goals as goal
use Rattle.cut_part.proofs.order.remove_imports.Goals.{then-left-eq0+in_ok-push-2, else-left-eq0, In_ok-push}

-- the number is one of an import, which leads to a module
present : (c : In_ok-push) → (c.loop-number.number < length c.args.imports.now) × ((import_in c.args.imports.now c.loop-number.number).to < c.args.entering.now.len)
present c =
    let below = c.loop-number-test.true in
    let end = c.requires.end in
    let known : c.loop-number.number < length c.args.imports.now = omega arith in
    (known, (c.requires.between _ (renumbering c.args.imports.now c.loop-number.number known)).1)

pub index-requires : goal.index-requires
index-requires c = let low = present (goal.at.index-requires c).In_ok-push in omega (arith, low.1, c.loop-number.invariant.entering)

pub index_mut-requires : goal.index_mut-requires
index_mut-requires c = let low = present (goal.at.index_mut-requires c).In_ok-push in omega (arith, low.1, c.loop-number.invariant.entering)

pub loop-number-preserved : goal.loop-number-preserved
loop-number-preserved c =
    let kept = c.loop-number.invariant in
    let low = present (goal.at.loop-number-preserved c).In_ok-push in
    let numbers = All-push (λ j. j < length c.args.imports.now) c.loop-number.numbers.items c.loop-number.number kept.numbers low.0 in
    elim c.if-left-eq0.branch [
      | then-left-eq0+in_ok-push-2 w ↦
          let free_is = ap (λ (v : Vec ℕ). v.items) w.free-is ∙ w.in_ok-push-2.ensures.items in
          record {
            entering = kept.entering;
            free = rw free_is (All-push (λ m. m < c.args.entering.now.len) c.loop-number.free.items _ kept.free low.1);
            numbers = rw c.in_ok-push.ensures.items numbers;
          }
      | else-left-eq0 w ↦ record {
        entering = kept.entering;
        free = rw (ap (λ (v : Vec ℕ). v.items) w.free-is) kept.free;
        numbers = rw c.in_ok-push.ensures.items numbers;
      }
    ]
