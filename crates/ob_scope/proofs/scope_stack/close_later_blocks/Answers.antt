-- The blocks before the index that the search finds.
use Rattle.std.proofs.Common.{◌≡◌, ℕ, ◌<◌, ◌≤◌, inl, inr, true, false, List, drop, take, length, get_or, sym, ◌∙◌, subst, rules, arith}
use Rattle.std.specs.Prelude.{nat_le, Contains, slice_get, Some}
use Rattle.std.specs.List.{AllWithin}
use Rattle.std.proofs.lemmas.Bool.{cases_lt}
use Rattle.std.proofs.lemmas.Bool.Decides.{nat_tests}
use Rattle.std.proofs.lemmas.List.{take-append-drop, get_or-take, length-take-le}
use Rattle.std.proofs.lemmas.List.Sorted.{IsPartitionPoint-from_clause, IsPartitionedBy-leb}
use Rattle.module_table.specs.Order.{IsIncreasingBy}
use Rattle.module_table.proofs.Groups.{rising}
use Rattle.ob_scope.proofs.scope_stack.close_later_blocks.Goals as goal

rises : (xs : List ℕ) → IsIncreasingBy (λ (b : ℕ). b) xs → (i j x y : ℕ) → i < j → slice_get xs i ≡ Some x → slice_get xs j ≡ Some y → x ≤ y
rises xs up i j x y l p q = let h : x < y = up i j x y l p q in omega arith

le_of : (a g : ℕ) → nat_le a g ≡ true → a ≤ g
le_of a g e = grind (arith, nat_tests)

past_of : (a g : ℕ) → nat_le a g ≡ false → g < a
past_of a g e = grind (arith, nat_tests)

pub returns-clause-prefix : goal.returns-clause-prefix
returns-clause-prefix c = rw c.truncate.ensures.items (drop c.partition_point-left.result c.args.stack.now.items, sym (take-append-drop c.partition_point-left.result c.args.stack.now.items))

-- the stack up to that index has the blocks that pass the test
module _ (xs ys : List ℕ) (e : ys ≡ xs) (i block : ℕ) (bound : i ≤ length ys) (passes : AllWithin (λ y. nat_le y block ≡ true) ys 0 i) (fails : AllWithin (λ y. nat_le y block ≡ false) ys i (length ys)) where
  kept : (b : ℕ) → Contains xs b → b ≤ block → Contains (take i xs) b
  kept b has le =
      let (k, l, f) = subst (λ (zs : List ℕ). Contains zs b) (sym e) has in
      let long = length-take-le i ys bound in
      elim (cases_lt k i) [
        | inl below ↦ subst (λ (zs : List ℕ). Contains (take i zs) b) e (k, omega arith, get_or-take i ys k b below ∙ f)
        | inr above ↦ absurd (let h = past_of (get_or ys k b) block (fails k b above l) in omega (arith, f))
      ]

  left : (b : ℕ) → Contains (take i xs) b → b ≤ block
  left b has =
      let (k, l, f) = subst (λ (zs : List ℕ). Contains (take i zs) b) (sym e) has in
      let long = length-take-le i ys bound in
      let below : k < i = omega arith in
      let h = le_of (get_or ys k b) block (passes k b (omega arith) below) in
      let same = get_or-take i ys k b below in
      omega (arith, f, h, same)

pub returns-clause-kept : goal.returns-clause-kept
returns-clause-kept c =
    let ys = c.as_slice.result.now in
    let i = c.partition_point-left.result in
    let up = rising (λ (x : ℕ). x) ys (rises ys (subst (IsIncreasingBy (λ (b : ℕ). b)) (sym c.as_slice.ensures.value) c.requires)) in
    let cut = IsPartitionPoint-from_clause (λ y. nat_le y c.args.block) ys i c.partition_point-left.ensures.partitioned (IsPartitionedBy-leb (λ (x : ℕ). x) ys c.args.block up) (λ a r q k. search rules) in
    rw c.truncate.ensures.items (kept c.args.stack.now.items ys c.as_slice.ensures.value i c.args.block c.partition_point-left.ensures.bound cut.0 cut.1)

pub returns-clause-left : goal.returns-clause-left
returns-clause-left c =
    let ys = c.as_slice.result.now in
    let i = c.partition_point-left.result in
    let up = rising (λ (x : ℕ). x) ys (rises ys (subst (IsIncreasingBy (λ (b : ℕ). b)) (sym c.as_slice.ensures.value) c.requires)) in
    let cut = IsPartitionPoint-from_clause (λ y. nat_le y c.args.block) ys i c.partition_point-left.ensures.partitioned (IsPartitionedBy-leb (λ (x : ℕ). x) ys c.args.block up) (λ a r q k. search rules) in
    rw c.truncate.ensures.items (left c.args.stack.now.items ys c.as_slice.ensures.value i c.args.block c.partition_point-left.ensures.bound cut.0 cut.1)
