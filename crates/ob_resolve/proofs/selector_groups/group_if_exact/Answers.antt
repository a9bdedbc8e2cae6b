-- The selectors before the two indices, and those after them.
use Rattle.std.proofs.Common.{◌≡◌, ℕ, ◌+◌, ◌<◌, ◌≤◌, ◌-◌, List, take, drop, length, get_or, true, false, Some, refl, length-drop, arith}
use Rattle.std.specs.Prelude.{nat_lt, nat_le, nat_eq, slice_get}
use Rattle.std.specs.List.{filter}
use Rattle.std.proofs.lemmas.Bool.Decides.{nat_tests}
use Rattle.std.proofs.lemmas.List.{get_or-drop}
use Rattle.std.proofs.lemmas.Option.{slice_get-get_or}
use Rattle.module_table.specs.declared.rows.Selector.{Selector}
use Rattle.module_table.proofs.Groups.{grouped}
use Rattle.ob_resolve.proofs.selector_groups.group_if_exact.Goals as goal

less_true : (a g : ℕ) → a < g → nat_lt a g ≡ true
less_true a g l = grind (arith, nat_tests)

less_false : (a g : ℕ) → g ≤ a → nat_lt a g ≡ false
less_false a g l = grind (arith, nat_tests)

up_true : (a g : ℕ) → a ≤ g → nat_le a g ≡ true
up_true a g l = grind (arith, nat_tests)

up_false : (a g : ℕ) → g < a → nat_le a g ≡ false
up_false a g l = grind (arith, nat_tests)

group_is : (xs : List Selector) (at end g : ℕ) → at ≤ end → end ≤ length xs
    → ((i : ℕ) (s : Selector) → i < at → slice_get xs i ≡ Some s → s.of < g) → ((i : ℕ) (s : Selector) → at ≤ i → slice_get xs i ≡ Some s → g ≤ s.of)
    → ((i : ℕ) (s : Selector) → i < end → slice_get xs i ≡ Some s → s.of ≤ g) → ((i : ℕ) (s : Selector) → end ≤ i → slice_get xs i ≡ Some s → g < s.of)
    → take (end - at) (drop at xs) ≡ filter (λ (s : Selector). nat_eq s.of g) xs
group_is xs at end g up within before from these others =
    let long = length-drop at xs in
    grouped (λ (s : Selector). s.of) xs (drop at xs) g at (end - at) refl (omega arith) (omega (arith, long))
    (λ k d z l. less_true (get_or xs k d).of g (before k (get_or xs k d) l (slice_get-get_or xs k d (omega arith))))
    (λ k d z l. less_false (get_or xs k d).of g (from k (get_or xs k d) z (slice_get-get_or xs k d l)))
    (λ k d z l.
    rw (get_or-drop at xs k d) (up_true (get_or xs (at + k) d).of g (these (at + k) (get_or xs (at + k) d) (omega arith) (slice_get-get_or xs (at + k) d (omega arith)))))
    (λ k d z l.
    rw (get_or-drop at xs k d) (up_false (get_or xs (at + k) d).of g (others (at + k) (get_or xs (at + k) d) (omega arith) (slice_get-get_or xs (at + k) d (omega (arith, long))))))

pub returns-then-has_only_later_heads_from : goal.returns-then-has_only_later_heads_from
returns-then-has_only_later_heads_from c =
    group_is c.args.selectors.now c.args.at c.args.end c.args.head c.if-at-end.false c.if-end-selectors.false (c.has_only_earlier_heads_before.ensures c.if-has_only_earlier_heads_before.true) (c.has_no_earlier_head_from.ensures c.if-has_no_earlier_head_from.true) (c.has_no_later_head_before.ensures c.if-has_no_later_head_before.true)
    (c.has_only_later_heads_from.ensures c.if-has_only_later_heads_from.true)
