use Rattle.std.proofs.Common.{◌≡◌, ap, rules}
use Rattle.std.specs.Arc.{arc_value}
use Rattle.std.specs.Cmp.Lexicographic.{slice_cmp}
use Rattle.std.specs.Ordering.{is_lt, nat_cmp}
use Rattle.std.proofs.lemmas.Cmp.{nat_list_cmp_total}
use Rattle.std.proofs.lemmas.Fn.{always_returns_same}
use Rattle.std.proofs.lemmas.List.Sorted.{ranks_by}
use Rattle.ob_interface.specs.Interfaces.{ModuleInterface}
use Rattle.ob_view.proofs.Ascending.{name_of, Shared}
use Rattle.ob_board.proofs.Within.{mapped_sorted}
use Rattle.ob_board.proofs.precomputed_chains.sort_by_name.Goals as goal

pub returns-clause-sorted : goal.returns-clause-sorted
returns-clause-sorted c =
    mapped_sorted (λ (a b : ModuleInterface). is_lt (slice_cmp nat_cmp a.name b.name)) arc_value c.sort_unstable_by.new.self.items
    (c.sort_unstable_by.ensures.sorted (λ (a b : Shared). is_lt (slice_cmp nat_cmp (name_of a) (name_of b))) (ranks_by nat_list_cmp_total name_of)
    (always_returns_same _ _ _ (λ a r q h. let e : r ≡ slice_cmp nat_cmp (name_of a.0.now) (name_of a.1.0.now) = search rules in (ap is_lt e, search rules))))
