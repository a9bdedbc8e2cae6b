use Rattle.std.proofs.Common.{◌≡◌, ℕ, List, length, map, sym, ap, ◌∙◌, subst, arith, rules}
use Rattle.std.specs.Prelude.{IsPermutation}
use Rattle.std.specs.Cmp.Lexicographic.{slice_cmp}
use Rattle.std.specs.List.{range_with_len}
use Rattle.std.specs.Ordering.{is_lt, nat_cmp}
use Rattle.std.specs.String.{string_bytes}
use Rattle.std.proofs.lemmas.Cmp.{nat_list_cmp_total}
use Rattle.std.proofs.lemmas.Fn.{always_returns_same}
use Rattle.std.proofs.lemmas.List.{length-map}
use Rattle.std.proofs.lemmas.List.Sorted.{ranks_by}
use Rattle.work_board.specs.Graphs.{list_at}
use Rattle.work_board.proofs.graph.order_by_name.Goals as goal

pub returns : goal.returns
returns c =
    let names = map string_bytes c.args.names.now in
    let long : length c.args.names.now ≡ length names = sym (length-map c.args.names.now string_bytes) in
    record {
      all = subst (λ (xs : List ℕ). IsPermutation xs c.sort_unstable_by.new.self.items) (c.in_ok-order.ensures ∙ ap (range_with_len 0) long) c.sort_unstable_by.ensures.permutation;
      ascend = c.sort_unstable_by.ensures.sorted (λ (v w : ℕ). is_lt (slice_cmp nat_cmp (list_at names v) (list_at names w))) (ranks_by nat_list_cmp_total (list_at names))
          (always_returns_same _ _ _ (λ a r q h. let e : r ≡ slice_cmp nat_cmp (list_at names a.0.now) (list_at names a.1.0.now) = search rules in (ap is_lt e, search rules)));
    }
