-- The orders of keys.
use Rattle.std.proofs.Common.{ℕ, Some, None, refl, ap}
use Rattle.std.specs.Option.{option_cmp}
use Rattle.std.specs.Ordering.{nat_cmp}
use Rattle.std.specs.Cmp.{IsTotalOrder}
use Rattle.std.specs.Cmp.Lexicographic.{slice_cmp, options_total}
use Rattle.std.proofs.lemmas.Cmp.{nat_cmp_total, nat_list_cmp_total, on_total, then_total}
use Rattle.std.proofs.lemmas.Map.Lookups.{CmpEqualImpliesEq, exact_unsigned, exact_bytes, exact_pairs}
use Rattle.ob_interface.specs.Orders.{Key, key_cmp}

pub key_total : IsTotalOrder key_cmp
key_total = then_total (on_total (λ (k : Key). k.0) (options_total nat_cmp_total)) (on_total (λ (k : Key). k.1) nat_list_cmp_total)

exact_options : CmpEqualImpliesEq (option_cmp nat_cmp)
exact_options None None e = refl
exact_options None (Some y) e = cc
exact_options (Some x) None e = cc
exact_options (Some x) (Some y) e = ap (λ (v : ℕ). Some v) (exact_unsigned x y e)

pub exact_keys : CmpEqualImpliesEq key_cmp
exact_keys = exact_pairs (option_cmp nat_cmp) (slice_cmp nat_cmp) exact_options exact_bytes
