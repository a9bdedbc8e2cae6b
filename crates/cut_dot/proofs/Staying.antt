-- Paths by imports that aren't removed.
use Rattle.std.proofs.Common.{◌≡◌, ℕ, Bool, true, false, not, List, filter, refl, ap}
use Rattle.digraph.proofs.Members.{in_filter, of_filter}
use Rattle.cut_net.specs.declared.priced.Priced.{Priced}
use Rattle.cut_net.specs.Cuts.{Any, IsSetOf, Chain, Outside}
use Rattle.cut_net.specs.Lines.{removed_by}
use Rattle.cut_net.specs.WellFormed.{AreBetween}
use Rattle.cut_net.proofs.Chains.{widened}
use Rattle.residual_graph.specs.Graphs.{is_flagged}
use Rattle.cut_part.specs.Marks.{AreReachable}
use Rattle.cut_dot.specs.Pictures.{is_not_removed}

not_true : (t : Bool) → not t ≡ true → t ≡ false
not_true true e = absurd cc
not_true false e = refl

-- some of the imports lead between modules where all do
pub some_between : (passes : Priced → Bool) (imports : List Priced) (n : ℕ) → AreBetween imports n → AreBetween (filter passes imports) n
some_between passes imports n between i h = between i (of_filter passes imports i h).0

module _ (imports printed : List Priced) where
  to_outside : (a m : ℕ) → Chain (filter (is_not_removed printed) imports) Any a m → Chain imports (Outside (removed_by printed)) a m
  to_outside a m c = (
    c.0,
    widened (filter (is_not_removed printed) imports) imports Any (Outside (removed_by printed))
        (λ i h any. let f = of_filter (is_not_removed printed) imports i h in (f.0, not_true (removed_by printed i) f.1)) a c.0 m c.1,
  )

  from_outside : (a m : ℕ) → Chain imports (Outside (removed_by printed)) a m → Chain (filter (is_not_removed printed) imports) Any a m
  from_outside a m c = (
    c.0,
    widened imports (filter (is_not_removed printed) imports) (Outside (removed_by printed)) Any
        (λ i h outside. let stays_i : is_not_removed printed i ≡ true = ap not outside in (in_filter (is_not_removed printed) imports i stays_i h, tt)) a c.0 m c.1,
  )

  -- the flagged modules are those that are reached by the imports that stay
  pub still_reached : (a : ℕ) (marks : List Bool) → AreReachable (filter (is_not_removed printed) imports) a marks → IsSetOf (is_flagged marks) (Chain imports (Outside (removed_by printed)) a)
  still_reached a marks mark_reachable m = (λ t. to_outside a m ((mark_reachable m).0 t), λ c. (mark_reachable m).1 (from_outside a m c))
