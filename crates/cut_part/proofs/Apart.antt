-- Flows by import number and flows by the ends of imports agree if no two imports have the same ends, in any order.
use Rattle.std.proofs.Common.{◌≡◌, ℕ, zero, suc, ◌<◌, Bool, true, false, eqb, ◌&&◌, List, [], ◌∷◌, length, map, get_or, refl, ◌∙◌, arith}
use Rattle.std.proofs.lemmas.Bool.{false_from_ne_true}
use Rattle.std.proofs.lemmas.List.{length-map, get_or-map}
use Rattle.cut_net.specs.declared.priced.Priced.{Priced}
use Rattle.cut_net.specs.Network.{missing_item}
use Rattle.cut_net.specs.Lines.{flow_by, IsAscending}
use Rattle.cut_net.proofs.Ends.{apart, before_from, same_from, same_sym, same_true}
use Rattle.cut_part.specs.Apart.{AreApart, flow_lines}
use Rattle.cut_part.specs.CapacityReduction.{import_in}
use Rattle.cut_part.specs.Reversal.{reversed}

-- strictly sorted imports have distinct ends
pub ascending_apart : (imports : List Priced) → IsAscending imports → AreApart imports
ascending_apart imports up j k d less in_k =
    false_from_ne_true _ (λ t. apart {i = get_or imports j d} {j = get_or imports k d} (before_from (get_or imports j d) (get_or imports k d) (up j k d less in_k)) (same_sym (same_from (get_or imports k d) (get_or imports j d) t)))

both_orders : (t u : Bool) → (t && u) ≡ (u && t)
both_orders true true = refl
both_orders true false = refl
both_orders false true = refl
both_orders false false = refl

-- and so have the reversed imports
pub turned_apart : (imports : List Priced) → AreApart imports → AreApart (map reversed imports)
turned_apart imports are j k d less in_k =
    let len = length-map imports reversed in
    rw (get_or-map reversed imports j missing_item d (omega arith), get_or-map reversed imports k missing_item d (omega arith))
    (both_orders (eqb (import_in imports k).to (import_in imports j).to) (eqb (import_in imports k).from (import_in imports j).from) ∙ are j k missing_item less (omega arith))

pub flow_by_number : (imports : List Priced) (flow : List ℕ) → AreApart imports → length flow ≡ length imports → (k : ℕ) → k < length imports → flow_by (flow_lines imports flow) (import_in imports k) ≡ get_or flow k 0
flow_by_number [] flow are same k h = absurd (omega arith)
flow_by_number (i ∷ more) [] are same k h = absurd (omega arith)
flow_by_number (i ∷ more) (f ∷ flow) are same zero h = rw (same_true i i (record { from = refl; to = refl })) refl
flow_by_number (i ∷ more) (f ∷ flow) are same (suc k) h =
    rw (are 0 (suc k) missing_item (omega arith) (omega arith))
    (flow_by_number more flow (λ a b e less in_b. are (suc a) (suc b) e (omega arith) (omega arith)) (omega arith) k (omega arith))
