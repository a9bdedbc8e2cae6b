-- The core's sums and flows by number as those of a network's imports.
use Rattle.std.proofs.Common.{◌≡◌, ℕ, zero, suc, ◌+◌, ◌<◌, ◌==◌, if◌then◌else◌, List, [], ◌∷◌, length, refl, sym, ap, ◌∙◌, subst, arith, sum_by}
use Rattle.std.specs.Prelude.{Contains}
use Rattle.std.proofs.lemmas.List.{get_or_default}
use Rattle.std.proofs.lemmas.List.Sums.{sum_by-cons}
use Rattle.cut_net.specs.declared.priced.Priced.{Priced}
use Rattle.cut_net.specs.Network.{missing_item}
use Rattle.cut_net.specs.Cuts.{entering, leaving}
use Rattle.cut_part.specs.Apart.{AreApart}
use Rattle.cut_part.proofs.Apart.{flow_by_number}
use Rattle.cut_preflow.specs.Total.{total}
use Rattle.cut_preflow.specs.Preflow.{FlowNetwork, State, count, flow_at, import_at, import_in, inflow, outflow}
use Rattle.cut_preflow.specs.Flows.{flow_on}
use Rattle.cut_preflow.proofs.Totals.{total-same}

-- what holds at each number holds of each import
pub at_numbers : (imports : List Priced) (P : Priced → Type 0) → ((k : ℕ) → k < length imports → P (import_in imports k)) → (i : Priced) → Contains imports i → P i
at_numbers imports P each i (k, in_k, at_k) = subst P (get_or_default imports k missing_item i in_k ∙ at_k) (each k in_k)

-- a sum with its first term apart
total-front : (n : ℕ) (g : ℕ → ℕ) → total (suc n) g ≡ g 0 + total n (λ i. g (suc i))
total-front zero g = omega arith
total-front (suc n) g = omega (arith, total-front n g)

-- a sum over the numbers of imports is one over the imports
pub total-sum : (f : Priced → ℕ) (imports : List Priced) → total (length imports) (λ k. f (import_in imports k)) ≡ sum_by f imports
total-sum f [] = refl
total-sum f (i ∷ more) =
    omega (arith, total-front (length more) (λ k. f (import_in (i ∷ more) k)), total-sum f more, sum_by-cons f i more)

module _ (net : FlowNetwork) (s : State) (are : AreApart net.imports) (size : length s.flow ≡ count net) where
  pub flow_is : (k : ℕ) → k < count net → flow_on net s (import_at net k) ≡ flow_at s k
  flow_is k h = flow_by_number net.imports s.flow are size k h

  pub entering_is : (m : ℕ) → entering net.imports (flow_on net s) m ≡ inflow net s m
  entering_is m =
      sym (total-sum (λ i. if i.to == m then flow_on net s i else 0) net.imports)
      ∙ total-same (count net) (λ k. if (import_at net k).to == m then flow_on net s (import_at net k) else 0) (λ k. if (import_at net k).to == m then flow_at s k else 0)
      (λ k h. ap (λ x. if (import_at net k).to == m then x else 0) (flow_is k h))

  pub leaving_is : (m : ℕ) → leaving net.imports (flow_on net s) m ≡ outflow net s m
  leaving_is m =
      sym (total-sum (λ i. if i.from == m then flow_on net s i else 0) net.imports)
      ∙ total-same (count net) (λ k. if (import_at net k).from == m then flow_on net s (import_at net k) else 0) (λ k. if (import_at net k).from == m then flow_at s k else 0)
      (λ k h. ap (λ x. if (import_at net k).from == m then x else 0) (flow_is k h))
