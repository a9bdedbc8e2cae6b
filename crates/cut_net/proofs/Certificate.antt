-- Each cut has a source side all of whose leaving imports are in the cut; so each cut weighs at least the value of a flow.
use Rattle.std.proofs.Common.{◌≡◌, ℕ, ◌≤◌, ◌<◌, Bool, true, false, cond, not, List, length, [], refl, arith, inl, inr}
use Rattle.std.specs.Prelude.{Contains}
use Rattle.std.proofs.lemmas.Bool.{cases_Bool, both_ways, not-true, and_parts}
use Rattle.cut_net.specs.declared.priced.Priced.{Priced}
use Rattle.cut_net.specs.Network.{Network}
use Rattle.cut_net.specs.WellFormed.{AreBetween}
use Rattle.cut_net.specs.Cuts.{Outside, IsCut, weight, IsCheapest, IsSide, leaves, IsFlow}
use Rattle.cut_net.proofs.ListSums.{sum_by-mono}
use Rattle.cut_net.proofs.Chains.{no_chain_to, no_chain_to-true, no_chain_to-false, chain_from_false, step}
use Rattle.cut_net.proofs.Duality.{value_within}

-- the modules without a path to b outside the cut are a source side
pub side_of_cut : (net : Network) (a b : ℕ) (y : Priced → Bool) → IsCut net a b y → IsSide net a b (no_chain_to net.imports y b)
side_of_cut net a b y cut = record { start = no_chain_to-true net.imports y b a cut; end = no_chain_to-false net.imports y b b ([], refl) }

-- the imports that leave this source side are in the cut
pub leaves_in_cut : (imports : List Priced) (b : ℕ) (y : Priced → Bool) (i : Priced) → Contains imports i →
    leaves (no_chain_to imports y b) i ≡ true → y i ≡ true
leaves_in_cut imports b y i c out =
    let parts = and_parts (no_chain_to imports y b i.from) (not (no_chain_to imports y b i.to)) out in
    elim (cases_Bool (y i)) [
      | inl t ↦ t
      | inr f ↦
          let rest = chain_from_false imports y b i.to (not-true _ parts.1) in
          absurd (both_ways _ (no_chain_to-false imports y b i.from (step imports (Outside y) b i c f rest)) parts.0)
    ]

pub cond_within : (t u : Bool) (c : ℕ) → (t ≡ true → u ≡ true) → cond t c 0 ≤ cond u c 0
cond_within false u c h = omega arith
cond_within true u c h = rw (h refl) (omega arith)

-- a smaller set weighs no more
pub weight-mono : (imports : List Priced) (x y : Priced → Bool) → ((i : Priced) → Contains imports i → x i ≡ true → y i ≡ true) →
    weight imports x ≤ weight imports y
weight-mono imports x y inside = sum_by-mono _ _ imports (λ i c. cond_within (x i) (y i) i.amount (inside i c))

pub weak_duality : (net : Network) (a b : ℕ) (x : Priced → Bool) (flow : Priced → ℕ) →
    AreBetween net.imports (length net.names) → a < length net.names →
    IsCut net a b x → IsFlow net a b flow (weight net.imports x) → IsCheapest net a b x
weak_duality net a b x flow between a_in cut is_flow = record {
  cut = cut;
  least = λ y y_cut.
      let within = value_within net a b flow (weight net.imports x) (no_chain_to net.imports y b) between a_in is_flow (side_of_cut net a b y y_cut) in
      let le = weight-mono net.imports _ y (leaves_in_cut net.imports b y) in
      omega arith;
}
