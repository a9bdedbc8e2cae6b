-- A network and its reversed network have equal flows, with source and sink exchanged.
use Rattle.std.proofs.Common.{◌≡◌, ◌≢◌, ℕ, ◌≤◌, ◌<◌, ◌==◌, Bool, true, false, cond, not, ◌&&◌, List, [], ◌∷◌, length, map, refl, sym, ap, ap₂, ◌∙◌, subst, arith, inl, inr}
use Rattle.std.proofs.lemmas.Bool.{cases_Bool, both_ways}
use Rattle.cut_net.specs.declared.priced.Priced.{Priced}
use Rattle.cut_net.specs.Network.{Network}
use Rattle.cut_net.specs.WellFormed.{AreBetween}
use Rattle.cut_net.specs.Cuts.{entering, leaving, have_equal_ends, IsFlow}
use Rattle.cut_net.specs.Lines.{flow_by}
use Rattle.cut_net.proofs.Members.{from_map}
use Rattle.cut_part.specs.CapacityReduction.{IsUnreachable, IsMaxFlow}
use Rattle.cut_part.specs.Reversal.{reversed, reversed_net, reversed_flow}
use Rattle.cut_part.proofs.Sums.{sum_by-map}
use Rattle.cut_part.proofs.CapacityReduction.{at_end}

-- an import reversed twice
pub twice : (imports : List Priced) → map reversed (map reversed imports) ≡ imports
twice [] = refl
twice (i ∷ more) = ap (λ (rest : List Priced). i ∷ rest) (twice more)

entering_turned : (imports : List Priced) (flow : Priced → ℕ) (m : ℕ) → entering (map reversed imports) (reversed_flow flow) m ≡ leaving imports flow m
entering_turned imports flow m = sum_by-map (λ i. cond (i.to == m) (flow (reversed i)) 0) reversed imports

leaving_turned : (imports : List Priced) (flow : Priced → ℕ) (m : ℕ) → leaving (map reversed imports) (reversed_flow flow) m ≡ entering imports flow m
leaving_turned imports flow m = sum_by-map (λ i. cond (i.from == m) (flow (reversed i)) 0) reversed imports

pub between_turned : (imports : List Priced) (n : ℕ) → AreBetween imports n → AreBetween (map reversed imports) n
between_turned imports n between i c =
    let was = from_map reversed imports i c in
    subst (λ (j : Priced). (j.from < n) × (j.to < n)) was.2 ((between was.0 was.1).1, (between was.0 was.1).0)

module _ (net : Network) (a b : ℕ) (flow : Priced → ℕ) (value : ℕ) (between : AreBetween net.imports (length net.names)) (a_in : a < length net.names) (apart : a ≢ b) where
  pub flow_round : IsFlow net a b flow value → IsFlow (reversed_net net) b a (reversed_flow flow) value
  flow_round is_flow =
      let into = entering_turned net.imports flow in
      let out = leaving_turned net.imports flow in
      record {
        within = λ i c. let was = from_map reversed net.imports i c in
            subst (λ (j : Priced). flow (reversed j) ≤ j.amount) was.2 (is_flow.within was.0 was.1);
        kept = λ m not_b not_a. into m ∙ sym (is_flow.kept m not_a not_b) ∙ sym (out m);
        at_start = let e = at_end net a b flow value is_flow between a_in apart in let i = into b in let o = out b in omega arith;
      }

barred_round : (net : Network) (a b : ℕ) (flow : Priced → ℕ) → IsUnreachable net flow a b → IsUnreachable (reversed_net net) (reversed_flow flow) b a
barred_round net a b flow (modules, barrier) = (
  λ m. not (modules m),
  record {
    start = rw barrier.end refl;
    end = rw barrier.start refl;
    closed = record {
      forward = λ i c room t. let was = from_map reversed net.imports i c in
          elim (cases_Bool (modules i.to)) [
            | inl has ↦
                let room_was : flow was.0 < was.0.amount = subst (λ (j : Priced). flow (reversed j) < j.amount) (sym was.2) room in
                let has_was : modules was.0.from ≡ true = subst (λ (j : Priced). modules j.to ≡ true) (sym was.2) has in
                let too : modules i.from ≡ true = subst (λ (j : Priced). modules j.from ≡ true) was.2 (barrier.closed.forward was.0 was.1 room_was has_was) in
                let no : false ≡ true = rw too at t in absurd (both_ways false refl no)
            | inr lacks ↦ rw lacks refl
          ];
      backward = λ i c some t. let was = from_map reversed net.imports i c in
          elim (cases_Bool (modules i.from)) [
            | inl has ↦
                let some_was : 0 < flow was.0 = subst (λ (j : Priced). 0 < flow (reversed j)) (sym was.2) some in
                let has_was : modules was.0.to ≡ true = subst (λ (j : Priced). modules j.from ≡ true) (sym was.2) has in
                let too : modules i.to ≡ true = subst (λ (j : Priced). modules j.to ≡ true) was.2 (barrier.closed.backward was.0 was.1 some_was has_was) in
                let no : false ≡ true = rw too at t in absurd (both_ways false refl no)
            | inr lacks ↦ rw lacks refl
          ];
    };
  },
)

-- a network reversed twice is the network
turned_twice : (net : Network) → reversed_net (reversed_net net) ≡ net
turned_twice net = ap₂ (λ (imports pins : List Priced). record { names = net.names; imports = imports; pins = pins }) (twice net.imports) (twice net.pins)

pub flow_round_back : (net : Network) (a b : ℕ) (flow : Priced → ℕ) (value : ℕ) → AreBetween net.imports (length net.names) → b < length net.names → a ≢ b →
    IsFlow (reversed_net net) b a (reversed_flow flow) value → IsFlow net a b flow value
flow_round_back net a b flow value between b_in apart is_flow =
    subst (λ (n : Network). IsFlow n a b flow value) (turned_twice net)
    (flow_round (reversed_net net) b a (reversed_flow flow) value (between_turned net.imports (length net.names) between) b_in (λ e. apart (sym e)) is_flow)

pub greatest_round_back : (net : Network) (a b : ℕ) (flow : Priced → ℕ) (value : ℕ) → AreBetween net.imports (length net.names) → b < length net.names → a ≢ b →
    IsMaxFlow (reversed_net net) b a (reversed_flow flow) value → IsMaxFlow net a b flow value
greatest_round_back net a b flow value between b_in apart greatest = record {
  is_flow = flow_round_back net a b flow value between b_in apart greatest.is_flow;
  barred = subst (λ (n : Network). IsUnreachable n flow a b) (turned_twice net) (barred_round (reversed_net net) b a (reversed_flow flow) greatest.barred);
}

pub greatest_round : (net : Network) (a b : ℕ) (flow : Priced → ℕ) (value : ℕ) → AreBetween net.imports (length net.names) → a < length net.names → a ≢ b →
    IsMaxFlow net a b flow value → IsMaxFlow (reversed_net net) b a (reversed_flow flow) value
greatest_round net a b flow value between a_in apart greatest = record {
  is_flow = flow_round net a b flow value between a_in apart greatest.is_flow;
  barred = barred_round net a b flow greatest.barred;
}

both_orders : (t u : Bool) → (t && u) ≡ (u && t)
both_orders true true = refl
both_orders true false = refl
both_orders false true = refl
both_orders false false = refl

-- the reversed lines of a flow are the lines of the reversed flow
pub lines_turned : (lines : List Priced) (i : Priced) → flow_by (map reversed lines) i ≡ reversed_flow (flow_by lines) i
lines_turned [] i = refl
lines_turned (l ∷ lines) i =
    elim (cases_Bool (have_equal_ends (reversed i) l)) [
      | inl t ↦ let back : have_equal_ends i (reversed l) ≡ true = both_orders (i.from == l.to) (i.to == l.from) ∙ t in rw (t, back) refl
      | inr f ↦ let back : have_equal_ends i (reversed l) ≡ false = both_orders (i.from == l.to) (i.to == l.from) ∙ f in rw (f, back) (lines_turned lines i)
    ]
