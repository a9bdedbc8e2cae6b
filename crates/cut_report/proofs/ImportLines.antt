-- A run of lines of imports, of one kind.
use Rattle.std.proofs.Common.{◌≡◌, ℕ, suc, ◌<◌, ◌^◌, true, List, [], ◌∷◌, ◌++◌, length, map, Option, Some, refl, sym, ap, ◌∙◌, arith, inl, inr}
use Rattle.std.specs.Prelude.{All, IsTrue}
use Rattle.std.proofs.lemmas.Bool.{cases_lt, false≢true}
use Rattle.std.proofs.lemmas.Bool.Decides.{nat_tests}
use Rattle.std.proofs.lemmas.List.{get_or_past}
use Rattle.std.proofs.lemmas.List.Elements.{All-head, All-tail, All-cons, All-nil, All-get_or, All-contains}
use Rattle.std.proofs.lemmas.List.Kept.{AllPairs-cons}
use Rattle.cut_net.specs.declared.priced.Priced.{Priced}
use Rattle.texts.specs.Fields.{is_name}
use Rattle.cut_net.specs.Network.{Network, name_of}
use Rattle.cut_net.specs.Lines.{comes_before, IsAscending}
use Rattle.cut_net.specs.WellFormed.{AreBetween, IsNetwork}
use Rattle.cut_report.specs.ReportLine.{ReportLine}
use Rattle.cut_report.specs.ReportLines.{IsWellFormed, HasModuleNames, may_follow, is_above, AreGoodAfter, last_of}
use Rattle.cut_report.specs.ReportLine.{removes, flows}
use Rattle.cut_report.proofs.NameOrder.{AreIn, before_is, name_known}

-- a module of a name is one of the network
pub named_in : (net : Network) (i : ℕ) → is_name (name_of net i) ≡ true → i < length net.names
named_in net i e =
    elim (cases_lt i (length net.names)) [
      | inl lt ↦ lt
      | inr le ↦ absurd (false≢true (ap is_name (sym (get_or_past net.names i [] le)) ∙ e))
    ]

pub name_is : (net : Network) (i : ℕ) → IsNetwork net → i < length net.names → is_name (name_of net i) ≡ true
name_is net i n lt = All-get_or (λ name. is_name name ≡ true) net.names i [] lt n.named

-- what the lines of imports of one kind have in common
pub record AreLines (net : Network) (Fit : Priced → Type 0) (line : Priced → ReportLine) : Type 0 where
  pub form : (p : Priced) → AreIn net p → Fit p → IsWellFormed (line p)
  pub known : (p : Priced) → AreIn net p → HasModuleNames net (line p)
  pub follows : (p q : Priced) → may_follow (Some (line p)) (line q) ≡ true
  pub above : (p q : Priced) → AreIn net p → AreIn net q → is_above (Some (line p)) (line q) ≡ comes_before p q
  pub within : (p : Priced) → IsWellFormed (line p) → AreIn net p
  pub fit : (p : Priced) → IsWellFormed (line p) → Fit p

abbrev pub FitsWord : Priced → Type 0
FitsWord p = p.amount < 2 ^ 64

pub record FitsFlow (p : Priced) : Type 0 where
  pub fits : p.amount < 2 ^ 64
  pub positive : 0 < p.amount

pub remove_lines : (net : Network) → IsNetwork net → AreLines net FitsWord (removes net)
remove_lines net n = record {
  form = λ p a f. (name_is net p.from n a.from, name_is net p.to n a.to, f);
  known = λ p a. (name_known net p.from a.from, name_known net p.to a.to);
  follows = λ p q. refl;
  above = λ p q a b. before_is net p q n.names_ascend a b;
  within = λ p h. record { from = named_in net p.from h.0; to = named_in net p.to h.1 };
  fit = λ p h. h.2;
}

pub flow_lines : (net : Network) → IsNetwork net → AreLines net FitsFlow (flows net)
flow_lines net n = record {
  form = λ p a f. (name_is net p.from n a.from, name_is net p.to n a.to, f.fits, f.positive);
  known = λ p a. (name_known net p.from a.from, name_known net p.to a.to);
  follows = λ p q. refl;
  above = λ p q a b. before_is net p q n.names_ascend a b;
  within = λ p h. record { from = named_in net p.from h.0; to = named_in net p.to h.1 };
  fit = λ p h. record { fits = h.2; positive = h.3 };
}

abbrev IsBelow : Priced → List Priced → Type 0
IsBelow p [] = Unit {0}
IsBelow p (q ∷ ps) = comes_before p q ≡ true

-- imports of the network in order, that fit
abbrev pub IsRun : Network → (Priced → Type 0) → List Priced → Type 0
IsRun net Fit [] = Unit {0}
IsRun net Fit (p ∷ ps) = AreIn net p × Fit p × IsBelow p ps × IsRun net Fit ps

-- the line may stand first
abbrev pub IsFirst : (Priced → ReportLine) → Option ReportLine → List Priced → Type 0
IsFirst line last [] = Unit {0}
IsFirst line last (p ∷ ps) = (may_follow last (line p) ≡ true) × (is_above last (line p) ≡ true)

first_after : (net : Network) (Fit : Priced → Type 0) (line : Priced → ReportLine) (p : Priced) (ps : List Priced) → AreLines net Fit line → AreIn net p → IsBelow p ps → IsRun net Fit ps → IsFirst line (Some (line p)) ps
first_after net Fit line p [] laws a b r = tt
first_after net Fit line p (q ∷ ps) laws a b r = (laws.follows p q, laws.above p q a r.0 ∙ b)

pub run_good : (net : Network) (Fit : Priced → Type 0) (line : Priced → ReportLine) (last : Option ReportLine) (ps : List Priced) (rest : List ReportLine) → AreLines net Fit line → IsRun net Fit ps → IsFirst line last ps
    → AreGoodAfter net (last_of last (map line ps)) rest → AreGoodAfter net last (map line ps ++ rest)
run_good net Fit line last [] rest laws r first more = more
run_good net Fit line last (p ∷ ps) rest laws r first more = (
  record { form = laws.form p r.0 r.1; follows = first.0; known = laws.known p r.0; above = first.1 },
  run_good net Fit line (Some (line p)) ps rest laws r.3 (first_after net Fit line p ps laws r.0 r.2 r.3) more,
)

below_good : (net : Network) (Fit : Priced → Type 0) (line : Priced → ReportLine) (p : Priced) (ps : List Priced) (rest : List ReportLine) → AreLines net Fit line → AreIn net p → AreGoodAfter net (Some (line p)) (map line ps ++ rest) → IsBelow p ps
below_good net Fit line p [] rest laws a g = tt
below_good net Fit line p (q ∷ ps) rest laws a g = sym (laws.above p q a (laws.within q g.0.form)) ∙ g.0.above

pub good_run : (net : Network) (Fit : Priced → Type 0) (line : Priced → ReportLine) (last : Option ReportLine) (ps : List Priced) (rest : List ReportLine) → AreLines net Fit line → AreGoodAfter net last (map line ps ++ rest) → IsRun net Fit ps
good_run net Fit line last [] rest laws g = tt
good_run net Fit line last (p ∷ ps) rest laws g = (
  laws.within p g.0.form,
  laws.fit p g.0.form,
  below_good net Fit line p ps rest laws (laws.within p g.0.form) g.1,
  good_run net Fit line (Some (line p)) ps rest laws g.1,
)

pub good_after : (net : Network) (line : Priced → ReportLine) (last : Option ReportLine) (ps : List Priced) (rest : List ReportLine) → AreGoodAfter net last (map line ps ++ rest) → AreGoodAfter net (last_of last (map line ps)) rest
good_after net line last [] rest g = g
good_after net line last (p ∷ ps) rest g = good_after net line (Some (line p)) ps rest g.1

-- ---- in order of neighbours, and in order

between_tail : (net : Network) (p : Priced) (ps : List Priced) → AreBetween (p ∷ ps) (length net.names) → AreBetween ps (length net.names)
between_tail net p ps h i c = h i (suc c.0, omega arith, c.2)

ascending_tail : (p : Priced) (ps : List Priced) → IsAscending (p ∷ ps) → IsAscending ps
ascending_tail p ps h i j d below lt = h (suc i) (suc j) d (omega arith) (omega arith)

below_first : (p : Priced) (ps : List Priced) → IsAscending (p ∷ ps) → IsBelow p ps
below_first p [] h = tt
below_first p (q ∷ ps) h = h 0 1 p (omega arith) (omega arith)

pub run_from : (net : Network) (Fit : Priced → Type 0) (ps : List Priced) → AreBetween ps (length net.names) → IsAscending ps → All Fit ps → IsRun net Fit ps
run_from net Fit [] b o f = tt
run_from net Fit (p ∷ ps) b o f =
    let ends = b p (0, omega arith, refl) in (
      record { from = ends.0; to = ends.1 },
      All-head Fit p ps f,
      below_first p ps o,
      run_from net Fit ps (between_tail net p ps b) (ascending_tail p ps o) (All-tail Fit p ps f),
    )

pub run_fits : (net : Network) (Fit : Priced → Type 0) (ps : List Priced) → IsRun net Fit ps → All Fit ps
run_fits net Fit [] r = All-nil Fit
run_fits net Fit (p ∷ ps) r = All-cons Fit p ps r.1 (run_fits net Fit ps r.3)

run_in : (net : Network) (Fit : Priced → Type 0) (ps : List Priced) → IsRun net Fit ps → All (AreIn net) ps
run_in net Fit [] r = All-nil (AreIn net)
run_in net Fit (p ∷ ps) r = All-cons (AreIn net) p ps r.0 (run_in net Fit ps r.3)

pub run_between : (net : Network) (Fit : Priced → Type 0) (ps : List Priced) → IsRun net Fit ps → AreBetween ps (length net.names)
run_between net Fit ps r i c = let a = All-contains (AreIn net) ps i (run_in net Fit ps r) c in (a.from, a.to)

before_then : (p q r : Priced) → comes_before p q ≡ true → comes_before q r ≡ true → comes_before p r ≡ true
before_then p q r h k = grind (arith, nat_tests)

all_below : (net : Network) (Fit : Priced → Type 0) (p : Priced) (ps : List Priced) → IsBelow p ps → IsRun net Fit ps → All (λ q. IsTrue (comes_before p q)) ps
all_below net Fit p [] b r = All-nil (λ q. IsTrue (comes_before p q))
all_below net Fit p (q ∷ ps) b r =
    All-cons (λ x. IsTrue (comes_before p x)) q ps b (all_below net Fit p ps (below_next ps r.2 b) r.3)
  where
    below_next : (ps : List Priced) → IsBelow q ps → comes_before p q ≡ true → IsBelow p ps
    below_next [] k h = tt
    below_next (x ∷ ps) k h = before_then p q x h k

pub run_ascends : (net : Network) (Fit : Priced → Type 0) (ps : List Priced) → IsRun net Fit ps → IsAscending ps
run_ascends net Fit [] r = λ i j d below lt. absurd (omega arith)
run_ascends net Fit (p ∷ ps) r = AllPairs-cons (λ x y. IsTrue (comes_before x y)) p ps (all_below net Fit p ps r.2 r.3) (run_ascends net Fit ps r.3)
