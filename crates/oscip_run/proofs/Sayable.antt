-- The answer of a solver is a well-formed answer of a report.
use Rattle.std.proofs.Common.{◌≡◌, ℕ, ◌≤◌, ◌<◌, ◌^◌, true, List, [], ◌∷◌, length, get_or, Some, refl, sym, ap, ◌∙◌, subst, arith}
use Rattle.std.specs.Prelude.{Contains, All, IfSome, find}
use Rattle.std.specs.List.{position_or_len, slice_get}
use Rattle.std.proofs.lemmas.Bool.{false_from_ne_true}
use Rattle.std.proofs.lemmas.List.Elements.{All-contains, All-cons, All-nil}
use Rattle.std.proofs.lemmas.List.Folds.{find_at}
use Rattle.std.proofs.lemmas.List.Sums.{get_or-le-sum_by, position_or_len_is}
use Rattle.std.proofs.lemmas.Option.{slice_get-get_or}
use Rattle.cut_dot.specs.Pictures.{answer_flow}
use Rattle.cut_net.specs.declared.answer.Answer.{Answer}
use Rattle.cut_net.specs.declared.answer.Answer.TheVariants as answers
use Rattle.cut_net.specs.Answers.{answer_claim}
use Rattle.cut_net.specs.declared.priced.Priced.{Priced}
use Rattle.cut_net.specs.Network.{Network, index_of}
use Rattle.cut_net.specs.Cuts.{have_equal_ends, IsChain}
use Rattle.cut_net.specs.Lines.{removed_by, AreImportsInOrder, IsAscending, IsImport}
use Rattle.cut_net.specs.Pins.{ByPin, IsAnswerWithPins, IsPinChain}
use Rattle.cut_report.specs.ReportText.{IsReport, IsWellFormedAnswer}
use Rattle.cut_net.specs.AnswerClaim.{AnswerClaim, CutOf, BlockedBy}
use Rattle.cut_report.specs.ReportClaim.{ReportClaim}
use Rattle.cut_net.specs.WellFormed.{total_weight, AreBetween, IsNetwork}
use Rattle.cut_net.proofs.Certificate.{weight-mono}
use Rattle.cut_net.proofs.Places.{index_takes}
use Rattle.cut_solve.specs.Solving.{IsSolved}
use Rattle.cut_net.proofs.Ends.{apart, before_from, same_from, same_sym, same_trans, same_true, Same}

-- the line that has an import's ends is the one that is found
found_at : (lines : List Priced) (i : Priced) (k : ℕ) (d : Priced) → IsAscending lines → k < length lines → Same i (get_or lines k d) → find (have_equal_ends i) lines ≡ Some (get_or lines k d)
found_at lines i k d ascending within same =
    let location : position_or_len (have_equal_ends i) lines ≡ k =
    position_or_len_is (have_equal_ends i) lines k d (omega arith)
    (λ j below. false_from_ne_true _ (λ t. apart {i = get_or lines j d} {j = get_or lines k d} (before_from _ _ (ascending j k d below within)) (same_trans (same_sym (same_from _ _ t)) (same_sym same))))
    (λ _. same_true _ _ same) in
    find_at (have_equal_ends i) lines ∙ ap (slice_get lines) location ∙ slice_get-get_or lines k d within

weight_within : (net : Network) (i : Priced) → Contains net.imports i → i.amount ≤ total_weight net
weight_within net i c =
    let le = get_or-le-sum_by (λ (j : Priced). j.amount) net.imports c.0 i c.1 in
    subst (λ (j : Priced). j.amount ≤ total_weight net) c.2 le

lines_between : (net : Network) (lines : List Priced) → IsNetwork net → All (IsImport net) lines → AreBetween lines (length net.names)
lines_between net lines invariants known i c =
    let import_of = All-contains (IsImport net) lines i known c in
    let ends = invariants.between import_of.0 import_of.1 in
    (rw (← import_of.2) ends.0, rw (← import_of.3) ends.1)

-- each line's amount is within the weights of the network
lines_fit : (net : Network) (lines : List Priced) → IsNetwork net → AreImportsInOrder net lines →
    ((i line : Priced) → Contains net.imports i → find (have_equal_ends i) lines ≡ Some line → line.amount ≤ i.amount) → All (λ line. line.amount < 2 ^ 64) lines
lines_fit net lines invariants h within k d lt =
    let import_of = h.known k d lt in
    let found = found_at lines import_of.0 k d h.ascending lt (record { from = import_of.2; to = import_of.3 }) in
    let le = within import_of.0 (get_or lines k d) import_of.1 found in
    let all = weight_within net import_of.0 import_of.1 in
    let fits = invariants.fits in
    omega arith

-- the amounts of the first so many lines are at most this
abbrev pub AtMost : ℕ → List Priced → ℕ → Type 0
AtMost most lines count = (k : ℕ) (d : Priced) → k < count → k < length lines → (get_or lines k d).amount ≤ most

-- the network has the module
abbrev Within : Network → ℕ → Type 0
Within net m = m < length net.names

-- the amounts of the flow fit 64 bits
abbrev pub FlowFits : AnswerClaim → Type 0
FlowFits (CutOf total printed flow) = All (λ (line : Priced). line.amount < 2 ^ 64) flow
FlowFits (BlockedBy chain) = Unit {0}

fit_below : (most : ℕ) (lines : List Priced) → most < 2 ^ 64 → All (λ (line : Priced). line.amount ≤ most) lines → All (λ (line : Priced). line.amount < 2 ^ 64) lines
fit_below most lines below h k d within = let le = h k d within in omega arith

-- they do where the greatest does
pub fits_said : (answer : Answer) (lines : List Priced) (most : ℕ) → lines ≡ answer_flow answer → most < 2 ^ 64 → All (λ (line : Priced). line.amount ≤ most) lines → FlowFits (answer_claim answer)
fits_said (answers.Cut cut) lines most e below h = fit_below most cut.flow.items below (subst (λ (flow : List Priced). All (λ (line : Priced). line.amount ≤ most) flow) e h)
fits_said (answers.Blocked chain) lines most e below h = tt

-- the modules of a path that begins with one are modules of the network
chain_within : (net : Network) (m : ℕ) (more : List ℕ) (b : ℕ) → IsNetwork net → IsChain net.imports (ByPin net) m more b → Within net m → All (Within net) (m ∷ more)
chain_within net m [] b invariants h within = All-cons (Within net) m [] within (All-nil (Within net))
chain_within net m (n ∷ more) b invariants (step, rest) within =
    let to : Within net n = subst (Within net) step.3 (invariants.between step.0 step.1).1 in
    All-cons (Within net) m (n ∷ more) within (chain_within net n more b invariants rest to)

chain_said : (net : Network) (a b : ℕ) (chain : List ℕ) → IsNetwork net → a < length net.names → IsPinChain net a b chain → IsWellFormedAnswer net (BlockedBy chain)
chain_said net a b [] invariants within h = absurd h
chain_said net a b (m ∷ more) invariants within h = (omega arith, chain_within net m more b invariants h.1 (subst (Within net) (sym h.0) within))

may_say : (net : Network) (a b : ℕ) (claim : AnswerClaim) → IsNetwork net → a < length net.names → IsAnswerWithPins net a b claim → FlowFits claim → IsWellFormedAnswer net claim
may_say net a b (BlockedBy chain) invariants a_within answer flow_fits = chain_said net a b chain invariants a_within answer.is_chain
may_say net a b (CutOf total printed flow) invariants a_within answer flow_fits =
    let r = answer.right in
    let less = weight-mono net.imports (removed_by printed) (λ _. true) (λ i c e. refl) in
    let sum = r.weights.sum in
    let fits = invariants.fits in
    record {
      fits = omega arith;
      printed_between = lines_between net printed invariants r.printed_in_order.known;
      printed_in_order = r.printed_in_order.ascending;
      printed_fit = lines_fit net printed invariants r.printed_in_order (λ i line c e.
          let same = subst (λ o. IfSome o (λ (l : Priced). l.amount ≡ i.amount)) e (r.weights.each i c) in omega arith);
      flow_between = lines_between net flow invariants r.flow_in_order.known;
      flow_in_order = r.flow_in_order.ascending;
      flow_fits = flow_fits;
      flow_above_zero = answer.flow_above_zero;
    }

-- an answer to two names is a report
pub is_report : (net : Network) (first second : List ℕ) (entry : ReportClaim) → IsNetwork net → Some entry.from ≡ index_of net first → Some entry.to ≡ index_of net second →
    IsSolved net first second entry.claim → FlowFits entry.claim → IsReport net entry
is_report net first second entry invariants from_is to_is solved flow_fits = record {
  from = (index_takes net first entry.from (sym from_is)).0;
  to = (index_takes net second entry.to (sym to_is)).0;
  says = may_say net solved.a solved.b entry.claim invariants (index_takes net first solved.a solved.from_is).0 solved.answer flow_fits;
}
