-- The results of the parts of the check, combined.
use Rattle.std.proofs.Common.{◌≡◌, ℕ, Result, Ok, Err, ◌≤◌, ◌<◌, Bool, false, not, List, length, get_or, map, take, refl, sym, ap, ◌∙◌, subst, arith, Option, Some, None}
use Rattle.std.specs.Prelude.{Contains, IfOk, IfSome, slice_get, is_some, unwrap_or, option_map, find}
use Rattle.std.proofs.lemmas.Bool.{not-true, not_from_false}
use Rattle.std.proofs.lemmas.List.{get_or_default, take_all, get_or-take, get_or-map, length-take-le}
use Rattle.std.proofs.lemmas.List.Elements.{All-take}
use Rattle.std.proofs.lemmas.Option.{slice_get_within, slice_get-get_or}
use Rattle.cut_net.specs.declared.priced.Priced.{Priced}
use Rattle.cut_net.specs.Network.{Network}
use Rattle.cut_net.specs.Cuts.{Chain, Outside, weight, have_equal_ends}
use Rattle.cut_net.specs.Lines.{AreImportsInOrder, IsImport, amount_in, removed_by, flow_by}
use Rattle.cut_net.specs.Pins.{AreWeightsWithPins, IsRemovable}
use Rattle.cut_net.proofs.Chains.{widened}
use Rattle.cut_check.specs.MatchedLines.{AreMatched}
use Rattle.cut_check.specs.Reaching.{IsAllowed}
use Rattle.cut_check.specs.Sums.{AreAmounts, HaveAmounts, AreImportWeights}
use Rattle.cut_check.specs.Sums.{IsFlowVerdict}
use Rattle.cut_check.specs.Verdicts.{HasCut, IsFirstInvalidIn, IsCutVerdict}
use Rattle.cut_check.specs.declared.verdict.Verdict.{Verdict}
use Rattle.cut_check.specs.declared.verdict.Verdict.TheVariants.{Yes, NoSuchImport, StillChain, WrongWeight, OverWeight, NotKept, WrongValue, NotPinned}

pub front_in_order : (net : Network) (lines : List Priced) (n : ℕ) → n ≤ length lines → AreImportsInOrder net lines → AreImportsInOrder net (take n lines)
front_in_order net lines n short o =
    let len : length (take n lines) ≡ n = length-take-le n lines short in
    record {
      known = All-take (IsImport net) n lines o.known;
      ascending = λ i j d h k.
          let i_in : i < n = omega arith in
          let j_in : j < n = omega arith in
          rw (get_or-take n lines i d i_in, get_or-take n lines j d j_in) (o.ascending i j d h (omega arith));
    }

-- all lines are in order, and the amounts stand at their imports
pub record AllMatched (net : Network) (lines : List Priced) (amounts : List (Option ℕ)) : Type 0 where
  pub in_order : AreImportsInOrder net lines
  pub size : length amounts ≡ length net.imports
  pub each : (k : ℕ) (d : Priced) → k < length net.imports → get_or amounts k None ≡ option_map (λ (l : Priced). l.amount) (find (have_equal_ends (get_or net.imports k d)) lines)

pub read_modules : (net : Network) (lines : List Priced) (count : ℕ) (amounts : List (Option ℕ)) → AreMatched net lines count amounts → length lines ≤ count → AllMatched net lines amounts
read_modules net lines count amounts m h =
    let whole = take_all count lines h in
    record {
      in_order = subst (AreImportsInOrder net) whole m.in_order;
      size = m.size;
      each = λ k d in_k. subst (λ v. get_or amounts k None ≡ option_map (λ (l : Priced). l.amount) (find (have_equal_ends (get_or net.imports k d)) v)) whole (m.each k d None in_k);
    }

some_of : (o : Option Priced) → is_some (option_map (λ (l : Priced). l.amount) o) ≡ is_some o
some_of None = refl
some_of (Some l) = refl

amount_of : (o : Option Priced) → unwrap_or (option_map (λ (l : Priced). l.amount) o) 0 ≡ amount_in o
amount_of None = refl
amount_of (Some l) = refl

module _ (net : Network) (lines : List Priced) (amounts : List (Option ℕ)) (r : AllMatched net lines amounts) where
  pub marks : HaveAmounts net.imports (removed_by lines) amounts
  marks k d in_k = ap is_some (r.each k d in_k) ∙ some_of (find (have_equal_ends (get_or net.imports k d)) lines)

  pub flows : AreAmounts net.imports (flow_by lines) amounts
  flows k d in_k = ap (λ o. unwrap_or o 0) (r.each k d in_k) ∙ amount_of (find (have_equal_ends (get_or net.imports k d)) lines)

  module _ (allowed : List Bool) (allowed_is : allowed ≡ map (λ (o : Option ℕ). not (is_some o)) amounts) where
    test_at : (k : ℕ) → k < length net.imports → get_or allowed k false ≡ not (is_some (get_or amounts k None))
    test_at k in_k = let size = r.size in rw allowed_is (get_or-map (λ (o : Option ℕ). not (is_some o)) amounts k None false (omega arith))

    allowed_outside : (i : Priced) → Contains net.imports i → IsAllowed net.imports allowed i → Contains net.imports i × Outside (removed_by lines) i
    allowed_outside i c (k, in_k, at_k, may) = (c, subst (λ v. removed_by lines v ≡ false) at_k (sym (marks k i in_k) ∙ not-true _ (sym (test_at k in_k) ∙ may)))

    outside_allowed : (i : Priced) → Contains net.imports i → Outside (removed_by lines) i → Contains net.imports i × IsAllowed net.imports allowed i
    outside_allowed i c out = (c, (c.0, c.1, c.2, test_at c.0 c.1 ∙ not_from_false _ (marks c.0 i c.1 ∙ ap (removed_by lines) c.2 ∙ out)))

    pub to_chain : (a m : ℕ) → Chain net.imports (IsAllowed net.imports allowed) a m → Chain net.imports (Outside (removed_by lines)) a m
    to_chain a m c = (c.0, widened net.imports net.imports (IsAllowed net.imports allowed) (Outside (removed_by lines)) allowed_outside a c.0 m c.1)

    pub from_chain : (a m : ℕ) → Chain net.imports (Outside (removed_by lines)) a m → Chain net.imports (IsAllowed net.imports allowed) a m
    from_chain a m c = (c.0, widened net.imports net.imports (Outside (removed_by lines)) (IsAllowed net.imports allowed) outside_allowed a c.0 m c.1)

  line_weight : (o : Option Priced) (w : ℕ) → IfSome (option_map (λ (l : Priced). l.amount) o) (λ x. x ≡ w) → IfSome o (λ l. l.amount ≡ w)
  line_weight None w h = tt
  line_weight (Some l) w h = h

  line_weight_back : (o : Option Priced) (w : ℕ) → IfSome o (λ l. l.amount ≡ w) → IfSome (option_map (λ (l : Priced). l.amount) o) (λ x. x ≡ w)
  line_weight_back None w h = tt
  line_weight_back (Some l) w h = h

  pub weights : AreImportWeights net.imports amounts → (i : Priced) → Contains net.imports i → IfSome (find (have_equal_ends i) lines) (λ line. line.amount ≡ i.amount)
  weights w i c =
      let h = w c.0 i c.1 in
      let at_i : IfSome (find (have_equal_ends (get_or net.imports c.0 i)) lines) (λ line. line.amount ≡ (get_or net.imports c.0 i).amount) =
      line_weight _ _ (subst (λ o. IfSome o (λ x. x ≡ (get_or net.imports c.0 i).amount)) (r.each c.0 i c.1) h) in
      subst (λ v. IfSome (find (have_equal_ends v) lines) (λ line. line.amount ≡ v.amount)) c.2 at_i

  pub weights_back : ((i : Priced) → Contains net.imports i → IfSome (find (have_equal_ends i) lines) (λ line. line.amount ≡ i.amount)) → AreImportWeights net.imports amounts
  weights_back w k d in_k =
      let i = get_or net.imports k d in
      let h = w i (k, in_k, get_or_default net.imports k i d in_k) in
      subst (λ o. IfSome o (λ x. x ≡ i.amount)) (sym (r.each k d in_k)) (line_weight_back _ _ h)

  pub are_weights : (total : ℕ) → IsRemovable net (removed_by lines) × AreImportWeights net.imports amounts × (total ≡ weight net.imports (removed_by lines)) → AreWeightsWithPins net lines total
  are_weights total h = record { removable = h.0; each = weights h.1; sum = h.2 }

  pub are_weights_back : (total : ℕ) → AreWeightsWithPins net lines total → IsRemovable net (removed_by lines) × AreImportWeights net.imports amounts × (total ≡ weight net.imports (removed_by lines))
  are_weights_back total h = (h.removable, weights_back h.each, h.sum)

abbrev some : Priced → Option Priced
some line = Some line

-- the line after those in order is the first stray one
pub stray_from : (net : Network) (lines : List Priced) (count : ℕ) (amounts : List (Option ℕ)) → AreMatched net lines count amounts →
    (line : Priced) → slice_get lines count ≡ Some line → IsFirstInvalidIn net lines line.from line.to
stray_from net lines count amounts m line at_index = record {
  index = count;
  line = line;
  at_index = at_index;
  ends = (refl, refl);
  before = m.in_order;
  stray = m.no_more (slice_get_within lines count line at_index);
}

pub if_ok : {A E : Type 0} (P Q : A → Type 0) (r : Result A E) → ((v : A) → P v → Q v) → IfOk r P → IfOk r Q
if_ok P Q (Ok v) more h = more v h
if_ok P Q (Err e) more h = tt

-- the verdict on the flow is the verdict where the reported imports are right
pub by_flow : (net : Network) (a b : ℕ) (printed : List Priced) (total : ℕ) (flow : List Priced) → HasCut net a b printed flow → AreWeightsWithPins net printed total →
    (v : Verdict) → IsFlowVerdict net a b (flow_by flow) total v → IsCutVerdict net a b printed total flow v
by_flow net a b printed total flow cut weigh Yes h = record {
  printed_in_order = cut.read.printed_in_order;
  flow_in_order = cut.read.flow_in_order;
  cut = cut.no_chain;
  weights = weigh;
  is_flow = h;
}
by_flow net a b printed total flow cut weigh (NoSuchImport from to) h = absurd h
by_flow net a b printed total flow cut weigh StillChain h = absurd h
by_flow net a b printed total flow cut weigh WrongWeight h = absurd h
by_flow net a b printed total flow cut weigh (OverWeight from to) h = (cut, weigh, h)
by_flow net a b printed total flow cut weigh (NotKept m) h = (cut, weigh, h.0, h.1)
by_flow net a b printed total flow cut weigh WrongValue h = (cut, weigh, h.0, h.1, h.2)
by_flow net a b printed total flow cut weigh (NotPinned from to) h = absurd h

pub stray_at : (net : Network) (lines : List Priced) (count : ℕ) (amounts : List (Option ℕ)) → AreMatched net lines count amounts →
    (line : Priced) → count < length lines → line ≡ get_or lines count line → IsFirstInvalidIn net lines line.from line.to
stray_at net lines count amounts m line lt e = stray_from net lines count amounts m line (slice_get-get_or lines count line lt ∙ ap some (sym e))
