-- The rest of a text after valid lines: a valid line, an error, or nothing.
use Rattle.std.proofs.Common.{◌≡◌, ◌≢◌, ℕ, ◌&&◌, Bool, true, false, cond, List, [], ◌∷◌, ◌++◌, Option, Some, None, refl, sym, subst, ◌∙◌, append_assoc, inl, inr}
use Rattle.std.specs.Prelude.{All, is_some}
use Rattle.std.specs.List.{list_all}
use Rattle.std.specs.Option.{option_map_or}
use Rattle.std.proofs.lemmas.Bool.{and_from, and_parts, false_from_ne_true}
use Rattle.std.proofs.lemmas.List.Elements.{All-cons, All-head, All-nil, All-tail}
use Rattle.texts.specs.Fields.{split_at_first, ended}
use Rattle.cut_net.specs.Network.{Network, index_of}
use Rattle.cut_net.specs.WellFormed.{AreNamesInOrder}
use Rattle.cut_report.specs.ReportLine.{ReportLine, Ends, Weighs, Removes, Flows, Blocks, Last, report_line, written}
use Rattle.cut_report.specs.ReportLines.{may_follow, is_above, HasModuleNames, IsModuleName, IsGoodAfter, AreGoodAfter, IsAllowedLine, IsWrongLine, BeginsWith, has_line_end, last_of}
use Rattle.texts.proofs.FieldCuts.{cut_none}
use Rattle.cut_report.specs.Lines.{line_of_text}
use Rattle.cut_report.proofs.LineLaws.{line_again, line_takes, line_once, line_without}
use Rattle.cut_report.proofs.NameOrder.{known_from_index, index_from_known}
use Rattle.cut_report.proofs.TextFronts.{ended_cut, same_first, without_end}

pub data Kind : Type 0 where
  Good : Kind
  Bad : Kind
  Unknown : Kind
  Below : Kind
  Unended : Kind
  Over : Kind

-- ---- names that a network has

abbrev has : Network → List ℕ → Bool
has net name = is_some (index_of net name)

abbrev pub knows : Network → ReportLine → Bool
knows net (Ends m n) = has net m && has net n
knows net (Weighs w) = true
knows net (Removes m n w) = has net m && has net n
knows net (Flows m n f) = has net m && has net n
knows net (Blocks names) = list_all (has net) names
knows net Last = true

has_known : (net : Network) (name : List ℕ) → AreNamesInOrder net.names → IsModuleName net name → has net name ≡ true
has_known net name h k = rw (index_from_known net name h k).1 refl

some_of : {A : Type 0} (o : Option A) → is_some o ≡ true → (x : A) × (o ≡ Some x)
some_of None e = absurd cc
some_of (Some x) e = (x, refl)

known_has : (net : Network) (name : List ℕ) → has net name ≡ true → IsModuleName net name
known_has net name e = let p = some_of (index_of net name) e in known_from_index net name p.0 p.1

both_known : (net : Network) (m n : List ℕ) → AreNamesInOrder net.names → IsModuleName net m → IsModuleName net n → (has net m && has net n) ≡ true
both_known net m n h p q = rw (has_known net m h p, has_known net n h q) refl

both_has : (net : Network) (m n : List ℕ) → (has net m && has net n) ≡ true → IsModuleName net m × IsModuleName net n
both_has net m n e = let p = and_parts (has net m) (has net n) e in (known_has net m p.0, known_has net n p.1)

all_known : (net : Network) (names : List (List ℕ)) → AreNamesInOrder net.names → All (IsModuleName net) names → list_all (has net) names ≡ true
all_known net [] h k = refl
all_known net (n ∷ names) h k = and_from _ _ (has_known net n h (All-head (IsModuleName net) n names k)) (all_known net names h (All-tail (IsModuleName net) n names k))

all_has : (net : Network) (names : List (List ℕ)) → list_all (has net) names ≡ true → All (IsModuleName net) names
all_has net [] e = All-nil (IsModuleName net)
all_has net (n ∷ names) e = let p = and_parts _ _ e in All-cons (IsModuleName net) n names (known_has net n p.0) (all_has net names p.1)

knows_known : (net : Network) (line : ReportLine) → AreNamesInOrder net.names → HasModuleNames net line → knows net line ≡ true
knows_known net (Ends m n) h k = both_known net m n h k.0 k.1
knows_known net (Weighs w) h k = refl
knows_known net (Removes m n w) h k = both_known net m n h k.0 k.1
knows_known net (Flows m n f) h k = both_known net m n h k.0 k.1
knows_known net (Blocks names) h k = all_known net names h k
knows_known net Last h k = refl

known_knows : (net : Network) (line : ReportLine) → knows net line ≡ true → HasModuleNames net line
known_knows net (Ends m n) e = both_has net m n e
known_knows net (Weighs w) e = tt
known_knows net (Removes m n w) e = both_has net m n e
known_knows net (Flows m n f) e = both_has net m n e
known_knows net (Blocks names) e = all_has net names e
known_knows net Last e = tt

-- ---- what comes next

abbrev pub is_last : Option ReportLine → Bool
is_last None = false
is_last (Some (Ends m n)) = false
is_last (Some (Weighs w)) = false
is_last (Some (Removes m n w)) = false
is_last (Some (Flows m n f)) = false
is_last (Some (Blocks names)) = false
is_last (Some Last) = true

abbrev line_kind : Network → Option ReportLine → ReportLine → Kind
line_kind net last line = cond (may_follow last line) (cond (knows net line) (cond (is_above last line) Good Below) Unknown) Bad

abbrev text_kind : Network → Option ReportLine → List ℕ → Kind
text_kind net last text = option_map_or (line_kind net last) (line_of_text text) Bad

abbrev over_kind : List ℕ → Kind
over_kind [] = Over
over_kind (_ ∷ _) = Bad

abbrev pub rest_kind : Network → Option ReportLine → List ℕ → Kind
rest_kind net last rest = cond (is_last last) (over_kind rest) (option_map_or (λ x. text_kind net last x.0) (split_at_first 10 rest) Unended)

-- nothing follows the last line
pub ended_follows : (line : ReportLine) → may_follow (Some Last) line ≡ false
ended_follows (Ends m n) = refl
ended_follows (Weighs w) = refl
ended_follows (Removes m n w) = refl
ended_follows (Flows m n f) = refl
ended_follows (Blocks names) = refl
ended_follows Last = refl

not_last : (last : Option ReportLine) → last ≢ Some Last → is_last last ≡ false
not_last None h = refl
not_last (Some (Ends m n)) h = refl
not_last (Some (Weighs w)) h = refl
not_last (Some (Removes m n w)) h = refl
not_last (Some (Flows m n f)) h = refl
not_last (Some (Blocks names)) h = refl
not_last (Some Last) h = absurd (h refl)

followed : (last : Option ReportLine) (line : ReportLine) → may_follow last line ≡ true → is_last last ≡ false
followed last line e = not_last last (λ same. absurd (let bad : false ≡ true = sym (ended_follows line) ∙ rw same at e in cc))

rest_at : (net : Network) (last : Option ReportLine) (rest text more : List ℕ) → is_last last ≡ false → has_line_end text ≡ false → rest ≡ ended text ++ more
    → rest_kind net last rest ≡ text_kind net last text
rest_at net last rest text more h f e =
    let first : split_at_first 10 rest ≡ Some (text, more) = rw e (ended_cut text more (without_end text f)) in
    rw (h, first) refl

line_at : (net : Network) (last : Option ReportLine) (rest : List ℕ) (line : ReportLine) → IsAllowedLine last line → BeginsWith rest (report_line line) → rest_kind net last rest ≡ line_kind net last line
line_at net last rest line h b =
    rest_at net last rest (report_line line) b.more (followed last line h.follows) b.one_line b.whole ∙ rw (line_again line h.form) refl

pub kind_good : (net : Network) (last : Option ReportLine) (line : ReportLine) (more : List ℕ) → AreNamesInOrder net.names → IsGoodAfter net last line → rest_kind net last (ended (report_line line) ++ more) ≡ Good
kind_good net last line more h g =
    let first : split_at_first 10 (ended (report_line line) ++ more) ≡ Some (report_line line, more) = ended_cut (report_line line) more (line_without line g.form) in
    rw (followed last line g.follows, first, line_again line g.form, g.follows, knows_known net line h g.known, g.above) refl

pub kind_unknown : (net : Network) (last : Option ReportLine) (rest : List ℕ) (line : ReportLine) → IsAllowedLine last line → BeginsWith rest (report_line line) → (HasModuleNames net line → ⊥) → rest_kind net last rest ≡ Unknown
kind_unknown net last rest line h b u =
    let lacks : knows net line ≡ false = false_from_ne_true _ (λ e. u (known_knows net line e)) in
    line_at net last rest line h b ∙ rw (h.follows, lacks) refl

pub kind_below : (net : Network) (last : Option ReportLine) (rest : List ℕ) (line : ReportLine) → AreNamesInOrder net.names → IsAllowedLine last line → BeginsWith rest (report_line line) → HasModuleNames net line → is_above last line ≡ false
    → rest_kind net last rest ≡ Below
kind_below net last rest line o h b k low =
    line_at net last rest line h b ∙ rw (h.follows, knows_known net line o k, low) refl

pub kind_unended : (net : Network) (last : Option ReportLine) (rest : List ℕ) → last ≢ Some Last → has_line_end rest ≡ false → rest_kind net last rest ≡ Unended
kind_unended net last rest h e = rw (not_last last h, cut_none 10 rest (without_end rest e)) refl

pub kind_over : (net : Network) (last : Option ReportLine) → last ≡ Some Last → rest_kind net last [] ≡ Over
kind_over net last e = rw e refl

over_bad : (rest : List ℕ) → rest ≢ [] → over_kind rest ≡ Bad
over_bad [] h = absurd (h refl)
over_bad (b ∷ rest) h = refl

text_bad : (net : Network) (last : Option ReportLine) (text : List ℕ) → ((line : ReportLine) → IsAllowedLine last line → report_line line ≢ text) → text_kind net last text ≡ Bad
text_bad net last text h = go (line_of_text text) refl
  where
    go : (o : Option ReportLine) → line_of_text text ≡ o → option_map_or (line_kind net last) o Bad ≡ Bad
    go None e = refl
    go (Some line) e =
        let s = line_takes text line e in
        rw (false_from_ne_true (may_follow last line) (λ f. h line (record { form = s.form; follows = f }) s.spelled)) refl

pub kind_bad : (net : Network) (last : Option ReportLine) (rest : List ℕ) → IsWrongLine last rest → rest_kind net last rest ≡ Bad
kind_bad net last rest (inl p) = rw p.0 (over_bad rest p.1)
kind_bad net last rest (inr p) =
    let text : List ℕ = p.1.0 in
    let b : BeginsWith rest text = p.1.1 in
    rest_at net last rest text b.more (not_last last p.0) b.one_line b.whole ∙ text_bad net last text p.1.2

-- ---- where valid lines stop

stops_at : (net : Network) (last : Option ReportLine) (line : ReportLine) (lines : List ReportLine) (rest more : List ℕ) → AreNamesInOrder net.names → IsGoodAfter net last line
    → rest ≡ written (line ∷ lines) ++ more → rest_kind net last rest ≢ Good → ⊥
stops_at net last line lines rest more o g e stop =
    stop (rw (e, append_assoc (ended (report_line line)) (written lines) more) (kind_good net last line (written lines ++ more) o g))

-- two fronts of one text that no good line follows are one
pub fronts_once : (net : Network) (last : Option ReportLine) (a b : List ReportLine) (x y : List ℕ) → AreNamesInOrder net.names → AreGoodAfter net last a → AreGoodAfter net last b → written a ++ x ≡ written b ++ y
    → rest_kind net (last_of last a) x ≢ Good → rest_kind net (last_of last b) y ≢ Good → (a ≡ b) × (x ≡ y)
fronts_once net last [] [] x y o g h e s t = (refl, e)
fronts_once net last [] (m ∷ b) x y o g h e s t = absurd (stops_at net last m b x y o h.0 e s)
fronts_once net last (l ∷ a) [] x y o g h e s t = absurd (stops_at net last l a y x o g.0 (sym e) t)
fronts_once net last (l ∷ a) (m ∷ b) x y o g h e s t =
    let parted : ended (report_line l) ++ (written a ++ x) ≡ ended (report_line m) ++ (written b ++ y) =
    sym (append_assoc (ended (report_line l)) (written a) x) ∙ e ∙ append_assoc (ended (report_line m)) (written b) y in
    let p = same_first (report_line l) (report_line m) (written a ++ x) (written b ++ y) (line_without l g.0.form) (line_without m h.0.form) parted in
    let same : m ≡ l = line_once m l h.0.form g.0.form (sym p.0) in
    let good : AreGoodAfter net (Some l) b = subst (λ (z : ReportLine). AreGoodAfter net (Some z) b) same h.1 in
    let stop : rest_kind net (last_of (Some l) b) y ≢ Good = subst (λ (z : ReportLine). rest_kind net (last_of (Some z) b) y ≢ Good) same t in
    let q = fronts_once net (Some l) a b x y o g.1 good p.1 s stop in
    (rw (same, q.0) refl, q.1)
