-- A report and its lines.
use Rattle.std.proofs.Common.{◌≡◌, ℕ, ◌<◌, ◌^◌, true, List, [], ◌∷◌, ◌++◌, length, map, Option, Some, None, refl, append_assoc, arith}
use Rattle.std.specs.Prelude.{All, unwrap_or}
use Rattle.std.specs.List.{list_all}
use Rattle.std.proofs.lemmas.Bool.{and_from, and_parts}
use Rattle.std.proofs.lemmas.List.{append-nil, length-map}
use Rattle.std.proofs.lemmas.List.Elements.{All-cons, All-head, All-nil, All-tail, All-weaker}
use Rattle.cut_net.specs.declared.priced.Priced.{Priced}
use Rattle.cut_net.specs.Network.{Network, name_of, index_of}
use Rattle.cut_net.specs.WellFormed.{IsNetwork}
use Rattle.cut_net.specs.AnswerClaim.{AnswerClaim, CutOf, BlockedBy}
use Rattle.cut_report.specs.ReportClaim.{ReportClaim}
use Rattle.cut_report.specs.ReportText.{IsReport, IsWellFormedCut, IsWellFormedAnswer}
use Rattle.cut_report.specs.ReportLine.{ReportLine, Ends, Weighs, Removes, Flows, Blocks, Last}
use Rattle.texts.specs.Fields.{is_name}
use Rattle.cut_report.specs.ReportLines.{IsModuleName, may_follow, is_above, IsGoodAfter, AreGoodAfter, last_of}
use Rattle.cut_net.proofs.Places.{index_again}
use Rattle.cut_report.specs.ReportLine.{removes, flows, answer_lines, leading_lines, entry_lines}
use Rattle.cut_report.proofs.NameOrder.{AreIn, apart, name_known}
use Rattle.cut_report.proofs.ImportLines.{FitsWord, FitsFlow, IsRun, IsFirst, flow_lines, remove_lines, run_good, good_run, good_after, run_from, run_fits, run_between, run_ascends, named_in, name_is}

-- ---- valid lines

pub last_of-append : (last : Option ReportLine) (xs ys : List ReportLine) → last_of last (xs ++ ys) ≡ last_of (last_of last xs) ys
last_of-append last [] ys = refl
last_of-append last (x ∷ xs) ys = last_of-append (Some x) xs ys

pub good-append : (net : Network) (last : Option ReportLine) (xs ys : List ReportLine) → AreGoodAfter net last xs → AreGoodAfter net (last_of last xs) ys → AreGoodAfter net last (xs ++ ys)
good-append net last [] ys g h = h
good-append net last (x ∷ xs) ys g h = (g.0, good-append net (Some x) xs ys g.1 h)

pub good_front : (net : Network) (last : Option ReportLine) (xs ys : List ReportLine) → AreGoodAfter net last (xs ++ ys) → AreGoodAfter net last xs
good_front net last [] ys g = tt
good_front net last (x ∷ xs) ys g = (g.0, good_front net (Some x) xs ys g.1)

-- a flow line may stand after remove lines, and the end may
flow_first : (net : Network) (line : ReportLine) (q : Priced) (ps : List Priced) → may_follow (Some line) (flows net q) ≡ true → is_above (Some line) (flows net q) ≡ true
    → (may_follow (last_of (Some line) (map (removes net) ps)) (flows net q) ≡ true) × (is_above (last_of (Some line) (map (removes net) ps)) (flows net q) ≡ true)
flow_first net line q [] h k = (h, k)
flow_first net line q (p ∷ ps) h k = flow_first net (removes net p) q ps refl refl

flows_first : (net : Network) (total : ℕ) (printed flow : List Priced) → IsFirst (flows net) (last_of (Some (Weighs total)) (map (removes net) printed)) flow
flows_first net total printed [] = tt
flows_first net total printed (q ∷ flow) = flow_first net (Weighs total) q printed refl refl

removes_first : (net : Network) (total : ℕ) (printed : List Priced) → IsFirst (removes net) (Some (Weighs total)) printed
removes_first net total [] = tt
removes_first net total (p ∷ printed) = (refl, refl)

last_removes : (net : Network) (line : ReportLine) (ps : List Priced) → may_follow (Some line) Last ≡ true → may_follow (last_of (Some line) (map (removes net) ps)) Last ≡ true
last_removes net line [] h = h
last_removes net line (p ∷ ps) h = last_removes net (removes net p) ps refl

last_flows : (net : Network) (last : Option ReportLine) (ps : List Priced) → may_follow last Last ≡ true → may_follow (last_of last (map (flows net) ps)) Last ≡ true
last_flows net last [] h = h
last_flows net last (p ∷ ps) h = last_flows net (Some (flows net p)) ps refl

-- what may stand before the last line
pub last_follows : (net : Network) (total : ℕ) (printed flow : List Priced) → may_follow (last_of (Some (Weighs total)) (map (removes net) printed ++ map (flows net) flow)) Last ≡ true
last_follows net total printed flow =
    rw (last_of-append (Some (Weighs total)) (map (removes net) printed) (map (flows net) flow))
    (last_flows net (last_of (Some (Weighs total)) (map (removes net) printed)) flow (last_removes net (Weighs total) printed refl))

both_fit : (total : ℕ) (net : Network) (printed flow : List Priced) → IsWellFormedCut net total printed flow → (IsRun net FitsWord printed) × (IsRun net FitsFlow flow)
both_fit total net printed flow s = (
  run_from net FitsWord printed s.printed_between s.printed_in_order s.printed_fit,
  run_from net FitsFlow flow s.flow_between s.flow_in_order (λ k d lt. record { fits = s.flow_fits k d lt; positive = s.flow_above_zero k d lt }),
)

-- the names of modules are names that the network has
chain_named : (net : Network) (chain : List ℕ) → IsNetwork net → All (λ m. m < length net.names) chain → list_all is_name (map (name_of net) chain) ≡ true
chain_named net [] w h = refl
chain_named net (m ∷ chain) w h =
    and_from _ _ (name_is net m w (All-head (λ m. m < length net.names) m chain h)) (chain_named net chain w (All-tail (λ m. m < length net.names) m chain h))

chain_known : (net : Network) (chain : List ℕ) → All (λ m. m < length net.names) chain → All (IsModuleName net) (map (name_of net) chain)
chain_known net [] h = All-nil (IsModuleName net)
chain_known net (m ∷ chain) h =
    All-cons (IsModuleName net) (name_of net m) (map (name_of net) chain) (name_known net m (All-head (λ m. m < length net.names) m chain h))
    (chain_known net chain (All-tail (λ m. m < length net.names) m chain h))

named_chain : (net : Network) (chain : List ℕ) → list_all is_name (map (name_of net) chain) ≡ true → All (λ m. m < length net.names) chain
named_chain net [] e = All-nil (λ m. m < length net.names)
named_chain net (m ∷ chain) e = let p = and_parts _ _ e in All-cons (λ m. m < length net.names) m chain (named_in net m p.0) (named_chain net chain p.1)

said_good : (net : Network) (s : AnswerClaim) (ends : ReportLine) → IsNetwork net → may_follow (Some ends) (Weighs 0) ≡ true → IsWellFormedAnswer net s → AreGoodAfter net (Some ends) (answer_lines net s ++ Last ∷ [])
said_good net (CutOf total printed flow) (Ends m n) w f s =
    let runs = both_fit total net printed flow s in
    let lines : List ReportLine = map (removes net) printed ++ map (flows net) flow in
    let after_flow : AreGoodAfter net (last_of (last_of (Some (Weighs total)) (map (removes net) printed)) (map (flows net) flow)) [] = tt in
    let flow_good = run_good net FitsFlow (flows net) (last_of (Some (Weighs total)) (map (removes net) printed)) flow [] (flow_lines net w) runs.1 (flows_first net total printed flow) after_flow in
    let flow_only : AreGoodAfter net (last_of (Some (Weighs total)) (map (removes net) printed)) (map (flows net) flow) = rw (append-nil (map (flows net) flow)) at flow_good in
    let body = run_good net FitsWord (removes net) (Some (Weighs total)) printed (map (flows net) flow) (remove_lines net w) runs.0 (removes_first net total printed) flow_only in
    let end_good : IsGoodAfter net (last_of (Some (Weighs total)) lines) Last = record { form = tt; follows = last_follows net total printed flow; known = tt; above = refl } in
    (record { form = s.fits; follows = refl; known = tt; above = refl }, good-append net (Some (Weighs total)) lines (Last ∷ []) body (end_good, tt))
said_good net (BlockedBy chain) (Ends m n) w f may =
    let long = length-map chain (name_of net) in
    let some = may.0 in (
      record { form = (omega arith, chain_named net chain w may.1); follows = refl; known = chain_known net chain may.1; above = refl },
      (record { form = tt; follows = refl; known = tt; above = refl }, tt),
    )
said_good net s (Weighs k) w f may = absurd cc
said_good net s (Removes m n k) w f may = absurd cc
said_good net s (Flows m n k) w f may = absurd cc
said_good net s (Blocks names) w f may = absurd cc
said_good net s Last w f may = absurd cc

pub report_good : (net : Network) (e : ReportClaim) → IsNetwork net → IsReport net e → AreGoodAfter net None (entry_lines net e)
report_good net e w r = (
  record { form = (name_is net e.from w r.from, name_is net e.to w r.to); follows = refl; known = (name_known net e.from r.from, name_known net e.to r.to); above = refl },
  said_good net e.claim (Ends (name_of net e.from) (name_of net e.to)) w refl r.says,
)

good_said : (net : Network) (s : AnswerClaim) (last : Option ReportLine) → IsNetwork net → AreGoodAfter net last (answer_lines net s) → IsWellFormedAnswer net s
good_said net (CutOf total printed flow) last w g =
    let removed = good_run net FitsWord (removes net) (Some (Weighs total)) printed (map (flows net) flow) (remove_lines net w) g.1 in
    let more = good_after net (removes net) (Some (Weighs total)) printed (map (flows net) flow) g.1 in
    let padded : AreGoodAfter net (last_of (Some (Weighs total)) (map (removes net) printed)) (map (flows net) flow ++ []) = rw (append-nil (map (flows net) flow)) more in
    let carried = good_run net FitsFlow (flows net) (last_of (Some (Weighs total)) (map (removes net) printed)) flow [] (flow_lines net w) padded in
    record {
      fits = g.0.form;
      printed_between = run_between net FitsWord printed removed;
      printed_in_order = run_ascends net FitsWord printed removed;
      printed_fit = run_fits net FitsWord printed removed;
      flow_between = run_between net FitsFlow flow carried;
      flow_in_order = run_ascends net FitsFlow flow carried;
      flow_fits = All-weaker FitsFlow (λ p. p.amount < 2 ^ 64) (λ p f. f.fits) flow (run_fits net FitsFlow flow carried);
      flow_above_zero = All-weaker FitsFlow (λ p. 0 < p.amount) (λ p f. f.positive) flow (run_fits net FitsFlow flow carried);
    }
good_said net (BlockedBy chain) last w g =
    let long = length-map chain (name_of net) in
    let some = g.0.form.0 in
    (omega arith, named_chain net chain g.0.form.1)

pub good_report : (net : Network) (e : ReportClaim) → IsNetwork net → AreGoodAfter net None (leading_lines net e) → IsReport net e
good_report net e w g = record {
  from = named_in net e.from g.0.form.0;
  to = named_in net e.to g.0.form.1;
  says = good_said net e.claim (Some (Ends (name_of net e.from) (name_of net e.to))) w g.1;
}

-- ---- the report of the lines

abbrev cursor : Network → List ℕ → ℕ
cursor net name = unwrap_or (index_of net name) 0

abbrev priced : Network → List ℕ → List ℕ → ℕ → Priced
priced net m n k = record { from = cursor net m; to = cursor net n; amount = k }

abbrev printed_in : Network → List ReportLine → List Priced
printed_in net [] = []
printed_in net (Ends m n ∷ lines) = printed_in net lines
printed_in net (Weighs w ∷ lines) = printed_in net lines
printed_in net (Removes m n k ∷ lines) = priced net m n k ∷ printed_in net lines
printed_in net (Flows m n k ∷ lines) = printed_in net lines
printed_in net (Blocks names ∷ lines) = printed_in net lines
printed_in net (Last ∷ lines) = printed_in net lines

abbrev flow_in : Network → List ReportLine → List Priced
flow_in net [] = []
flow_in net (Ends m n ∷ lines) = flow_in net lines
flow_in net (Weighs w ∷ lines) = flow_in net lines
flow_in net (Removes m n k ∷ lines) = flow_in net lines
flow_in net (Flows m n k ∷ lines) = priced net m n k ∷ flow_in net lines
flow_in net (Blocks names ∷ lines) = flow_in net lines
flow_in net (Last ∷ lines) = flow_in net lines

-- what the lines after the first say
abbrev said_in : Network → List ReportLine → AnswerClaim
said_in net [] = CutOf 0 [] []
said_in net (Ends m n ∷ lines) = CutOf 0 [] []
said_in net (Weighs w ∷ lines) = CutOf w (printed_in net lines) (flow_in net lines)
said_in net (Removes m n k ∷ lines) = CutOf 0 [] []
said_in net (Flows m n k ∷ lines) = CutOf 0 [] []
said_in net (Blocks names ∷ lines) = BlockedBy (map (cursor net) names)
said_in net (Last ∷ lines) = CutOf 0 [] []

abbrev behind_first : List ReportLine → List ReportLine
behind_first [] = []
behind_first (_ ∷ lines) = lines

abbrev first_in : Network → List ReportLine → ℕ × ℕ
first_in net [] = (0, 0)
first_in net (Ends m n ∷ lines) = (cursor net m, cursor net n)
first_in net (Weighs w ∷ lines) = (0, 0)
first_in net (Removes m n k ∷ lines) = (0, 0)
first_in net (Flows m n k ∷ lines) = (0, 0)
first_in net (Blocks names ∷ lines) = (0, 0)
first_in net (Last ∷ lines) = (0, 0)

abbrev pub entry_in : Network → List ReportLine → ReportClaim
entry_in net lines = record { from = (first_in net lines).0; to = (first_in net lines).1; claim = said_in net (behind_first lines) }

place_again : (net : Network) (i : ℕ) → IsNetwork net → i < length net.names → cursor net (name_of net i) ≡ i
place_again net i w lt = rw (index_again net i (apart net.names w.names_ascend) lt) refl

priced_again : (net : Network) (p : Priced) → IsNetwork net → AreIn net p → priced net (name_of net p.from) (name_of net p.to) p.amount ≡ p
priced_again net p w a = rw (place_again net p.from w a.from, place_again net p.to w a.to) refl

printed_removes : (net : Network) (Fit : Priced → Type 0) (ps : List Priced) (rest : List ReportLine) → IsNetwork net → IsRun net Fit ps → printed_in net (map (removes net) ps ++ rest) ≡ ps ++ printed_in net rest
printed_removes net Fit [] rest w r = refl
printed_removes net Fit (p ∷ ps) rest w r = rw (priced_again net p w r.0, printed_removes net Fit ps rest w r.3) refl

flow_flows : (net : Network) (Fit : Priced → Type 0) (ps : List Priced) (rest : List ReportLine) → IsNetwork net → IsRun net Fit ps → flow_in net (map (flows net) ps ++ rest) ≡ ps ++ flow_in net rest
flow_flows net Fit [] rest w r = refl
flow_flows net Fit (p ∷ ps) rest w r = rw (priced_again net p w r.0, flow_flows net Fit ps rest w r.3) refl

printed_flows : (net : Network) (ps : List Priced) (rest : List ReportLine) → printed_in net (map (flows net) ps ++ rest) ≡ printed_in net rest
printed_flows net [] rest = refl
printed_flows net (p ∷ ps) rest = printed_flows net ps rest

flow_removes : (net : Network) (ps : List Priced) (rest : List ReportLine) → flow_in net (map (removes net) ps ++ rest) ≡ flow_in net rest
flow_removes net [] rest = refl
flow_removes net (p ∷ ps) rest = flow_removes net ps rest

chain_again : (net : Network) (chain : List ℕ) → IsNetwork net → All (λ m. m < length net.names) chain → map (cursor net) (map (name_of net) chain) ≡ chain
chain_again net [] w h = refl
chain_again net (m ∷ chain) w h =
    rw (place_again net m w (All-head (λ m. m < length net.names) m chain h), chain_again net chain w (All-tail (λ m. m < length net.names) m chain h)) refl

said_again : (net : Network) (s : AnswerClaim) → IsNetwork net → IsWellFormedAnswer net s → said_in net (answer_lines net s ++ Last ∷ []) ≡ s
said_again net (CutOf total printed flow) w s =
    let runs = both_fit total net printed flow s in
    rw (
      append_assoc (map (removes net) printed) (map (flows net) flow) (Last ∷ []),
      printed_removes net FitsWord printed (map (flows net) flow ++ Last ∷ []) w runs.0,
      printed_flows net flow (Last ∷ []),
      flow_removes net printed (map (flows net) flow ++ Last ∷ []),
      flow_flows net FitsFlow flow (Last ∷ []) w runs.1,
      append-nil printed,
      append-nil flow,
    ) refl
said_again net (BlockedBy chain) w s = rw (chain_again net chain w s.1) refl

pub entry_again : (net : Network) (e : ReportClaim) → IsNetwork net → IsReport net e → entry_in net (entry_lines net e) ≡ e
entry_again net e w r = rw (place_again net e.from w r.from, place_again net e.to w r.to, said_again net e.claim w r.says) refl
