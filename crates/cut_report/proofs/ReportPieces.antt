-- The lines of a report, buffered one after another.
use Rattle.std.proofs.Common.{◌≡◌, ◌++◌, ℕ, List, [], ◌∷◌, append_assoc, append-nil, ap, sym, ◌∙◌, map}
use Rattle.std.proofs.lemmas.Grind.{flat_map-append}
use Rattle.texts.specs.Fields.{ended}
use Rattle.cut_net.specs.declared.priced.Priced.{Priced}
use Rattle.cut_net.specs.Network.{Network, name_of}
use Rattle.cut_net.specs.AnswerClaim.{CutOf}
use Rattle.cut_report.specs.ReportClaim.{ReportClaim}
use Rattle.cut_report.specs.ReportLine.{ReportLine, Ends, Weighs, Last, entry_lines, flows, removes, report_line, answer_lines, written}

abbrev pub line : ReportLine → List ℕ
line claim = ended (report_line claim)

-- the lines of a cut: its weight, what is removed, and what flows
pub cut_lines : (net : Network) (total : ℕ) (printed flow : List Priced) → written (answer_lines net (CutOf total printed flow))
    ≡ (line (Weighs total) ++ written (map (removes net) printed)) ++ written (map (flows net) flow)
cut_lines net total printed flow =
    ap (λ (t : List ℕ). line (Weighs total) ++ t) (flat_map-append line (map (removes net) printed) (map (flows net) flow))
    ∙ sym (append_assoc (line (Weighs total)) (written (map (removes net) printed)) (written (map (flows net) flow)))

-- the lines of a report: the two modules, what is said, and the last
pub all_lines : (net : Network) (entry : ReportClaim) → written (entry_lines net entry)
    ≡ (line (Ends (name_of net entry.from) (name_of net entry.to)) ++ written (answer_lines net entry.claim)) ++ line Last
all_lines net entry =
    let first = line (Ends (name_of net entry.from) (name_of net entry.to)) in
    ap (λ (t : List ℕ). first ++ t) (flat_map-append line (answer_lines net entry.claim) (Last ∷ []) ∙ ap (λ (t : List ℕ). written (answer_lines net entry.claim) ++ t) (append-nil (line Last)))
    ∙ sym (append_assoc first (written (answer_lines net entry.claim)) (line Last))
