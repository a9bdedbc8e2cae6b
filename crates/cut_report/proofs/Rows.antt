-- Worked rows, as bytes: reports of two networks.
use Rattle.std.proofs.Common.{◌≡◌, [], ◌∷◌, ◌++◌, refl, arith}
use Rattle.std.specs.Prelude.{codes}
use Rattle.std.specs.Fmt.{decimal}
use Rattle.std.proofs.lemmas.Fmt.{decimal_digit}
use Rattle.cut_net.specs.declared.priced.Priced.{Priced}
use Rattle.texts.specs.Fields.{ended}
use Rattle.cut_net.specs.Network.{Network}
use Rattle.cut_net.specs.AnswerClaim.{CutOf, BlockedBy}
use Rattle.cut_report.specs.ReportClaim.{ReportClaim}
use Rattle.cut_report.specs.ReportText.{report_text}

one : decimal 1 ≡ codes "1"
one = decimal_digit 1 (omega arith)

two : decimal 2 ≡ codes "2"
two = decimal_digit 2 (omega arith)

-- two imports in a row
a_to_m : Priced
a_to_m = record { from = 0; to = 2; amount = 2 }

m_to_b : Priced
m_to_b = record { from = 2; to = 1; amount = 2 }

row_net : Network
row_net = record { names = codes "A" ∷ codes "B" ∷ codes "M" ∷ []; imports = a_to_m ∷ m_to_b ∷ []; pins = [] }

row_entry : ReportClaim
row_entry = record { from = 0; to = 1; claim = CutOf 2 (a_to_m ∷ []) (a_to_m ∷ m_to_b ∷ []) }

row : report_text row_net row_entry ≡
    ended (codes "cut A B") ++ ended (codes "weight 2") ++ ended (codes "remove A M 2") ++ ended (codes "flow A M 2") ++ ended (codes "flow M B 2") ++ ended (codes "end")
unfolding row_net row_entry a_to_m m_to_b
row = simp two

-- a path of pinned imports, and one of a single module
blocked_entry : ReportClaim
blocked_entry = record { from = 0; to = 1; claim = BlockedBy (0 ∷ 2 ∷ 1 ∷ []) }

blocked_row : report_text row_net blocked_entry ≡ ended (codes "cut A B") ++ ended (codes "blocked A M B") ++ ended (codes "end")
unfolding row_net blocked_entry
blocked_row = refl

itself_entry : ReportClaim
itself_entry = record { from = 0; to = 0; claim = BlockedBy (0 ∷ []) }

itself_row : report_text row_net itself_entry ≡ ended (codes "cut A A") ++ ended (codes "blocked A") ++ ended (codes "end")
unfolding row_net itself_entry
itself_row = refl

-- two ways from A to U, of which one weighs nothing
a_to_u : Priced
a_to_u = record { from = 0; to = 2; amount = 5 }

a_to_v : Priced
a_to_v = record { from = 0; to = 3; amount = 0 }

u_to_d : Priced
u_to_d = record { from = 2; to = 1; amount = 1 }

v_to_u : Priced
v_to_u = record { from = 3; to = 2; amount = 3 }

two_ways : Network
two_ways = record { names = codes "A" ∷ codes "D" ∷ codes "U" ∷ codes "V" ∷ []; imports = a_to_u ∷ a_to_v ∷ u_to_d ∷ v_to_u ∷ []; pins = [] }

two_ways_entry : ReportClaim
two_ways_entry = record {
  from = 0;
  to = 1;
  claim = CutOf 1 (u_to_d ∷ []) (record { from = 0; to = 2; amount = 1 } ∷ u_to_d ∷ []);
}

two_ways_report : report_text two_ways two_ways_entry ≡
    ended (codes "cut A D") ++ ended (codes "weight 1") ++ ended (codes "remove U D 1") ++ ended (codes "flow A U 1") ++ ended (codes "flow U D 1") ++ ended (codes "end")
unfolding two_ways two_ways_entry a_to_u a_to_v u_to_d v_to_u
two_ways_report = simp one
