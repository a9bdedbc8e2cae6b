-- The state of the builder, and the lines that it denotes.
use Rattle.std.proofs.Common.{◌≡◌, ◌≢◌, ℕ, ◌<◌, true, false, List, [], ◌∷◌, ◌++◌, length, map, Option, Some, None, Result, Ok, Err, refl, sym, subst, ◌∙◌, append_assoc, inl, inr}
use Rattle.std.specs.Option.{ok_or}
use Rattle.std.proofs.lemmas.Bool.{cases_Bool}
use Rattle.std.proofs.lemmas.List.{append-nil, map_push}
use Rattle.cut_net.specs.declared.priced.Priced.{Priced}
use Rattle.cut_net.specs.Network.{Network, name_of, index_of}
use Rattle.cut_net.specs.WellFormed.{IsNetwork}
use Rattle.std.specs.Prelude.{All}
use Rattle.std.proofs.lemmas.List.Elements.{All-cons, All-head, All-nil, All-tail}
use Rattle.cut_report.specs.ReportClaim.{ReportClaim}
use Rattle.cut_report.specs.ReportLine.{ReportLine, Ends, Weighs, Removes, Flows, Blocks, Last}
use Rattle.cut_report.specs.ReportLines.{IsWellFormed, may_follow, is_above, HasModuleNames, IsModuleName, IsGoodAfter, AreGoodAfter, IsAllowedLine, last_of}
use Rattle.cut_net.proofs.Places.{index_takes}
use Rattle.cut_report.specs.declared.fault.ReportLineFault.{ReportLineFault}
use Rattle.cut_report.specs.declared.fault.ReportLineFault.TheVariants as faults
use Rattle.cut_report.specs.ReportLine.{removes, flows, leading_lines, entry_lines}
use Rattle.cut_report.specs.Builders.{◌>>=◌, BuilderState, Start, FirstLine, CutLines, PathLine, Complete, ClaimedPart, blocked_entry, chain_of, entry_of_part, step_in_cut, import_of, is_after, last_import, first_line_step, second_step, step_in_path, step, with_removed}
use Rattle.cut_report.proofs.NameOrder.{AreIn, index_from_known, known_from_index}
use Rattle.cut_report.proofs.ImportLines.{AreLines, FitsWord, FitsFlow, IsRun, flow_lines, remove_lines, good_run, good_after}
use Rattle.cut_report.proofs.EntryLines.{last_of-append, last_follows}
use Rattle.cut_report.proofs.RestKinds.{ended_follows}

abbrev pub standing_lines : Network → BuilderState → List ReportLine
standing_lines net Start = []
standing_lines net (FirstLine a b) = Ends (name_of net a) (name_of net b) ∷ []
standing_lines net (CutLines p) = leading_lines net (entry_of_part p)
standing_lines net (PathLine a b chain) = leading_lines net (blocked_entry a b chain)
standing_lines net (Complete e) = entry_lines net e

abbrev pub last_line : Network → BuilderState → Option ReportLine
last_line net s = last_of None (standing_lines net s)

-- what a step is, by what it gives
abbrev pub StepIs : Network → BuilderState → ReportLine → Result BuilderState ReportLineFault → Type 0
StepIs net s line (Ok t) = IsGoodAfter net (last_line net s) line × (standing_lines net t ≡ standing_lines net s ++ line ∷ [])
StepIs net s line (Err faults.BadLine) = may_follow (last_line net s) line ≡ false
StepIs net s line (Err faults.UnknownName) = IsAllowedLine (last_line net s) line × (HasModuleNames net line → ⊥)
StepIs net s line (Err faults.Order) = IsAllowedLine (last_line net s) line × HasModuleNames net line × (is_above (last_line net s) line ≡ false)
StepIs net s line (Err faults.Memory) = Unit {0}

-- ---- the line before

-- the last of the lines of a weight, of imports to be removed and of flow
pub inner : (net : Network) (P : Option ReportLine → Type 0) (start : Option ReportLine) (ps fs : List Priced) → P start → ((q : Priced) → P (Some (removes net q))) → ((q : Priced) → P (Some (flows net q)))
    → P (last_of start (map (removes net) ps ++ map (flows net) fs))
inner net P start [] [] h r f = h
inner net P start [] (q ∷ fs) h r f = inner net P (Some (flows net q)) [] fs (f q) r f
inner net P start (p ∷ ps) fs h r f = inner net P (Some (removes net p)) ps fs (r p) r f

removed_inner : (net : Network) (P : Option ReportLine → Type 0) (start : Option ReportLine) (ps : List Priced) → P start → ((q : Priced) → P (Some (removes net q))) → P (last_of start (map (removes net) ps))
removed_inner net P start [] h r = h
removed_inner net P start (p ∷ ps) h r = removed_inner net P (Some (removes net p)) ps (r p) r

flow_inner : (net : Network) (P : Option ReportLine → Type 0) (start : Option ReportLine) (fs : List Priced) → P start → ((q : Priced) → P (Some (flows net q))) → P (last_of start (map (flows net) fs))
flow_inner net P start [] h f = h
flow_inner net P start (q ∷ fs) h f = flow_inner net P (Some (flows net q)) fs (f q) f

-- the order of names is that of numbers
above_last : (net : Network) (Fit : Priced → Type 0) (line : Priced → ReportLine) (start : Option ReportLine) (before : Option Priced) (ps : List Priced) (q : Priced) → AreLines net Fit line → IsRun net Fit ps → AreIn net q
    → is_above start (line q) ≡ is_after before q → is_above (last_of start (map line ps)) (line q) ≡ is_after (last_import before ps) q
above_last net Fit line start before [] q laws r a e = e
above_last net Fit line start before (p ∷ ps) q laws r a e = above_last net Fit line (Some (line p)) (Some p) ps q laws r.3 a (laws.above p q r.0 a)

-- ---- names that are looked up

by_index : {T : Type 0} (P : Result T ReportLineFault → Type 0) (net : Network) (name : List ℕ) (f : ℕ → Result T ReportLineFault) → IsNetwork net → ((IsModuleName net name → ⊥) → P (Err faults.UnknownName))
    → ((i : ℕ) → IsModuleName net name → i < length net.names → name_of net i ≡ name → P (f i)) → P (ok_or (index_of net name) faults.UnknownName >>= f)
by_index P net name f w lacks has = go (index_of net name) refl
  where
    go : (o : Option ℕ) → index_of net name ≡ o → P (ok_or o faults.UnknownName >>= f)
    go None e = lacks (λ k. let p = index_from_known net name w.names_ascend k in let bad : None ≡ Some p.0 = sym e ∙ p.1 in absurd cc)
    go (Some i) e = let p = index_takes net name i e in has i (known_from_index net name i e) p.0 p.1

pub record IsFound (net : Network) (m n : List ℕ) (amount : ℕ) (q : Priced) : Type 0 where
  pub within : AreIn net q
  pub from : name_of net q.from ≡ m
  pub to : name_of net q.to ≡ n
  pub amount_is : q.amount ≡ amount

by_import : (P : Result BuilderState ReportLineFault → Type 0) (net : Network) (last : Option Priced) (m n : List ℕ) (amount : ℕ) (f : Priced → Result BuilderState ReportLineFault) → IsNetwork net
    → ((IsModuleName net m × IsModuleName net n → ⊥) → P (Err faults.UnknownName))
    → ((q : Priced) → IsModuleName net m × IsModuleName net n → IsFound net m n amount q → is_after last q ≡ false → P (Err faults.Order))
    → ((q : Priced) → IsModuleName net m × IsModuleName net n → IsFound net m n amount q → is_after last q ≡ true → P (f q))
    → P (import_of net last m n amount >>= f)
unfolding import_of
by_import P net last m n amount f w lacks low good =
    by_index (λ r. P (r >>= f)) net m _ w (λ k. lacks (λ h. k h.0)) (λ x km ltm em.
    by_index (λ r. P (r >>= f)) net n _ w (λ k. lacks (λ h. k h.1)) (λ y kn ltn en.
    let q : Priced = record { from = x; to = y; amount = amount } in
    let found : IsFound net m n amount q = record { within = record { from = ltm; to = ltn }; from = em; to = en; amount_is = refl } in
    elim (cases_Bool (is_after last q)) [
      | inl e ↦ rw e (good q (km, kn) found e)
      | inr e ↦ rw e (low q (km, kn) found e)
    ]))

by_chain : (P : Result BuilderState ReportLineFault → Type 0) (net : Network) (names : List (List ℕ)) (f : List ℕ → Result BuilderState ReportLineFault) → IsNetwork net
    → ((All (IsModuleName net) names → ⊥) → P (Err faults.UnknownName))
    → ((chain : List ℕ) → All (IsModuleName net) names → map (name_of net) chain ≡ names → P (f chain))
    → P (chain_of net names >>= f)
by_chain P net names f w lacks has = go {T = BuilderState} P names f lacks has
  where
    go : {T : Type 0} (P : Result T ReportLineFault → Type 0) (names : List (List ℕ)) (f : List ℕ → Result T ReportLineFault)
        → ((All (IsModuleName net) names → ⊥) → P (Err faults.UnknownName))
        → ((chain : List ℕ) → All (IsModuleName net) names → map (name_of net) chain ≡ names → P (f chain))
        → P (chain_of net names >>= f)
    go P [] f lacks has = has [] (All-nil (IsModuleName net)) refl
    go P (name ∷ names) f lacks has =
        by_index (λ r. P (r >>= f)) net name _ w (λ k. lacks (λ h. k (All-head (IsModuleName net) name names h))) (λ i known lt name_is.
        go (λ r. P (r >>= f)) names (λ more. Ok (i ∷ more)) (λ k. lacks (λ h. k (All-tail (IsModuleName net) name names h))) (λ chain all are.
        has (i ∷ chain) (All-cons (IsModuleName net) name names known all) (rw (name_is, are) refl)))

-- ---- each step

name_is_step : (net : Network) (line : ReportLine) → IsNetwork net → IsWellFormed line → StepIs net Start line (first_line_step net line)
unfolding first_line_step
name_is_step net (Ends m n) w h =
    by_index (StepIs net Start (Ends m n)) net m _ w (λ k. (record { form = h; follows = refl }, λ known. k known.0)) (λ x km ltm em.
    by_index (StepIs net Start (Ends m n)) net n _ w (λ k. (record { form = h; follows = refl }, λ known. k known.1)) (λ y kn ltn en.
    (record { form = h; follows = refl; known = (km, kn); above = refl }, rw (em, en) refl)))
name_is_step net (Weighs k) w h = refl
name_is_step net (Removes m n k) w h = refl
name_is_step net (Flows m n k) w h = refl
name_is_step net (Blocks names) w h = refl
name_is_step net Last w h = refl

open_is_step : (net : Network) (a b : ℕ) (line : ReportLine) → IsNetwork net → IsWellFormed line → StepIs net (FirstLine a b) line (second_step net a b line)
unfolding second_step
open_is_step net a b (Ends m n) w h = refl
open_is_step net a b (Weighs k) w h = (record { form = h; follows = refl; known = tt; above = refl }, refl)
open_is_step net a b (Removes m n k) w h = refl
open_is_step net a b (Flows m n k) w h = refl
open_is_step net a b (Blocks names) w h =
    by_chain (StepIs net (FirstLine a b) (Blocks names)) net names _ w
    (λ lacks. (record { form = h; follows = refl }, lacks))
    (λ chain known names_are. (record { form = h; follows = refl; known = known; above = refl }, rw names_are refl))
open_is_step net a b Last w h = refl

shut_is_step : (net : Network) (a b : ℕ) (chain : List ℕ) (line : ReportLine) → StepIs net (PathLine a b chain) line (step_in_path a b chain line)
unfolding step_in_path
shut_is_step net a b chain (Ends m n) = refl
shut_is_step net a b chain (Weighs k) = refl
shut_is_step net a b chain (Removes m n k) = refl
shut_is_step net a b chain (Flows m n k) = refl
shut_is_step net a b chain (Blocks names) = refl
shut_is_step net a b chain Last = (record { form = tt; follows = refl; known = tt; above = refl }, refl)

found_removes : (net : Network) (m n : List ℕ) (k : ℕ) (q : Priced) → IsFound net m n k q → removes net q ≡ Removes m n k
found_removes net m n k q f = rw (f.from, f.to, f.amount_is) refl

found_flows : (net : Network) (m n : List ℕ) (k : ℕ) (q : Priced) → IsFound net m n k q → flows net q ≡ Flows m n k
found_flows net m n k q f = rw (f.from, f.to, f.amount_is) refl

remove_is_step : (net : Network) (p : ClaimedPart) (m n : List ℕ) (k : ℕ) (flow : List Priced) → p.flow ≡ flow → IsNetwork net → AreGoodAfter net None (standing_lines net (CutLines p)) → IsWellFormed (Removes m n k)
    → StepIs net (CutLines p) (Removes m n k) (with_removed net p flow m n k)
remove_is_step net p m n k [] e w g h =
    let start : Option ReportLine = Some (Weighs p.weight) in
    let last_is : last_line net (CutLines p) ≡ last_of start (map (removes net) p.printed) = rw (e, append-nil (map (removes net) p.printed)) refl in
    let run = good_run net FitsWord (removes net) start p.printed (map (flows net) p.flow) (remove_lines net w) g.1.1 in
    let follows : may_follow (last_line net (CutLines p)) (Removes m n k) ≡ true = rw last_is (removed_inner net (λ x. may_follow x (Removes m n k) ≡ true) start p.printed refl (λ q. refl)) in
    let above : (q : Priced) → IsFound net m n k q → is_above (last_line net (CutLines p)) (Removes m n k) ≡ is_after (last_import None p.printed) q = λ q f.
    subst (λ (x : ReportLine). is_above (last_line net (CutLines p)) x ≡ is_after (last_import None p.printed) q) (found_removes net m n k q f)
    (rw last_is (above_last net FitsWord (removes net) start None p.printed q (remove_lines net w) run f.within refl)) in
    by_import (StepIs net (CutLines p) (Removes m n k)) net (last_import None p.printed) m n k _ w
    (λ u. (record { form = h; follows = follows }, u))
    (λ q known f low. (record { form = h; follows = follows }, known, above q f ∙ low))
    (λ q known f high. (
      record { form = h; follows = follows; known = known; above = above q f ∙ high },
      rw (e, append-nil (map (removes net) p.printed), append-nil (map (removes net) (p.printed ++ q ∷ [])), map_push (removes net) p.printed q, found_removes net m n k q f) refl,
    ))
remove_is_step net p m n k (f ∷ fs) e w g h =
    let start : Option ReportLine = Some (Weighs p.weight) in
    let last_is : last_line net (CutLines p) ≡ last_of (Some (flows net f)) (map (flows net) fs) = rw (e, last_of-append start (map (removes net) p.printed) (map (flows net) (f ∷ fs))) refl in
    rw last_is (flow_inner net (λ x. may_follow x (Removes m n k) ≡ false) (Some (flows net f)) fs refl (λ q. refl))

flow_is_step : (net : Network) (p : ClaimedPart) (m n : List ℕ) (k : ℕ) → IsNetwork net → AreGoodAfter net None (standing_lines net (CutLines p)) → IsWellFormed (Flows m n k)
    → StepIs net (CutLines p) (Flows m n k) (import_of net (last_import None p.flow) m n k >>= λ next. Ok (CutLines (record p { flow = p.flow ++ next ∷ [] })))
flow_is_step net p m n k w g h =
    let start : Option ReportLine = Some (Weighs p.weight) in
    let middle : Option ReportLine = last_of start (map (removes net) p.printed) in
    let last_is : last_line net (CutLines p) ≡ last_of middle (map (flows net) p.flow) = last_of-append start (map (removes net) p.printed) (map (flows net) p.flow) in
    let more : AreGoodAfter net middle (map (flows net) p.flow ++ []) = rw (append-nil (map (flows net) p.flow)) (good_after net (removes net) start p.printed (map (flows net) p.flow) g.1.1) in
    let run = good_run net FitsFlow (flows net) middle p.flow [] (flow_lines net w) more in
    let follows : may_follow (last_line net (CutLines p)) (Flows m n k) ≡ true = inner net (λ x. may_follow x (Flows m n k) ≡ true) start p.printed p.flow refl (λ q. refl) (λ q. refl) in
    let first : (q : Priced) → is_above middle (flows net q) ≡ true = λ q. removed_inner net (λ x. is_above x (flows net q) ≡ true) start p.printed refl (λ r. refl) in
    let above : (q : Priced) → IsFound net m n k q → is_above (last_line net (CutLines p)) (Flows m n k) ≡ is_after (last_import None p.flow) q = λ q f.
    subst (λ (x : ReportLine). is_above (last_line net (CutLines p)) x ≡ is_after (last_import None p.flow) q) (found_flows net m n k q f)
    (rw last_is (above_last net FitsFlow (flows net) middle None p.flow q (flow_lines net w) run f.within (first q))) in
    by_import (StepIs net (CutLines p) (Flows m n k)) net (last_import None p.flow) m n k _ w
    (λ u. (record { form = h; follows = follows }, u))
    (λ q known f low. (record { form = h; follows = follows }, known, above q f ∙ low))
    (λ q known f high. (
      record { form = h; follows = follows; known = known; above = above q f ∙ high },
      rw (map_push (flows net) p.flow q, found_flows net m n k q f, append_assoc (map (removes net) p.printed) (map (flows net) p.flow) (Flows m n k ∷ [])) refl,
    ))

go_on_is_step : (net : Network) (p : ClaimedPart) (line : ReportLine) → IsNetwork net → AreGoodAfter net None (standing_lines net (CutLines p)) → IsWellFormed line → StepIs net (CutLines p) line (step_in_cut net p line)
unfolding step_in_cut
go_on_is_step net p (Ends m n) w g h = inner net (λ x. may_follow x (Ends m n) ≡ false) (Some (Weighs p.weight)) p.printed p.flow refl (λ q. refl) (λ q. refl)
go_on_is_step net p (Weighs k) w g h = inner net (λ x. may_follow x (Weighs k) ≡ false) (Some (Weighs p.weight)) p.printed p.flow refl (λ q. refl) (λ q. refl)
go_on_is_step net p (Removes m n k) w g h = remove_is_step net p m n k p.flow refl w g h
go_on_is_step net p (Flows m n k) w g h = flow_is_step net p m n k w g h
go_on_is_step net p (Blocks names) w g h = inner net (λ x. may_follow x (Blocks names) ≡ false) (Some (Weighs p.weight)) p.printed p.flow refl (λ q. refl) (λ q. refl)
go_on_is_step net p Last w g h = (record { form = tt; follows = last_follows net p.weight p.printed p.flow; known = tt; above = refl }, refl)

-- the last of all lines
pub last_is_end : (net : Network) (e : ReportClaim) → last_line net (Complete e) ≡ Some Last
last_is_end net e = last_of-append None (leading_lines net e) (Last ∷ [])

pub step_is : (net : Network) (s : BuilderState) (line : ReportLine) → IsNetwork net → AreGoodAfter net None (standing_lines net s) → IsWellFormed line → StepIs net s line (step net s line)
unfolding step
step_is net Start line w g h = name_is_step net line w h
step_is net (FirstLine a b) line w g h = open_is_step net a b line w h
step_is net (CutLines p) line w g h = go_on_is_step net p line w g h
step_is net (PathLine a b chain) line w g h = shut_is_step net a b chain line
step_is net (Complete e) line w g h = rw (last_is_end net e) (ended_follows line)

-- before the end, the line before isn't the last
pub not_ended : (net : Network) (p : ClaimedPart) → last_line net (CutLines p) ≢ Some Last
not_ended net p = inner net (λ x. x ≢ Some Last) (Some (Weighs p.weight)) p.printed p.flow (λ e. absurd cc) (λ q e. absurd cc) (λ q e. absurd cc)
