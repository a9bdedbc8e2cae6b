-- The outcome of a network's text is unique.
use Rattle.std.proofs.Common.{◌≡◌, ℕ, ◌+◌, ◌<◌, ◌≤◌, ◌^◌, List, [], ◌∷◌, ◌++◌, refl, sym, ◌∙◌, ap, subst, arith, true, Some, Result, Ok, Err, take}
use Rattle.std.specs.Prelude.{AllPairs, map, slice_get}
use Rattle.digraph.specs.Cycle.{IsCanonicalCycle}
use Rattle.cut_net.specs.Network.{Network, name_of, texts}
use Rattle.cut_net.specs.Cuts.{Any, Imports}
use Rattle.cut_net.specs.WellFormed.{IsAcyclic, total_weight}
use Rattle.cut_net.specs.NetText.{NetLine, Module, Import, net_line, IsPrefix, IsNetLine, Spell, is_nonempty, pieces_of, HaveDifferentImports, AreValidLines, IsBadLine, IsTwiceImport, IsTooMany, IsNetOf, NetText, IsOverflow, IsCycle, IsNetOutcome, NetError, BadLine, TwiceImport, Cycle, WeightOverflow, TooMany, HasOutcome}
use Rattle.cut_net.specs.declared.fault.NetFault.{NetFault}
use Rattle.cut_net.specs.declared.fault.NetFault.TheVariants as faults
use Rattle.cut_net.proofs.NetLines.{line_once}
use Rattle.digraph.proofs.OneCycle.{cycle_is_unique, cyclic}
use Rattle.cut_net.proofs.OneNetwork.{one_network}
use Rattle.cut_net.proofs.LineStops as stops
use Rattle.cut_net.proofs.Stops.{Stops, each, good_front, one_stop, no_stop, same_lines}

-- a line isn't empty
line_written : (line : NetLine) → is_nonempty (net_line line) ≡ true
line_written (Module m) = refl
line_written (Import m n w) = refl

bad_stops : (bytes : List ℕ) (k : ℕ) → IsBadLine bytes k → Stops (pieces_of bytes) k
bad_stops bytes k b = stops.stops_at_piece net_line IsNetLine line_once AreValidLines each good_front (pieces_of bytes) k b.before b.prefix.spelled b.prefix.good b.piece b.prefix.present b.written b.wrong

stops_at : (bytes : List ℕ) (k : ℕ) (before : List NetLine) (line : NetLine) → IsPrefix bytes k before (net_line line) → IsNetLine line → (AreValidLines (before ++ line ∷ []) → ⊥) → Stops (pieces_of bytes) k
stops_at bytes k before line prefix form bad = stops.stops_at_line net_line IsNetLine line_once AreValidLines each good_front (pieces_of bytes) k before prefix.spelled prefix.good line prefix.present (line_written line) form bad

twice_stops : (bytes : List ℕ) (k : ℕ) → IsTwiceImport bytes k → Stops (pieces_of bytes) k
twice_stops bytes k t = stops_at bytes k t.before t.line t.prefix t.form (λ good. t.twice good.apart)

many_stops : (bytes : List ℕ) (k : ℕ) → IsTooMany bytes k → Stops (pieces_of bytes) k
many_stops bytes k t = stops_at bytes k t.before t.line t.prefix t.form (λ good. t.many good.few)

same_number : (bytes : List ℕ) (l m j k : ℕ) → l ≡ j + 1 → m ≡ k + 1 → Stops (pieces_of bytes) j → Stops (pieces_of bytes) k → l ≡ m
same_number bytes = stops.same_number net_line IsNetLine line_once AreValidLines each good_front (pieces_of bytes)

bad_not_spelled : (bytes : List ℕ) (j k : ℕ) → IsBadLine bytes j → Stops (pieces_of bytes) k → (line : NetLine) → slice_get (pieces_of bytes) k ≡ Some (net_line line) → IsNetLine line → ⊥
bad_not_spelled bytes j k b t line present form =
    stops.not_spelled net_line IsNetLine line_once AreValidLines each good_front (pieces_of bytes) j k (bad_stops bytes j b) t line present form b.piece b.prefix.present b.wrong

bad_not_twice : (bytes : List ℕ) (j k : ℕ) → IsBadLine bytes j → IsTwiceImport bytes k → ⊥
bad_not_twice bytes j k b t = bad_not_spelled bytes j k b (twice_stops bytes k t) t.line t.prefix.present t.form

bad_not_many : (bytes : List ℕ) (j k : ℕ) → IsBadLine bytes j → IsTooMany bytes k → ⊥
bad_not_many bytes j k b t = bad_not_spelled bytes j k b (many_stops bytes k t) t.line t.prefix.present t.form

twice_not_many : (bytes : List ℕ) (j k : ℕ) → IsTwiceImport bytes j → IsTooMany bytes k → ⊥
twice_not_many bytes j k t m =
    let s = twice_stops bytes j t in
    let u = many_stops bytes k m in
    let line : m.line ≡ t.line = stops.one_line net_line IsNetLine line_once AreValidLines each good_front (pieces_of bytes) j k s u m.line m.prefix.present m.form t.line t.prefix.present t.form in
    let spelled = subst (λ (n : ℕ). Spell (take n (pieces_of bytes)) m.before) (one_stop (pieces_of bytes) k j u s) m.prefix.spelled in
    let before : m.before ≡ t.before = same_lines (take j (pieces_of bytes)) m.before t.before spelled t.prefix.spelled m.prefix.good.each t.prefix.good.each in
    t.twice (subst (λ (l : NetLine). AllPairs HaveDifferentImports (t.before ++ l ∷ [])) line (subst (λ (ls : List NetLine). AllPairs HaveDifferentImports (ls ++ m.line ∷ [])) before m.apart))

-- valid lines have no first error
whole : (bytes : List ℕ) (net : Network) (k : ℕ) → NetText bytes net → Stops (pieces_of bytes) k → ⊥
whole bytes net k text s = no_stop (pieces_of bytes) text.lines k text.spelled text.good s

-- valid lines have one network
pub same_net : (bytes : List ℕ) (net other : Network) → NetText bytes net → NetText bytes other → net ≡ other
same_net bytes net other a b =
    let lines : b.lines ≡ a.lines = same_lines (pieces_of bytes) b.lines a.lines b.spelled a.spelled b.good.each a.good.each in
    one_network a.lines net other a.is_net (subst (λ (ls : List NetLine). IsNetOf ls other) lines b.is_net)

not_over : (net other : Network) → net ≡ other → total_weight net < 2 ^ 64 → 2 ^ 64 ≤ total_weight other → ⊥
not_over net other e fits over = let same : total_weight net ≡ total_weight other = ap total_weight e in omega arith

reads_no_cycle : (bytes : List ℕ) (net : Network) (names : List (List ℕ)) → NetText bytes net → IsAcyclic net.imports → IsCycle bytes names → ⊥
reads_no_cycle bytes net names text acyclic c =
    let same : net ≡ c.net = same_net bytes net c.net text c.text in
    cyclic (Imports c.net.imports Any) c.cycle c.is_cycle (subst (λ (n : Network). IsAcyclic n.imports) same acyclic)

reads_no_overflow : (bytes : List ℕ) (net : Network) → NetText bytes net → total_weight net < 2 ^ 64 → IsOverflow bytes → ⊥
reads_no_overflow bytes net text fits o = not_over net o.net (same_net bytes net o.net text o.text) fits o.over

same_cycle : (bytes : List ℕ) (names others : List (List ℕ)) → IsCycle bytes names → IsCycle bytes others → names ≡ others
same_cycle bytes names others a b =
    let net : b.net ≡ a.net = same_net bytes b.net a.net b.text a.text in
    let cycle : a.cycle ≡ b.cycle = cycle_is_unique (Imports a.net.imports Any) a.cycle b.cycle a.is_cycle (subst (λ (n : Network). IsCanonicalCycle (Imports n.imports Any) b.cycle) net b.is_cycle) in
    a.are_names ∙ ap (λ (c : List ℕ). map (name_of a.net) c) cycle ∙ ap (λ (n : Network). map (name_of n) b.cycle) (sym net) ∙ sym b.are_names

pub outcome_is_unique : (bytes : List ℕ) (o p : Result Network NetError) → IsNetOutcome bytes o → IsNetOutcome bytes p → o ≡ p
outcome_is_unique bytes (Ok n) (Ok m) a b = ap Ok (same_net bytes n m a.0 b.0)
outcome_is_unique bytes (Ok n) (Err (BadLine m)) a b = absurd (whole bytes n b.0 a.0 (bad_stops bytes b.0 b.2))
outcome_is_unique bytes (Ok n) (Err (TwiceImport m)) a b = absurd (whole bytes n b.0 a.0 (twice_stops bytes b.0 b.2))
outcome_is_unique bytes (Ok n) (Err (Cycle ms)) a b = absurd (reads_no_cycle bytes n ms a.0 a.2 b)
outcome_is_unique bytes (Ok n) (Err WeightOverflow) a b = absurd (reads_no_overflow bytes n a.0 a.1 b)
outcome_is_unique bytes (Ok n) (Err (TooMany m)) a b = absurd (whole bytes n b.0 a.0 (many_stops bytes b.0 b.2))
outcome_is_unique bytes (Err (BadLine l)) (Ok m) a b = absurd (whole bytes m a.0 b.0 (bad_stops bytes a.0 a.2))
outcome_is_unique bytes (Err (BadLine l)) (Err (BadLine m)) a b = rw (same_number bytes l m a.0 b.0 a.1 b.1 (bad_stops bytes a.0 a.2) (bad_stops bytes b.0 b.2)) refl
outcome_is_unique bytes (Err (BadLine l)) (Err (TwiceImport m)) a b = absurd (bad_not_twice bytes a.0 b.0 a.2 b.2)
outcome_is_unique bytes (Err (BadLine l)) (Err (Cycle ms)) a b = absurd (whole bytes b.net a.0 b.text (bad_stops bytes a.0 a.2))
outcome_is_unique bytes (Err (BadLine l)) (Err WeightOverflow) a b = absurd (whole bytes b.net a.0 b.text (bad_stops bytes a.0 a.2))
outcome_is_unique bytes (Err (BadLine l)) (Err (TooMany m)) a b = absurd (bad_not_many bytes a.0 b.0 a.2 b.2)
outcome_is_unique bytes (Err (TwiceImport l)) (Ok m) a b = absurd (whole bytes m a.0 b.0 (twice_stops bytes a.0 a.2))
outcome_is_unique bytes (Err (TwiceImport l)) (Err (BadLine m)) a b = absurd (bad_not_twice bytes b.0 a.0 b.2 a.2)
outcome_is_unique bytes (Err (TwiceImport l)) (Err (TwiceImport m)) a b = rw (same_number bytes l m a.0 b.0 a.1 b.1 (twice_stops bytes a.0 a.2) (twice_stops bytes b.0 b.2)) refl
outcome_is_unique bytes (Err (TwiceImport l)) (Err (Cycle ms)) a b = absurd (whole bytes b.net a.0 b.text (twice_stops bytes a.0 a.2))
outcome_is_unique bytes (Err (TwiceImport l)) (Err WeightOverflow) a b = absurd (whole bytes b.net a.0 b.text (twice_stops bytes a.0 a.2))
outcome_is_unique bytes (Err (TwiceImport l)) (Err (TooMany m)) a b = absurd (twice_not_many bytes a.0 b.0 a.2 b.2)
outcome_is_unique bytes (Err (Cycle ns)) (Ok m) a b = absurd (reads_no_cycle bytes m ns b.0 b.2 a)
outcome_is_unique bytes (Err (Cycle ns)) (Err (BadLine m)) a b = absurd (whole bytes a.net b.0 a.text (bad_stops bytes b.0 b.2))
outcome_is_unique bytes (Err (Cycle ns)) (Err (TwiceImport m)) a b = absurd (whole bytes a.net b.0 a.text (twice_stops bytes b.0 b.2))
outcome_is_unique bytes (Err (Cycle ns)) (Err (Cycle ms)) a b = rw (same_cycle bytes ns ms a b) refl
outcome_is_unique bytes (Err (Cycle ns)) (Err WeightOverflow) a b = absurd (reads_no_overflow bytes a.net a.text a.fits b)
outcome_is_unique bytes (Err (Cycle ns)) (Err (TooMany m)) a b = absurd (whole bytes a.net b.0 a.text (many_stops bytes b.0 b.2))
outcome_is_unique bytes (Err WeightOverflow) (Ok m) a b = absurd (reads_no_overflow bytes m b.0 b.1 a)
outcome_is_unique bytes (Err WeightOverflow) (Err (BadLine m)) a b = absurd (whole bytes a.net b.0 a.text (bad_stops bytes b.0 b.2))
outcome_is_unique bytes (Err WeightOverflow) (Err (TwiceImport m)) a b = absurd (whole bytes a.net b.0 a.text (twice_stops bytes b.0 b.2))
outcome_is_unique bytes (Err WeightOverflow) (Err (Cycle ms)) a b = absurd (reads_no_overflow bytes b.net b.text b.fits a)
outcome_is_unique bytes (Err WeightOverflow) (Err WeightOverflow) a b = refl
outcome_is_unique bytes (Err WeightOverflow) (Err (TooMany m)) a b = absurd (whole bytes a.net b.0 a.text (many_stops bytes b.0 b.2))
outcome_is_unique bytes (Err (TooMany l)) (Ok m) a b = absurd (whole bytes m a.0 b.0 (many_stops bytes a.0 a.2))
outcome_is_unique bytes (Err (TooMany l)) (Err (BadLine m)) a b = absurd (bad_not_many bytes b.0 a.0 b.2 a.2)
outcome_is_unique bytes (Err (TooMany l)) (Err (TwiceImport m)) a b = absurd (twice_not_many bytes b.0 a.0 b.2 a.2)
outcome_is_unique bytes (Err (TooMany l)) (Err (Cycle ms)) a b = absurd (whole bytes b.net a.0 b.text (many_stops bytes a.0 a.2))
outcome_is_unique bytes (Err (TooMany l)) (Err WeightOverflow) a b = absurd (whole bytes b.net a.0 b.text (many_stops bytes a.0 a.2))
outcome_is_unique bytes (Err (TooMany l)) (Err (TooMany m)) a b = rw (same_number bytes l m a.0 b.0 a.1 b.1 (many_stops bytes a.0 a.2) (many_stops bytes b.0 b.2)) refl

-- an outcome that holds of the text is the returned one, unless an allocation failed
pub only_said : (bytes : List ℕ) (result : Result Network NetFault) → HasOutcome result (IsNetOutcome bytes) →
    (o : Result Network NetError) → IsNetOutcome bytes o → HasOutcome result (λ p. p ≡ o)
only_said bytes (Ok net) h o holds = outcome_is_unique bytes (Ok net) o h holds
only_said bytes (Err (faults.BadLine line)) h o holds = outcome_is_unique bytes (Err (BadLine line)) o h holds
only_said bytes (Err (faults.TwiceImport line)) h o holds = outcome_is_unique bytes (Err (TwiceImport line)) o h holds
only_said bytes (Err (faults.Cycle names)) h o holds = outcome_is_unique bytes (Err (Cycle (texts names.items))) o h holds
only_said bytes (Err faults.WeightOverflow) h o holds = outcome_is_unique bytes (Err WeightOverflow) o h holds
only_said bytes (Err (faults.TooMany line)) h o holds = outcome_is_unique bytes (Err (TooMany line)) o h holds
only_said bytes (Err faults.Memory) h o holds = tt
