-- The line of an offset, by the line starts.
use Rattle.std.proofs.Common.{◌≡◌, ℕ, ◌+◌, ◌-◌, ◌≤◌, ◌<◌, true, false, List, length, get_or, arith, leb}
use Rattle.std.specs.List.Sorted.{IsPartitionPoint}
use Rattle.std.proofs.lemmas.Bool.{leb-false, le-leb, lt-leb}
use Rattle.std.proofs.lemmas.List.{get_or_default}
use Rattle.ob_scan.specs.Position.{line_starts, IsLineTable, IsPosition}
use Rattle.ob_scan.proofs.LineTables.{last_begins, place_is, some_begins}
use Rattle.ob_scan.specs.LineLookup.{IsInLine}

-- what a search among the lines finds
pub line_found : (starts : List ℕ) (offset i : ℕ) → IsLineTable starts → i ≤ length starts →
    IsPartitionPoint (λ y. leb y offset ≡ true) (λ y. leb y offset ≡ false) starts i → IsInLine starts (i - 1) offset
line_found starts offset i table bound point =
    let some : 1 ≤ i = some_begins starts offset i table point in
    record {
      within = omega arith;
      begun = last_begins starts offset i table point;
      ends = λ more.
          let next : (i - 1) + 1 ≡ i = omega arith in
          let lt : i < length starts = omega arith in
          let above : offset < get_or starts i 0 = leb-false _ _ (point.1 i 0 (omega arith) lt) in
          rw next above;
    }

-- it separates the lines that begin up to an offset from those that begin after it
module _ (starts : List ℕ) (line offset : ℕ) (table : IsLineTable starts) (here : IsInLine starts line offset) where
  begun_before : (k d : ℕ) → 0 ≤ k → k < line + 1 → leb (get_or starts k d) offset ≡ true
  begun_before k d le lt =
      let rises : get_or starts k d ≤ get_or starts line d = table.rising k line d (omega arith) here.within in
      let same : get_or starts line d ≡ get_or starts line 0 = get_or_default starts line d 0 here.within in
      le-leb _ _ (omega (arith, rises, same, here.begun))

  begun_behind : (k d : ℕ) → line + 1 ≤ k → k < length starts → leb (get_or starts k d) offset ≡ false
  begun_behind k d le lt =
      let more : line + 1 < length starts = omega arith in
      let rises : get_or starts (line + 1) d ≤ get_or starts k d = table.rising (line + 1) k d le lt in
      let same : get_or starts (line + 1) d ≡ get_or starts (line + 1) 0 = get_or_default starts (line + 1) d 0 more in
      lt-leb _ _ (omega (arith, rises, same, here.ends more))

  pub position_is : (bytes : List ℕ) → offset < 4294967296 → starts ≡ line_starts bytes → offset ≤ length bytes → IsPosition bytes offset line (offset - get_or starts line 0)
  position_is bytes fits is within =
      let back : (line + 1) - 1 ≡ line = omega arith in
      rw back at (place_is bytes starts offset (line + 1) fits is within (omega (arith, here.within)) (begun_before, begun_behind))
