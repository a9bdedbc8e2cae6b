-- The line starts up to an offset, and the last of them.
use Rattle.std.proofs.Common.{◌≡◌, ℕ, zero, suc, ◌+◌, ◌-◌, ◌≤◌, ◌<◌, Bool, true, false, cond, List, [], ◌∷◌, ◌++◌, length, get_or, refl, sym, ap, subst, ◌∙◌, inl, inr, add-zero, add-one, leb, length-append, arith}
use Rattle.std.specs.Prelude.{min}
use Rattle.std.specs.List.{All, range_with_len, filter}
use Rattle.std.specs.List.Sorted.{IsNonDecreasing, IsPartitionPoint}
use Rattle.std.proofs.Math.Dec.{eqb-suc-zero}
use Rattle.std.proofs.Math.Seq.{get_or-append_seam}
use Rattle.std.proofs.lemmas.Bool.{cases_order, leb-true, leb-false}
use Rattle.std.proofs.lemmas.List.{append-nil, append_assoc, get_or_append_left, get_or-append-add}
use Rattle.std.proofs.lemmas.List.Elements.{All-nil, All-push, filter-append}
use Rattle.std.proofs.lemmas.List.FromFn.{length-range_with_len, get_or-range_with_len}
use Rattle.std.proofs.lemmas.List.Kept.{IsNonDecreasingBy-filter}
use Rattle.std.proofs.lemmas.List.Sums.{length-filter, count_by-le-length}
use Rattle.ob_scan.specs.Position.{begins_line, ends_line, line_starts, IsLineTable, IsPosition}
use Rattle.ob_scan.proofs.LineStarts.{AtLine, range_last, line_ends, line_goes, line_is}

-- the starts of the lines that begin at this offset or before it
abbrev pub starts_to : List ℕ → ℕ → List ℕ
starts_to bytes at = filter (begins_line bytes) (range_with_len 0 (at + 1))

one_more : (bytes : List ℕ) (at : ℕ) (b : Bool) → ends_line bytes at ≡ b → starts_to bytes (at + 1) ≡ starts_to bytes at ++ cond b ((at + 1) ∷ []) []
one_more bytes at b e =
    let p = begins_line bytes in
    let next : List ℕ = (at + 1) ∷ [] in
    let zero_add : 0 + (at + 1) ≡ at + 1 = omega arith in
    let back : suc at - 1 ≡ at = omega arith in
    let begins : p (suc at) ≡ b = rw (eqb-suc-zero at, back) e in
    let shrink_tokens : filter p next ≡ cond b next [] = ap (λ (x : Bool). cond x next []) (ap p (add-one at) ∙ begins) in
    let more : range_with_len 0 (suc (at + 1)) ≡ range_with_len 0 (at + 1) ++ next = range_last 0 (at + 1) ∙ ap (λ (x : ℕ). range_with_len 0 (at + 1) ++ x ∷ []) zero_add in
    ap (λ (n : ℕ). filter p (range_with_len 0 n)) (add-one (at + 1)) ∙ (ap (filter p) more ∙ (filter-append p (range_with_len 0 (at + 1)) next ∙ ap (λ (xs : List ℕ). starts_to bytes at ++ xs) shrink_tokens))

pub start_more : (bytes : List ℕ) (at : ℕ) → ends_line bytes at ≡ true → starts_to bytes (at + 1) ≡ starts_to bytes at ++ (at + 1) ∷ []
start_more bytes at e = one_more bytes at true e

pub start_same : (bytes : List ℕ) (at : ℕ) → ends_line bytes at ≡ false → starts_to bytes (at + 1) ≡ starts_to bytes at
start_same bytes at e = one_more bytes at false e ∙ append-nil _

-- if no line ends between two offsets, no more lines begin
pub start_none : (bytes : List ℕ) (at more : ℕ) → ((k : ℕ) → at ≤ k → k < at + more → ends_line bytes k ≡ false) → starts_to bytes (at + more) ≡ starts_to bytes at
start_none bytes at zero none = rw add-zero refl
start_none bytes at (suc more) none =
    let next : (at + more) + 1 ≡ at + suc more = omega arith in
    rw (sym next) (start_same bytes (at + more) (none (at + more) (omega arith) (omega arith)) ∙ start_none bytes at more (λ k from to. none k from (omega (arith, to))))

-- the same for the starts of the lines
pub start_passed : (bytes : List ℕ) (from to : ℕ) → from ≤ to → ((k : ℕ) → from ≤ k → k < to → ends_line bytes k ≡ false) → starts_to bytes to ≡ starts_to bytes from
start_passed bytes from to le none =
    let there : from + (to - from) ≡ to = omega (arith, le) in
    subst (λ (t : ℕ). starts_to bytes t ≡ starts_to bytes from) there (start_none bytes from (to - from) (λ k at before. none k at (omega (arith, le, before))))

range_rises : (n : ℕ) → IsNonDecreasing (range_with_len 0 n)
range_rises n i j d le lt =
    let in_range : j < n = subst (λ (m : ℕ). j < m) (length-range_with_len 0 n) lt in
    let at_i : get_or (range_with_len 0 n) i d ≡ 0 + i = get_or-range_with_len 0 n i d (omega (arith, in_range, le)) in
    let at_j : get_or (range_with_len 0 n) j d ≡ 0 + j = get_or-range_with_len 0 n j d in_range in
    rw (at_i, at_j) (omega (arith, le))

pub is_table : (bytes : List ℕ) (at : ℕ) → at < 4294967296 → IsLineTable (starts_to bytes at)
is_table bytes at lt =
    let p = begins_line bytes in
    let all = range_with_len 0 (at + 1) in
    record {
      some = rw add-one (omega arith);
      first = rw add-one refl;
      rising = IsNonDecreasingBy-filter (λ x. x) p all (range_rises (at + 1));
      few = omega (arith, length-filter p all, count_by-le-length p all, length-range_with_len 0 (at + 1), lt);
    }

-- the last line that begins up to an offset is the line of the offset
record Begun (bytes : List ℕ) (at : ℕ) : Type 0 where
  front : List ℕ
  first : ℕ
  is : starts_to bytes at ≡ front ++ first ∷ []
  line : AtLine bytes at (length front) first
  below : All (λ x. x ≤ at) (starts_to bytes at)

begun_first : (bytes : List ℕ) → Begun bytes 0
begun_first bytes =
    record {
      front = [];
      first = 0;
      is = refl;
      line = record { room = omega arith; within = omega arith; count = refl; begins = inl refl; whole = λ k le lt. absurd (omega arith) };
      below = All-push (λ x. x ≤ 0) [] 0 (All-nil _) (omega arith);
    }

begun_more : (bytes : List ℕ) (at : ℕ) → Begun bytes at → ends_line bytes at ≡ true → Begun bytes (at + 1)
begun_more bytes at b e =
    let more = start_more bytes at e in
    let long : length (starts_to bytes at) ≡ length b.front + 1 = rw b.is (length-append b.front (b.first ∷ [])) in
    record {
      front = starts_to bytes at;
      first = at + 1;
      is = more;
      line = rw long (line_ends _ _ _ _ b.line e);
      below = rw more (All-push (λ x. x ≤ at + 1) (starts_to bytes at) (at + 1) (λ k d lt. omega (arith, b.below k d lt)) (omega arith));
    }

begun_same : (bytes : List ℕ) (at : ℕ) → Begun bytes at → ends_line bytes at ≡ false → Begun bytes (at + 1)
begun_same bytes at b e =
    let same = start_same bytes at e in
    record {
      front = b.front;
      first = b.first;
      is = same ∙ b.is;
      line = line_goes _ _ _ _ b.line e;
      below = rw same (λ k d lt. omega (arith, b.below k d lt));
    }

begun_next : (bytes : List ℕ) (at : ℕ) → Begun bytes at → (b : Bool) → ends_line bytes at ≡ b → Begun bytes (at + 1)
begun_next bytes at before true e = begun_more bytes at before e
begun_next bytes at before false e = begun_same bytes at before e

begun : (bytes : List ℕ) (at : ℕ) → Begun bytes at
begun bytes zero = begun_first bytes
begun bytes (suc at) = rw (sym (add-one at)) (begun_next bytes at (begun bytes at) (ends_line bytes at) refl)

-- after the lines that begin up to an offset are those that begin after it
record Behind (bytes : List ℕ) (at more : ℕ) : Type 0 where
  rest : List ℕ
  is : starts_to bytes (at + more) ≡ starts_to bytes at ++ rest
  above : All (λ x. at < x) rest

behind_next : (bytes : List ℕ) (at more : ℕ) → Behind bytes at more → (b : Bool) → ends_line bytes (at + more) ≡ b → Behind bytes at (suc more)
behind_next bytes at more before true e =
    let next : (at + more) + 1 ≡ at + suc more = omega arith in
    let one : starts_to bytes (at + suc more) ≡ starts_to bytes (at + more) ++ (at + suc more) ∷ [] = rw (sym next) (start_more bytes (at + more) e) in
    record {
      rest = before.rest ++ (at + suc more) ∷ [];
      is = one ∙ (ap (λ (x : List ℕ). x ++ (at + suc more) ∷ []) before.is ∙ append_assoc (starts_to bytes at) before.rest ((at + suc more) ∷ []));
      above = All-push (λ x. at < x) before.rest (at + suc more) before.above (omega arith);
    }
behind_next bytes at more before false e =
    let next : (at + more) + 1 ≡ at + suc more = omega arith in
    let none : starts_to bytes (at + suc more) ≡ starts_to bytes (at + more) = rw (sym next) (start_same bytes (at + more) e) in
    record { rest = before.rest; is = none ∙ before.is; above = before.above }

lower : (bytes : List ℕ) (at more : ℕ) → Behind bytes at more
lower bytes at zero = record { rest = []; is = rw add-zero (sym (append-nil _)); above = All-nil _ }
lower bytes at (suc more) = behind_next bytes at more (lower bytes at more) (ends_line bytes (at + more)) refl

-- the partition point between the numbers up to a bound and those above it
point_is : (xs ys : List ℕ) (t i : ℕ) → All (λ x. x ≤ t) xs → All (λ x. t < x) ys → i ≤ length (xs ++ ys) →
    IsPartitionPoint (λ y. leb y t ≡ true) (λ y. leb y t ≡ false) (xs ++ ys) i → i ≡ length xs
point_is xs ys t i below above bound point =
    elim (cases_order i (length xs)) [
      | inl same ↦ same
      | inr (inl lt) ↦
          let at_i = get_or_append_left xs ys 0 i lt in
          let over : t < get_or (xs ++ ys) i 0 = leb-false _ _ (point.1 i 0 (omega arith) (omega (arith, length-append xs ys, lt))) in
          absurd (omega (arith, at_i, over, below i 0 lt))
      | inr (inr gt) ↦
          let here : 0 < length ys = omega (arith, length-append xs ys, bound, gt) in
          let at_end : get_or (xs ++ ys) (length xs + 0) 0 ≡ get_or ys 0 0 = get_or-append-add xs ys 0 0 in
          let under : get_or (xs ++ ys) (length xs + 0) 0 ≤ t = leb-true _ _ (point.0 (length xs + 0) 0 (omega arith) (omega (arith, gt))) in
          absurd (omega (arith, at_end, under, above 0 0 here))
    ]

-- what a search among the lines of a text finds
pub place_is : (bytes starts : List ℕ) (offset i : ℕ) → offset < 4294967296 → starts ≡ line_starts bytes → offset ≤ length bytes → i ≤ length starts →
    IsPartitionPoint (λ y. leb y offset ≡ true) (λ y. leb y offset ≡ false) starts i →
    IsPosition bytes offset (i - 1) (offset - get_or starts (i - 1) 0)
place_is bytes starts offset i fits is within bound point =
    let n = min (length bytes + 1) 4294967296 - 1 in
    let all : min (length bytes + 1) 4294967296 ≡ (offset + (n - offset)) + 1 = omega (arith, fits, within) in
    let b = begun bytes offset in
    let r = lower bytes offset (n - offset) in
    let listed : starts ≡ starts_to bytes (offset + (n - offset)) = is ∙ ap (λ (m : ℕ). filter (begins_line bytes) (range_with_len 0 m)) all in
    let parts : starts ≡ starts_to bytes offset ++ r.rest = listed ∙ r.is in
    let long : length (starts_to bytes offset) ≡ length b.front + 1 = rw b.is (length-append b.front (b.first ∷ [])) in
    let found : i ≡ length (starts_to bytes offset) =
    point_is (starts_to bytes offset) r.rest offset i b.below r.above (subst (λ (xs : List ℕ). i ≤ length xs) parts bound)
    (subst (λ (xs : List ℕ). IsPartitionPoint (λ y. leb y offset ≡ true) (λ y. leb y offset ≡ false) xs i) parts point) in
    let line : i - 1 ≡ length b.front = omega (arith, found, long) in
    let seam : starts ≡ b.front ++ b.first ∷ r.rest = parts ∙ (ap (λ (xs : List ℕ). xs ++ r.rest) b.is ∙ append_assoc b.front (b.first ∷ []) r.rest) in
    let first : get_or starts (length b.front) 0 ≡ b.first = rw seam (get_or-append_seam b.front b.first r.rest 0) in
    rw (line, first) (line_is _ _ _ _ b.line)

-- each table has a line that begins at no later offset than this one
pub some_begins : (starts : List ℕ) (offset i : ℕ) → IsLineTable starts →
    IsPartitionPoint (λ y. leb y offset ≡ true) (λ y. leb y offset ≡ false) starts i → 1 ≤ i
some_begins starts offset zero table point = absurd (omega (arith, table.first, leb-false _ _ (point.1 0 0 (omega arith) table.some)))
some_begins starts offset (suc i) table point = omega arith

pub last_begins : (starts : List ℕ) (offset i : ℕ) → IsLineTable starts →
    IsPartitionPoint (λ y. leb y offset ≡ true) (λ y. leb y offset ≡ false) starts i → get_or starts (i - 1) 0 ≤ offset
last_begins starts offset i table point =
    let some : 1 ≤ i = some_begins starts offset i table point in
    leb-true _ _ (point.0 (i - 1) 0 (omega arith) (omega (arith, some)))
