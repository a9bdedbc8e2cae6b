-- Reserved entries that are corrected later equal the entries that are appended at once.
use Rattle.std.proofs.Common.{◌≡◌, ℕ, zero, suc, ◌+◌, ◌≤◌, ◌<◌, List, [], ◌∷◌, ◌++◌, length, map, set, take, drop, refl, sym, ap, ◌∙◌, arith, append_assoc, length-append, length-set, true, false}
use Rattle.std.specs.List.{splice, remove_range}
use Rattle.std.proofs.lemmas.List.{append-nil, set_at, take_at, drop_at, length-take-le, take-append-le, drop-append-le, take-append-drop, take_all, drop_all}
use Rattle.std.proofs.lemmas.List.Edits.{length-insert}
use Rattle.ob_tree.specs.declared.expression.Designator.{Designator}
use Rattle.module_table.specs.declared.rows.Designator.{Designator as DesignatorRow}
use Rattle.module_table.specs.declared.rows.Selector.{Selector as SelectorRow}
use Rattle.module_table.specs.declared.builder.Context.{Context}
use Rattle.module_table.specs.Parts.{Fragment, both, each, with_rows, joined, these_selectors, one_designator}
use Rattle.module_table.specs.declared.builder.TableBuilder.{TableBuilder}
use Rattle.module_table.specs.TableStages.{Stage, stage_of, after, added, with_selector}
use Rattle.module_table.proofs.Steps.{after_tells}
use Rattle.table_rules.specs.Expressions.{SelectorPhrase, selected, first_name, used, its_selectors, designator_row, designator_rows}
use Rattle.table_rules.specs.SelectorEntries.{row_at, after_selectors}
use Rattle.table_rules.proofs.ExpressionLayers.{designator_out}
use Rattle.table_reader.specs.SelectorSlots.{placeholder, slots, inserted, removed, written}
use Rattle.table_reader.proofs.Room.{places_more, length_places}

---- the number of selector entries

settled_length : (at : ℕ) (row : SelectorRow) (s : Stage) → length (with_selector at row s).rows.selectors ≡ length s.rows.selectors
unfolding with_selector
settled_length at row s = length-set s.rows.selectors at row

after_length : (p : Fragment) (c : Context) (s : Stage) → length s.rows.selectors ≤ length (after p c s).rows.selectors
unfolding after joined
after_length p c s = omega (arith, length-append s.rows.selectors (p.rows c s.number).selectors)

pub settling_length : (head at : ℕ) (xs : List SelectorPhrase) (c : Context) (s : Stage) → length s.rows.selectors ≤ length (after_selectors head at xs c s).rows.selectors
unfolding after_selectors
settling_length head at [] c s = omega arith
settling_length head at (x ∷ xs) c s =
    let t : Stage = with_selector at (row_at head x s) s in
    omega (arith, settled_length at (row_at head x s) s, after_length x.piece c t, settling_length head (suc at) xs c (after x.piece c t))

pub opened_length : (head n : ℕ) (s : Stage) → length (added (these_selectors (slots head n)) s).rows.selectors ≡ length s.rows.selectors + n
unfolding added joined
opened_length head n s = omega (arith, length-append s.rows.selectors (slots head n), length_places head n)

---- entries that are inserted after those of some selectors

-- with these entries inserted
abbrev spliced : ℕ → List SelectorRow → Stage → Stage
spliced at rows s = record { number = s.number; rows = record (s.rows) { selectors = splice s.rows.selectors at at rows } }

splice_front : (xs ys : List SelectorRow) (at : ℕ) (rows : List SelectorRow) → at ≤ length xs → splice (xs ++ ys) at at rows ≡ splice xs at at rows ++ ys
splice_front xs ys at rows h = rw (take-append-le at xs ys h, drop-append-le at xs ys h) (simp append_assoc)

splice_set : (xs : List SelectorRow) (at slot : ℕ) (row : SelectorRow) (rows : List SelectorRow) → slot < at → at ≤ length xs → splice (set xs slot row) at at rows ≡ set (splice xs at at rows) slot row
splice_set [] at slot row rows h k = absurd (omega (arith, h, k))
splice_set (x ∷ xs) zero slot row rows h k = absurd (omega (arith, h))
splice_set (x ∷ xs) (suc n) zero row rows h k = refl
splice_set (x ∷ xs) (suc n) (suc m) row rows h k = ap (λ (zs : List SelectorRow). x ∷ zs) (splice_set xs n m row rows (omega (arith, h)) (omega (arith, k)))

spliced_after : (p : Fragment) (c : Context) (s : Stage) (at : ℕ) (rows : List SelectorRow) → at ≤ length s.rows.selectors → spliced at rows (after p c s) ≡ after p c (spliced at rows s)
unfolding after joined
spliced_after p c s at rows h =
    ap (λ (zs : List SelectorRow). let t : Stage = record { number = s.number + p.width; rows = record (joined s.rows (p.rows c s.number)) { selectors = zs } } in t)
    (splice_front s.rows.selectors (p.rows c s.number).selectors at rows h)

spliced_settled : (s : Stage) (at slot : ℕ) (row : SelectorRow) (rows : List SelectorRow) → slot < at → at ≤ length s.rows.selectors → spliced at rows (with_selector slot row s) ≡ with_selector slot row (spliced at rows s)
unfolding with_selector
spliced_settled s at slot row rows h k =
    ap (λ (zs : List SelectorRow). let t : Stage = record { number = s.number; rows = record (s.rows) { selectors = zs } } in t) (splice_set s.rows.selectors at slot row rows h k)

spliced_settling : (head at : ℕ) (xs : List SelectorPhrase) (c : Context) (s : Stage) (slot : ℕ) (rows : List SelectorRow) → at + length xs ≤ slot → slot ≤ length s.rows.selectors →
    spliced slot rows (after_selectors head at xs c s) ≡ after_selectors head at xs c (spliced slot rows s)
unfolding after_selectors
spliced_settling head at [] c s slot rows h k = refl
spliced_settling head at (x ∷ xs) c s slot rows h k =
    let row : SelectorRow = row_at head x s in
    let t : Stage = with_selector at row s in
    let same = settled_length at row s in
    let more = after_length x.piece c t in
    spliced_settling head (suc at) xs c (after x.piece c t) slot rows (omega (arith, h)) (omega (arith, k, same, more))
    ∙ ap (λ (u : Stage). after_selectors head (suc at) xs c u) (spliced_after x.piece c t slot rows (omega (arith, k, same)) ∙ ap (after x.piece c) (spliced_settled s slot at row rows (omega (arith, h)) k))

splice_end : (xs rows : List SelectorRow) (at : ℕ) → length xs ≡ at → splice xs at at rows ≡ xs ++ rows
splice_end xs rows at e = rw (take_all at xs (omega (arith, e)), drop_all at xs (omega (arith, e))) (simp append-nil)

spliced_places : (head n m : ℕ) (s : Stage) → added (these_selectors (slots head (n + m))) s ≡ spliced (length s.rows.selectors + n) (slots head m) (added (these_selectors (slots head n)) s)
unfolding added joined
spliced_places head n m s =
    let ss : List SelectorRow = s.rows.selectors in
    let zs : List SelectorRow = ss ++ slots head n in
    let size : length zs ≡ length ss + n = omega (arith, length-append ss (slots head n), length_places head n) in
    ap (λ (ys : List SelectorRow). let t : Stage = record { number = s.number; rows = record (joined s.rows (these_selectors [])) { selectors = ys } } in t)
    (ap (λ (ys : List SelectorRow). ss ++ ys) (places_more head n m)
    ∙ sym (append_assoc ss (slots head n) (slots head m))
    ∙ sym (splice_end zs (slots head m) (length ss + n) size))

-- more slots than the selectors need
more_settled : (head at : ℕ) (xs : List SelectorPhrase) (c : Context) (n m : ℕ) (s : Stage) → at ≡ length s.rows.selectors → length xs ≤ n →
    after_selectors head at xs c (added (these_selectors (slots head (n + m))) s) ≡ spliced (at + n) (slots head m) (after_selectors head at xs c (added (these_selectors (slots head n)) s))
more_settled head at xs c n m s e h =
    let t : Stage = added (these_selectors (slots head n)) s in
    let size = opened_length head n s in
    ap (after_selectors head at xs c) (spliced_places head n m s ∙ ap (λ (k : ℕ). spliced (k + n) (slots head m) t) (sym e))
    ∙ sym (spliced_settling head at xs c t (at + n) (slots head m) (omega (arith, h)) (omega (arith, e, size)))

pub inserted_length : (at : ℕ) (row : SelectorRow) (s : Stage) → at ≤ length s.rows.selectors → length (inserted at row s).rows.selectors ≡ length s.rows.selectors + 1
unfolding inserted
inserted_length at row s h = length-insert s.rows.selectors at row h

-- one more slot
pub place_inserted : (head at : ℕ) (xs : List SelectorPhrase) (c : Context) (n : ℕ) (s : Stage) → at ≡ length s.rows.selectors → length xs ≤ n →
    inserted (at + n) (placeholder head) (after_selectors head at xs c (added (these_selectors (slots head n)) s)) ≡ after_selectors head at xs c (added (these_selectors (slots head (n + 1))) s)
unfolding inserted
place_inserted head at xs c n s e h = sym (more_settled head at xs c n 1 s e h)

---- entries that are removed

range_removed : (xs rows : List SelectorRow) (at end : ℕ) → at ≤ length xs → end ≡ at + length rows → remove_range (splice xs at at rows) at end ≡ xs
range_removed xs rows at end h e =
    let size : length (take at xs) ≡ at = length-take-le at xs h in
    rw (
      take_at (take at xs) (rows ++ drop at xs) at size,
      sym (append_assoc (take at xs) rows (drop at xs)),
      drop_at (take at xs ++ rows) (drop at xs) end (omega (arith, e, size, length-append (take at xs) rows)),
    )
    (take-append-drop at xs)

pub none_removed : (at end : ℕ) (s : Stage) → at ≡ end → removed at end s ≡ s
unfolding removed
none_removed at end s e =
    ap (λ (n : ℕ). removed at n s) (sym e)
    ∙ ap (λ (zs : List SelectorRow). let t : Stage = record { number = s.number; rows = record (s.rows) { selectors = zs } } in t) (take-append-drop at s.rows.selectors)

-- slots that no selector needs
pub places_removed : (head at : ℕ) (xs : List SelectorPhrase) (c : Context) (n m slot end : ℕ) (s : Stage) → at ≡ length s.rows.selectors → length xs ≤ n → slot ≡ at + n → end ≡ slot + m →
    removed slot end (after_selectors head at xs c (added (these_selectors (slots head (n + m))) s)) ≡ after_selectors head at xs c (added (these_selectors (slots head n)) s)
unfolding removed
places_removed head at xs c n m slot end s e h k l =
    let t : Stage = after_selectors head at xs c (added (these_selectors (slots head n)) s) in
    let size = opened_length head n s in
    let longer = settling_length head at xs c (added (these_selectors (slots head n)) s) in
    ap (removed slot end) (more_settled head at xs c n m s e h ∙ ap (λ (i : ℕ). spliced i (slots head m) t) (sym k))
    ∙ ap (λ (zs : List SelectorRow). let u : Stage = record { number = t.number; rows = record (t.rows) { selectors = zs } } in u)
    (range_removed t.rows.selectors (slots head m) slot end (omega (arith, e, k, size, longer)) (omega (arith, l, length_places head m)))

-- ---- a designator that is written

pub designators_of : (d : TableBuilder) → (stage_of d).rows.designators ≡ d.designators.items
unfolding stage_of
designators_of d = refl

designator_set : (p : Fragment) (c : Context) (s : Stage) (at : ℕ) (old row : DesignatorRow) → at ≡ length s.rows.designators →
    written at row (after p c (added (one_designator old) s)) ≡ after p c (added (one_designator row) s)
unfolding written after added joined
designator_set p c s at old row e =
    let ds : List DesignatorRow = s.rows.designators in
    let more : List DesignatorRow = (p.rows c s.number).designators in
    ap (λ (zs : List DesignatorRow). let t : Stage = record { number = s.number + p.width; rows = record (joined (joined s.rows (one_designator row)) (p.rows c s.number)) { designators = zs } } in t)
    (ap (λ (zs : List DesignatorRow). set zs at row) (append_assoc ds (old ∷ []) more) ∙ set_at ds old more row at (sym e) ∙ sym (append_assoc ds (row ∷ []) more))

pub designator_written : (d : Designator) (c : Context) (s : Stage) (head at : ℕ) → head ≡ s.number → at ≡ length s.rows.designators →
    written at (record { head = head; block = c.block; is_written = true }) (after (designator_rows false d) c s) ≡ after (designator_rows true d) c s
designator_written d c s head at e h =
    let ss : List SelectorPhrase = map selected d.selectors.items in
    let rest : Fragment = with_rows (its_selectors ss) (both (used (first_name ss)) (each (λ (x : SelectorPhrase). x.piece) ss)) in
    let row : DesignatorRow = record { head = s.number; block = c.block; is_written = true } in
    ap (λ (k : ℕ). written at (record { head = k; block = c.block; is_written = true }) (after (designator_rows false d) c s)) e
    ∙ ap (λ (p : Fragment). written at row (after p c s)) (designator_out false d)
    ∙ ap (written at row) (after_tells (designator_row false) rest c s)
    ∙ designator_set rest c s at (record { head = s.number; block = c.block; is_written = false }) row h
    ∙ sym (after_tells (designator_row true) rest c s)
    ∙ ap (λ (p : Fragment). after p c s) (sym (designator_out true d))
