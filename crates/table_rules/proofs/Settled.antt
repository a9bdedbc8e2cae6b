-- The entries of a designator's selectors precede the entries of the expressions in them.
use Rattle.std.proofs.Common.{◌≡◌, ℕ, suc, ◌+◌, Bool, List, [], ◌∷◌, ◌++◌, length, set, map, refl, sym, ap, ◌∙◌, append_assoc, length-append, Option, arith}
use Rattle.std.proofs.lemmas.List.{append-nil, set_at}
use Rattle.ob_tree.specs.declared.expression.Designator.{Designator}
use Rattle.ob_tree.specs.declared.expression.Selector.{Selector}
use Rattle.module_table.specs.declared.rows.Selector.{Selector as SelectorRow}
use Rattle.module_table.specs.declared.builder.Context.{Context}
use Rattle.module_table.specs.Parts.{joined, no_rows, token, with_rows, each, these_selectors}
use Rattle.module_table.specs.TableStages.{Stage, after, added, with_selector}
use Rattle.table_rules.specs.Expressions.{SelectorPhrase, used, first_name, selected, selector_rows, its_selectors, designator_row, designator_rows}
use Rattle.table_rules.specs.SelectorEntries.{placeholder, placeholders, row_at, after_selectors}
use Rattle.module_table.proofs.Steps.{added_number, after_both, after_nothing, after_tells}
use Rattle.table_rules.proofs.ExpressionLayers.{designator_out}

with_selectors : List SelectorRow → Stage → Stage
with_selectors zs s = record { number = s.number; rows = record (s.rows) { selectors = zs } }

pub settling_none : (head at : ℕ) (c : Context) (s : Stage) → after_selectors head at [] c s ≡ s
unfolding after_selectors
settling_none head at c s = refl

blanks_map : {X Y : Type 0} (head : ℕ) (f : X → Y) (xs : List X) → placeholders head (map f xs) ≡ placeholders head xs
blanks_map head f [] = refl
blanks_map head f (x ∷ xs) = ap (λ (zs : List SelectorRow). placeholder head x ∷ zs) (blanks_map head f xs)

pub map_more : {X Y : Type 0} (f : X → Y) (xs : List X) (x : X) → map f (xs ++ x ∷ []) ≡ map f xs ++ f x ∷ []
map_more f [] x = refl
map_more f (y ∷ ys) x = ap (λ (zs : List _). f y ∷ zs) (map_more f ys x)

pub settling_more : (head at : ℕ) (xs : List SelectorPhrase) (x : SelectorPhrase) (c : Context) (s : Stage) → after_selectors head at (xs ++ x ∷ []) c s
    ≡ after x.piece c (with_selector (at + length xs) (row_at head x (after_selectors head at xs c s)) (after_selectors head at xs c s))
unfolding after_selectors
settling_more head at [] x c s = let e : at + 0 ≡ at = omega arith in rw e refl
settling_more head at (y ∷ ys) x c s =
    let e : at + suc (length ys) ≡ suc at + length ys = omega arith in
    rw e (settling_more head (suc at) ys x c (after y.piece c (with_selector at (row_at head y s) s)))

step_on : (head at : ℕ) (x : SelectorPhrase) (more : List SelectorRow) (later : List SelectorRow) (front back : List SelectorRow) (c : Context) (s : Stage) → at ≡ length front →
    s.rows.selectors ≡ front ++ (placeholder head x ∷ (more ++ back)) →
    with_selectors ((front ++ row_at head x s ∷ []) ++ (later ++ (back ++ (x.piece.rows c s.number).selectors))) (after x.piece c (with_selector at (row_at head x s) s))
    ≡ after x.piece c (with_selectors (front ++ (row_at head x s ∷ (later ++ back))) s)
unfolding with_selectors after with_selector joined
step_on head at x more later front back c s l e = simp append_assoc

next_index : (front : List SelectorRow) (row : SelectorRow) (at : ℕ) → at ≡ length front → suc at ≡ length (front ++ row ∷ [])
next_index front row at l = omega (arith, length-append front (row ∷ []))

placed : (front more back inner ss : List SelectorRow) (old row : SelectorRow) (at : ℕ) → at ≡ length front → ss ≡ front ++ (old ∷ (more ++ back)) →
    set ss at row ++ inner ≡ (front ++ row ∷ []) ++ (more ++ (back ++ inner))
placed front more back inner ss old row at l e =
    ap (λ (zs : List SelectorRow). set zs at row ++ inner) e
    ∙ ap (λ (zs : List SelectorRow). zs ++ inner) (set_at front old (more ++ back) row at (sym l))
    ∙ simp append_assoc

settled_all : (head at : ℕ) (xs : List SelectorPhrase) (c : Context) (s : Stage) (front back : List SelectorRow) → at ≡ length front →
    s.rows.selectors ≡ front ++ (placeholders head xs ++ back) →
    after_selectors head at xs c s ≡ after (each (λ x. x.piece) xs) c (with_selectors (front ++ (selector_rows head xs s.number ++ back)) s)
unfolding after_selectors with_selectors after with_selector joined
settled_all head at [] c s front back l e = sym (after_nothing c (with_selectors (front ++ back) s) ∙ ap (λ (zs : List SelectorRow). with_selectors zs s) (sym e))
settled_all head at (x ∷ xs) c s front back l e =
    let row : SelectorRow = row_at head x s in
    let s2 : Stage = after x.piece c (with_selector at row s) in
    let inner : List SelectorRow = (x.piece.rows c s.number).selectors in
    settled_all head (suc at) xs c s2 (front ++ row ∷ []) (back ++ inner) (next_index front row at l) (placed front (placeholders head xs) back inner s.rows.selectors (placeholder head x) row at l e)
    ∙ ap (λ (t : Stage). after (each (λ (x : SelectorPhrase). x.piece) xs) c t) (step_on head at x (placeholders head xs) (selector_rows head xs s2.number) front back c s l e)
    ∙ sym (after_both x.piece (each (λ (x : SelectorPhrase). x.piece) xs) c (with_selectors (front ++ (selector_rows head (x ∷ xs) s.number ++ back)) s))

opened : (n : Option ℕ) (w : Bool) (ss : List SelectorPhrase) (xs : List Selector) (c : Context) (s : Stage) → placeholders s.number ss ≡ placeholders s.number xs →
    (after (used n) c (added (these_selectors (placeholders s.number xs)) (added (designator_row w c s.number) s))).rows.selectors ≡ s.rows.selectors ++ (placeholders s.number ss ++ [])
unfolding after added joined with_rows token no_rows
opened n w ss xs c s e = simp (append-nil, e)

filled : (n : Option ℕ) (w : Bool) (ss : List SelectorPhrase) (xs : List Selector) (c : Context) (s : Stage) →
    (let t : Stage = after (used n) c (added (these_selectors (placeholders s.number xs)) (added (designator_row w c s.number) s)) in
    with_selectors (s.rows.selectors ++ (selector_rows s.number ss t.number ++ [])) t)
    ≡ after (used n) c (added (its_selectors ss c s.number) (added (designator_row w c s.number) s))
unfolding with_selectors after added joined with_rows token no_rows
filled n w ss xs c s = simp append-nil

unpacked : (w : Bool) (d : Designator) (c : Context) (s : Stage) → after (designator_rows w d) c s ≡
    after (each (λ x. x.piece) (map selected d.selectors.items)) c
    (after (used (first_name (map selected d.selectors.items))) c (added (its_selectors (map selected d.selectors.items) c s.number) (added (designator_row w c s.number) s)))
unpacked w d c s = simp (designator_out, after_tells, after_both, added_number)

pub designator_after : (w : Bool) (d : Designator) (c : Context) (s : Stage) → after (designator_rows w d) c s ≡
    after_selectors s.number (length s.rows.selectors) (map selected d.selectors.items) c
    (after (used (first_name (map selected d.selectors.items))) c (added (these_selectors (placeholders s.number d.selectors.items)) (added (designator_row w c s.number) s)))
designator_after w d c s =
    let ss : List SelectorPhrase = map selected d.selectors.items in
    let t : Stage = after (used (first_name ss)) c (added (these_selectors (placeholders s.number d.selectors.items)) (added (designator_row w c s.number) s)) in
    unpacked w d c s
    ∙ ap (λ (u : Stage). after (each (λ (x : SelectorPhrase). x.piece) ss) c u) (sym (filled (first_name ss) w ss d.selectors.items c s))
    ∙ sym (settled_all s.number (length s.rows.selectors) ss c t s.rows.selectors [] refl (opened (first_name ss) w ss d.selectors.items c s (blanks_map s.number selected d.selectors.items)))
