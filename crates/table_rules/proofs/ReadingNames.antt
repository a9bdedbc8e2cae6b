-- A qualified name, a label and a range of labels are determined by their event sequences.
use Rattle.std.proofs.Common.{◌≡◌, ℕ, Bool, true, false, if◌then◌else◌, List, [], ◌∷◌, ◌++◌, Option, Some, None, refl, sym, ap}
use Rattle.ob_scan.specs.declared.kind.Kind.{Kind}
use Rattle.ob_scan.specs.declared.kind.Kind.TheVariants as kinds
use Rattle.ob_tree.specs.declared.expression.Literal.TheVariants as literals
use Rattle.ob_tree.specs.declared.name.Qualident.{Qualident}
use Rattle.ob_tree.specs.declared.statement.Label.{Label}
use Rattle.ob_tree.specs.declared.statement.Label.TheVariants as labels
use Rattle.ob_tree.specs.declared.statement.LabelRange.{LabelRange}
use Rattle.ob_tree.specs.Leaves.{kind_eq}
use Rattle.ob_tree.specs.declared.role.Role.TheVariants as roles
use Rattle.ob_tree.specs.TreeEvents.{Events, TreeEvent, Begins, Ends, Identifier, Value, Word, word, completed, if_present}
use Rattle.ob_tree.specs.Names.{qualident_events}
use Rattle.ob_tree.specs.Statements.{label_events, label_range_events}
use Rattle.table_rules.specs.Statements.{label_range_rows}
use Rattle.table_rules.proofs.Reading.{Reads, never, maybe, clash, on_word, r-use, r-name, r-until, r-both, r-past, r-at, r-made, tail_is}
use Rattle.table_rules.proofs.ReadingLists.{r-there}

-- ---- one of these words

abbrev pub among : Kind → List Kind → Bool
among w [] = false
among w (k ∷ ks) = if kind_eq w k then true else among w ks

abbrev pub on_words : List Kind → Events → Bool
on_words ks [] = false
on_words ks (Begins c n ∷ ms) = false
on_words ks (Ends c ∷ ms) = false
on_words ks (Identifier r n ∷ ms) = false
on_words ks (Value l n ∷ ms) = false
on_words ks (Word w ∷ ms) = among w ks

not_first : (b c : Bool) → (if b then true else c) ≡ false → b ≡ false
not_first false c e = refl
not_first true c e = absurd cc

not_rest : (b c : Bool) → (if b then true else c) ≡ false → c ≡ false
not_rest false c e = e
not_rest true c e = absurd cc

pub not_the_first : (k : Kind) (ks : List Kind) (s : Events) → on_words (k ∷ ks) s ≡ false → on_word k s ≡ false
not_the_first k ks [] i = refl
not_the_first k ks (Begins c n ∷ ms) i = refl
not_the_first k ks (Ends c ∷ ms) i = refl
not_the_first k ks (Identifier r n ∷ ms) i = refl
not_the_first k ks (Value l n ∷ ms) i = refl
not_the_first k ks (Word w ∷ ms) i = not_first _ _ i

pub none_behind : (k : Kind) (ks : List Kind) (s : Events) → on_words (k ∷ ks) s ≡ false → on_words ks s ≡ false
none_behind k ks [] i = refl
none_behind k ks (Begins c n ∷ ms) i = refl
none_behind k ks (Ends c ∷ ms) i = refl
none_behind k ks (Identifier r n ∷ ms) i = refl
none_behind k ks (Value l n ∷ ms) i = refl
none_behind k ks (Word w ∷ ms) i = not_rest _ _ i

abbrev pub on_value : Events → Bool
on_value [] = false
on_value (Begins c n ∷ ms) = false
on_value (Ends c ∷ ms) = false
on_value (Identifier r n ∷ ms) = false
on_value (Value l n ∷ ms) = true
on_value (Word w ∷ ms) = false

-- a construction from what is contributed
pub r-so_made : {Z A B : Type 0} {t : Z → A} {f : Z → Events} {more : Events → Bool} {a : A} {o : Events} (told : A → B) → Reads t f more a o → Reads (λ z. told (t z)) f more (told a) o
r-so_made told x = r-made told (λ z. z) (λ z. refl) (λ z. refl) refl refl x

-- ---- names

pub itself : {X : Type 0} (o : Option X) → maybe (λ x. x) o ≡ o
itself None = refl
itself (Some x) = refl

abbrev qualident_parts : Qualident → ℕ × Option ℕ
qualident_parts q = (q.head, maybe (λ m. m) q.member)

abbrev qualident_told : ℕ × Option ℕ → Qualident
qualident_told p = record { head = p.0; member = p.1 }

qualident_seen : (q : Qualident) → q ≡ qualident_told (qualident_parts q)
qualident_seen q = ap (λ (m : Option ℕ). let p : Qualident = record { head = q.head; member = m } in p) (sym (itself q.member))

-- the name itself
pub r-qualident : (q : Qualident) → Reads {A = Qualident} (λ z. z) qualident_events (on_word kinds.Dot) q (qualident_events q)
unfolding qualident_events
r-qualident q = r-made qualident_told (λ z. z) qualident_seen (λ z. refl) (qualident_seen q) refl
    (r-both (r-use (λ z. z.head) q.head) (r-there {f = λ m. m} {g = λ m. word kinds.Dot ++ completed m} {part = never} (on_word kinds.Dot) (λ z. z.member) q.member (λ m. r-past kinds.Dot (r-name roles.Completes (λ n. n) m)) (λ s i. refl) (λ m s. refl)))

-- ---- labels

value_is : (m n : ℕ) (r s : Events) → Value literals.Integer m ∷ r ≡ Value literals.Integer n ∷ s → m ≡ n
value_is m n r s e = cc

text_is : (m n : ℕ) (r s : Events) → Value literals.Text m ∷ r ≡ Value literals.Text n ∷ s → m ≡ n
text_is m n r s e = cc

integer_same : (m : ℕ) (z : Label) (r s : Events) → Value literals.Integer m ∷ r ≡ label_events z ++ s → (labels.Integer m ≡ z) × (r ≡ s)
unfolding label_events qualident_events
integer_same m (labels.Integer n) r s e = (ap (λ (k : ℕ). labels.Integer k) (value_is m n r s e), tail_is _ _ r s e)
integer_same m (labels.Text n) r s e = absurd cc
integer_same m (labels.Name q) r s e = absurd cc

text_same : (m : ℕ) (z : Label) (r s : Events) → Value literals.Text m ∷ r ≡ label_events z ++ s → (labels.Text m ≡ z) × (r ≡ s)
unfolding label_events qualident_events
text_same m (labels.Integer n) r s e = absurd cc
text_same m (labels.Text n) r s e = (ap (λ (k : ℕ). labels.Text k) (text_is m n r s e), tail_is _ _ r s e)
text_same m (labels.Name q) r s e = absurd cc

name_unlike : (p : Qualident) (x : TreeEvent) (r s : Events) → on_value (x ∷ s) ≡ true → qualident_events p ++ r ≡ x ∷ s → ⊥
unfolding qualident_events
name_unlike p x r s i e = clash (on_value (x ∷ s)) true i (ap on_value (sym e))

name_same : (p : Qualident) (z : Label) (r s : Events) → on_word kinds.Dot r ≡ false → on_word kinds.Dot s ≡ false → qualident_events p ++ r ≡ label_events z ++ s → (labels.Name p ≡ z) × (r ≡ s)
unfolding label_events
name_same p (labels.Integer n) r s i j e = absurd (name_unlike p _ r s refl e)
name_same p (labels.Text n) r s i j e = absurd (name_unlike p _ r s refl e)
name_same p (labels.Name q) r s i j e = let h = (r-qualident p).same q r s i j e in (ap (λ (n : Qualident). labels.Name n) h.0, h.1)

-- the label itself
pub r-label : (l : Label) → Reads {A = Label} (λ z. z) label_events (on_word kinds.Dot) l (label_events l)
unfolding label_events
r-label (labels.Integer n) = record { same = λ z r s i j e. integer_same n z r s e }
r-label (labels.Text n) = record { same = λ z r s i j e. text_same n z r s e }
r-label (labels.Name q) = record { same = λ z r s i j e. name_same q z r s i j e }

-- ---- ranges

abbrev pub dots : List Kind
dots = kinds.Dot ∷ kinds.DotDot ∷ []

abbrev range_parts : LabelRange → Label × Option Label
range_parts q = (q.low, maybe (λ l. l) q.high)

abbrev range_told : Label × Option Label → LabelRange
range_told p = record { low = p.0; high = p.1 }

range_seen : (q : LabelRange) → q ≡ range_told (range_parts q)
range_seen q = ap (λ (l : Option Label). let p : LabelRange = record { low = q.low; high = l } in p) (sym (itself q.high))

low_ends : (o : Option Label) (s : Events) → on_words dots s ≡ false → on_word kinds.Dot (if_present (λ l. word kinds.DotDot ++ label_events l) o ++ s) ≡ false
low_ends None s i = not_the_first kinds.Dot (kinds.DotDot ∷ []) s i
low_ends (Some l) s i = refl

high_ends : (s : Events) → on_words dots s ≡ false → on_word kinds.Dot s ≡ false
high_ends s i = not_the_first kinds.Dot (kinds.DotDot ∷ []) s i

range_held : (q : LabelRange) → Reads range_parts (λ z. label_events z.low ++ if_present (λ l. word kinds.DotDot ++ label_events l) z.high) (on_words dots) (range_parts q) (label_events q.low ++ if_present (λ l. word kinds.DotDot ++ label_events l) q.high)
range_held q = r-until (r-at (λ z. z.low) (r-label q.low)) (λ s i. low_ends q.high s i) (λ z s i. low_ends z.high s i)
    (r-there {f = λ l. l} {g = λ l. word kinds.DotDot ++ label_events l} {part = on_word kinds.Dot} (on_words dots) (λ z. z.high) q.high (λ l. r-past kinds.DotDot (r-label l)) high_ends (λ l s. refl))

-- what a range contributes
pub r-range : (q : LabelRange) → Reads label_range_rows label_range_events (on_words dots) (label_range_rows q) (label_range_events q)
unfolding label_range_events
r-range q = r-so_made label_range_rows (r-made range_told (λ z. z) range_seen (λ z. refl) (range_seen q) refl (range_held q))
