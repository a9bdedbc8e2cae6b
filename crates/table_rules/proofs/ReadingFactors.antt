-- The entries of a factor are determined by its event sequence, if those of its parts are.
use Rattle.std.proofs.Common.{◌≡◌, ℕ, true, false, [], ◌∷◌, ◌++◌, Option, Some, None, refl, sym, ap, ◌∙◌}
use Rattle.std.specs.declared.boxed.Box.{Box}
use Rattle.std.specs.declared.alloc.Global.{Global}
use Rattle.ob_scan.specs.declared.kind.Kind.TheVariants as kinds
use Rattle.ob_tree.specs.declared.expression.Literal.{Literal}
use Rattle.ob_tree.specs.declared.expression.Factor.TheOpen as layers
use Rattle.ob_tree.specs.declared.expression.Factor.{Factor, roll-Factor, out-Factor, out-roll-Factor}
use Rattle.ob_tree.specs.declared.expression.Designator.{Designator}
use Rattle.ob_tree.specs.declared.expression.ElementList.{ElementList, out-ElementList}
use Rattle.ob_tree.specs.declared.expression.Expr.{Expr}
use Rattle.ob_tree.specs.Constructs as constructs
use Rattle.ob_tree.specs.TreeEvents.{Events, Value, construct, word, if_present, each}
use Rattle.ob_tree.specs.Expressions.{factor_events, designator_events, element_events, element_list_events, expr_events}
use Rattle.ob_tree.proofs.ExpressionLayers.{factor_shown, factor_out, designator_out, element_out, element_list_out}
use Rattle.ob_tree.proofs.ExpressionInduction.{FactorLayer, WithFactor, factor_of}
use Rattle.module_table.specs.Parts.{Fragment, token, both}
use Rattle.module_table.specs.Parts.{if_present as there}
use Rattle.table_rules.specs.Expressions.{Phrase, DesignatorPhrase, no_name}
use Rattle.table_rules.specs.Expressions.{factor_phrase, designator_phrase, element_list_rows, factor_rows, designator_rows, expr_rows, expr_phrase}
use Rattle.table_rules.proofs.ExpressionLayers as told
use Rattle.table_rules.proofs.Reading.{tail_is, Reads, never, on_construct, on_list, no_word, clash, maybe, r-past, r-then, r-held, r-at, r-none, r-some, r-layer}
use Rattle.table_rules.proofs.ReadingExpressionParts.{readable}

-- ---- factors

abbrev set_shown : Option (Box ElementList Global) → Events
set_shown o = if_present (λ l. element_list_events l.value) o

abbrev set_parts : Option (Box ElementList Global) → Option Fragment
set_parts o = maybe (λ l. element_list_rows l.value) o

abbrev set_told : Option Fragment → Phrase
set_told o = record { piece = both token (both (there (λ p. p) o) token); name = no_name }

set_seen : (o : Option (Box ElementList Global)) → set_told (set_parts o) ≡ told.factor_shown (layers.Set o)
set_seen None = refl
set_seen (Some l) = refl

element_list_begins : (l : ElementList) (s : Events) → on_list kinds.Comma (element_list_events l ++ s) ≡ true
unfolding construct
element_list_begins l s =
    ap (λ (o : Events). on_list kinds.Comma (o ++ s)) (element_list_out l) ∙
    ap (λ (o : Events). on_list kinds.Comma ((o ++ each (λ e. word kinds.Comma ++ element_events e) (out-ElementList l).rest.items) ++ s)) (element_out (out-ElementList l).first)

abbrev name_told : DesignatorPhrase → Phrase
name_told d = record { piece = d.piece false; name = d.name }

abbrev group_told : Phrase → Phrase
group_told p = record { piece = both token (both p.piece token); name = no_name }

abbrev not_told : Phrase → Phrase
not_told p = record { piece = both token p.piece; name = no_name }

designator_begins : (d : Designator) (s : Events) → on_construct (designator_events d ++ s) ≡ true
unfolding construct
designator_begins d s = ap (λ (o : Events). on_construct (o ++ s)) (designator_out d)

-- a designator begins a construct, and no other factor does
pub no_name_here : (d : Designator) (r s : Events) → on_construct r ≡ false → r ≡ designator_events d ++ s → ⊥
no_name_here d r s i e = clash (on_construct r) true (ap on_construct e ∙ designator_begins d s) i

value_same : (m : Literal) (a : ℕ) (z : FactorLayer) (r s : Events) → (Value m a ∷ []) ++ r ≡ factor_shown z ++ s → (told.factor_shown (layers.Value m a) ≡ told.factor_shown z) × (r ≡ s)
unfolding factor_rows designator_rows expr_rows
value_same m a (layers.Value k n) r s e = (refl, tail_is _ _ r s e)
value_same m a layers.Nil r s e = absurd cc
value_same m a layers.True r s e = absurd cc
value_same m a layers.False r s e = absurd cc
value_same m a (layers.Set l) r s e = absurd cc
value_same m a (layers.Name d) r s e = absurd (no_name_here d _ s refl e)
value_same m a (layers.Group g) r s e = absurd cc
value_same m a (layers.Not f) r s e = absurd cc

nil_same : (z : FactorLayer) (r s : Events) → word kinds.Nil ++ r ≡ factor_shown z ++ s → (told.factor_shown layers.Nil ≡ told.factor_shown z) × (r ≡ s)
unfolding factor_rows designator_rows expr_rows
nil_same (layers.Value k n) r s e = absurd cc
nil_same layers.Nil r s e = (refl, tail_is _ _ r s e)
nil_same layers.True r s e = absurd cc
nil_same layers.False r s e = absurd cc
nil_same (layers.Set l) r s e = absurd cc
nil_same (layers.Name d) r s e = absurd (no_name_here d _ s refl e)
nil_same (layers.Group g) r s e = absurd cc
nil_same (layers.Not f) r s e = absurd cc

true_same : (z : FactorLayer) (r s : Events) → word kinds.True ++ r ≡ factor_shown z ++ s → (told.factor_shown layers.True ≡ told.factor_shown z) × (r ≡ s)
unfolding factor_rows designator_rows expr_rows
true_same (layers.Value k n) r s e = absurd cc
true_same layers.Nil r s e = absurd cc
true_same layers.True r s e = (refl, tail_is _ _ r s e)
true_same layers.False r s e = absurd cc
true_same (layers.Set l) r s e = absurd cc
true_same (layers.Name d) r s e = absurd (no_name_here d _ s refl e)
true_same (layers.Group g) r s e = absurd cc
true_same (layers.Not f) r s e = absurd cc

false_same : (z : FactorLayer) (r s : Events) → word kinds.False ++ r ≡ factor_shown z ++ s → (told.factor_shown layers.False ≡ told.factor_shown z) × (r ≡ s)
unfolding factor_rows designator_rows expr_rows
false_same (layers.Value k n) r s e = absurd cc
false_same layers.Nil r s e = absurd cc
false_same layers.True r s e = absurd cc
false_same layers.False r s e = (refl, tail_is _ _ r s e)
false_same (layers.Set l) r s e = absurd cc
false_same (layers.Name d) r s e = absurd (no_name_here d _ s refl e)
false_same (layers.Group g) r s e = absurd cc
false_same (layers.Not f) r s e = absurd cc

set_same : (a : Option Fragment) (o : Events) → Reads set_parts set_shown (on_list kinds.Comma) a o → (z : FactorLayer) (r s : Events) → (word kinds.LeftBrace ++ (o ++ word kinds.RightBrace)) ++ r ≡ factor_shown z ++ s → (set_told a ≡ told.factor_shown z) × (r ≡ s)
unfolding factor_rows designator_rows expr_rows
set_same a o x (layers.Value k n) r s e = absurd cc
set_same a o x layers.Nil r s e = absurd cc
set_same a o x layers.True r s e = absurd cc
set_same a o x layers.False r s e = absurd cc
set_same a o x (layers.Set l) r s e = (let h = (r-past kinds.LeftBrace (r-then kinds.RightBrace x (λ s. refl))).same l r s refl refl e in (ap set_told h.0 ∙ set_seen l, h.1))
set_same a o x (layers.Name d) r s e = absurd (no_name_here d _ s refl e)
set_same a o x (layers.Group g) r s e = absurd cc
set_same a o x (layers.Not f) r s e = absurd cc

name_same : (b : Designator) → readable.designator b → (z : FactorLayer) (r s : Events) → designator_events b ++ r ≡ factor_shown z ++ s → (name_told (designator_phrase b) ≡ told.factor_shown z) × (r ≡ s)
unfolding factor_rows designator_rows expr_rows
name_same b x (layers.Value k n) r s e = absurd (no_name_here b (factor_shown (layers.Value k n) ++ s) r refl (sym e))
name_same b x layers.Nil r s e = absurd (no_name_here b (factor_shown layers.Nil ++ s) r refl (sym e))
name_same b x layers.True r s e = absurd (no_name_here b (factor_shown layers.True ++ s) r refl (sym e))
name_same b x layers.False r s e = absurd (no_name_here b (factor_shown layers.False ++ s) r refl (sym e))
name_same b x (layers.Set l) r s e = absurd (no_name_here b (factor_shown (layers.Set l) ++ s) r refl (sym e))
name_same b x (layers.Name d) r s e = (let h = x.same d r s refl refl e in (ap name_told h.0, h.1))
name_same b x (layers.Group g) r s e = absurd (no_name_here b (factor_shown (layers.Group g) ++ s) r refl (sym e))
name_same b x (layers.Not f) r s e = absurd (no_name_here b (factor_shown (layers.Not f) ++ s) r refl (sym e))

group_same : (a : Phrase) (o : Events) → Reads expr_phrase expr_events never a o → (z : FactorLayer) (r s : Events) → (word kinds.LeftParen ++ (o ++ word kinds.RightParen)) ++ r ≡ factor_shown z ++ s → (group_told a ≡ told.factor_shown z) × (r ≡ s)
unfolding factor_rows designator_rows expr_rows
group_same a o x (layers.Value k n) r s e = absurd cc
group_same a o x layers.Nil r s e = absurd cc
group_same a o x layers.True r s e = absurd cc
group_same a o x layers.False r s e = absurd cc
group_same a o x (layers.Set l) r s e = absurd cc
group_same a o x (layers.Name d) r s e = absurd (no_name_here d _ s refl e)
group_same a o x (layers.Group g) r s e = (let h = (r-past kinds.LeftParen (r-then kinds.RightParen (r-at (λ (b : Box Expr Global). b.value) x) (λ s. refl))).same g r s refl refl e in (ap group_told h.0, h.1))
group_same a o x (layers.Not f) r s e = absurd cc

not_same : (a : Phrase) (o : Events) → Reads factor_phrase factor_events never a o → (z : FactorLayer) (r s : Events) → (word kinds.Tilde ++ construct constructs.Negated o) ++ r ≡ factor_shown z ++ s → (not_told a ≡ told.factor_shown z) × (r ≡ s)
unfolding factor_rows designator_rows expr_rows
not_same a o x (layers.Value k n) r s e = absurd cc
not_same a o x layers.Nil r s e = absurd cc
not_same a o x layers.True r s e = absurd cc
not_same a o x layers.False r s e = absurd cc
not_same a o x (layers.Set l) r s e = absurd cc
not_same a o x (layers.Name d) r s e = absurd (no_name_here d _ s refl e)
not_same a o x (layers.Group g) r s e = absurd cc
not_same a o x (layers.Not f) r s e = (let h = (r-past kinds.Tilde (r-held constructs.Negated (r-at (λ (b : Box Factor Global). b.value) x) (λ s. refl))).same f r s refl refl e in (ap not_told h.0, h.1))

factor_held : (y : WithFactor readable) → Reads told.factor_shown factor_shown never (told.factor_shown (factor_of readable y)) (factor_shown (factor_of readable y))
unfolding factor_rows designator_rows expr_rows
factor_held (layers.Value k n) = record { same = λ z r s i j e. value_same k n z r s e }
factor_held layers.Nil = record { same = λ z r s i j e. nil_same z r s e }
factor_held layers.True = record { same = λ z r s i j e. true_same z r s e }
factor_held layers.False = record { same = λ z r s i j e. false_same z r s e }
factor_held (layers.Set None) = record { same = λ z r s i j e. set_same None [] (r-none (λ l. element_list_rows l.value) (λ l. element_list_events l.value) (on_list kinds.Comma) (λ l s. element_list_begins l.value s) (λ z. z)) z r s e }
factor_held (layers.Set (Some l)) = record { same = λ z r s i j e. set_same _ _ (r-some (r-at (λ b. b.value) l.value.1) (λ s i. no_word kinds.Comma s i) (λ s. element_list_begins l.value.0 s) (λ z. z)) z r s e }
factor_held (layers.Name d) = record { same = λ z r s i j e. name_same d.0 d.1 z r s e }
factor_held (layers.Group g) = record { same = λ z r s i j e. group_same _ _ g.value.1 z r s e }
factor_held (layers.Not f) = record { same = λ z r s i j e. not_same _ _ f.value.1 z r s e }

factor_tells : (x : Factor) → factor_phrase x ≡ told.factor_shown (out-Factor x)
factor_tells x = told.factor_out x

pub factor_layer : (y : WithFactor readable) → readable.factor (roll-Factor (factor_of readable y))
factor_layer y = r-layer out-Factor told.factor_shown (λ z. construct constructs.Factor (factor_shown z)) (λ a. a) factor_tells factor_out _ _ (out-roll-Factor (factor_of readable y)) (r-held constructs.Factor (factor_held y) (λ s. refl))
