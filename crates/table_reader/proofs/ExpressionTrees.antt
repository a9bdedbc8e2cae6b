-- Expressions from their tabulated parts: their event sequences and their entries.
use Rattle.std.proofs.Common.{◌≡◌, ℕ, zero, suc, ◌-◌, List, ◌++◌, Option, Some, None, Ok, Err, refl, sym, ap, ◌∙◌, arith}
use Rattle.std.specs.Global.{Vec}
use Rattle.std.specs.Prelude.{Result}
use Rattle.ob_scan.specs.declared.token.Token.{Token}
use Rattle.ob_tree.specs.declared.expression.Relation.{Relation}
use Rattle.ob_tree.specs.declared.expression.Sign.{Sign}
use Rattle.ob_tree.specs.declared.expression.AddOperator.{AddOperator}
use Rattle.ob_tree.specs.declared.expression.MulOperator.{MulOperator}
use Rattle.ob_tree.specs.declared.expression.Expr.{Expr, roll-Expr, out-roll-Expr}
use Rattle.ob_tree.specs.declared.expression.SimpleExpression.{SimpleExpression, roll-SimpleExpression, out-roll-SimpleExpression}
use Rattle.ob_tree.specs.declared.expression.Term.{Term}
use Rattle.ob_tree.specs.declared.expression.Factor.{Factor}
use Rattle.ob_tree.specs.Constructs as constructs
use Rattle.ob_tree.specs.TreeEvents.{construct, word}
use Rattle.ob_tree.specs.Expressions.{relation_kind, expr_events, sum_events, term_events, factor_events}
use Rattle.ob_tree.proofs.ExpressionLayers.{expr_made, sum_made, term_out}
use Rattle.module_table.specs.declared.builder.Context.{Context}
use Rattle.module_table.specs.declared.builder.TableBuilder.{TableBuilder}
use Rattle.module_table.specs.TableStages.{Stage, stage_of, after, advanced, PerformsStep}
use Rattle.module_table.specs.Parts.{Fragment, both}
use Rattle.table_rules.specs.Expressions.{expr_rows, sum_rows, term_rows, factor_rows}
use Rattle.module_table.proofs.Steps.{after_both, after_token, after_nothing}
use Rattle.table_rules.proofs.ExpressionLayers as effect
use Rattle.ob_grammar.specs.declared.cursor.Cursor.{Cursor}
use Rattle.ob_grammar.specs.declared.stop.Stop.{Stop}
use Rattle.ob_grammar.specs.Combinators.{Read, seq, optional, nothing, many}
use Rattle.ob_grammar.specs.ParsesAs.{remaining, Fails}
use Rattle.ob_grammar.specs.ReadExpressions.{relation_start, sign_start, add_start, mul_start, expr_with, sum_with, term_with, expr_at, sum_at, term_at, factor_at}
use Rattle.table_reader.specs.Shapes.{Compared, compared_events, compared_rows, sign_events, sign_rows, terms_events, terms_rows, factors_events, factors_rows}
use Rattle.table_reader.specs.Tabulating.{HasAppendedEntries, AppendsEntries}
use Rattle.table_reader.proofs.Combine.{told_as, told_node, told_then, told_there, told_behind, failed_node, failed_then}
use Rattle.table_reader.proofs.Lists.{word_after}
use Rattle.table_reader.proofs.Made.{boxed}

-- the entries of two parts, one after the other
pub both_after : (all_tokens p q : Fragment) (c : Context) (s : Stage) → all_tokens ≡ both p q → after all_tokens c s ≡ after q c (after p c s)
both_after all_tokens p q c s e = ap (λ (x : Fragment). after x c s) e ∙ after_both p q c s

pub three_after : (all_tokens p q r : Fragment) (c : Context) (s : Stage) → all_tokens ≡ both p (both q r) → after all_tokens c s ≡ after r c (after q c (after p c s))
three_after all_tokens p q r c s e = both_after all_tokens p (both q r) c s e ∙ after_both q r c (after p c s)

-- ---- expression = SimpleExpression [relation SimpleExpression]

abbrev expr_of : SimpleExpression × Compared → Expr
expr_of x = roll-Expr (record { left = x.0; compared = x.1 })

expr_parts : (x : SimpleExpression × Compared) → expr_rows (expr_of x) ≡ both (sum_rows x.0) (compared_rows x.1)
expr_parts x = effect.expr_out (expr_of x) ∙ ap (λ y. both (sum_rows y.left) (compared_rows y.compared)) (out-roll-Expr (record { left = x.0; compared = x.1 }))

pub expr_told : (ts : List Token) (c : Context) (d : ℕ) (old mid new : TableBuilder) (input here : Cursor) (result : Result Cursor Stop) →
    AppendsEntries ts sum_events sum_rows c old mid (Ok here) (sum_at d (remaining ts input)) →
    AppendsEntries ts compared_events compared_rows c mid new result (optional relation_start (sum_at d) (remaining ts here)) →
    AppendsEntries ts expr_events expr_rows c old new result (expr_with (sum_at d) (remaining ts input))
unfolding expr_with
expr_told ts c d old mid new input here result a b =
    told_as ts (λ (x : SimpleExpression × Compared). construct constructs.Expression (sum_events x.0 ++ compared_events x.1)) (λ x s. after (compared_rows x.1) c (after (sum_rows x.0) c s))
    expr_events (λ e. after (expr_rows e) c) expr_of (λ x. expr_made (record { left = x.0; compared = x.1 })) (λ x s. both_after _ _ _ c s (expr_parts x)) old new result _
    (told_node ts (λ (x : SimpleExpression × Compared). sum_events x.0 ++ compared_events x.1) (λ x s. after (compared_rows x.1) c (after (sum_rows x.0) c s)) constructs.Expression (seq (sum_at d) (optional relation_start (sum_at d))) old new result (remaining ts input)
    (told_then ts sum_events (λ x. after (sum_rows x) c) compared_events (λ x. after (compared_rows x) c) (sum_at d) (optional relation_start (sum_at d)) old mid new here result (remaining ts input) a b))

pub expr_failed : (ts : List Token) (d : ℕ) (e : Stop) (input : Cursor) → Fails ts e (sum_at d (remaining ts input)) → Fails ts e (expr_with (sum_at d) (remaining ts input))
unfolding expr_with
expr_failed ts d e input h = failed_node ts constructs.Expression (seq (sum_at d) (optional relation_start (sum_at d))) e (remaining ts input) (failed_then ts (sum_at d) (optional relation_start (sum_at d)) e (remaining ts input) h)

pub expr_deeper : (d : ℕ) (ls : List _) → (d ≡ 0 → ⊥) → expr_at d ls ≡ expr_with (sum_at (d - 1)) ls
unfolding expr_at
expr_deeper zero ls h = absurd (h refl)
expr_deeper (suc n) ls h = let e : suc n - 1 ≡ n = omega arith in rw e refl

-- ---- SimpleExpression = ["+" | "-"] term {("+" | "-" | OR) term}

abbrev sum_of : Option Sign × (Term × Vec (AddOperator × Term)) → SimpleExpression
sum_of x = roll-SimpleExpression (record { sign = x.0; first = x.1.0; rest = x.1.1 })

sum_parts : (x : Option Sign × (Term × Vec (AddOperator × Term))) → sum_rows (sum_of x) ≡ both (sign_rows x.0) (both (term_rows x.1.0) (terms_rows x.1.1))
sum_parts x = effect.sum_out (sum_of x) ∙ ap (λ y. both (sign_rows y.sign) (both (term_rows y.first) (terms_rows y.rest))) (out-roll-SimpleExpression (record { sign = x.0; first = x.1.0; rest = x.1.1 }))

pub sum_told : (ts : List Token) (c : Context) (d : ℕ) (old first mid new : TableBuilder) (input following here : Cursor) (result : Result Cursor Stop) →
    AppendsEntries ts sign_events sign_rows c old first (Ok following) (optional sign_start nothing (remaining ts input)) →
    AppendsEntries ts term_events term_rows c first mid (Ok here) (term_at d (remaining ts following)) →
    AppendsEntries ts terms_events terms_rows c mid new result (many add_start (term_at d) (remaining ts here)) →
    AppendsEntries ts sum_events sum_rows c old new result (sum_at d (remaining ts input))
unfolding sum_with
sum_told ts c d old first mid new input following here result a b t =
    told_as ts (λ (x : Option Sign × (Term × Vec (AddOperator × Term))). construct constructs.SimpleExpression (sign_events x.0 ++ (term_events x.1.0 ++ terms_events x.1.1)))
    (λ x s. after (terms_rows x.1.1) c (after (term_rows x.1.0) c (after (sign_rows x.0) c s)))
    sum_events (λ e. after (sum_rows e) c) sum_of (λ x. sum_made (record { sign = x.0; first = x.1.0; rest = x.1.1 })) (λ x s. three_after _ _ _ _ c s (sum_parts x)) old new result _
    (told_node ts _ _ constructs.SimpleExpression (seq (optional sign_start nothing) (seq (term_at d) (many add_start (term_at d)))) old new result (remaining ts input)
    (told_then ts sign_events (λ x. after (sign_rows x) c) (λ (y : Term × Vec (AddOperator × Term)). term_events y.0 ++ terms_events y.1) (λ y s. after (terms_rows y.1) c (after (term_rows y.0) c s)) (optional sign_start nothing) (seq (term_at d) (many add_start (term_at d))) old first new following result (remaining ts input) a
    (told_then ts term_events (λ x. after (term_rows x) c) terms_events (λ x. after (terms_rows x) c) (term_at d) (many add_start (term_at d)) first mid new here result (remaining ts following) b t)))

pub sum_failed : (ts : List Token) (c : Context) (d : ℕ) (e : Stop) (old first : TableBuilder) (input following : Cursor) →
    AppendsEntries ts sign_events sign_rows c old first (Ok following) (optional sign_start nothing (remaining ts input)) →
    Fails ts e (term_at d (remaining ts following)) → Fails ts e (sum_at d (remaining ts input))
unfolding sum_with
sum_failed ts c d e old first input following a h = failed_node ts constructs.SimpleExpression (seq (optional sign_start nothing) (seq (term_at d) (many add_start (term_at d)))) e (remaining ts input)
    (told_then ts sign_events (λ x. after (sign_rows x) c) term_events (λ x s. s) (optional sign_start nothing) (seq (term_at d) (many add_start (term_at d))) old first first following (Err e) (remaining ts input) a (failed_then ts (term_at d) (many add_start (term_at d)) e (remaining ts following) h))

-- ---- term = factor {("*" | "/" | DIV | MOD | "&") factor}

abbrev term_of : Factor × Vec (MulOperator × Factor) → Term
term_of x = record { first = x.0; rest = x.1 }

pub term_told : (ts : List Token) (c : Context) (d : ℕ) (old mid new : TableBuilder) (input here : Cursor) (result : Result Cursor Stop) →
    AppendsEntries ts factor_events factor_rows c old mid (Ok here) (factor_at d (remaining ts input)) →
    AppendsEntries ts factors_events factors_rows c mid new result (many mul_start (factor_at d) (remaining ts here)) →
    AppendsEntries ts term_events term_rows c old new result (term_at d (remaining ts input))
unfolding term_with
term_told ts c d old mid new input here result a b =
    told_as ts (λ (x : Factor × Vec (MulOperator × Factor)). construct constructs.Term (factor_events x.0 ++ factors_events x.1)) (λ x s. after (factors_rows x.1) c (after (factor_rows x.0) c s))
    term_events (λ e. after (term_rows e) c) term_of (λ x. term_out (term_of x)) (λ x s. both_after _ _ _ c s (effect.term_out (term_of x))) old new result _
    (told_node ts _ _ constructs.Term (seq (factor_at d) (many mul_start (factor_at d))) old new result (remaining ts input)
    (told_then ts factor_events (λ x. after (factor_rows x) c) factors_events (λ x. after (factors_rows x) c) (factor_at d) (many mul_start (factor_at d)) old mid new here result (remaining ts input) a b))

pub term_failed : (ts : List Token) (d : ℕ) (e : Stop) (input : Cursor) → Fails ts e (factor_at d (remaining ts input)) → Fails ts e (term_at d (remaining ts input))
unfolding term_with
term_failed ts d e input h = failed_node ts constructs.Term (seq (factor_at d) (many mul_start (factor_at d))) e (remaining ts input) (failed_then ts (factor_at d) (many mul_start (factor_at d)) e (remaining ts input) h)

-- ---- signs

pub sign_none : (ts : List Token) (c : Context) (d : TableBuilder) (o : Option Sign) (rest : Cursor) (read : Read) → o ≡ None → Ok (sign_events o, remaining ts rest) ≡ read →
    HasAppendedEntries ts sign_events (λ x. after (sign_rows x) c) d d rest read
sign_none ts c d o rest read h e = record {
  out = sign_events o;
  is_read = sym e;
  tabulates = λ q. (q, record { tree = o; has_events = refl; comes = sym (ap (λ (z : Option Sign). after (sign_rows z) c (stage_of d)) h ∙ after_nothing c (stage_of d)) });
}

pub sign_some : (ts : List Token) (c : Context) (old new : TableBuilder) (o : Option Sign) (x : Sign) (rest : Cursor) (read : Read) → o ≡ Some x → Ok (sign_events o, remaining ts rest) ≡ read →
    PerformsStep advanced old new → HasAppendedEntries ts sign_events (λ x. after (sign_rows x) c) old new rest read
sign_some ts c old new o x rest read h e k = record {
  out = sign_events o;
  is_read = sym e;
  tabulates = λ q. let b = k q in (b.0, record { tree = o; has_events = refl; comes = b.1 ∙ sym (ap (λ (z : Option Sign). after (sign_rows z) c (stage_of old)) h ∙ after_token c (stage_of old)) });
}

-- a relation and its right side
pub compared_told : (ts : List Token) (c : Context) (d : ℕ) (old mid new : TableBuilder) (input : Cursor) (k : Relation) (rest : Cursor) (result : Result Cursor Stop) →
    relation_start (remaining ts input) ≡ Some (word (relation_kind k), remaining ts rest) → PerformsStep advanced old mid → AppendsEntries ts sum_events sum_rows c mid new result (sum_at d (remaining ts rest)) →
    AppendsEntries ts compared_events compared_rows c old new result (optional relation_start (sum_at d) (remaining ts input))
compared_told ts c d old mid new input k rest result found h t =
    told_as ts (λ (x : SimpleExpression). word (relation_kind k) ++ sum_events x) (λ x s. after (sum_rows x) c (advanced s)) compared_events (λ x. after (compared_rows x) c)
    (λ x. Some (k, boxed old.uses.alloc x)) (λ x. refl) (λ x s. word_after (sum_rows x) c s) old new result (optional relation_start (sum_at d) (remaining ts input))
    (told_there ts sum_events (λ x s. after (sum_rows x) c (advanced s)) relation_start (sum_at d) (word (relation_kind k)) old new rest result (remaining ts input) found
    (told_behind ts sum_events (λ x. after (sum_rows x) c) advanced old mid new result (sum_at d (remaining ts rest)) h t))
