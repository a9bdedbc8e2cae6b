-- Statements from their tabulated parts.
use Rattle.std.proofs.Common.{◌≡◌, ℕ, zero, suc, ◌-◌, true, false, List, [], ◌++◌, length, Option, Some, None, Ok, Err, refl, sym, ap, ◌∙◌, arith}
use Rattle.std.proofs.lemmas.List.{append-nil}
use Rattle.std.specs.Global.{Vec}
use Rattle.std.specs.Prelude.{Result}
use Rattle.ob_scan.specs.declared.kind.Kind.{Kind}
use Rattle.ob_scan.specs.declared.kind.Kind.TheVariants as kinds
use Rattle.ob_scan.specs.declared.token.Token.{Token}
use Rattle.ob_tree.specs.declared.token.Leaf.{Leaf}
use Rattle.ob_tree.specs.declared.expression.Designator.{Designator}
use Rattle.ob_tree.specs.declared.expression.Expr.{Expr}
use Rattle.ob_tree.specs.declared.name.OneOrMore.{OneOrMore}
use Rattle.ob_tree.specs.declared.statement.LabelRange.{LabelRange}
use Rattle.ob_tree.specs.declared.statement.Case.TheVariants as cases
use Rattle.ob_tree.specs.declared.statement.Stmt.{Stmt}
use Rattle.ob_tree.specs.declared.statement.Stmt.TheVariants as statements
use Rattle.ob_tree.specs.declared.statement.StatementSequence.{StatementSequence, roll-StatementSequence, out-roll-StatementSequence}
use Rattle.ob_tree.specs.declared.statement.Branch.{Branch, roll-Branch, out-roll-Branch}
use Rattle.ob_tree.specs.declared.statement.For.{For, roll-For, out-roll-For}
use Rattle.ob_tree.specs.Constructs as constructs
use Rattle.ob_tree.specs.TreeEvents.{Events, construct, word, used}
use Rattle.ob_tree.specs.Expressions.{expr_events, designator_events}
use Rattle.ob_tree.specs.Statements.{case_events, stmt_events, block_events, branch_events}
use Rattle.ob_tree.proofs.StatementLayers as events
use Rattle.module_table.specs.declared.rows.Designator.{Designator as DesignatorRow}
use Rattle.module_table.specs.declared.builder.Context.{Context}
use Rattle.module_table.specs.declared.builder.TableBuilder.{TableBuilder}
use Rattle.module_table.specs.TableStages.{Stage, stage_of, after, advanced, PerformsStep}
use Rattle.module_table.specs.Parts.{Fragment, token, both, if_present}
use Rattle.table_rules.specs.Expressions.{each_after, expr_rows, designator_rows}
use Rattle.table_rules.specs.Statements.{label_range_rows, case_rows, stmt_rows, block_rows, branch_rows, for_rows, variable_rows}
use Rattle.table_rules.proofs.StatementLayers as effect
use Rattle.module_table.proofs.Steps.{after_both, after_nothing, number_of}
use Rattle.ob_grammar.specs.declared.cursor.Cursor.{Cursor}
use Rattle.ob_grammar.specs.declared.stop.Stop.{Stop}
use Rattle.ob_grammar.specs.declared.stop.Stop.TheVariants as stops
use Rattle.ob_grammar.specs.Combinators.{Read, Reader, seq, node, prefixed, several, optional, many, accept_at, expect_at, name_at, identifier_at, begins, too_deep_error}
use Rattle.ob_grammar.specs.Lookahead.{uncons, head_is}
use Rattle.ob_grammar.specs.ParsesAs.{remaining, Fails}
use Rattle.ob_grammar.specs.ReadExpressions.{designator_with, expr_at}
use Rattle.ob_grammar.specs.ReadStatements.{label_first, statement_first, empty_at, label_range_at, case_with, block_with, block_at, branch_with, if_with, cases_with, while_with, repeat_with, for_with, assign_with, statement_at, statement_from, statement_with}
use Rattle.table_reader.specs.StatementShapes.{then_events, then_rows, word_events, word_rows, labels_events, labels_rows, statements_events, statements_rows, branches_events, branches_rows, body_events, body_rows, value_events, assigned_stage, for_variable_rows, cases_end_events, cases_end_rows, ForLimit, for_limit_events, for_limit_rows}
use Rattle.table_reader.specs.SelectorSlots.{written}
use Rattle.table_reader.specs.Tabulating.{HasAppendedEntries, AppendsEntries, AppendsEntriesBy}
use Rattle.table_reader.proofs.Combine.{told_as, told_at, told_node, told_then, told_there, told_behind, failed_node, failed_then}
use Rattle.table_reader.proofs.Lists.{word_after}
use Rattle.table_reader.proofs.Made.{boxed}
use Rattle.table_reader.proofs.Mended.{designators_of, designator_written}
use Rattle.table_reader.proofs.Parts.{made_told, told_both, told_statement}

-- ---- no statement

pub empty_told : (ts : List Token) (c : Context) (d : TableBuilder) (here : Cursor) (read : Read) → read ≡ Ok (construct constructs.EmptyStatement [], remaining ts here) →
    HasAppendedEntries ts stmt_events (λ x. after (stmt_rows x) c) d d here read
empty_told ts c d here read e = record {
  out = construct constructs.EmptyStatement [];
  is_read = e;
  tabulates = λ q. (q, record { tree = statements.Empty; has_events = events.empty_made; comes = sym (ap (λ (p : Fragment). after p c (stage_of d)) effect.empty_made ∙ after_nothing c (stage_of d)) });
}

pub deeper : (d : ℕ) (ls : List Leaf) → (d ≡ 0 → ⊥) → statement_at d ls ≡ statement_with (expr_at (d - 1)) (block_at (d - 1)) ls
unfolding statement_at
deeper zero ls h = absurd (h refl)
deeper (suc n) ls h = let e : suc n - 1 ≡ n = omega arith in rw e refl

pub none_begins : (d : ℕ) (ls : List Leaf) → d ≡ 0 → head_is statement_first (uncons ls) ≡ false → statement_at d ls ≡ Ok (construct constructs.EmptyStatement [], ls)
unfolding statement_at empty_at
none_begins d ls h e = rw h (rw e refl)

pub one_begins : (d : ℕ) (ls : List Leaf) → d ≡ 0 → head_is statement_first (uncons ls) ≡ true → statement_at d ls ≡ Err (too_deep_error (uncons ls))
unfolding statement_at empty_at
one_begins d ls h e = rw h (rw e refl)

-- by the next token
pub told_seen : (ts : List Token) (c : Context) (expr block : Reader) (old new : TableBuilder) (result : Result Cursor Stop) (ls : List Leaf) (o : Option (Leaf × List Leaf)) → uncons ls ≡ o →
    AppendsEntries ts stmt_events stmt_rows c old new result (statement_from expr block ls o) → AppendsEntries ts stmt_events stmt_rows c old new result (statement_with expr block ls)
unfolding statement_with
told_seen ts c expr block old new result ls o e t = rw e t

-- ---- designator [":=" expression]

abbrev assigning : Designator → Option Expr → Stmt
assigning d None = statements.Call d
assigning d (Some e) = statements.Assign d e

assigning_shown : (d : Designator) (o : Option Expr) → stmt_events (assigning d o) ≡ construct constructs.Statement (designator_events d ++ value_events kinds.Assign o)
assigning_shown d None = events.call_made d ∙ ap (construct constructs.Statement) (sym (append-nil (designator_events d)))
assigning_shown d (Some e) = events.assign_made d e

assigning_after : (d : Designator) (o : Option Expr) (c : Context) (s : Stage) (head at : ℕ) → head ≡ s.number → at ≡ length s.rows.designators →
    after (stmt_rows (assigning d o)) c s ≡ assigned_stage head at c o (after (designator_rows false d) c s)
assigning_after d None c s head at e h = ap (λ (p : Fragment). after p c s) (effect.call_made d)
assigning_after d (Some x) c s head at e h =
    ap (λ (p : Fragment). after p c s) (effect.assign_made d x) ∙ after_both (designator_rows true d) (both token (expr_rows x)) c s ∙ ap (after (both token (expr_rows x)) c) (sym (designator_written d c s head at e h))

pub assign_told : (ts : List Token) (c : Context) (d n head at : ℕ) (old mid new : TableBuilder) (input here : Cursor) (result : Result Cursor Stop) → head ≡ old.number → at ≡ length old.designators.items →
    AppendsEntries ts designator_events (designator_rows false) c old mid (Ok here) (designator_with (expr_at d) n (remaining ts input)) →
    AppendsEntriesBy ts (value_events kinds.Assign) (assigned_stage head at c) mid new result (optional (accept_at kinds.Assign) (expr_at d) (remaining ts here)) →
    AppendsEntries ts stmt_events stmt_rows c old new result (node constructs.Statement (assign_with (expr_at d) n) (remaining ts input))
unfolding assign_with
assign_told ts c d n head at old mid new input here result e h a b =
    told_at ts (λ (x : Designator × Option Expr). construct constructs.Statement (designator_events x.0 ++ value_events kinds.Assign x.1)) (λ x s. assigned_stage head at c x.1 (after (designator_rows false x.0) c s))
    stmt_events (λ x. after (stmt_rows x) c) (λ x. assigning x.0 x.1) (λ x. assigning_shown x.0 x.1) old new result _
    (λ x. assigning_after x.0 x.1 c (stage_of old) head at (e ∙ sym (number_of old)) (h ∙ ap length (sym (designators_of old))))
    (told_node ts _ _ constructs.Statement (seq (designator_with (expr_at d) n) (optional (accept_at kinds.Assign) (expr_at d))) old new result (remaining ts input)
    (told_then ts designator_events (λ x. after (designator_rows false x) c) (value_events kinds.Assign) (assigned_stage head at c) (designator_with (expr_at d) n) (optional (accept_at kinds.Assign) (expr_at d)) old mid new here result (remaining ts input) a b))

pub assign_failed : (ts : List Token) (d n : ℕ) (e : Stop) (ls : List Leaf) → Fails ts e (designator_with (expr_at d) n ls) → Fails ts e (node constructs.Statement (assign_with (expr_at d) n) ls)
unfolding assign_with
assign_failed ts d n e ls h =
    failed_node ts constructs.Statement (seq (designator_with (expr_at d) n) (optional (accept_at kinds.Assign) (expr_at d))) e ls (failed_then ts (designator_with (expr_at d) n) (optional (accept_at kinds.Assign) (expr_at d)) e ls h)

-- if a right side follows, the designator is written
pub some_given : (ts : List Token) (c : Context) (head at : ℕ) (r : Reader) (old effect mid new : TableBuilder) (input rest : Cursor) (result : Result Cursor Stop) → accept_at kinds.Assign (remaining ts input) ≡ Some (word kinds.Assign, remaining ts rest) →
    PerformsStep (written at (record { head = head; block = c.block; is_written = true })) old effect → PerformsStep advanced effect mid → AppendsEntries ts expr_events expr_rows c mid new result (r (remaining ts rest)) →
    AppendsEntriesBy ts (value_events kinds.Assign) (assigned_stage head at c) old new result (optional (accept_at kinds.Assign) r (remaining ts input))
some_given ts c head at r old effect mid new input rest result e g h t =
    let row : DesignatorRow = record { head = head; block = c.block; is_written = true } in
    told_as ts (λ (x : Expr). word kinds.Assign ++ expr_events x) (λ x s. after (expr_rows x) c (advanced (written at row s))) (value_events kinds.Assign) (assigned_stage head at c)
    (λ x. Some x) (λ x. refl) (λ x s. word_after (expr_rows x) c (written at row s)) old new result (optional (accept_at kinds.Assign) r (remaining ts input))
    (told_there ts expr_events (λ x s. after (expr_rows x) c (advanced (written at row s))) (accept_at kinds.Assign) r (word kinds.Assign) old new rest result (remaining ts input) e
    (told_behind ts expr_events (λ x s. after (expr_rows x) c (advanced s)) (written at row) old effect new result (r (remaining ts rest)) g
    (told_behind ts expr_events (λ x. after (expr_rows x) c) advanced effect mid new result (r (remaining ts rest)) h t)))

-- ---- StatementSequence = statement {";" statement}

abbrev block_of : Stmt × Vec Stmt → StatementSequence
block_of x = roll-StatementSequence (record { first = x.0; rest = x.1 })

block_parts : (x : Stmt × Vec Stmt) → block_rows (block_of x) ≡ then_rows stmt_rows statements_rows x
block_parts x = effect.block_out (block_of x) ∙ ap (λ y. both (stmt_rows y.first) (each_after stmt_rows y.rest.items)) (out-roll-StatementSequence (record { first = x.0; rest = x.1 }))

pub block_told : (ts : List Token) (c : Context) (d : ℕ) (old mid new : TableBuilder) (input here : Cursor) (result : Result Cursor Stop) →
    AppendsEntries ts stmt_events stmt_rows c old mid (Ok here) (statement_at d (remaining ts input)) →
    AppendsEntries ts statements_events statements_rows c mid new result (many (accept_at kinds.Semicolon) (statement_at d) (remaining ts here)) →
    AppendsEntries ts block_events block_rows c old new result (block_at d (remaining ts input))
unfolding block_with several
block_told ts c d old mid new input here result a b =
    made_told ts c (then_events stmt_events statements_events) (then_rows stmt_rows statements_rows) block_events block_rows block_of old new result _
    (λ x. events.block_made x.0 x.1) block_parts
    (told_both ts c stmt_events stmt_rows statements_events statements_rows (statement_at d) (many (accept_at kinds.Semicolon) (statement_at d)) old mid new here result (remaining ts input) a b)

pub block_failed : (ts : List Token) (d : ℕ) (e : Stop) (ls : List Leaf) → Fails ts e (statement_at d ls) → Fails ts e (block_at d ls)
unfolding block_with several
block_failed ts d e ls h = failed_then ts (statement_at d) (many (accept_at kinds.Semicolon) (statement_at d)) e ls h

-- ---- expression THEN StatementSequence, or with DO

abbrev branch_of : Expr × (Unit {0} × StatementSequence) → Branch
branch_of x = roll-Branch (record { condition = x.0; body = x.1.1 })

branch_parts : (x : Expr × (Unit {0} × StatementSequence)) → branch_rows (branch_of x) ≡ then_rows expr_rows (then_rows word_rows block_rows) x
branch_parts x = effect.branch_out (branch_of x) ∙ ap (λ y. both (expr_rows y.condition) (both token (block_rows y.body))) (out-roll-Branch (record { condition = x.0; body = x.1.1 }))

pub branch_told : (ts : List Token) (c : Context) (expr block : Reader) (k : Kind) (old new : TableBuilder) (result : Result Cursor Stop) (ls : List Leaf) →
    AppendsEntries ts (then_events expr_events (then_events (word_events k) block_events)) (then_rows expr_rows (then_rows word_rows block_rows)) c old new result (seq expr (seq (expect_at k) block) ls) →
    AppendsEntries ts (λ b. branch_events b k) branch_rows c old new result (branch_with expr block k ls)
unfolding branch_with
branch_told ts c expr block k old new result ls t =
    made_told ts c (then_events expr_events (then_events (word_events k) block_events)) (then_rows expr_rows (then_rows word_rows block_rows)) (λ b. branch_events b k) branch_rows branch_of old new result _
    (λ x. events.branch_made x.0 x.1.1 k) branch_parts t

-- ---- IF

pub if_told : (ts : List Token) (c : Context) (expr block : Reader) (old mid new : TableBuilder) (result : Result Cursor Stop) (ls : List Leaf) → PerformsStep advanced old mid →
    AppendsEntries ts (then_events (λ b. branch_events b kinds.Then) (then_events (branches_events kinds.Then) (then_events (body_events kinds.Else) (word_events kinds.End))))
    (then_rows branch_rows (then_rows branches_rows (then_rows body_rows word_rows))) c mid new result
    (seq (branch_with expr block kinds.Then) (seq (many (accept_at kinds.Elsif) (branch_with expr block kinds.Then)) (seq (optional (accept_at kinds.Else) block) (expect_at kinds.End))) ls) →
    AppendsEntries ts stmt_events stmt_rows c old new result (node constructs.Statement (prefixed (word kinds.If) (if_with expr block)) ls)
unfolding if_with
if_told ts c expr block old mid new result ls h t =
    told_statement ts c (then_events (λ b. branch_events b kinds.Then) (then_events (branches_events kinds.Then) (then_events (body_events kinds.Else) (word_events kinds.End))))
    (then_rows branch_rows (then_rows branches_rows (then_rows body_rows word_rows)))
    (λ x. statements.If (boxed old.uses.alloc x.0) x.1.0 x.1.1.0) kinds.If (if_with expr block) old mid new result ls
    (λ x. events.if_made (boxed old.uses.alloc x.0) x.1.0 x.1.1.0) (λ x. effect.if_made (boxed old.uses.alloc x.0) x.1.0 x.1.1.0) h t

-- ---- WHILE

pub while_told : (ts : List Token) (c : Context) (expr block : Reader) (old mid new : TableBuilder) (result : Result Cursor Stop) (ls : List Leaf) → PerformsStep advanced old mid →
    AppendsEntries ts (then_events (λ b. branch_events b kinds.Do) (then_events (branches_events kinds.Do) (word_events kinds.End)))
    (then_rows branch_rows (then_rows branches_rows word_rows)) c mid new result
    (seq (branch_with expr block kinds.Do) (seq (many (accept_at kinds.Elsif) (branch_with expr block kinds.Do)) (expect_at kinds.End)) ls) →
    AppendsEntries ts stmt_events stmt_rows c old new result (node constructs.Statement (prefixed (word kinds.While) (while_with expr block)) ls)
unfolding while_with
while_told ts c expr block old mid new result ls h t =
    told_statement ts c (then_events (λ b. branch_events b kinds.Do) (then_events (branches_events kinds.Do) (word_events kinds.End))) (then_rows branch_rows (then_rows branches_rows word_rows))
    (λ x. statements.While (boxed old.uses.alloc x.0) x.1.0) kinds.While (while_with expr block) old mid new result ls
    (λ x. events.while_made (boxed old.uses.alloc x.0) x.1.0) (λ x. effect.while_made (boxed old.uses.alloc x.0) x.1.0) h t

-- ---- REPEAT

pub repeat_told : (ts : List Token) (c : Context) (expr block : Reader) (old mid new : TableBuilder) (result : Result Cursor Stop) (ls : List Leaf) → PerformsStep advanced old mid →
    AppendsEntries ts (then_events block_events (then_events (word_events kinds.Until) expr_events)) (then_rows block_rows (then_rows word_rows expr_rows)) c mid new result
    (seq block (seq (expect_at kinds.Until) expr) ls) →
    AppendsEntries ts stmt_events stmt_rows c old new result (node constructs.Statement (prefixed (word kinds.Repeat) (repeat_with expr block)) ls)
unfolding repeat_with
repeat_told ts c expr block old mid new result ls h t =
    told_statement ts c (then_events block_events (then_events (word_events kinds.Until) expr_events)) (then_rows block_rows (then_rows word_rows expr_rows))
    (λ x. statements.Repeat (boxed old.uses.alloc x.0) x.1.1) kinds.Repeat (repeat_with expr block) old mid new result ls
    (λ x. events.repeat_made (boxed old.uses.alloc x.0) x.1.1) (λ x. effect.repeat_made (boxed old.uses.alloc x.0) x.1.1) h t

-- ---- CASE

pub cases_told : (ts : List Token) (c : Context) (expr block : Reader) (old mid new : TableBuilder) (result : Result Cursor Stop) (ls : List Leaf) → PerformsStep advanced old mid →
    AppendsEntries ts (then_events expr_events (then_events (word_events kinds.Of) cases_end_events)) (then_rows expr_rows (then_rows word_rows cases_end_rows)) c mid new result
    (seq expr (seq (expect_at kinds.Of) (seq (case_with block) (seq (many (accept_at kinds.Bar) (case_with block)) (expect_at kinds.End)))) ls) →
    AppendsEntries ts stmt_events stmt_rows c old new result (node constructs.Statement (prefixed (word kinds.Case) (cases_with expr block)) ls)
unfolding cases_with
cases_told ts c expr block old mid new result ls h t =
    told_statement ts c (then_events expr_events (then_events (word_events kinds.Of) cases_end_events)) (then_rows expr_rows (then_rows word_rows cases_end_rows))
    (λ x. statements.Case x.0 (boxed old.uses.alloc x.1.1.0) x.1.1.1.0) kinds.Case (cases_with expr block) old mid new result ls
    (λ x. events.case_made x.0 (boxed old.uses.alloc x.1.1.0) x.1.1.1.0) (λ x. effect.case_made x.0 (boxed old.uses.alloc x.1.1.0) x.1.1.1.0) h t

-- case = [LabelRange {"," LabelRange} ":" StatementSequence]

regrouped : (p q r : Fragment) (c : Context) (s : Stage) → after (both p (both q r)) c s ≡ after (both (both p q) r) c s
regrouped p q r c s =
    after_both p (both q r) c s ∙ after_both q r c (after p c s) ∙ ap (after r c) (sym (after_both p q c s)) ∙ sym (after_both (both p q) r c s)

pub case_told : (ts : List Token) (c : Context) (block : Reader) (old new : TableBuilder) (input : Cursor) (result : Result Cursor Stop) → begins label_first (remaining ts input) ≡ Some ([], remaining ts input) →
    AppendsEntries ts (then_events labels_events (then_events (word_events kinds.Colon) block_events)) (then_rows labels_rows (then_rows word_rows block_rows)) c old new result
    (seq (several kinds.Comma label_range_at) (seq (expect_at kinds.Colon) block) (remaining ts input)) →
    AppendsEntries ts case_events case_rows c old new result (case_with block (remaining ts input))
unfolding case_with
case_told ts c block old new input result e t =
    let f : OneOrMore LabelRange × (Unit {0} × StatementSequence) → Events = then_events labels_events (then_events (word_events kinds.Colon) block_events) in
    let p : OneOrMore LabelRange × (Unit {0} × StatementSequence) → Fragment = then_rows labels_rows (then_rows word_rows block_rows) in
    told_as ts (λ x. construct constructs.Case ([] ++ f x)) (λ x. after (p x) c) case_events (λ x. after (case_rows x) c) (λ x. cases.Labelled x.0 (boxed old.uses.alloc x.1.1))
    (λ x. events.labelled_made x.0 (boxed old.uses.alloc x.1.1))
    (λ x s. ap (λ (y : Fragment). after y c s) (effect.labelled_made x.0 (boxed old.uses.alloc x.1.1)) ∙ regrouped (label_range_rows x.0.first) (each_after label_range_rows x.0.rest.items) (both token (block_rows x.1.1)) c s)
    old new result _
    (told_node ts (λ x. [] ++ f x) (λ x. after (p x) c) constructs.Case (optional (begins label_first) (seq (several kinds.Comma label_range_at) (seq (expect_at kinds.Colon) block))) old new result (remaining ts input)
    (told_there ts f (λ x. after (p x) c) (begins label_first) (seq (several kinds.Comma label_range_at) (seq (expect_at kinds.Colon) block)) [] old new input result (remaining ts input) e t))

pub no_case : (ts : List Token) (c : Context) (block : Reader) (d : TableBuilder) (here : Cursor) → begins label_first (remaining ts here) ≡ None →
    HasAppendedEntries ts case_events (λ x. after (case_rows x) c) d d here (case_with block (remaining ts here))
unfolding case_with
no_case ts c block d here e = record {
  out = construct constructs.Case [];
  is_read = rw e refl;
  tabulates = λ q. (q, record { tree = cases.Nothing; has_events = events.nothing_made; comes = sym (ap (λ (p : Fragment). after p c (stage_of d)) effect.nothing_made ∙ after_nothing c (stage_of d)) });
}

-- ---- FOR

abbrev for_of : ℕ × (Unit {0} × (Expr × ForLimit)) → For
for_of x = roll-For (record { variable = x.0; from = x.1.1.0; to = x.1.1.1.1.0; by = x.1.1.1.1.1.0; body = x.1.1.1.1.1.1.1.0 })

for_parts : (x : ℕ × (Unit {0} × (Expr × ForLimit))) → for_rows (for_of x) ≡ both token (then_rows for_variable_rows (then_rows word_rows (then_rows expr_rows for_limit_rows)) x)
for_parts x =
    effect.for_out (for_of x)
    ∙ ap (λ y. both token (both variable_rows (both token (both (expr_rows y.from) (both token (both (expr_rows y.to)
    (both (if_present (λ e. both token (expr_rows e)) y.by) (both token (both (block_rows y.body) token)))))))))
    (out-roll-For (record { variable = x.0; from = x.1.1.0; to = x.1.1.1.1.0; by = x.1.1.1.1.1.0; body = x.1.1.1.1.1.1.1.0 }))

pub for_told : (ts : List Token) (c : Context) (expr block : Reader) (old mid new : TableBuilder) (result : Result Cursor Stop) (ls : List Leaf) → PerformsStep advanced old mid →
    AppendsEntries ts (then_events used (then_events (word_events kinds.Assign) (then_events expr_events for_limit_events))) (then_rows for_variable_rows (then_rows word_rows (then_rows expr_rows for_limit_rows))) c mid new result
    (seq (name_at used) (seq (expect_at kinds.Assign) (seq expr (seq (expect_at kinds.To) (seq expr (seq (optional (accept_at kinds.By) expr) (seq (expect_at kinds.Do) (seq block (expect_at kinds.End)))))))) ls) →
    AppendsEntries ts stmt_events stmt_rows c old new result (node constructs.Statement (prefixed (word kinds.For) (for_with expr block)) ls)
unfolding for_with
for_told ts c expr block old mid new result ls h t =
    told_statement ts c (then_events used (then_events (word_events kinds.Assign) (then_events expr_events for_limit_events))) (then_rows for_variable_rows (then_rows word_rows (then_rows expr_rows for_limit_rows)))
    (λ x. statements.For (boxed old.uses.alloc (for_of x))) kinds.For (for_with expr block) old mid new result ls
    (λ x. events.for_stmt_made (boxed old.uses.alloc (for_of x)) ∙ ap (construct constructs.Statement) (events.for_made x.0 x.1.1.0 x.1.1.1.1.0 x.1.1.1.1.1.0 x.1.1.1.1.1.1.1.0))
    (λ x. effect.for_stmt_made (boxed old.uses.alloc (for_of x)) ∙ for_parts x) h t

-- the variable of a FOR, whose entry is appended before its identifier is read
pub variable_read : (ts : List Token) (c : Context) (n : ℕ) (old new : TableBuilder) (input rest : Cursor) → identifier_at (remaining ts input) ≡ Ok (n, remaining ts rest) → PerformsStep (after variable_rows c) old new →
    HasAppendedEntries ts used (λ x. after (for_variable_rows x) c) old new rest (name_at used (remaining ts input))
unfolding name_at
variable_read ts c n old new input rest e h = record {
  out = used n;
  is_read = rw e refl;
  tabulates = λ q. let b = h q in (b.0, record { tree = n; has_events = refl; comes = b.1 });
}

pub no_variable : (ts : List Token) (e : Stop) (ls : List Leaf) → Fails ts e (identifier_at ls) → Fails ts e (name_at used ls)
unfolding name_at
no_variable ts stops.Memory ls h = tt
no_variable ts (stops.Unexpected i) ls h = rw h refl
no_variable ts (stops.TooDeep i) ls h = rw h refl
