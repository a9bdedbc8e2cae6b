-- The tokens of statements are read as those statements, if they are followed by tokens that can't continue them.
use Rattle.std.proofs.Common.{◌≡◌, ℕ, zero, suc, Bool, true, false, ◌≤◌, List, [], ◌∷◌, ◌++◌, Option, None, Ok, refl, sym, ap, subst, ◌∙◌, arith}
use Rattle.std.specs.declared.boxed.Box.{Box}
use Rattle.std.specs.declared.alloc.Global.{Global}
use Rattle.std.proofs.lemmas.List.{append-nil}
use Rattle.ob_scan.specs.declared.kind.Kind.{Kind}
use Rattle.ob_scan.specs.declared.kind.Kind.TheVariants as kinds
use Rattle.ob_tree.specs.declared.token.Leaf.{Leaf}
use Rattle.ob_tree.specs.declared.token.Leaf.TheVariants as leafs
use Rattle.ob_tree.specs.declared.expression.Literal.TheVariants as literals
use Rattle.ob_tree.specs.declared.expression.Designator.{Designator}
use Rattle.ob_tree.specs.declared.expression.Expr.{Expr}
use Rattle.ob_tree.specs.declared.statement.Label.{Label}
use Rattle.ob_tree.specs.declared.statement.Label.TheVariants as labels
use Rattle.ob_tree.specs.declared.statement.LabelRange.{LabelRange}
use Rattle.ob_tree.specs.declared.statement.Case.{Case, Case-F, out-Case}
use Rattle.ob_tree.specs.declared.statement.Case.TheOpen as layers
use Rattle.ob_tree.specs.declared.statement.Stmt.{Stmt, Stmt-F, out-Stmt}
use Rattle.ob_tree.specs.declared.statement.StatementSequence.{StatementSequence, out-StatementSequence}
use Rattle.ob_tree.specs.declared.statement.Branch.{Branch, out-Branch}
use Rattle.ob_tree.specs.declared.statement.For.{For, For-F, out-For}
use Rattle.ob_tree.specs.Constructs as constructs
use Rattle.ob_tree.specs.TreeEvents.{Events, construct, word, used, if_present, each, each_after, tokens_of, height}
use Rattle.ob_tree.specs.Names.{qualident_events}
use Rattle.ob_tree.specs.Expressions.{expr_events, designator_events, selector_events}
use Rattle.ob_tree.specs.Statements.{label_events, label_range_events, case_events, stmt_events, block_events, branch_events}
use Rattle.ob_tree.proofs.StatementLayers.{case_shown, stmt_shown, case_out, stmt_out, block_out, branch_out, for_out, label_range_out}
use Rattle.ob_grammar.specs.Lookahead.{uncons, head_is}
use Rattle.ob_grammar.specs.Combinators.{Reader, expect_at, accept_at, name_at, identifier_at, begins, seq, prefixed, node, optional, many, several}
use Rattle.ob_grammar.specs.ReadNames.{qualident_at, qualident_after}
use Rattle.ob_grammar.specs.ReadExpressions.{mul_at, add_at, relation_at, designator_with, factor_from, expr_at, negated_at}
use Rattle.ob_grammar.specs.ReadStatements.{label_first, statement_first, case_label_at, label_range_at, case_with, block_with, branch_with, if_with, cases_with, while_with, repeat_with, for_with, assign_with, statement_from, statement_with, empty_at, statement_at, block_at}
use Rattle.ob_grammar.proofs.CompatibleProductions.{label_range_held, case_held, branch_held}
use Rattle.ob_grammar.proofs.Sound.{sound, tokens_of-construct, expr_at_sound, statement_at_sound, block_at_sound}
use Rattle.ob_grammar.proofs.Loops.{accept_advances}
use Rattle.ob_grammar.proofs.ReadsBack.{Reads, Opens, split, low_level, opens_front, begins_there}
use Rattle.ob_grammar.proofs.Bounded.{Again, again_is, again_as, again_seq, again_end, again_word, again_name, again_node, again_level, too_high, again_nothing, again_something, again_accepted, again_option, past_option, past_there, again_each_after, past_each, again_several, not_accepted}
use Rattle.ob_grammar.proofs.CompleteNames.{qualident_again}
use Rattle.ob_grammar.proofs.CompleteExpressions.{EndsFactor, EndsExpr, ends_expr, exprs_again, designator_spelled, designator_again}

---- tokens that can't continue statements

pub record EndsStatement (rest : List Leaf) : Type 0 where
  pub expr : EndsExpr rest
  pub assign : accept_at kinds.Assign rest ≡ None
  pub empty : head_is statement_first (uncons rest) ≡ false

pub record EndsBlock (rest : List Leaf) : Type 0 where
  pub statement : EndsStatement rest
  pub semicolon : accept_at kinds.Semicolon rest ≡ None

-- a case without labels is empty, and nothing is read
pub record EndsCase (rest : List Leaf) : Type 0 where
  pub block : EndsBlock rest
  pub label : begins label_first rest ≡ None

-- the tokens after an expression
abbrev pub is_after_expr : Kind → Bool
is_after_expr kinds.By = true
is_after_expr kinds.Do = true
is_after_expr kinds.Else = true
is_after_expr kinds.Elsif = true
is_after_expr kinds.End = true
is_after_expr kinds.Of = true
is_after_expr kinds.Return = true
is_after_expr kinds.Then = true
is_after_expr kinds.To = true
is_after_expr kinds.Until = true
is_after_expr kinds.Bar = true
is_after_expr kinds.Comma = true
is_after_expr kinds.Semicolon = true
is_after_expr k = false

pub expr_ends : (k : Kind) (rest : List Leaf) → is_after_expr k ≡ true → EndsExpr (leafs.Word k ∷ rest)
unfolding begins mul_at add_at relation_at
expr_ends kinds.By rest e = ends_expr _ refl refl refl refl
expr_ends kinds.Do rest e = ends_expr _ refl refl refl refl
expr_ends kinds.Else rest e = ends_expr _ refl refl refl refl
expr_ends kinds.Elsif rest e = ends_expr _ refl refl refl refl
expr_ends kinds.End rest e = ends_expr _ refl refl refl refl
expr_ends kinds.Of rest e = ends_expr _ refl refl refl refl
expr_ends kinds.Return rest e = ends_expr _ refl refl refl refl
expr_ends kinds.Then rest e = ends_expr _ refl refl refl refl
expr_ends kinds.To rest e = ends_expr _ refl refl refl refl
expr_ends kinds.Until rest e = ends_expr _ refl refl refl refl
expr_ends kinds.Bar rest e = ends_expr _ refl refl refl refl
expr_ends kinds.Comma rest e = ends_expr _ refl refl refl refl
expr_ends kinds.Semicolon rest e = ends_expr _ refl refl refl refl
expr_ends k rest e = absurd cc

ends_statement_at : (k : Kind) (rest : List Leaf) → EndsExpr (leafs.Word k ∷ rest) → accept_at kinds.Assign (leafs.Word k ∷ rest) ≡ None →
    statement_first (leafs.Word k) ≡ false → EndsStatement (leafs.Word k ∷ rest)
ends_statement_at k rest a b c = record { expr = a; assign = b; empty = c }

ends_block_at : (k : Kind) (rest : List Leaf) → EndsStatement (leafs.Word k ∷ rest) → accept_at kinds.Semicolon (leafs.Word k ∷ rest) ≡ None → EndsBlock (leafs.Word k ∷ rest)
ends_block_at k rest a b = record { statement = a; semicolon = b }

pub semicolon_ends : (rest : List Leaf) → EndsStatement (leafs.Word kinds.Semicolon ∷ rest)
unfolding accept_at
semicolon_ends rest = ends_statement_at kinds.Semicolon rest (expr_ends kinds.Semicolon rest refl) refl refl

-- the tokens after a statement sequence
abbrev pub is_after_block : Kind → Bool
is_after_block kinds.Else = true
is_after_block kinds.Elsif = true
is_after_block kinds.End = true
is_after_block kinds.Return = true
is_after_block kinds.Until = true
is_after_block kinds.Bar = true
is_after_block k = false

pub block_ends : (k : Kind) (rest : List Leaf) → is_after_block k ≡ true → EndsBlock (leafs.Word k ∷ rest)
unfolding accept_at
block_ends kinds.Else rest e = ends_block_at _ rest (ends_statement_at kinds.Else rest (expr_ends kinds.Else rest refl) refl refl) refl
block_ends kinds.Elsif rest e = ends_block_at _ rest (ends_statement_at kinds.Elsif rest (expr_ends kinds.Elsif rest refl) refl refl) refl
block_ends kinds.End rest e = ends_block_at _ rest (ends_statement_at kinds.End rest (expr_ends kinds.End rest refl) refl refl) refl
block_ends kinds.Return rest e = ends_block_at _ rest (ends_statement_at kinds.Return rest (expr_ends kinds.Return rest refl) refl refl) refl
block_ends kinds.Until rest e = ends_block_at _ rest (ends_statement_at kinds.Until rest (expr_ends kinds.Until rest refl) refl refl) refl
block_ends kinds.Bar rest e = ends_block_at _ rest (ends_statement_at kinds.Bar rest (expr_ends kinds.Bar rest refl) refl refl) refl
block_ends k rest e = absurd cc

bar_ends : (rest : List Leaf) → EndsCase (leafs.Word kinds.Bar ∷ rest)
unfolding begins
bar_ends rest = record { block = block_ends kinds.Bar rest refl; label = refl }

end_ends_case : (rest : List Leaf) → EndsCase (leafs.Word kinds.End ∷ rest)
unfolding begins
end_ends_case rest = record { block = block_ends kinds.End rest refl; label = refl }

assign_ends : (rest : List Leaf) → EndsFactor (leafs.Word kinds.Assign ∷ rest)
unfolding begins
assign_ends rest = record { selector = refl }

---- expressions and names, within a depth

pub again_expr : (d : ℕ) (e : Expr) (rest : List Leaf) → EndsExpr rest → Again d (expr_at d) (expr_events e) rest
again_expr d e rest end = record { reads = λ le. exprs_again d e rest le end }

-- ---- labels

again_label : (d : ℕ) (l : Label) (rest : List Leaf) → accept_at kinds.Dot rest ≡ None → Again d case_label_at (label_events l) rest
unfolding case_label_at label_events qualident_events qualident_at qualident_after name_at identifier_at
again_label d (labels.Integer n) rest e = record { reads = λ le. record { is = refl } }
again_label d (labels.Text n) rest e = record { reads = λ le. record { is = refl } }
again_label d (labels.Name q) rest e = record { reads = λ le. record { is = (qualident_again q rest e).is } }

label_opens : (l : Label) (x : List Leaf) → Opens label_first (tokens_of (label_events l) ++ x)
unfolding label_events qualident_events
label_opens (labels.Integer n) x = record { leaf = leafs.Value literals.Integer n; tail = x; is = refl; good = refl }
label_opens (labels.Text n) x = record { leaf = leafs.Value literals.Text n; tail = x; is = refl; good = refl }
label_opens (labels.Name q) x = record { leaf = leafs.Name q.head; tail = _; is = refl; good = refl }

-- the tokens after a label range
record EndsRange (rest : List Leaf) : Type 0 where
  dot : accept_at kinds.Dot rest ≡ None
  dots : accept_at kinds.DotDot rest ≡ None

comma_ends_range : (rest : List Leaf) → EndsRange (leafs.Word kinds.Comma ∷ rest)
unfolding accept_at
comma_ends_range rest = record { dot = refl; dots = refl }

colon_ends_range : (rest : List Leaf) → EndsRange (leafs.Word kinds.Colon ∷ rest)
unfolding accept_at
colon_ends_range rest = record { dot = refl; dots = refl }

again_range : (d : ℕ) (r : LabelRange) (rest : List Leaf) → EndsRange rest → Again d label_range_at (label_range_events r) rest
unfolding label_range_at
again_range d r rest end =
    let high = again_option d kinds.DotDot case_label_at label_events r.high rest end.dots (λ l. again_label d l rest end.dot) in
    let dot : accept_at kinds.Dot (tokens_of (if_present (λ l. word kinds.DotDot ++ label_events l) r.high) ++ rest) ≡ None =
    past_option (λ ls. accept_at kinds.Dot ls ≡ None) kinds.DotDot label_events r.high rest (λ ls. not_accepted kinds.Dot kinds.DotDot ls refl) end.dot in
    again_is (label_range_out r) (again_seq high (again_label d r.low _ dot))

range_opens : (r : LabelRange) (x : List Leaf) → Opens label_first (tokens_of (label_range_events r) ++ x)
range_opens r x = subst (λ (o : Events). Opens label_first (tokens_of o ++ x)) (sym (label_range_out r))
    (opens_front label_first (label_events r.low) (if_present (λ l. word kinds.DotDot ++ label_events l) r.high) x (label_opens r.low))

---- statements, if the statements of one level less are read back

abbrev pub AgainStatements : ℕ → Type 0
AgainStatements d = (s : Stmt) (rest : List Leaf) → EndsStatement rest → Again d (statement_at d) (stmt_events s) rest

abbrev pub AgainBlocks : ℕ → Type 0
AgainBlocks d = (b : StatementSequence) (rest : List Leaf) → EndsBlock rest → Again d (block_at d) (block_events b) rest

again_block : (d : ℕ) → AgainStatements d → AgainBlocks d
unfolding block_with
again_block d h b rest end =
    let x = out-StatementSequence b in
    again_is (block_out b) (again_several kinds.Semicolon (statement_at d) stmt_events EndsStatement d
    (accept_advances d kinds.Semicolon (statement_at d) (statement_at_sound d)) semicolon_ends h x.first x.rest.items rest end.statement end.semicolon)

again_branch : (d : ℕ) → AgainBlocks d → (k : Kind) → is_after_expr k ≡ true → (b : Branch) (rest : List Leaf) → EndsBlock rest →
    Again d (branch_with (expr_at d) (block_at d) k) (branch_events b k) rest
unfolding branch_with
again_branch d h k e b rest end =
    let x = out-Branch b in
    again_is (branch_out b k) (again_seq (again_word k (h x.body rest end)) (again_expr d x.condition _ (expr_ends k _ e)))

again_branches : (d : ℕ) → AgainBlocks d → (k : Kind) → is_after_expr k ≡ true → (bs : List Branch) (rest : List Leaf) → EndsBlock rest →
    accept_at kinds.Elsif rest ≡ None → Again d (many (accept_at kinds.Elsif) (branch_with (expr_at d) (block_at d) k)) (each_after kinds.Elsif (λ b. branch_events b k) bs) rest
again_branches d h k e bs rest end none =
    again_each_after kinds.Elsif (branch_with (expr_at d) (block_at d) k) (λ b. branch_events b k) EndsBlock d
    (accept_advances d kinds.Elsif _ (branch_held sound k (expr_at_sound d) (block_at_sound d))) (λ ls. block_ends kinds.Elsif ls refl)
    (again_branch d h k e) bs rest end none

ranges_opens : (x : LabelRange) (xs : List LabelRange) (o : Events) (y : List Leaf) →
    Opens label_first (tokens_of ((label_range_events x ++ each_after kinds.Comma label_range_events xs) ++ o) ++ y)
ranges_opens x xs o y = opens_front label_first (label_range_events x ++ each_after kinds.Comma label_range_events xs) o y
    (λ z. opens_front label_first (label_range_events x) (each_after kinds.Comma label_range_events xs) z (range_opens x))

again_case_layer : (d : ℕ) → AgainBlocks d → (x : Case-F Case Stmt Branch For StatementSequence) (rest : List Leaf) → EndsCase rest →
    Again d (optional (begins label_first) (seq (several kinds.Comma label_range_at) (seq (expect_at kinds.Colon) (block_at d)))) (case_shown x) rest
again_case_layer d h layers.Nothing rest end = again_nothing d (begins label_first) _ rest end.label
again_case_layer d h (layers.Labelled ranges body) rest end =
    let behind = again_word kinds.Colon (h body.value rest end.block) in
    let ls = again_several kinds.Comma label_range_at label_range_events EndsRange d (accept_advances d kinds.Comma label_range_at (label_range_held sound))
    comma_ends_range (again_range d) ranges.first ranges.rest.items (leafs.Word kinds.Colon ∷ (tokens_of (block_events body.value) ++ rest)) (colon_ends_range _)
    (not_accepted kinds.Comma kinds.Colon _ refl) in
    again_something (begins label_first) [] (begins_there label_first _ (ranges_opens ranges.first ranges.rest.items (word kinds.Colon ++ block_events body.value) rest))
    (again_seq behind ls)

again_case : (d : ℕ) → AgainBlocks d → (c : Case) (rest : List Leaf) → EndsCase rest → Again d (case_with (block_at d)) (case_events c) rest
unfolding case_with
again_case d h c rest end = again_is (case_out c) (again_node constructs.Case (again_case_layer d h (out-Case c) rest end))

again_cases : (d : ℕ) → AgainBlocks d → (cs : List Case) (rest : List Leaf) → EndsCase rest → accept_at kinds.Bar rest ≡ None →
    Again d (many (accept_at kinds.Bar) (case_with (block_at d))) (each_after kinds.Bar case_events cs) rest
again_cases d h cs rest end none =
    again_each_after kinds.Bar (case_with (block_at d)) case_events EndsCase d (accept_advances d kinds.Bar _ (case_held sound (block_at_sound d))) bar_ends
    (again_case d h) cs rest end none

-- ---- a statement of each form

-- a statement that begins with a keyword
keyword_again : (d : ℕ) (k : Kind) (r : Reader) (o : Events) (rest : List Leaf) →
    ((ls : List Leaf) → statement_with (expr_at d) (block_at d) (leafs.Word k ∷ ls) ≡ node constructs.Statement (prefixed (word k) r) ls) → Again d r o rest →
    Again (suc d) (statement_with (expr_at d) (block_at d)) (construct constructs.Statement (word k ++ o)) rest
keyword_again d k r o rest e p = record {
  reads = λ le.
      let low : suc (height o) ≤ suc d = low_level constructs.Statement (word k ++ o) (suc d) refl le in
      let it : Reads r o rest = p.reads (omega (arith, low)) in
      record {
        is = ap (λ (t : List Leaf). statement_with (expr_at d) (block_at d) (t ++ rest)) (tokens_of-construct constructs.Statement (word k ++ o)) ∙
            e (tokens_of o ++ rest) ∙ rw it.is refl;
      };
}

-- a statement that begins with a designator
named_again : (d : ℕ) (x : Designator) (o : Events) (rest : List Leaf) → EndsFactor (tokens_of o ++ rest) → Again d (optional (accept_at kinds.Assign) (expr_at d)) o rest →
    Again (suc d) (statement_with (expr_at d) (block_at d)) (construct constructs.Statement (designator_events x ++ o)) rest
unfolding statement_with assign_with designator_with
named_again d x o rest end p =
    let behind : List Leaf = tokens_of o ++ rest in
    let tail : List Leaf = tokens_of (each selector_events x.selectors.items) ++ behind in
    let all_tokens : tokens_of (construct constructs.Statement (designator_events x ++ o)) ++ rest ≡ leafs.Name x.head ∷ tail =
    ap (λ (t : List Leaf). t ++ rest) (tokens_of-construct constructs.Statement (designator_events x ++ o)) ∙ split (designator_events x) o rest ∙
    designator_spelled x behind in
    let head : Again d (λ ls. factor_from (expr_at d) (negated_at d) (uncons ls)) (designator_events x) behind =
    record {
      reads = λ le. record {
        is = ap (λ (t : List Leaf). factor_from (expr_at d) (negated_at d) (uncons t)) (designator_spelled x behind) ∙
            designator_again d x behind le end;
      };
    } in
    again_as (statement_with (expr_at d) (block_at d)) (rw all_tokens refl) (again_level constructs.Statement refl (again_seq p head))

again_if : (d : ℕ) → AgainBlocks d → (first : Branch) (bs : List Branch) (o : Option (Box StatementSequence Global)) (rest : List Leaf) →
    Again d (if_with (expr_at d) (block_at d))
    (branch_events first kinds.Then ++
    (each_after kinds.Elsif (λ b. branch_events b kinds.Then) bs ++ (if_present (λ b. word kinds.Else ++ block_events b.value) o ++ word kinds.End))) rest
unfolding if_with
again_if d h first bs o rest =
    let otherwise = again_seq (again_end d kinds.End rest)
    (again_option d kinds.Else (block_at d) (λ (b : Box StatementSequence Global). block_events b.value) o (leafs.Word kinds.End ∷ rest)
    (not_accepted kinds.Else kinds.End rest refl) (λ b. h b.value _ (block_ends kinds.End rest refl))) in
    let end : EndsBlock (tokens_of (if_present (λ b. word kinds.Else ++ block_events b.value) o ++ word kinds.End) ++ rest) =
    past_there EndsBlock kinds.Else (λ (b : Box StatementSequence Global). block_events b.value) o (word kinds.End) rest (λ ls. block_ends kinds.Else ls refl)
    (block_ends kinds.End rest refl) in
    let none = past_there (λ ls. accept_at kinds.Elsif ls ≡ None) kinds.Else (λ (b : Box StatementSequence Global). block_events b.value) o (word kinds.End) rest
    (λ ls. not_accepted kinds.Elsif kinds.Else ls refl) (not_accepted kinds.Elsif kinds.End rest refl) in
    let others = again_seq otherwise (again_branches d h kinds.Then refl bs _ end none) in
    again_seq others (again_branch d h kinds.Then refl first _
    (past_each EndsBlock kinds.Elsif (λ b. branch_events b kinds.Then) bs (if_present (λ b. word kinds.Else ++ block_events b.value) o ++ word kinds.End) rest
    (λ ls. block_ends kinds.Elsif ls refl) end))

again_choice : (d : ℕ) → AgainBlocks d → (e : Expr) (first : Case) (cs : List Case) (rest : List Leaf) →
    Again d (cases_with (expr_at d) (block_at d)) (expr_events e ++ (word kinds.Of ++ (case_events first ++ (each_after kinds.Bar case_events cs ++ word kinds.End)))) rest
unfolding cases_with
again_choice d h e first cs rest =
    let others = again_seq (again_end d kinds.End rest) (again_cases d h cs (leafs.Word kinds.End ∷ rest) (end_ends_case rest) (not_accepted kinds.Bar kinds.End rest refl)) in
    let all = again_seq others (again_case d h first _ (past_each EndsCase kinds.Bar case_events cs (word kinds.End) rest bar_ends (end_ends_case rest))) in
    again_seq (again_word kinds.Of all) (again_expr d e _ (expr_ends kinds.Of _ refl))

again_while : (d : ℕ) → AgainBlocks d → (first : Branch) (bs : List Branch) (rest : List Leaf) →
    Again d (while_with (expr_at d) (block_at d)) (branch_events first kinds.Do ++ (each_after kinds.Elsif (λ b. branch_events b kinds.Do) bs ++ word kinds.End)) rest
unfolding while_with
again_while d h first bs rest =
    let end : EndsBlock (leafs.Word kinds.End ∷ rest) = block_ends kinds.End rest refl in
    let others = again_seq (again_end d kinds.End rest) (again_branches d h kinds.Do refl bs (leafs.Word kinds.End ∷ rest) end (not_accepted kinds.Elsif kinds.End rest refl)) in
    again_seq others (again_branch d h kinds.Do refl first _
    (past_each EndsBlock kinds.Elsif (λ b. branch_events b kinds.Do) bs (word kinds.End) rest (λ ls. block_ends kinds.Elsif ls refl) end))

again_repeat : (d : ℕ) → AgainBlocks d → (b : StatementSequence) (e : Expr) (rest : List Leaf) → EndsExpr rest →
    Again d (repeat_with (expr_at d) (block_at d)) (block_events b ++ (word kinds.Until ++ expr_events e)) rest
unfolding repeat_with
again_repeat d h b e rest end = again_seq (again_word kinds.Until (again_expr d e rest end)) (h b _ (block_ends kinds.Until _ refl))

again_for : (d : ℕ) → AgainBlocks d → (x : For-F Case Stmt Branch For StatementSequence) (rest : List Leaf) →
    Again d (for_with (expr_at d) (block_at d))
    (used x.variable ++ (word kinds.Assign ++
    (expr_events x.from ++ (word kinds.To ++
    (expr_events x.to ++ (if_present (λ e. word kinds.By ++ expr_events e) x.by ++ (word kinds.Do ++ (block_events x.body ++ word kinds.End)))))))) rest
unfolding for_with
again_for d h x rest =
    let body = again_word kinds.Do (again_seq (again_end d kinds.End rest) (h x.body _ (block_ends kinds.End rest refl))) in
    let step = again_seq body (again_option d kinds.By (expr_at d) expr_events x.by _ (not_accepted kinds.By kinds.Do _ refl)
    (λ e. again_expr d e _ (expr_ends kinds.Do _ refl))) in
    let end = past_there EndsExpr kinds.By expr_events x.by (word kinds.Do ++ (block_events x.body ++ word kinds.End)) rest (λ ls. expr_ends kinds.By ls refl)
    (expr_ends kinds.Do _ refl) in
    let range = again_seq (again_word kinds.To (again_seq step (again_expr d x.to _ end))) (again_expr d x.from _ (expr_ends kinds.To _ refl)) in
    again_seq (again_word kinds.Assign range) (again_name d used x.variable _ refl)

-- if no statement begins, the empty one is read
nothing_read : (expr block : Reader) (ls : List Leaf) → head_is statement_first (uncons ls) ≡ false →
    statement_from expr block ls (uncons ls) ≡ Ok (construct constructs.EmptyStatement [], ls)
nothing_read expr block [] e = refl
nothing_read expr block (leafs.Name n ∷ ls) e = absurd cc
nothing_read expr block (leafs.Value k n ∷ ls) e = refl
nothing_read expr block (leafs.Word kinds.If ∷ ls) e = absurd cc
nothing_read expr block (leafs.Word kinds.Case ∷ ls) e = absurd cc
nothing_read expr block (leafs.Word kinds.While ∷ ls) e = absurd cc
nothing_read expr block (leafs.Word kinds.Repeat ∷ ls) e = absurd cc
nothing_read expr block (leafs.Word kinds.For ∷ ls) e = absurd cc
nothing_read expr block (leafs.Word k ∷ ls) e = refl

empty_tokens : tokens_of (construct constructs.EmptyStatement []) ≡ []
unfolding construct
empty_tokens = refl

empty_again : (r : Reader) (d : ℕ) (rest : List Leaf) → r rest ≡ Ok (construct constructs.EmptyStatement [], rest) → Again d r (construct constructs.EmptyStatement []) rest
empty_again r d rest e = record { reads = λ le. record { is = ap (λ (t : List Leaf). r (t ++ rest)) empty_tokens ∙ e } }

abbrev Layer : Type 0
Layer = Stmt-F Case Stmt Branch For StatementSequence

again_layer : (d : ℕ) → AgainBlocks d → (x : Layer) (rest : List Leaf) → EndsStatement rest → Again (suc d) (statement_with (expr_at d) (block_at d)) (stmt_shown x) rest
unfolding statement_with
again_layer d h layers.Empty rest end = empty_again _ (suc d) rest (nothing_read (expr_at d) (block_at d) rest end.empty)
again_layer d h (layers.Assign x e) rest end = named_again d x (word kinds.Assign ++ expr_events e) rest (assign_ends _)
    (again_accepted kinds.Assign (again_expr d e rest end.expr))
again_layer d h (layers.Call x) rest end =
    again_is (ap (construct constructs.Statement) (sym (append-nil (designator_events x))))
    (named_again d x [] rest end.expr.sum.term.factor (again_nothing d (accept_at kinds.Assign) (expr_at d) rest end.assign))
again_layer d h (layers.If first bs o) rest end = keyword_again d kinds.If _ _ rest (λ ls. refl) (again_if d h first.value bs.items o rest)
again_layer d h (layers.Case e first cs) rest end = keyword_again d kinds.Case _ _ rest (λ ls. refl) (again_choice d h e first.value cs.items rest)
again_layer d h (layers.While first bs) rest end = keyword_again d kinds.While _ _ rest (λ ls. refl) (again_while d h first.value bs.items rest)
again_layer d h (layers.Repeat b e) rest end = keyword_again d kinds.Repeat _ _ rest (λ ls. refl) (again_repeat d h b.value e rest end.expr)
again_layer d h (layers.For f) rest end = again_is (ap (construct constructs.Statement) (for_out f.value))
    (keyword_again d kinds.For _ _ rest (λ ls. refl) (again_for d h (out-For f.value) rest))

-- at depth zero only the empty statement is read
again_least : (x : Layer) (rest : List Leaf) → EndsStatement rest → Again zero empty_at (stmt_shown x) rest
unfolding empty_at
again_least layers.Empty rest end = empty_again empty_at zero rest (rw end.empty refl)
again_least (layers.Assign x e) rest end = too_high _ _ rest constructs.Statement refl
again_least (layers.Call x) rest end = too_high _ _ rest constructs.Statement refl
again_least (layers.If first bs o) rest end = too_high _ _ rest constructs.Statement refl
again_least (layers.Case e first cs) rest end = too_high _ _ rest constructs.Statement refl
again_least (layers.While first bs) rest end = too_high _ _ rest constructs.Statement refl
again_least (layers.Repeat b e) rest end = too_high _ _ rest constructs.Statement refl
again_least (layers.For f) rest end = too_high _ _ rest constructs.Statement refl

-- ---- every depth

again_by_layer : (r : Reader) (d : ℕ) → ((x : Layer) (rest : List Leaf) → EndsStatement rest → Again d r (stmt_shown x) rest) → (s : Stmt) (rest : List Leaf) →
    EndsStatement rest → Again d r (stmt_events s) rest
again_by_layer r d h s rest end = again_is (stmt_out s) (h (out-Stmt s) rest end)

again_statement : (d : ℕ) → AgainStatements d
unfolding statement_at
again_statement zero = again_by_layer empty_at zero again_least
again_statement (suc d) = again_by_layer (statement_with (expr_at d) (block_at d)) (suc d) (again_layer d (again_block d (again_statement d)))

pub again_blocks : (d : ℕ) → AgainBlocks d
again_blocks d = again_block d (again_statement d)
