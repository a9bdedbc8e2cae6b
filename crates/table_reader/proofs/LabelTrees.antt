-- Names and labels from their tabulated parts.
use Rattle.std.proofs.Common.{◌≡◌, ℕ, List, [], ◌++◌, Option, Some, None, Ok, refl, sym, ap, ◌∙◌}
use Rattle.std.specs.Prelude.{Result}
use Rattle.ob_scan.specs.declared.kind.Kind.TheVariants as kinds
use Rattle.ob_scan.specs.declared.token.Token.{Token}
use Rattle.ob_tree.specs.declared.token.Leaf.{Leaf}
use Rattle.ob_tree.specs.declared.name.Qualident.{Qualident}
use Rattle.ob_tree.specs.declared.statement.Label.{Label}
use Rattle.ob_tree.specs.declared.statement.Label.TheVariants as labels
use Rattle.ob_tree.specs.TreeEvents.{Events, word, used, completed}
use Rattle.ob_tree.specs.Names.{qualident_events}
use Rattle.ob_tree.specs.Statements.{label_events, label_range_events}
use Rattle.ob_tree.proofs.NameLayers as shown_names
use Rattle.ob_tree.proofs.StatementLayers as events
use Rattle.module_table.specs.declared.builder.Context.{Context}
use Rattle.module_table.specs.declared.builder.TableBuilder.{TableBuilder}
use Rattle.module_table.specs.TableStages.{Stage, stage_of, after, advanced, PerformsStep}
use Rattle.module_table.specs.Parts.{Fragment, token, both, nothing}
use Rattle.table_rules.specs.Expressions.{used as uses}
use Rattle.table_rules.specs.Statements.{qualident_rows, label_rows, label_range_rows}
use Rattle.table_rules.proofs.StatementLayers as effect
use Rattle.module_table.proofs.Steps.{after_both, after_token, after_nothing}
use Rattle.ob_grammar.specs.declared.cursor.Cursor.{Cursor}
use Rattle.ob_grammar.specs.declared.stop.Stop.{Stop}
use Rattle.ob_grammar.specs.declared.stop.Stop.TheVariants as stops
use Rattle.ob_grammar.specs.Combinators.{Read, several, optional, many, accept_at, name_at, identifier_at}
use Rattle.ob_grammar.specs.ParsesAs.{remaining, Fails}
use Rattle.ob_grammar.specs.ReadNames.{qualident_after}
use Rattle.ob_grammar.specs.Lookahead.{uncons}
use Rattle.ob_grammar.specs.ReadStatements.{case_label_at, label_from, label_range_at}
use Rattle.table_reader.specs.StatementShapes.{high_label_events, high_label_rows, ranges_events, ranges_rows, labels_events, labels_rows, then_events, then_rows}
use Rattle.table_reader.specs.Tabulating.{HasAppendedEntries, AppendsEntries}
use Rattle.table_reader.proofs.Combine.{failed_then}
use Rattle.table_reader.proofs.Parts.{made_told, told_both}

-- ---- qualident = ident ["." ident]

abbrev sole : ℕ → Qualident
sole n = record { head = n; member = None }

abbrev dotted : ℕ → ℕ → Qualident
dotted n m = record { head = n; member = Some m }

lone_after : (n : ℕ) (c : Context) (s : Stage) → after (qualident_rows (sole n)) c s ≡ after (uses None) c s
lone_after n c s = ap (λ (p : Fragment). after p c s) (effect.qualident_out (sole n)) ∙ after_both (uses None) nothing c s ∙ after_nothing c (after (uses None) c s)

-- the index of the name after the dot doesn't matter
dotted_after : (n m : ℕ) (c : Context) (s : Stage) → after (qualident_rows (dotted n m)) c s ≡ advanced (advanced (after (uses (Some 0)) c s))
dotted_after n m c s =
    ap (λ (p : Fragment). after p c s) (effect.qualident_out (dotted n m)) ∙ after_both (uses (Some m)) (both token token) c s ∙ after_both token token c (after (uses (Some m)) c s)
    ∙ after_token c (after token c (after (uses (Some m)) c s)) ∙ ap advanced (after_token c (after (uses (Some m)) c s))

pub lone_told : (ts : List Token) (c : Context) (n : ℕ) (old new : TableBuilder) (input : Cursor) → accept_at kinds.Dot (remaining ts input) ≡ None → PerformsStep (after (uses None) c) old new →
    HasAppendedEntries ts qualident_events (λ x. after (qualident_rows x) c) old new input (qualident_after n (remaining ts input))
unfolding qualident_after
lone_told ts c n old new input e h = record {
  out = used n ++ [];
  is_read = rw e refl;
  tabulates = λ q. let b = h q in (b.0, record { tree = sole n; has_events = shown_names.qualident_out (sole n); comes = b.1 ∙ sym (lone_after n c (stage_of old)) });
}

pub dotted_told : (ts : List Token) (c : Context) (n m : ℕ) (old first mid new : TableBuilder) (input here rest : Cursor) → accept_at kinds.Dot (remaining ts input) ≡ Some (word kinds.Dot, remaining ts here) →
    identifier_at (remaining ts here) ≡ Ok (m, remaining ts rest) → PerformsStep (after (uses (Some 0)) c) old first → PerformsStep advanced first mid → PerformsStep advanced mid new →
    HasAppendedEntries ts qualident_events (λ x. after (qualident_rows x) c) old new rest (qualident_after n (remaining ts input))
unfolding qualident_after name_at
dotted_told ts c n m old first mid new input here rest e f h k l = record {
  out = used n ++ (word kinds.Dot ++ completed m);
  is_read = rw (e, f) refl;
  tabulates = λ q.
      let z = l q in
      let y = k z.0 in
      let x = h y.0 in
      (x.0, record { tree = dotted n m; has_events = shown_names.qualident_out (dotted n m); comes = z.1 ∙ ap advanced (y.1 ∙ ap advanced x.1) ∙ sym (dotted_after n m c (stage_of old)) });
}

pub dotted_failed : (ts : List Token) (n : ℕ) (e : Stop) (input here : Cursor) → accept_at kinds.Dot (remaining ts input) ≡ Some (word kinds.Dot, remaining ts here) →
    Fails ts e (identifier_at (remaining ts here)) → Fails ts e (qualident_after n (remaining ts input))
unfolding qualident_after name_at
dotted_failed ts n stops.Memory input here f h = tt
dotted_failed ts n (stops.Unexpected i) input here f h = rw (f, h) refl
dotted_failed ts n (stops.TooDeep i) input here f h = rw (f, h) refl

-- ---- label = integer | string | qualident

-- by the next token
pub label_seen : (ls : List Leaf) (o : Option (Leaf × List Leaf)) → uncons ls ≡ o → case_label_at ls ≡ label_from o
unfolding case_label_at
label_seen ls o e = ap label_from e

-- one token
pub value_told : (ts : List Token) (c : Context) (old new : TableBuilder) (rest : Cursor) (read : Read) (ms : Events) (tree : Label) →
    read ≡ Ok (ms, remaining ts rest) → label_events tree ≡ ms → label_rows tree ≡ token → PerformsStep advanced old new →
    HasAppendedEntries ts label_events (λ x. after (label_rows x) c) old new rest read
value_told ts c old new rest read ms tree e events effect h = record {
  out = ms;
  is_read = e;
  tabulates = λ q. let k = h q in (k.0, record { tree = tree; has_events = events; comes = k.1 ∙ sym (after_token c (stage_of old)) ∙ ap (λ (p : Fragment). after p c (stage_of old)) (sym effect) });
}

pub name_told : (ts : List Token) (c : Context) (old new : TableBuilder) (result : Result Cursor Stop) (read all_tokens : Read) → all_tokens ≡ read →
    AppendsEntries ts qualident_events qualident_rows c old new result read → AppendsEntries ts label_events label_rows c old new result all_tokens
name_told ts c old new result read all_tokens e t =
    rw e (made_told ts c qualident_events qualident_rows label_events label_rows (λ x. labels.Name x) old new result read (λ x. events.name_label x) (λ x. effect.name_label x) t)

-- ---- LabelRange = label [".." label]

pub range_told : (ts : List Token) (c : Context) (old mid new : TableBuilder) (input here : Cursor) (result : Result Cursor Stop) →
    AppendsEntries ts label_events label_rows c old mid (Ok here) (case_label_at (remaining ts input)) →
    AppendsEntries ts high_label_events high_label_rows c mid new result (optional (accept_at kinds.DotDot) case_label_at (remaining ts here)) →
    AppendsEntries ts label_range_events label_range_rows c old new result (label_range_at (remaining ts input))
unfolding label_range_at
range_told ts c old mid new input here result a b =
    made_told ts c (then_events label_events high_label_events) (then_rows label_rows high_label_rows) label_range_events label_range_rows (λ x. record { low = x.0; high = x.1 }) old new result _
    (λ x. events.label_range_out (record { low = x.0; high = x.1 })) (λ x. effect.label_range_out (record { low = x.0; high = x.1 }))
    (told_both ts c label_events label_rows high_label_events high_label_rows case_label_at (optional (accept_at kinds.DotDot) case_label_at) old mid new here result (remaining ts input) a b)

pub range_failed : (ts : List Token) (e : Stop) (ls : List Leaf) → Fails ts e (case_label_at ls) → Fails ts e (label_range_at ls)
unfolding label_range_at
range_failed ts e ls h = failed_then ts case_label_at (optional (accept_at kinds.DotDot) case_label_at) e ls h

-- ---- one range or more

pub ranges_told : (ts : List Token) (c : Context) (old mid new : TableBuilder) (input here : Cursor) (result : Result Cursor Stop) →
    AppendsEntries ts label_range_events label_range_rows c old mid (Ok here) (label_range_at (remaining ts input)) →
    AppendsEntries ts ranges_events ranges_rows c mid new result (many (accept_at kinds.Comma) label_range_at (remaining ts here)) →
    AppendsEntries ts labels_events labels_rows c old new result (several kinds.Comma label_range_at (remaining ts input))
unfolding several
ranges_told ts c old mid new input here result a b =
    made_told ts c (then_events label_range_events ranges_events) (then_rows label_range_rows ranges_rows) labels_events labels_rows (λ x. record { first = x.0; rest = x.1 }) old new result _
    (λ x. refl) (λ x. refl)
    (told_both ts c label_range_events label_range_rows ranges_events ranges_rows label_range_at (many (accept_at kinds.Comma) label_range_at) old mid new here result (remaining ts input) a b)
