-- Formal parameters from their tabulated parts: their event sequences and their entries.
use Rattle.std.proofs.Common.{◌≡◌, ℕ, Bool, false, List, [], ◌∷◌, ◌++◌, length, Option, Ok, refl, sym, ap, ◌∙◌}
use Rattle.std.specs.Prelude.{Result}
use Rattle.std.specs.Global.{Vec}
use Rattle.ob_scan.specs.declared.kind.Kind.TheVariants as kinds
use Rattle.ob_scan.specs.declared.token.Token.{Token}
use Rattle.ob_tree.specs.declared.name.OneOrMore.{OneOrMore}
use Rattle.ob_tree.specs.declared.name.Qualident.{Qualident}
use Rattle.ob_tree.specs.declared.declaration.ParameterSection.{ParameterSection}
use Rattle.ob_tree.specs.declared.declaration.Parameters.{Parameters}
use Rattle.ob_tree.specs.Constructs as constructs
use Rattle.ob_tree.specs.TreeEvents.{Events, construct, word, declared, each, separated}
use Rattle.ob_tree.specs.Types.{section_events, parameters_events}
use Rattle.ob_tree.proofs.TypeLayers as events
use Rattle.module_table.specs.declared.rows.DeclGroup.{DeclGroup}
use Rattle.module_table.specs.declared.rows.DeclKind.TheVariants as decl_kinds
use Rattle.module_table.specs.declared.rows.Part.TheVariants as parts
use Rattle.module_table.specs.declared.builder.Context.{Context}
use Rattle.module_table.specs.declared.builder.TableBuilder.{TableBuilder}
use Rattle.module_table.specs.TableStages.{Stage, added, after, closed, advanced, PerformsStep}
use Rattle.module_table.specs.Parts.{Fragment, token, both, with_rows, decl_group, declaring, declaring_at, one_decl_group}
use Rattle.module_table.specs.Parts.{each as pieces}
use Rattle.table_rules.specs.Statements.{qualident_rows}
use Rattle.table_rules.specs.Types.{part_row, name_part, open_arrays, parameter_rows, parameters_rows, section_inner, section_rows}
use Rattle.module_table.proofs.Steps.{after_both, after_token, after_tells}
use Rattle.table_rules.proofs.TypeLayers as effect
use Rattle.ob_grammar.specs.declared.cursor.Cursor.{Cursor}
use Rattle.ob_grammar.specs.declared.stop.Stop.{Stop}
use Rattle.ob_grammar.specs.Combinators.{Read, Reader, accept_at, expect_at, nothing, optional, seq}
use Rattle.ob_grammar.specs.ParsesAs.{Fails, remaining}
use Rattle.ob_grammar.specs.ReadTypes.{section_at, parameters_at}
use Rattle.table_reader.specs.TypeShapes.{arrays_events, formal_name_rows, formal_events, formal_rows, inner_at, inner_events, list_rows, opened_at, opened_events, opened_rows, optional_word_events, optional_word_rows}
use Rattle.table_reader.specs.Tabulating.{AppendsEntries, AppendsEntriesBy}
use Rattle.table_reader.proofs.Combine.{told_as, told_node, told_behind, failed_node, failed_then}
use Rattle.table_reader.proofs.Lists.{word_after}
use Rattle.table_reader.proofs.Following.{pair_told, word_told, declaring_told, came_then, came_as, regrouped, then_failed}

-- ---- a name as a formal type

pub name_came : (c : Context) (q : Qualident) (old mid new : TableBuilder) → PerformsStep (λ s. added (name_part q c s.number) s) old mid → PerformsStep (after (qualident_rows q) c) mid new → PerformsStep (after (formal_name_rows q) c) old new
name_came c q old mid new a b =
    came_as (λ s. after (qualident_rows q) c (added (name_part q c s.number) s)) (after (formal_name_rows q) c) old new
    (came_then (λ s. added (name_part q c s.number) s) (after (qualident_rows q) c) old mid new a b) (λ s. after_tells (name_part q) (qualident_rows q) c s)

-- ---- ARRAY OF

abbrev pub array_piece : Unit {0} → Fragment
array_piece x = with_rows (part_row parts.Array) (both token token)

pub array_after : (c : Context) (x : Unit {0}) (s : Stage) → after (array_piece x) c s ≡ advanced (advanced (added (part_row parts.Array c s.number) s))
array_after c x s =
    let t : Stage = added (part_row parts.Array c s.number) s in
    after_tells (part_row parts.Array) (both token token) c s ∙ word_after token c t ∙ after_token c (advanced t)

pub array_told : (ts : List Token) (c : Context) (old here mid new : TableBuilder) (result : Result Cursor Stop) (read : Read) →
    PerformsStep (λ s. added (part_row parts.Array c s.number) s) old here → PerformsStep advanced here mid →
    AppendsEntriesBy ts (λ (x : Unit {0}). word kinds.Of) (λ x s. advanced s) mid new result read →
    AppendsEntriesBy ts (λ (x : Unit {0}). word kinds.Of) (λ x s. advanced (advanced (added (part_row parts.Array c s.number) s))) old new result read
array_told ts c old here mid new result read a b t =
    told_behind ts (λ (x : Unit {0}). word kinds.Of) (λ x s. advanced (advanced s)) (λ s. added (part_row parts.Array c s.number) s) old here new result read a
    (told_behind ts (λ (x : Unit {0}). word kinds.Of) (λ x s. advanced s) advanced here mid new result read b t)

times_each : (xs : List (Unit {0})) → arrays_events (length xs) ≡ each (λ x. word kinds.Array ++ word kinds.Of) xs
times_each [] = refl
times_each (x ∷ xs) = ap (λ (o : Events). (word kinds.Array ++ word kinds.Of) ++ o) (times_each xs)

arrays_each : (xs : List (Unit {0})) → open_arrays (length xs) ≡ pieces array_piece xs
arrays_each [] = refl
arrays_each (x ∷ xs) = ap (λ (p : Fragment). both (with_rows (part_row parts.Array) (both token token)) p) (arrays_each xs)

pub arrays_told : (ts : List Token) (c : Context) (old new : TableBuilder) (result : Result Cursor Stop) (read : Read) →
    AppendsEntriesBy ts (λ (v : Vec (Unit {0})). each (λ x. word kinds.Array ++ word kinds.Of) v.items) (λ v. after (pieces array_piece v.items) c) old new result read →
    AppendsEntries ts arrays_events open_arrays c old new result read
arrays_told ts c old new result read t =
    told_as ts (λ (v : Vec (Unit {0})). each (λ x. word kinds.Array ++ word kinds.Of) v.items) (λ v. after (pieces array_piece v.items) c) arrays_events (λ n. after (open_arrays n) c)
    (λ v. length v.items) (λ v. times_each v.items) (λ v s. ap (λ (p : Fragment). after p c s) (arrays_each v.items)) old new result read t

-- ---- FPSection = [VAR] ident {"," ident} ":" {ARRAY OF} qualident

abbrev Inner : Type 0
Inner = Bool × (OneOrMore ℕ × (ℕ × Qualident))

abbrev inner_of : Inner → ParameterSection
inner_of x = record { variable = x.0; names = x.1.0; open_arrays = x.1.1.0; of = x.1.1.1 }

abbrev parts_of : Inner → Fragment
parts_of x = both (optional_word_rows x.0) (both (list_rows (λ n. parameter_rows) x.1.0) (both token (formal_rows x.1.1)))

inner_after : (x : Inner) (c : Context) (s : Stage) → after (section_inner (inner_of x)) c s ≡ after (parts_of x) c s
inner_after x c s =
    ap (λ (p : Fragment). after p c s) (effect.section_inner_out (inner_of x))
    ∙ after_both (optional_word_rows x.0) _ c s
    ∙ sym (regrouped _ _ (both token (formal_rows x.1.1)) c (after (optional_word_rows x.0) c s))
    ∙ sym (after_both (optional_word_rows x.0) _ c s)

pub inner_told : (ts : List Token) (c : Context) (r t : Reader) (old first mid new : TableBuilder) (input following here : Cursor) (result : Result Cursor Stop) →
    AppendsEntries ts (optional_word_events kinds.Var) optional_word_rows c old first (Ok following) (optional (accept_at kinds.Var) nothing (remaining ts input)) →
    AppendsEntries ts (separated kinds.Comma (declared false)) (list_rows (λ n. parameter_rows)) c first mid (Ok here) (r (remaining ts following)) →
    AppendsEntries ts (λ x. word kinds.Colon ++ formal_events x) (λ x. both token (formal_rows x)) c mid new result (t (remaining ts here)) →
    AppendsEntries ts inner_events section_inner c old new result (seq (optional (accept_at kinds.Var) nothing) (seq r t) (remaining ts input))
inner_told ts c r t old first mid new input following here result a b d =
    told_as ts (λ (x : Inner). optional_word_events kinds.Var x.0 ++ (separated kinds.Comma (declared false) x.1.0 ++ (word kinds.Colon ++ formal_events x.1.1))) (λ x. after (parts_of x) c)
    inner_events (λ s. after (section_inner s) c) inner_of (λ x. refl) (λ x s. inner_after x c s) old new result _
    (pair_told ts c (optional_word_events kinds.Var) optional_word_rows (λ (x : OneOrMore ℕ × (ℕ × Qualident)). separated kinds.Comma (declared false) x.0 ++ (word kinds.Colon ++ formal_events x.1)) (λ x. both (list_rows (λ n. parameter_rows) x.0) (both token (formal_rows x.1)))
    (optional (accept_at kinds.Var) nothing) (seq r t) old first new input following result a
    (pair_told ts c (separated kinds.Comma (declared false)) (list_rows (λ n. parameter_rows)) (λ x. word kinds.Colon ++ formal_events x) (λ x. both token (formal_rows x)) r t first mid new following here result b d))

pub inner_failed : (ts : List Token) (c : Context) (e : Stop) (r t : Reader) (old first : TableBuilder) (input following : Cursor) →
    AppendsEntries ts (optional_word_events kinds.Var) optional_word_rows c old first (Ok following) (optional (accept_at kinds.Var) nothing (remaining ts input)) →
    Fails ts e (r (remaining ts following)) → Fails ts e (seq (optional (accept_at kinds.Var) nothing) (seq r t) (remaining ts input))
inner_failed ts c e r t old first input following a h =
    then_failed ts (optional_word_events kinds.Var) (λ x. after (optional_word_rows x) c) e (optional (accept_at kinds.Var) nothing) (seq r t) old first input following a (failed_then ts r t e (remaining ts following) h)

pub section_told : (ts : List Token) (c around : Context) (row : DeclGroup) (at : ℕ) (old opened last new : TableBuilder) (input here : Cursor) →
    row ≡ decl_group decl_kinds.Parameter c old.number 0 → at ≡ length old.decl_groups.items → around ≡ declaring_at c old.number →
    PerformsStep (added (one_decl_group row)) old opened →
    AppendsEntries ts inner_events section_inner around opened last (Ok here)
    (inner_at (remaining ts input)) →
    PerformsStep (closed at row) last new → AppendsEntries ts section_events section_rows c old new (Ok here) (section_at (remaining ts input))
unfolding section_at
section_told ts c around row at old opened last new input here d e g a t b =
    told_as ts (λ s. construct constructs.FPSection (inner_events s)) (λ s. after (declaring decl_kinds.Parameter (section_inner s)) c) section_events (λ s. after (section_rows s) c)
    (λ s. s) (λ s. events.section_out s) (λ s z. ap (λ (p : Fragment). after p c z) (effect.section_out s)) old new (Ok here) _
    (told_node ts inner_events (λ s. after (declaring decl_kinds.Parameter (section_inner s)) c) constructs.FPSection inner_at old new (Ok here) (remaining ts input)
    (declaring_told ts decl_kinds.Parameter c inner_events section_inner row around at old opened last new here _ d e g a t b))

pub section_failed : (ts : List Token) (e : Stop) (input : Cursor) →
    Fails ts e (inner_at (remaining ts input)) →
    Fails ts e (section_at (remaining ts input))
unfolding section_at
section_failed ts e input h = failed_node ts constructs.FPSection inner_at e (remaining ts input) h

-- ---- FormalParameters = "(" [FPSection {";" FPSection}] ")" [":" qualident]

abbrev parameters_of : Option (OneOrMore ParameterSection) × Option Qualident → Parameters
parameters_of x = record { sections = x.0; result = x.1 }

pub parameters_told : (ts : List Token) (c : Context) (old mid new : TableBuilder) (input here : Cursor) (result : Result Cursor Stop) →
    AppendsEntriesBy ts (λ (_ : Unit {0}). word kinds.LeftParen) (λ x s. advanced s) old mid (Ok here) (expect_at kinds.LeftParen (remaining ts input)) →
    AppendsEntries ts opened_events opened_rows c mid new result
    (opened_at (remaining ts here)) →
    AppendsEntries ts parameters_events parameters_rows c old new result (parameters_at (remaining ts input))
unfolding parameters_at
parameters_told ts c old mid new input here result a t =
    told_as ts (λ x. word kinds.LeftParen ++ opened_events x) (λ x. after (both token (opened_rows x)) c) parameters_events (λ p. after (parameters_rows p) c)
    parameters_of (λ x. events.parameters_out (parameters_of x)) (λ x s. ap (λ (p : Fragment). after p c s) (effect.parameters_out (parameters_of x))) old new result _
    (word_told ts c kinds.LeftParen opened_events opened_rows opened_at old mid new input here result a t)

pub parameters_failed : (ts : List Token) (e : Stop) (ls : List _) → Fails ts e (expect_at kinds.LeftParen ls) → Fails ts e (parameters_at ls)
unfolding parameters_at
parameters_failed ts e ls h = failed_then ts (expect_at kinds.LeftParen) opened_at e ls h
