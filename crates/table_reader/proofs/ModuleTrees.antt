-- Modules from their tabulated parts.
use Rattle.std.proofs.Common.{◌≡◌, ℕ, List, ◌++◌, Option, Some, None, Result, Ok, Err, refl, sym, ap, ◌∙◌}
use Rattle.ob_scan.specs.declared.kind.Kind.TheVariants as kinds
use Rattle.ob_scan.specs.declared.token.Token.{Token}
use Rattle.ob_tree.specs.Constructs as constructs
use Rattle.ob_tree.specs.declared.name.OneOrMore.{OneOrMore}
use Rattle.ob_tree.specs.declared.statement.StatementSequence.{StatementSequence}
use Rattle.ob_tree.specs.declared.declaration.Declarations.{Declarations}
use Rattle.ob_tree.specs.declared.declaration.ImportItem.{ImportItem}
use Rattle.ob_tree.specs.declared.declaration.Module.{Module}
use Rattle.ob_tree.specs.declared.token.Leaf.{Leaf}
use Rattle.ob_tree.specs.TreeEvents.{Events, construct, word, named, repeated, separated}
use Rattle.ob_tree.specs.TreeEvents.{if_present as shown_there}
use Rattle.ob_tree.specs.Declaring.{declarations_events, import_events, module_events}
use Rattle.ob_tree.proofs.DeclarationLayers.{module_out}
use Rattle.module_table.specs.declared.builder.Context.{Context}
use Rattle.module_table.specs.declared.builder.TableBuilder.{TableBuilder}
use Rattle.module_table.specs.TableStages.{Stage, after, advanced, PerformsStep}
use Rattle.module_table.specs.Parts.{token, both, with_rows, if_present}
use Rattle.table_rules.specs.Declaring.{declarations_rows, import_rows, imports_rows, module_end, module_rows}
use Rattle.table_rules.specs.Expressions.{each_after}
use Rattle.table_rules.proofs.DeclarationLayers as effect
use Rattle.ob_grammar.specs.declared.cursor.Cursor.{Cursor}
use Rattle.ob_grammar.specs.declared.stop.Stop.{Stop}
use Rattle.ob_grammar.specs.declared.stop.Stop.TheVariants as stops
use Rattle.ob_grammar.specs.Lookahead.{uncons}
use Rattle.ob_grammar.specs.Combinators.{Unexpected, Read, Reader, ◌>>=◌, seq, several, prefixed, accept_at, expect_at, identifier_at, name_at}
use Rattle.ob_grammar.specs.ParsesAs.{Fails, remaining}
use Rattle.ob_grammar.specs.ReadStatements.{block_at}
use Rattle.ob_grammar.specs.ReadModules.{import_item_at, imports_at, with_semicolon, declarations_at, body_with, module_after_name, name_then, module_at, nothing_left, read_all}
use Rattle.table_reader.specs.DeclarationShapes.{body_events, body_rows, ModuleParts, module_parts_events, parts_step, ModuleEnd, module_end_events, end_step, ModuleRest, imports_events, module_rest_events, module_rest_step, ended_events, ended_rows}
use Rattle.table_reader.specs.TypeShapes.{list_rows}
use Rattle.table_reader.specs.Tabulating.{HasAppendedEntries, AppendsEntries, AppendsEntriesBy, HasAppendedModuleEntries}
use Rattle.table_reader.proofs.Combine.{told_as, told_node, told_then, told_prefixed, told_behind, failed_node, failed_then}
use Rattle.table_reader.proofs.Following.{regrouped, word_there_told}
use Rattle.table_reader.proofs.Lists.{word_after}
use Rattle.table_reader.proofs.SectionTrees.{failed_behind}

pub end_told : (ts : List Token) (name : ℕ) (c : Context) (old first second new : TableBuilder) (input a b : Cursor) (result : Result Cursor Stop) →
    AppendsEntriesBy ts (λ (u : Unit {0}). word kinds.End) (λ u s. advanced s) old first (Ok a) (expect_at kinds.End (remaining ts input)) →
    AppendsEntriesBy ts (repeated name) (λ x s. after (with_rows module_end token) c s) first second (Ok b) (name_at (repeated name) (remaining ts a)) →
    AppendsEntriesBy ts (λ (u : Unit {0}). word kinds.Dot) (λ u s. advanced s) second new result (expect_at kinds.Dot (remaining ts b)) →
    AppendsEntriesBy ts (module_end_events name) (end_step c) old new result (seq (expect_at kinds.End) (seq (name_at (repeated name)) (expect_at kinds.Dot)) (remaining ts input))
end_told ts name c old first second new input a b result t u v =
    told_then ts (λ (u : Unit {0}). word kinds.End) (λ u s. advanced s) (λ (x : ℕ × Unit {0}). repeated name x.0 ++ word kinds.Dot) (λ x s. advanced (after (with_rows module_end token) c s))
    (expect_at kinds.End) (seq (name_at (repeated name)) (expect_at kinds.Dot)) old first new a result (remaining ts input) t
    (told_then ts (repeated name) (λ x s. after (with_rows module_end token) c s) (λ (u : Unit {0}). word kinds.Dot) (λ u s. advanced s)
    (name_at (repeated name)) (expect_at kinds.Dot) first second new b result (remaining ts a) u v)

pub parts_told : (ts : List Token) (name d : ℕ) (c : Context) (old first second new : TableBuilder) (input a b : Cursor) (result : Result Cursor Stop) →
    AppendsEntries ts (λ x. declarations_events x) (λ x. declarations_rows x) c old first (Ok a) (declarations_at d (remaining ts input)) →
    AppendsEntries ts body_events body_rows c first second (Ok b) (body_with (block_at d) (remaining ts a)) →
    AppendsEntriesBy ts (module_end_events name) (end_step c) second new result (seq (expect_at kinds.End) (seq (name_at (repeated name)) (expect_at kinds.Dot)) (remaining ts b)) →
    AppendsEntriesBy ts (module_parts_events name) (parts_step c) old new result
    (seq (declarations_at d) (seq (body_with (block_at d)) (seq (expect_at kinds.End) (seq (name_at (repeated name)) (expect_at kinds.Dot)))) (remaining ts input))
parts_told ts name d c old first second new input a b result t u v =
    told_then ts (λ (x : Declarations). declarations_events x) (λ x. after (declarations_rows x) c)
    (λ (x : Option StatementSequence × ModuleEnd). body_events x.0 ++ module_end_events name x.1) (λ x s. end_step c x.1 (after (body_rows x.0) c s))
    (declarations_at d) (seq (body_with (block_at d)) (seq (expect_at kinds.End) (seq (name_at (repeated name)) (expect_at kinds.Dot)))) old first new a result (remaining ts input) t
    (told_then ts body_events (λ x. after (body_rows x) c) (module_end_events name) (end_step c)
    (body_with (block_at d)) (seq (expect_at kinds.End) (seq (name_at (repeated name)) (expect_at kinds.Dot))) first second new b result (remaining ts a) u v)

-- ---- imports

imports_after : (o : Option (OneOrMore ImportItem)) (c : Context) (s : Stage) →
    after (if_present imports_rows o) c s ≡ after (if_present (λ l. both token (ended_rows (list_rows import_rows) l)) o) c s
unfolding imports_rows
imports_after None c s = refl
imports_after (Some l) c s =
    word_after _ c s ∙ sym (regrouped (import_rows l.first) (each_after import_rows l.rest.items) token c (advanced s)) ∙ sym (word_after (ended_rows (list_rows import_rows) l) c s)

pub imports_told : (ts : List Token) (c : Context) (old mid new : TableBuilder) (input rest : Cursor) (result : Result Cursor Stop) →
    accept_at kinds.Import (remaining ts input) ≡ Some (word kinds.Import, remaining ts rest) → PerformsStep advanced old mid →
    AppendsEntries ts (ended_events (separated kinds.Comma import_events)) (ended_rows (list_rows import_rows)) c mid new result (with_semicolon (several kinds.Comma import_item_at) (remaining ts rest)) →
    AppendsEntries ts imports_events (if_present imports_rows) c old new result (imports_at (remaining ts input))
unfolding imports_at
imports_told ts c old mid new input rest result found h t =
    let f : OneOrMore ImportItem → Events = ended_events (separated kinds.Comma import_events) in
    told_as ts (shown_there (λ l. word kinds.Import ++ f l)) (λ o. after (if_present (λ l. both token (ended_rows (list_rows import_rows) l)) o) c) imports_events (λ o. after (if_present imports_rows o) c) (λ o. o) (λ o. refl)
    (λ o s. imports_after o c s) old new result _
    (word_there_told ts c kinds.Import f (ended_rows (list_rows import_rows)) (with_semicolon (several kinds.Comma import_item_at)) old mid new input rest result found h t)

-- ---- after the name

abbrev module_made : ℕ → ModuleRest → Module
module_made n x = record { name = n; imports = x.1.0; declarations = x.1.1.0; body = x.1.1.1.0; end_name = x.1.1.1.1.1.0 }

pub behind_name_told : (ts : List Token) (n d : ℕ) (c : Context) (old first second new : TableBuilder) (input a b : Cursor) (result : Result Cursor Stop) →
    AppendsEntriesBy ts (λ (u : Unit {0}). word kinds.Semicolon) (λ u s. advanced s) old first (Ok a) (expect_at kinds.Semicolon (remaining ts input)) →
    AppendsEntries ts imports_events (if_present imports_rows) c first second (Ok b) (imports_at (remaining ts a)) →
    AppendsEntriesBy ts (module_parts_events n) (parts_step c) second new result
    (seq (declarations_at d) (seq (body_with (block_at d)) (seq (expect_at kinds.End) (seq (name_at (repeated n)) (expect_at kinds.Dot)))) (remaining ts b)) →
    AppendsEntriesBy ts (module_rest_events n) (module_rest_step c) old new result (module_after_name d n (remaining ts input))
unfolding module_after_name
behind_name_told ts n d c old first second new input a b result t u v =
    let inner : Reader = seq (declarations_at d) (seq (body_with (block_at d)) (seq (expect_at kinds.End) (seq (name_at (repeated n)) (expect_at kinds.Dot)))) in
    told_then ts (λ (u : Unit {0}). word kinds.Semicolon) (λ u s. advanced s)
    (λ (x : Option (OneOrMore ImportItem) × ModuleParts). imports_events x.0 ++ module_parts_events n x.1) (λ x s. parts_step c x.1 (after (if_present imports_rows x.0) c s))
    (expect_at kinds.Semicolon) (seq imports_at inner) old first new a result (remaining ts input) t
    (told_then ts imports_events (λ x. after (if_present imports_rows x) c) (module_parts_events n) (parts_step c) imports_at inner first second new b result (remaining ts a) u v)

-- ---- modules

module_step : (m : Module) (c : Context) (s : Stage) → after (module_rows m) c s ≡
    advanced (after (with_rows module_end token) c (advanced (after (body_rows m.body) c (after (declarations_rows m.declarations) c (after (if_present imports_rows m.imports) c (advanced (advanced (advanced s))))))))
module_step m c s = effect.module_after m c s

pub module_told : (ts : List Token) (n d : ℕ) (c : Context) (old first second new : TableBuilder) (input here rest : Cursor) (result : Result Cursor Stop) →
    AppendsEntriesBy ts (λ (u : Unit {0}). word kinds.Module) (λ u s. advanced s) old first (Ok here) (expect_at kinds.Module (remaining ts input)) →
    identifier_at (remaining ts here) ≡ Ok (n, remaining ts rest) → PerformsStep advanced first second →
    AppendsEntriesBy ts (module_rest_events n) (module_rest_step c) second new result (module_after_name d n (remaining ts rest)) →
    AppendsEntries ts module_events module_rows c old new result (module_at d (remaining ts input))
unfolding module_at
module_told ts n d c old first second new input here rest result t e h u =
    told_as ts (λ (x : Unit {0} × ModuleRest). construct constructs.Module (word kinds.Module ++ (named n ++ module_rest_events n x.1))) (λ x s. module_rest_step c x.1 (advanced (advanced s)))
    module_events (λ m. after (module_rows m) c) (λ x. module_made n x.1) (λ x. module_out (module_made n x.1)) (λ x s. module_step (module_made n x.1) c s) old new result _
    (told_node ts (λ (x : Unit {0} × ModuleRest). word kinds.Module ++ (named n ++ module_rest_events n x.1)) (λ x s. module_rest_step c x.1 (advanced (advanced s)))
    constructs.Module (seq (expect_at kinds.Module) (name_then named (module_after_name d))) old new result (remaining ts input)
    (told_then ts (λ (u : Unit {0}). word kinds.Module) (λ u s. advanced s) (λ (x : ModuleRest). named n ++ module_rest_events n x) (λ x s. module_rest_step c x (advanced s))
    (expect_at kinds.Module) (name_then named (module_after_name d)) old first new here result (remaining ts input) t
    (rw e (told_prefixed ts (module_rest_events n) (λ x s. module_rest_step c x (advanced s)) (named n) (module_after_name d n) first new result (remaining ts rest)
    (told_behind ts (module_rest_events n) (module_rest_step c) advanced first second new result (module_after_name d n (remaining ts rest)) h u)))))

---- all tokens

left_none : (o : Events) (left : Option (Leaf × List Leaf)) → left ≡ None → nothing_left o left ≡ Ok o
left_none o left e = rw e refl

pub whole_told : {T : Type 0} (ts : List Token) (f : T → Events) (p : T → Stage → Stage) (d : ℕ) (old new : TableBuilder) (rest : Cursor) (ls : List Leaf) → HasAppendedEntries ts f p old new rest (module_at d ls) → uncons (remaining ts rest) ≡ None → HasAppendedModuleEntries f p old new (read_all d ls)
unfolding read_all
whole_told ts f p d old new rest ls t e = record {
  out = t.out;
  is_read = rw t.is_read (left_none t.out (uncons (remaining ts rest)) e);
  tabulates = t.tabulates;
}

pub whole_failed : (ts : List Token) (d : ℕ) (e : Stop) (ls : List Leaf) → Fails ts e (module_at d ls) → Fails ts e (read_all d ls)
unfolding read_all
whole_failed ts d stops.Memory ls f = tt
whole_failed ts d (stops.Unexpected i) ls f = ap (λ (z : Read). z >>= λ a. nothing_left a.0 (uncons a.1)) f
whole_failed ts d (stops.TooDeep i) ls f = ap (λ (z : Read). z >>= λ a. nothing_left a.0 (uncons a.1)) f

-- a token is left
left_some : (ts : List Token) (rest : Cursor) (o : Events) (x : Leaf × List Leaf) (left : Option (Leaf × List Leaf)) → left ≡ Some x → nothing_left o left ≡ Err (Unexpected left)
left_some ts rest o x left e = rw e refl

pub whole_left : {T : Type 0} (ts : List Token) (f : T → Events) (p : T → Stage → Stage) (d : ℕ) (old new : TableBuilder) (rest : Cursor) (ls : List Leaf) (x : Leaf × List Leaf) → HasAppendedEntries ts f p old new rest (module_at d ls) → uncons (remaining ts rest) ≡ Some x →
    Fails ts (stops.Unexpected rest) (read_all d ls)
unfolding read_all
whole_left ts f p d old new rest ls x t e = rw t.is_read (left_some ts rest t.out x (uncons (remaining ts rest)) e)

-- ---- parts that fail

pub semicolon_failed : (ts : List Token) (d n : ℕ) (e : Stop) (ls : List Leaf) → Fails ts e (expect_at kinds.Semicolon ls) → Fails ts e (module_after_name d n ls)
unfolding module_after_name
semicolon_failed ts d n e ls h = failed_then ts (expect_at kinds.Semicolon) _ e ls h

pub imports_failed : (ts : List Token) (d n : ℕ) (old first : TableBuilder) (input a : Cursor) (e : Stop) →
    AppendsEntriesBy ts (λ (u : Unit {0}). word kinds.Semicolon) (λ u s. advanced s) old first (Ok a) (expect_at kinds.Semicolon (remaining ts input)) → Fails ts e (imports_at (remaining ts a)) → Fails ts e (module_after_name d n (remaining ts input))
unfolding module_after_name
imports_failed ts d n old first input a e t h =
    let inner : Reader = seq (declarations_at d) (seq (body_with (block_at d)) (seq (expect_at kinds.End) (seq (name_at (repeated n)) (expect_at kinds.Dot)))) in
    failed_behind ts (λ (u : Unit {0}). word kinds.Semicolon) (λ u s. advanced s) (expect_at kinds.Semicolon) (seq imports_at inner) old first a e (remaining ts input) t (failed_then ts imports_at inner e (remaining ts a) h)

pub word_failed : (ts : List Token) (d : ℕ) (e : Stop) (ls : List Leaf) → Fails ts e (expect_at kinds.Module ls) → Fails ts e (module_at d ls)
unfolding module_at
word_failed ts d e ls h = failed_node ts constructs.Module (seq (expect_at kinds.Module) (name_then named (module_after_name d))) e ls (failed_then ts (expect_at kinds.Module) (name_then named (module_after_name d)) e ls h)

name_then_failed : (ts : List Token) (r : ℕ → Reader) (e : Stop) (ls : List Leaf) → Fails ts e (identifier_at ls) → Fails ts e (name_then named r ls)
name_then_failed ts r stops.Memory ls f = tt
name_then_failed ts r (stops.Unexpected i) ls f = ap (λ z. z >>= λ a. prefixed (named a.0) (r a.0) a.1) f
name_then_failed ts r (stops.TooDeep i) ls f = ap (λ z. z >>= λ a. prefixed (named a.0) (r a.0) a.1) f

pub own_name_failed : (ts : List Token) (d : ℕ) (old first : TableBuilder) (input a : Cursor) (e : Stop) →
    AppendsEntriesBy ts (λ (u : Unit {0}). word kinds.Module) (λ u s. advanced s) old first (Ok a) (expect_at kinds.Module (remaining ts input)) → Fails ts e (identifier_at (remaining ts a)) → Fails ts e (module_at d (remaining ts input))
unfolding module_at
own_name_failed ts d old first input a e t h =
    failed_node ts constructs.Module (seq (expect_at kinds.Module) (name_then named (module_after_name d))) e (remaining ts input)
    (failed_behind ts (λ (u : Unit {0}). word kinds.Module) (λ u s. advanced s) (expect_at kinds.Module) (name_then named (module_after_name d)) old first a e (remaining ts input) t (name_then_failed ts (module_after_name d) e (remaining ts a) h))
