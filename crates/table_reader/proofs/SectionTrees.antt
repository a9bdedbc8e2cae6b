-- Declarations from their tabulated parts, section by section.
use Rattle.std.proofs.Common.{◌≡◌, ℕ, List, ◌++◌, Option, Some, None, Result, Ok, Err, length, refl, ap, ◌∙◌}
use Rattle.std.specs.Global.{Vec}
use Rattle.ob_scan.specs.declared.kind.Kind.{Kind}
use Rattle.ob_scan.specs.declared.kind.Kind.TheVariants as kinds
use Rattle.ob_scan.specs.declared.token.Token.{Token}
use Rattle.ob_tree.specs.Constructs.{Construct}
use Rattle.ob_tree.specs.declared.name.Identdef.{Identdef}
use Rattle.ob_tree.specs.TreeEvents.{Events, construct, word, each}
use Rattle.ob_tree.specs.TreeEvents.{if_present as shown_there}
use Rattle.ob_tree.specs.Names.{identdef_events}
use Rattle.ob_tree.specs.Declaring.{part as shown_part}
use Rattle.module_table.specs.declared.rows.DeclKind.{DeclKind}
use Rattle.module_table.specs.declared.rows.DeclKind.TheVariants as decl_kinds
use Rattle.module_table.specs.declared.rows.DeclGroup.{DeclGroup}
use Rattle.module_table.specs.declared.builder.Context.{Context}
use Rattle.module_table.specs.declared.builder.TableBuilder.{TableBuilder}
use Rattle.module_table.specs.TableStages.{Stage, stage_of, after, advanced, added, closed, PerformsStep}
use Rattle.module_table.specs.Parts.{Fragment, token, both, within, if_present, decl_group, declaring, declaring_at, in_block, opens_block, one_block, one_decl_group}
use Rattle.module_table.specs.Parts.{each as pieces}
use Rattle.table_rules.specs.Types.{identdef_rows}
use Rattle.table_rules.specs.Declaring.{part}
use Rattle.module_table.proofs.Steps.{after_both, after_token, after_declaring, after_tells, after_within}
use Rattle.ob_grammar.specs.declared.cursor.Cursor.{Cursor}
use Rattle.ob_grammar.specs.declared.stop.Stop.{Stop}
use Rattle.ob_grammar.specs.Combinators.{Read, Reader, seq, node, accept_at, expect_at, many, begins}
use Rattle.ob_grammar.specs.ParsesAs.{Fails, remaining}
use Rattle.ob_grammar.specs.ReadNames.{identdef_at}
use Rattle.ob_grammar.specs.ReadModules.{is_identifier, with_semicolon, section_with}
use Rattle.table_reader.specs.DeclarationShapes.{ended_events, ended_rows}
use Rattle.table_reader.specs.Tabulating.{AppendsEntries, AppendsEntriesBy}
use Rattle.table_reader.proofs.Combine.{told_at, told_as, told_node, told_then, told_behind, told_before, failed_node, failed_then}
use Rattle.table_reader.proofs.Following.{absent_told, declaring_told, word_there_told}
use Rattle.table_reader.proofs.Lists.{word_after}

-- if the second part fails, the whole does
pub failed_behind : {A : Type 0} (ts : List Token) (f : A → Events) (p : A → Stage → Stage) (r s : Reader) (old mid : TableBuilder) (here : Cursor) (e : Stop) (ls : List _) →
    AppendsEntriesBy ts f p old mid (Ok here) (r ls) → Fails ts e (s (remaining ts here)) → Fails ts e (seq r s ls)
failed_behind ts f p r s old mid here e ls t h = told_then ts f p f p r s old mid mid here (Err e) ls t h

---- declaration groups

block_here : (p : Fragment) (c around : Context) (row : DeclGroup) (at : ℕ) (old : TableBuilder) → row ≡ decl_group decl_kinds.Procedure c old.number 0 → around ≡ in_block (declaring_at c old.number) old.number → at ≡ length old.decl_groups.items →
    after (declaring decl_kinds.Procedure (opens_block p)) c (stage_of old) ≡ closed at row (after p around (added (one_block (record { first = old.number; outer = c.block })) (added (one_decl_group row) (stage_of old))))
unfolding stage_of added
block_here p c around row at old e g h =
    rw (e, g, h) (after_declaring decl_kinds.Procedure (opens_block p) c (stage_of old)
    ∙ ap (closed (length old.decl_groups.items) (decl_group decl_kinds.Procedure c old.number 0))
    (after_tells (λ d k. one_block (record { first = k; outer = d.block })) (within in_block p) (declaring_at c old.number) (added (one_decl_group (decl_group decl_kinds.Procedure c old.number 0)) (stage_of old))
    ∙ after_within in_block p (declaring_at c old.number) (added (one_block (record { first = old.number; outer = c.block })) (added (one_decl_group (decl_group decl_kinds.Procedure c old.number 0)) (stage_of old)))))

pub block_told : {A : Type 0} (ts : List Token) (f : A → Events) (p : A → Fragment) (c around : Context) (row : DeclGroup) (at : ℕ) (old opened blocked last new : TableBuilder) (rest : Cursor) (read : Read) →
    row ≡ decl_group decl_kinds.Procedure c old.number 0 → around ≡ in_block (declaring_at c old.number) old.number → at ≡ length old.decl_groups.items →
    PerformsStep (added (one_decl_group row)) old opened → PerformsStep (added (one_block (record { first = old.number; outer = c.block }))) opened blocked → AppendsEntries ts f p around blocked last (Ok rest) read → PerformsStep (closed at row) last new →
    AppendsEntries ts f (λ x. declaring decl_kinds.Procedure (opens_block (p x))) c old new (Ok rest) read
block_told ts f p c around row at old opened blocked last new rest read e g h opens adds t closes =
    told_at ts f (λ x s. closed at row (after (p x) around (added (one_block (record { first = old.number; outer = c.block })) (added (one_decl_group row) s)))) f (λ x. after (declaring decl_kinds.Procedure (opens_block (p x))) c) (λ x. x) (λ x. refl)
    old new (Ok rest) read (λ x. block_here (p x) c around row at old e g h)
    (told_before ts f (λ x s. after (p x) around (added (one_block (record { first = old.number; outer = c.block })) (added (one_decl_group row) s))) (closed at row) old last new rest read
    (told_behind ts f (λ x s. after (p x) around (added (one_block (record { first = old.number; outer = c.block })) s)) (added (one_decl_group row)) old opened last (Ok rest) read opens
    (told_behind ts f (λ x. after (p x) around) (added (one_block (record { first = old.number; outer = c.block }))) opened blocked last (Ok rest) read adds t)) closes)

-- ---- a declaration and its semicolon

pub with_semicolon_told : {A : Type 0} (ts : List Token) (f : A → Events) (p : A → Fragment) (c : Context) (r : Reader) (old mid new : TableBuilder) (input here : Cursor) (result : Result Cursor Stop) →
    AppendsEntries ts f p c old mid (Ok here) (r (remaining ts input)) →
    AppendsEntriesBy ts (λ (u : Unit {0}). word kinds.Semicolon) (λ u s. advanced s) mid new result (expect_at kinds.Semicolon (remaining ts here)) →
    AppendsEntries ts (ended_events f) (ended_rows p) c old new result (with_semicolon r (remaining ts input))
with_semicolon_told ts f p c r old mid new input here result a b =
    told_as ts (λ (x : _ × Unit {0}). f x.0 ++ word kinds.Semicolon) (λ x s. advanced (after (p x.0) c s)) (ended_events f) (λ x. after (ended_rows p x) c) (λ x. x.0) (λ x. refl)
    (λ x s. after_both (p x.0) token c s ∙ after_token c (after (p x.0) c s)) old new result _
    (told_then ts f (λ x. after (p x) c) (λ (u : Unit {0}). word kinds.Semicolon) (λ u s. advanced s) r (expect_at kinds.Semicolon) old mid new here result (remaining ts input) a b)

-- a declaration with its entry
pub ended_told : {X : Type 0} (ts : List Token) (f : X → Events) (p : X → Fragment) (k : Construct) (decl_kind : DeclKind) (r : Reader) (c around : Context) (row : DeclGroup) (at : ℕ) (old opened last mid new : TableBuilder) (input here : Cursor) (result : Result Cursor Stop) →
    row ≡ decl_group decl_kind c old.number 0 → around ≡ declaring_at c old.number → at ≡ length old.decl_groups.items →
    PerformsStep (added (one_decl_group row)) old opened → AppendsEntries ts f p around opened last (Ok here) (r (remaining ts input)) → PerformsStep (closed at row) last mid →
    AppendsEntriesBy ts (λ (u : Unit {0}). word kinds.Semicolon) (λ u s. advanced s) mid new result (expect_at kinds.Semicolon (remaining ts here)) →
    AppendsEntries ts (ended_events (λ x. construct k (f x))) (ended_rows (λ x. declaring decl_kind (p x))) c old new result (with_semicolon (node k r) (remaining ts input))
ended_told ts f p k decl_kind r c around row at old opened last mid new input here result e l h opens t closes w =
    with_semicolon_told ts (λ x. construct k (f x)) (λ x. declaring decl_kind (p x)) c (node k r) old mid new input here result
    (told_node ts f (λ x. after (declaring decl_kind (p x)) c) k r old mid (Ok here) (remaining ts input)
    (declaring_told ts decl_kind c f p row around at old opened last mid here (r (remaining ts input)) e h l opens t closes)) w

pub ended_failed : (ts : List Token) (k : Construct) (r : Reader) (e : Stop) (ls : List _) → Fails ts e (r ls) → Fails ts e (with_semicolon (node k r) ls)
ended_failed ts k r e ls h = failed_then ts (node k r) (expect_at kinds.Semicolon) e ls (failed_node ts k r e ls h)

-- a declaration of a name, an equals sign, and a right side
pub equal_told : {X Y : Type 0} (ts : List Token) (f : X → Events) (p : X → Fragment) (r : Reader) (g : Y → Events) (q : Y → Fragment) (make : Identdef → X → Y) →
    ((i : Identdef) (x : X) → g (make i x) ≡ identdef_events i ++ (word kinds.Equals ++ f x)) → ((i : Identdef) (x : X) → q (make i x) ≡ both (identdef_rows i) (both token (p x))) →
    (c : Context) (old mid last new : TableBuilder) (input here rest : Cursor) (result : Result Cursor Stop) →
    AppendsEntries ts identdef_events identdef_rows c old mid (Ok here) (identdef_at (remaining ts input)) →
    AppendsEntriesBy ts (λ (u : Unit {0}). word kinds.Equals) (λ u s. advanced s) mid last (Ok rest) (expect_at kinds.Equals (remaining ts here)) →
    AppendsEntries ts f p c last new result (r (remaining ts rest)) →
    AppendsEntries ts g q c old new result (seq identdef_at (seq (expect_at kinds.Equals) r) (remaining ts input))
equal_told {X} ts f p r g q make events made c old mid last new input here rest result a b t =
    told_as ts (λ (x : Identdef × (Unit {0} × X)). identdef_events x.0 ++ (word kinds.Equals ++ f x.1.1)) (λ x s. after (p x.1.1) c (advanced (after (identdef_rows x.0) c s)))
    g (λ y. after (q y) c) (λ x. make x.0 x.1.1) (λ x. events x.0 x.1.1)
    (λ x s. ap (λ (z : Fragment). after z c s) (made x.0 x.1.1) ∙ after_both (identdef_rows x.0) (both token (p x.1.1)) c s ∙ word_after (p x.1.1) c (after (identdef_rows x.0) c s)) old new result _
    (told_then ts identdef_events (λ i. after (identdef_rows i) c) (λ (y : Unit {0} × X). word kinds.Equals ++ f y.1) (λ y s. after (p y.1) c (advanced s)) identdef_at (seq (expect_at kinds.Equals) r) old mid new here result (remaining ts input) a
    (told_then ts (λ (u : Unit {0}). word kinds.Equals) (λ u s. advanced s) f (λ x. after (p x) c) (expect_at kinds.Equals) r mid last new rest result (remaining ts here) b t))

---- an optional keyword and the declarations after it

pub section_absent : {X : Type 0} (ts : List Token) (f : X → Events) (p : X → Fragment) (k : Kind) (r : Reader) (c : Context) (d : TableBuilder) (input : Cursor) → accept_at k (remaining ts input) ≡ None →
    AppendsEntries {T = Option (Vec X)} ts (shown_there (λ v. shown_part k f v.items)) (if_present (λ v. part p v.items)) c d d (Ok input) (section_with k r (remaining ts input))
unfolding section_with
section_absent {X} ts f p k r c d input none = absent_told {A = Vec X} ts c (λ v. shown_part k f v.items) (λ v. part p v.items) (accept_at k) (many (begins is_identifier) (with_semicolon r)) d input none

pub section_told : {X : Type 0} (ts : List Token) (f : X → Events) (p : X → Fragment) (k : Kind) (r : Reader) (c : Context) (old mid new : TableBuilder) (input rest : Cursor) (result : Result Cursor Stop) →
    accept_at k (remaining ts input) ≡ Some (word k, remaining ts rest) → PerformsStep advanced old mid →
    AppendsEntries {T = Vec X} ts (λ v. each (ended_events f) v.items) (λ v. pieces (ended_rows p) v.items) c mid new result (many (begins is_identifier) (with_semicolon r) (remaining ts rest)) →
    AppendsEntries {T = Option (Vec X)} ts (shown_there (λ v. shown_part k f v.items)) (if_present (λ v. part p v.items)) c old new result (section_with k r (remaining ts input))
unfolding section_with
section_told {X} ts f p k r c old mid new input rest result found h t =
    word_there_told {A = Vec X} ts c k (λ v. each (ended_events f) v.items) (λ v. pieces (ended_rows p) v.items) (many (begins is_identifier) (with_semicolon r)) old mid new input rest result found h t
