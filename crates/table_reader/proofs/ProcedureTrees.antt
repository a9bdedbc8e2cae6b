-- Procedures from their tabulated parts, and lists of procedures.
use Rattle.std.proofs.Common.{◌≡◌, ℕ, zero, suc, ◌-◌, Bool, List, ◌++◌, Option, Some, None, Result, Ok, length, refl, sym, ap, ◌∙◌, arith}
use Rattle.std.specs.Global.{Box, Vec, Global}
use Rattle.ob_scan.specs.declared.kind.Kind.TheVariants as kinds
use Rattle.ob_scan.specs.declared.token.Token.{Token}
use Rattle.ob_tree.specs.Constructs as constructs
use Rattle.ob_tree.specs.declared.name.Identdef.{Identdef}
use Rattle.ob_tree.specs.declared.expression.Expr.{Expr}
use Rattle.ob_tree.specs.declared.declaration.ConstDecl.{ConstDecl}
use Rattle.ob_tree.specs.declared.declaration.TypeDecl.{TypeDecl}
use Rattle.ob_tree.specs.declared.declaration.VarDecl.{VarDecl}
use Rattle.ob_tree.specs.declared.declaration.Parameters.{Parameters}
use Rattle.ob_tree.specs.declared.declaration.Declarations.{Declarations, Declarations-F, roll-Declarations, out-roll-Declarations}
use Rattle.ob_tree.specs.declared.declaration.ProcDecl.{ProcDecl, ProcDecl-F, roll-ProcDecl, out-roll-ProcDecl}
use Rattle.ob_tree.specs.TreeEvents.{Events, construct, word, repeated, if_true}
use Rattle.ob_tree.specs.TreeEvents.{if_present as shown_there}
use Rattle.ob_tree.specs.Names.{identdef_events}
use Rattle.ob_tree.specs.Expressions.{expr_events}
use Rattle.ob_tree.specs.Statements.{block_events}
use Rattle.ob_tree.specs.Types.{parameters_events}
use Rattle.ob_tree.specs.Declaring.{const_events, type_decl_events, variable_events, declarations_events, procedure_events}
use Rattle.ob_tree.specs.Declaring.{part as shown_part}
use Rattle.ob_tree.proofs.DeclarationLayers.{declarations_made, procedure_out}
use Rattle.module_table.specs.declared.rows.DeclKind.TheVariants as decl_kinds
use Rattle.module_table.specs.declared.rows.DeclGroup.{DeclGroup}
use Rattle.module_table.specs.declared.builder.Context.{Context}
use Rattle.module_table.specs.declared.builder.TableBuilder.{TableBuilder}
use Rattle.module_table.specs.TableStages.{Stage, after, advanced, added, closed, PerformsStep}
use Rattle.module_table.specs.Parts.{Fragment, token, both, with_rows, if_present, decl_group, declaring, declaring_at, in_block, opens_block, one_block, one_decl_group}
use Rattle.module_table.specs.Parts.{each as pieces}
use Rattle.table_rules.specs.Expressions.{expr_rows}
use Rattle.table_rules.specs.Statements.{block_rows}
use Rattle.table_rules.specs.Types.{identdef_rows, parameters_rows}
use Rattle.table_rules.specs.Declaring.{const_rows, type_decl_rows, variable_rows, part, procedure_end, declarations_rows, procedure_rows}
use Rattle.module_table.proofs.Steps.{after_both, after_token}
use Rattle.table_rules.proofs.DeclarationLayers as effect
use Rattle.ob_grammar.specs.declared.cursor.Cursor.{Cursor}
use Rattle.ob_grammar.specs.declared.stop.Stop.{Stop}
use Rattle.ob_grammar.specs.Combinators.{Reader, seq, optional, nothing, accept_at, expect_at, identifier_at, name_at, after_name}
use Rattle.ob_grammar.specs.ParsesAs.{Fails, remaining}
use Rattle.ob_grammar.specs.ReadExpressions.{expr_at}
use Rattle.ob_grammar.specs.ReadNames.{identdef_after}
use Rattle.ob_grammar.specs.ReadStatements.{block_at}
use Rattle.ob_grammar.specs.ReadTypes.{optional_parameters_at}
use Rattle.ob_grammar.specs.ReadModules.{const_with, type_decl_with, variable_with, section_with, procedures_with, declarations_with, declarations_at, body_with, procedure_named, procedure_with, procedure_at}
use Rattle.ob_grammar.proofs.Stars.{star_read}
use Rattle.table_reader.specs.DeclarationShapes.{ended_rows, procedures_events, body_events, body_rows, returned_events, returned_rows, procedure_rest_events, procedure_rest_rows, ending_events, ending_step, Block, procedure_block_events, block_step}
use Rattle.table_reader.specs.Tabulating.{HasAppendedEntries, AppendsEntries, AppendsEntriesBy}
use Rattle.table_reader.proofs.Combine.{told_as, told_node, told_then, failed_node, failed_then, told_walked}
use Rattle.table_reader.proofs.Lists.{word_after}
use Rattle.table_reader.proofs.Made.{boxed}
use Rattle.table_reader.proofs.SectionTrees.{block_told, failed_behind}

---- an optional part, in a box

abbrev pub box_there : {X : Type 0} → Global → Option X → Option (Box X)
box_there g None = None
box_there g (Some x) = Some (boxed g x)

shown_boxed : {X : Type 0} (g : Global) (f : X → Events) (o : Option X) → shown_there (λ (b : Box X). f b.value) (box_there g o) ≡ shown_there f o
shown_boxed g f None = refl
shown_boxed g f (Some x) = refl

piece_boxed : {X : Type 0} (g : Global) (p : X → Fragment) (o : Option X) → if_present (λ (b : Box X). p b.value) (box_there g o) ≡ if_present p o
piece_boxed g p None = refl
piece_boxed g p (Some x) = refl

---- the part after the declarations, and the part after the heading

pub ending_told : (ts : List Token) (name d : ℕ) (c : Context) (old first second third new : TableBuilder) (input a b e : Cursor) (result : Result Cursor Stop) →
    AppendsEntries ts body_events body_rows c old first (Ok a) (body_with (block_at d) (remaining ts input)) →
    AppendsEntries ts returned_events returned_rows c first second (Ok b) (optional (accept_at kinds.Return) (expr_at d) (remaining ts a)) →
    AppendsEntriesBy ts (λ (u : Unit {0}). word kinds.End) (λ u s. advanced s) second third (Ok e) (expect_at kinds.End (remaining ts b)) →
    AppendsEntriesBy ts (repeated name) (λ x s. after (with_rows procedure_end token) c s) third new result (name_at (repeated name) (remaining ts e)) →
    AppendsEntriesBy ts (ending_events name) (ending_step c) old new result
    (seq (body_with (block_at d)) (seq (optional (accept_at kinds.Return) (expr_at d)) (seq (expect_at kinds.End) (name_at (repeated name)))) (remaining ts input))
ending_told ts name d c old first second third new input a b e result t u v w =
    told_then ts body_events (λ x. after (body_rows x) c)
    (λ (x : Option Expr × (Unit {0} × ℕ)). returned_events x.0 ++ (word kinds.End ++ repeated name x.1.1)) (λ x s. after (with_rows procedure_end token) c (advanced (after (returned_rows x.0) c s)))
    (body_with (block_at d)) (seq (optional (accept_at kinds.Return) (expr_at d)) (seq (expect_at kinds.End) (name_at (repeated name)))) old first new a result (remaining ts input) t
    (told_then ts returned_events (λ x. after (returned_rows x) c)
    (λ (x : Unit {0} × ℕ). word kinds.End ++ repeated name x.1) (λ x s. after (with_rows procedure_end token) c (advanced s))
    (optional (accept_at kinds.Return) (expr_at d)) (seq (expect_at kinds.End) (name_at (repeated name))) first second new b result (remaining ts a) u
    (told_then ts (λ (u : Unit {0}). word kinds.End) (λ u s. advanced s) (repeated name) (λ x s. after (with_rows procedure_end token) c s)
    (expect_at kinds.End) (name_at (repeated name)) second third new e result (remaining ts b) v w))

pub behind_heading_told : (ts : List Token) (name : ℕ) (r s : Reader) (c : Context) (old mid new : TableBuilder) (input here : Cursor) (result : Result Cursor Stop) →
    AppendsEntries ts declarations_events declarations_rows c old mid (Ok here) (r (remaining ts input)) →
    AppendsEntriesBy ts (ending_events name) (ending_step c) mid new result (s (remaining ts here)) →
    AppendsEntriesBy ts (procedure_block_events name) (block_step c) old new result (seq r s (remaining ts input))
behind_heading_told ts name r s c old mid new input here result t u =
    told_then ts declarations_events (λ d. after (declarations_rows d) c) (ending_events name) (ending_step c)
    r s old mid new here result (remaining ts input) t u

-- ---- the heading

abbrev name_with : ℕ → Bool → Identdef
name_with n b = record { name = n; is_exported = b }

pub star_told : (ts : List Token) (n : ℕ) (b : Bool) (c : Context) (old new : TableBuilder) (input here : Cursor) → Ok (if_true b (word kinds.Star), remaining ts here) ≡ optional (accept_at kinds.Star) nothing (remaining ts input) →
    PerformsStep (after (identdef_rows (name_with n b)) c) old new → HasAppendedEntries {T = Bool} ts (λ x. identdef_events (name_with n x)) (λ x. after (identdef_rows (name_with n x)) c) old new here (identdef_after n (remaining ts input))
unfolding identdef_after identdef_events
star_told ts n b c old new input here e h = told_walked ts (λ x. identdef_events (name_with n x)) (λ x. after (identdef_rows (name_with n x)) c) b old new here (identdef_after n (remaining ts input)) (rw (sym e, star_read b) refl) h

-- a procedure after PROCEDURE
abbrev Heading : Type 0
Heading = Bool × (Option Parameters × (Unit {0} × Block))

abbrev layer_of : ℕ → Global → Heading → ProcDecl-F Declarations ProcDecl
layer_of n g x = record {
  name = name_with n x.0;
  parameters = x.1.0;
  declarations = x.1.1.1.0;
  body = box_there g x.1.1.1.1.0;
  returned = box_there g x.1.1.1.1.1.0;
  end_name = x.1.1.1.1.1.1.1;
}

abbrev procedure_of : (n : ℕ) → Global → Heading → ProcDecl
procedure_of n g x = roll-ProcDecl (layer_of n g x)

-- the part after PROCEDURE, by its fields
abbrev behind_layer : ProcDecl-F Declarations ProcDecl → Events
behind_layer p =
    identdef_events p.name ++ (shown_there parameters_events p.parameters ++ (word kinds.Semicolon ++
    (declarations_events p.declarations ++ (shown_there (λ b. word kinds.Begin ++ block_events b.value) p.body ++
    (shown_there (λ e. word kinds.Return ++ expr_events e.value) p.returned ++ (word kinds.End ++ repeated p.name.name p.end_name))))))

abbrev layer_piece : ProcDecl-F Declarations ProcDecl → Fragment
layer_piece p =
    both (identdef_rows p.name) (both (if_present parameters_rows p.parameters) (both token
    (both (declarations_rows p.declarations) (both (if_present (λ b. both token (block_rows b.value)) p.body)
    (both (if_present (λ e. both token (expr_rows e.value)) p.returned) (both token (with_rows procedure_end token)))))))

abbrev heading_shown : ℕ → Heading → Events
heading_shown n x = identdef_events (name_with n x.0) ++ (shown_there parameters_events x.1.0 ++ (word kinds.Semicolon ++ procedure_block_events n x.1.1.1))

abbrev heading_step : ℕ → Context → Heading → Stage → Stage
heading_step n c x s = block_step c x.1.1.1 (advanced (after (if_present parameters_rows x.1.0) c (after (identdef_rows (name_with n x.0)) c s)))

heading_made : (n : ℕ) (g : Global) (x : Heading) → procedure_rest_events (procedure_of n g x) ≡ heading_shown n x
heading_made n g x =
    let y : ProcDecl-F Declarations ProcDecl = layer_of n g x in
    ap (λ (z : ProcDecl-F Declarations ProcDecl). behind_layer z) (out-roll-ProcDecl y)
    ∙ ap (λ (o : Events). identdef_events y.name ++ (shown_there parameters_events y.parameters ++ (word kinds.Semicolon ++ (declarations_events y.declarations ++ (o ++
    (shown_there (λ e. word kinds.Return ++ expr_events e.value) y.returned ++ (word kinds.End ++ repeated y.name.name y.end_name))))))) (shown_boxed g (λ b. word kinds.Begin ++ block_events b) x.1.1.1.1.0)
    ∙ ap (λ (o : Events). identdef_events y.name ++ (shown_there parameters_events y.parameters ++ (word kinds.Semicolon ++ (declarations_events y.declarations ++ (body_events x.1.1.1.1.0 ++
    (o ++ (word kinds.End ++ repeated y.name.name y.end_name))))))) (shown_boxed g (λ e. word kinds.Return ++ expr_events e) x.1.1.1.1.1.0)

parts_after : (a b d e f : Fragment) (c : Context) (s : Stage) →
    after (both a (both b (both token (both d (both e (both f (both token (with_rows procedure_end token)))))))) c s ≡ after (with_rows procedure_end token) c (advanced (after f c (after e c (after d c (advanced (after b c (after a c s)))))))
parts_after a b d e f c s = simp (after_both, after_token)

heading_after : (n : ℕ) (g : Global) (x : Heading) (c : Context) (s : Stage) → after (procedure_rest_rows (procedure_of n g x)) c s ≡ heading_step n c x s
heading_after n g x c s =
    let y : ProcDecl-F Declarations ProcDecl = layer_of n g x in
    ap (λ (z : ProcDecl-F Declarations ProcDecl). after (layer_piece z) c s) (out-roll-ProcDecl y)
    ∙ ap (λ (p : Fragment). after (both (identdef_rows y.name) (both (if_present parameters_rows y.parameters) (both token (both (declarations_rows y.declarations) (both p
    (both (if_present (λ e. both token (expr_rows e.value)) y.returned) (both token (with_rows procedure_end token)))))))) c s) (piece_boxed g (λ b. both token (block_rows b)) x.1.1.1.1.0)
    ∙ ap (λ (p : Fragment). after (both (identdef_rows y.name) (both (if_present parameters_rows y.parameters) (both token (both (declarations_rows y.declarations) (both (body_rows x.1.1.1.1.0)
    (both p (both token (with_rows procedure_end token)))))))) c s) (piece_boxed g (λ e. both token (expr_rows e)) x.1.1.1.1.1.0)
    ∙ parts_after (identdef_rows y.name) (if_present parameters_rows y.parameters) (declarations_rows y.declarations) (body_rows x.1.1.1.1.0) (returned_rows x.1.1.1.1.1.0) c s

pub named_told : (ts : List Token) (n : ℕ) (expr block decls : Reader) (c : Context) (old first second third new : TableBuilder) (input a b e : Cursor) (result : Result Cursor Stop) →
    HasAppendedEntries {T = Bool} ts (λ x. identdef_events (name_with n x)) (λ x. after (identdef_rows (name_with n x)) c) old first a (identdef_after n (remaining ts input)) →
    AppendsEntries ts (shown_there parameters_events) (if_present parameters_rows) c first second (Ok b) (optional_parameters_at (remaining ts a)) →
    AppendsEntriesBy ts (λ (u : Unit {0}). word kinds.Semicolon) (λ u s. advanced s) second third (Ok e) (expect_at kinds.Semicolon (remaining ts b)) →
    AppendsEntriesBy ts (procedure_block_events n) (block_step c) third new result
    (seq decls (seq (body_with block) (seq (optional (accept_at kinds.Return) expr) (seq (expect_at kinds.End) (name_at (repeated n))))) (remaining ts e)) →
    AppendsEntries ts procedure_rest_events procedure_rest_rows c old new result (procedure_named expr block decls n (remaining ts input))
unfolding procedure_named
named_told ts n expr block decls c old first second third new input a b e result t u v w =
    let inner : Reader = seq decls (seq (body_with block) (seq (optional (accept_at kinds.Return) expr) (seq (expect_at kinds.End) (name_at (repeated n))))) in
    told_as ts (heading_shown n) (heading_step n c) procedure_rest_events (λ p. after (procedure_rest_rows p) c) (procedure_of n old.uses.alloc)
    (λ x. heading_made n old.uses.alloc x) (λ x s. heading_after n old.uses.alloc x c s) old new result _
    (told_then ts (λ x. identdef_events (name_with n x)) (λ x. after (identdef_rows (name_with n x)) c)
    (λ (x : Option Parameters × (Unit {0} × Block)). shown_there parameters_events x.0 ++ (word kinds.Semicolon ++ procedure_block_events n x.1.1))
    (λ x s. block_step c x.1.1 (advanced (after (if_present parameters_rows x.0) c s)))
    (identdef_after n) (seq optional_parameters_at (seq (expect_at kinds.Semicolon) inner)) old first new a result (remaining ts input) t
    (told_then ts (shown_there parameters_events) (λ x. after (if_present parameters_rows x) c)
    (λ (x : Unit {0} × Block). word kinds.Semicolon ++ procedure_block_events n x.1) (λ x s. block_step c x.1 (advanced s))
    optional_parameters_at (seq (expect_at kinds.Semicolon) inner) first second new b result (remaining ts a) u
    (told_then ts (λ (u : Unit {0}). word kinds.Semicolon) (λ u s. advanced s) (procedure_block_events n) (block_step c)
    (expect_at kinds.Semicolon) inner second third new e result (remaining ts b) v w)))

pub named_failed : (ts : List Token) (n : ℕ) (expr block decls : Reader) (c : Context) (old first : TableBuilder) (input a : Cursor) (e : Stop) →
    HasAppendedEntries {T = Bool} ts (λ x. identdef_events (name_with n x)) (λ x. after (identdef_rows (name_with n x)) c) old first a (identdef_after n (remaining ts input)) →
    Fails ts e (optional_parameters_at (remaining ts a)) → Fails ts e (procedure_named expr block decls n (remaining ts input))
unfolding procedure_named
named_failed ts n expr block decls c old first input a e t h =
    failed_behind ts (λ x. identdef_events (name_with n x)) (λ x. after (identdef_rows (name_with n x)) c) (identdef_after n) _ old first a e (remaining ts input) t (failed_then ts optional_parameters_at _ e (remaining ts a) h)

pub named_failed_behind : (ts : List Token) (n : ℕ) (expr block decls : Reader) (c : Context) (old first second : TableBuilder) (input a b : Cursor) (e : Stop) →
    HasAppendedEntries {T = Bool} ts (λ x. identdef_events (name_with n x)) (λ x. after (identdef_rows (name_with n x)) c) old first a (identdef_after n (remaining ts input)) →
    AppendsEntries ts (shown_there parameters_events) (if_present parameters_rows) c first second (Ok b) (optional_parameters_at (remaining ts a)) →
    Fails ts e (expect_at kinds.Semicolon (remaining ts b)) → Fails ts e (procedure_named expr block decls n (remaining ts input))
unfolding procedure_named
named_failed_behind ts n expr block decls c old first second input a b e t u h =
    failed_behind ts (λ x. identdef_events (name_with n x)) (λ x. after (identdef_rows (name_with n x)) c) (identdef_after n) _ old first a e (remaining ts input) t
    (failed_behind ts (shown_there parameters_events) (λ x. after (if_present parameters_rows x) c) optional_parameters_at _ first second b e (remaining ts a) u (failed_then ts (expect_at kinds.Semicolon) _ e (remaining ts b) h))

-- ---- procedures

pub inner_told : (ts : List Token) (r : ℕ → Reader) (n : ℕ) (c : Context) (old mid new : TableBuilder) (input here rest : Cursor) (result : Result Cursor Stop) →
    AppendsEntriesBy ts (λ (u : Unit {0}). word kinds.Procedure) (λ u s. advanced s) old mid (Ok here) (expect_at kinds.Procedure (remaining ts input)) →
    identifier_at (remaining ts here) ≡ Ok (n, remaining ts rest) →
    AppendsEntries ts procedure_rest_events procedure_rest_rows c mid new result (r n (remaining ts rest)) →
    AppendsEntries ts (λ p. word kinds.Procedure ++ procedure_rest_events p) (λ p. both token (procedure_rest_rows p)) c old new result (seq (expect_at kinds.Procedure) (after_name r) (remaining ts input))
inner_told ts r n c old mid new input here rest result t e u =
    told_as ts (λ (x : Unit {0} × ProcDecl). word kinds.Procedure ++ procedure_rest_events x.1) (λ x s. after (procedure_rest_rows x.1) c (advanced s))
    (λ (p : ProcDecl). word kinds.Procedure ++ procedure_rest_events p) (λ p. after (both token (procedure_rest_rows p)) c) (λ x. x.1) (λ x. refl) (λ x s. word_after (procedure_rest_rows x.1) c s) old new result _
    (told_then ts (λ (u : Unit {0}). word kinds.Procedure) (λ u s. advanced s) procedure_rest_events (λ p. after (procedure_rest_rows p) c)
    (expect_at kinds.Procedure) (after_name r) old mid new here result (remaining ts input) t (rw e u))

pub within_told : (ts : List Token) (expr block decls : Reader) (c around : Context) (row : DeclGroup) (at : ℕ) (old opened blocked last new : TableBuilder) (input rest : Cursor) →
    row ≡ decl_group decl_kinds.Procedure c old.number 0 → around ≡ in_block (declaring_at c old.number) old.number → at ≡ length old.decl_groups.items →
    PerformsStep (added (one_decl_group row)) old opened → PerformsStep (added (one_block (record { first = old.number; outer = c.block }))) opened blocked →
    AppendsEntries ts (λ p. word kinds.Procedure ++ procedure_rest_events p) (λ p. both token (procedure_rest_rows p)) around blocked last (Ok rest)
    (seq (expect_at kinds.Procedure) (after_name (procedure_named expr block decls)) (remaining ts input)) → PerformsStep (closed at row) last new →
    AppendsEntries ts procedure_events procedure_rows c old new (Ok rest) (procedure_with expr block decls (remaining ts input))
unfolding procedure_with
within_told ts expr block decls c around row at old opened blocked last new input rest e g h opens adds t closes =
    let r : Reader = seq (expect_at kinds.Procedure) (after_name (procedure_named expr block decls)) in
    told_as ts (λ (p : ProcDecl). construct constructs.ProcedureDeclaration (word kinds.Procedure ++ procedure_rest_events p)) (λ p. after (declaring decl_kinds.Procedure (opens_block (both token (procedure_rest_rows p)))) c)
    procedure_events (λ p. after (procedure_rows p) c) (λ x. x) (λ p. procedure_out p) (λ p s. ap (λ (z : Fragment). after z c s) (effect.procedure_told p)) old new (Ok rest) _
    (told_node ts (λ (p : ProcDecl). word kinds.Procedure ++ procedure_rest_events p) (λ p. after (declaring decl_kinds.Procedure (opens_block (both token (procedure_rest_rows p)))) c) constructs.ProcedureDeclaration r old new (Ok rest) (remaining ts input)
    (block_told ts (λ (p : ProcDecl). word kinds.Procedure ++ procedure_rest_events p) (λ p. both token (procedure_rest_rows p)) c around row at old opened blocked last new rest (r (remaining ts input)) e g h opens adds t closes))

pub within_failed : (ts : List Token) (expr block decls : Reader) (e : Stop) (ls : List _) → Fails ts e (seq (expect_at kinds.Procedure) (after_name (procedure_named expr block decls)) ls) → Fails ts e (procedure_with expr block decls ls)
unfolding procedure_with
within_failed ts expr block decls e ls h = failed_node ts constructs.ProcedureDeclaration (seq (expect_at kinds.Procedure) (after_name (procedure_named expr block decls))) e ls h

pub procedure_deeper : (d : ℕ) (ls : List _) → (d ≡ 0 → ⊥) → procedure_at d ls ≡ procedure_with (expr_at (d - 1)) (block_at (d - 1)) (declarations_at (d - 1)) ls
unfolding procedure_at
procedure_deeper zero ls h = absurd (h refl)
procedure_deeper (suc n) ls h = let e : suc n - 1 ≡ n = omega arith in rw e refl

-- ---- declarations

abbrev Sections : Type 0
Sections = Option (Vec ConstDecl) × (Option (Vec TypeDecl) × (Option (Vec VarDecl) × Vec ProcDecl))

abbrev sections_layer : Sections → Declarations-F Declarations ProcDecl
sections_layer x = record { constants = x.0; types = x.1.0; variables = x.1.1.0; procedures = x.1.1.1 }

abbrev declarations_of : Sections → Declarations
declarations_of x = roll-Declarations (sections_layer x)

sections_after : (x : Sections) (c : Context) (s : Stage) → after (declarations_rows (declarations_of x)) c s ≡
    after (pieces (ended_rows procedure_rows) x.1.1.1.items) c (after (if_present (λ v. part variable_rows v.items) x.1.1.0) c (after (if_present (λ v. part type_decl_rows v.items) x.1.0) c (after (if_present (λ v. part const_rows v.items) x.0) c s)))
sections_after x c s =
    let y : Declarations-F Declarations ProcDecl = sections_layer x in
    let p : Fragment = if_present (λ v. part const_rows v.items) x.0 in
    let q : Fragment = if_present (λ v. part type_decl_rows v.items) x.1.0 in
    let r : Fragment = if_present (λ v. part variable_rows v.items) x.1.1.0 in
    let t : Fragment = pieces (ended_rows procedure_rows) x.1.1.1.items in
    ap (λ (z : Fragment). after z c s) (effect.declarations_out (roll-Declarations y)
    ∙ ap (λ (z : Declarations-F Declarations ProcDecl). both (if_present (λ v. part const_rows v.items) z.constants) (both (if_present (λ v. part type_decl_rows v.items) z.types) (both (if_present (λ v. part variable_rows v.items) z.variables) (pieces (ended_rows procedure_rows) z.procedures.items)))) (out-roll-Declarations y))
    ∙ after_both p (both q (both r t)) c s ∙ after_both q (both r t) c (after p c s) ∙ after_both r t c (after q c (after p c s))

pub sections_told : (ts : List Token) (expr type procedure : Reader) (c : Context) (old first second third new : TableBuilder) (input a b e : Cursor) (result : Result Cursor Stop) →
    AppendsEntries {T = Option (Vec ConstDecl)} ts (shown_there (λ v. shown_part kinds.Const const_events v.items)) (if_present (λ v. part const_rows v.items)) c old first (Ok a) (section_with kinds.Const (const_with expr) (remaining ts input)) →
    AppendsEntries {T = Option (Vec TypeDecl)} ts (shown_there (λ v. shown_part kinds.Type type_decl_events v.items)) (if_present (λ v. part type_decl_rows v.items)) c first second (Ok b) (section_with kinds.Type (type_decl_with type) (remaining ts a)) →
    AppendsEntries {T = Option (Vec VarDecl)} ts (shown_there (λ v. shown_part kinds.Var variable_events v.items)) (if_present (λ v. part variable_rows v.items)) c second third (Ok e) (section_with kinds.Var (variable_with type) (remaining ts b)) →
    AppendsEntries {T = Vec ProcDecl} ts (λ v. procedures_events v.items) (λ v. pieces (ended_rows procedure_rows) v.items) c third new result (procedures_with procedure (remaining ts e)) →
    AppendsEntries ts declarations_events declarations_rows c old new result (declarations_with expr type procedure (remaining ts input))
unfolding declarations_with
sections_told ts expr type procedure c old first second third new input a b e result t u v w =
    told_as ts
    (λ (x : Sections). shown_there (λ v. shown_part kinds.Const const_events v.items) x.0 ++ (shown_there (λ v. shown_part kinds.Type type_decl_events v.items) x.1.0 ++ (shown_there (λ v. shown_part kinds.Var variable_events v.items) x.1.1.0 ++ procedures_events x.1.1.1.items)))
    (λ x s. after (pieces (ended_rows procedure_rows) x.1.1.1.items) c (after (if_present (λ v. part variable_rows v.items) x.1.1.0) c (after (if_present (λ v. part type_decl_rows v.items) x.1.0) c (after (if_present (λ v. part const_rows v.items) x.0) c s))))
    declarations_events (λ d. after (declarations_rows d) c) declarations_of
    (λ x. declarations_made (sections_layer x)) (λ x s. sections_after x c s) old new result _
    (told_then ts (shown_there (λ (v : Vec ConstDecl). shown_part kinds.Const const_events v.items)) (λ x. after (if_present (λ v. part const_rows v.items) x) c)
    (λ (x : Option (Vec TypeDecl) × (Option (Vec VarDecl) × Vec ProcDecl)). shown_there (λ v. shown_part kinds.Type type_decl_events v.items) x.0 ++ (shown_there (λ v. shown_part kinds.Var variable_events v.items) x.1.0 ++ procedures_events x.1.1.items))
    (λ x s. after (pieces (ended_rows procedure_rows) x.1.1.items) c (after (if_present (λ v. part variable_rows v.items) x.1.0) c (after (if_present (λ v. part type_decl_rows v.items) x.0) c s)))
    (section_with kinds.Const (const_with expr)) (seq (section_with kinds.Type (type_decl_with type)) (seq (section_with kinds.Var (variable_with type)) (procedures_with procedure))) old first new a result (remaining ts input) t
    (told_then ts (shown_there (λ (v : Vec TypeDecl). shown_part kinds.Type type_decl_events v.items)) (λ x. after (if_present (λ v. part type_decl_rows v.items) x) c)
    (λ (x : Option (Vec VarDecl) × Vec ProcDecl). shown_there (λ v. shown_part kinds.Var variable_events v.items) x.0 ++ procedures_events x.1.items)
    (λ x s. after (pieces (ended_rows procedure_rows) x.1.items) c (after (if_present (λ v. part variable_rows v.items) x.0) c s))
    (section_with kinds.Type (type_decl_with type)) (seq (section_with kinds.Var (variable_with type)) (procedures_with procedure)) first second new b result (remaining ts a) u
    (told_then ts (shown_there (λ (v : Vec VarDecl). shown_part kinds.Var variable_events v.items)) (λ x. after (if_present (λ v. part variable_rows v.items) x) c)
    (λ (v : Vec ProcDecl). procedures_events v.items) (λ v. after (pieces (ended_rows procedure_rows) v.items) c)
    (section_with kinds.Var (variable_with type)) (procedures_with procedure) second third new e result (remaining ts b) v w)))

pub first_failed : (ts : List Token) (expr type procedure : Reader) (x : Stop) (ls : List _) → Fails ts x (section_with kinds.Const (const_with expr) ls) → Fails ts x (declarations_with expr type procedure ls)
unfolding declarations_with
first_failed ts expr type procedure x ls h = failed_then ts (section_with kinds.Const (const_with expr)) _ x ls h

pub second_failed : (ts : List Token) (expr type procedure : Reader) (c : Context) (old first : TableBuilder) (input a : Cursor) (x : Stop) →
    AppendsEntries {T = Option (Vec ConstDecl)} ts (shown_there (λ v. shown_part kinds.Const const_events v.items)) (if_present (λ v. part const_rows v.items)) c old first (Ok a) (section_with kinds.Const (const_with expr) (remaining ts input)) →
    Fails ts x (section_with kinds.Type (type_decl_with type) (remaining ts a)) → Fails ts x (declarations_with expr type procedure (remaining ts input))
unfolding declarations_with
second_failed ts expr type procedure c old first input a x t h =
    failed_behind ts (shown_there (λ (v : Vec ConstDecl). shown_part kinds.Const const_events v.items)) (λ o. after (if_present (λ v. part const_rows v.items) o) c) (section_with kinds.Const (const_with expr))
    (seq (section_with kinds.Type (type_decl_with type)) (seq (section_with kinds.Var (variable_with type)) (procedures_with procedure))) old first a x (remaining ts input) t
    (failed_then ts (section_with kinds.Type (type_decl_with type)) (seq (section_with kinds.Var (variable_with type)) (procedures_with procedure)) x (remaining ts a) h)

pub third_failed : (ts : List Token) (expr type procedure : Reader) (c : Context) (old first second : TableBuilder) (input a b : Cursor) (x : Stop) →
    AppendsEntries {T = Option (Vec ConstDecl)} ts (shown_there (λ v. shown_part kinds.Const const_events v.items)) (if_present (λ v. part const_rows v.items)) c old first (Ok a) (section_with kinds.Const (const_with expr) (remaining ts input)) →
    AppendsEntries {T = Option (Vec TypeDecl)} ts (shown_there (λ v. shown_part kinds.Type type_decl_events v.items)) (if_present (λ v. part type_decl_rows v.items)) c first second (Ok b) (section_with kinds.Type (type_decl_with type) (remaining ts a)) →
    Fails ts x (section_with kinds.Var (variable_with type) (remaining ts b)) → Fails ts x (declarations_with expr type procedure (remaining ts input))
unfolding declarations_with
third_failed ts expr type procedure c old first second input a b x t u h =
    failed_behind ts (shown_there (λ (v : Vec ConstDecl). shown_part kinds.Const const_events v.items)) (λ o. after (if_present (λ v. part const_rows v.items) o) c) (section_with kinds.Const (const_with expr))
    (seq (section_with kinds.Type (type_decl_with type)) (seq (section_with kinds.Var (variable_with type)) (procedures_with procedure))) old first a x (remaining ts input) t
    (failed_behind ts (shown_there (λ (v : Vec TypeDecl). shown_part kinds.Type type_decl_events v.items)) (λ o. after (if_present (λ v. part type_decl_rows v.items) o) c) (section_with kinds.Type (type_decl_with type))
    (seq (section_with kinds.Var (variable_with type)) (procedures_with procedure)) first second b x (remaining ts a) u
    (failed_then ts (section_with kinds.Var (variable_with type)) (procedures_with procedure) x (remaining ts b) h))
