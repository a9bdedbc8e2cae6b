-- The names after END that a part of a tree contributes, each with the identifier that it has to repeat, are those of its event sequence,
-- if the identifiers have the indices of their tokens.
use Rattle.std.proofs.Common.{◌≡◌, ℕ, suc, ◌+◌, List, [], ◌∷◌, ◌++◌, map, refl, sym, ap, ap₂, ◌∙◌, subst, arith}
use Rattle.std.proofs.lemmas.List.{map-append}
use Rattle.ob_scan.specs.declared.kind.Kind.TheVariants as kinds
use Rattle.ob_tree.specs.Constructs.{Construct}
use Rattle.ob_tree.specs.Constructs as constructs
use Rattle.ob_tree.specs.declared.name.Identdef.{Identdef}
use Rattle.ob_tree.specs.declared.declaration.ProcDecl.{ProcDecl, roll-ProcDecl, out-roll-ProcDecl}
use Rattle.ob_tree.specs.declared.declaration.Declarations.{Declarations, roll-Declarations, out-roll-Declarations}
use Rattle.ob_tree.specs.declared.declaration.Module.{Module}
use Rattle.ob_tree.specs.declared.role.Role.TheVariants.{Names}
use Rattle.ob_tree.specs.TreeEvents.{Events, Begins, Ends, Identifier, Value, Word, construct, word, repeated, separated, each}
use Rattle.ob_tree.specs.Names.{identdef_events}
use Rattle.ob_tree.specs.Expressions.{expr_events}
use Rattle.ob_tree.specs.Statements.{block_events}
use Rattle.ob_tree.specs.Types.{parameters_events}
use Rattle.ob_tree.specs.Declaring.{const_events, type_decl_events, variable_events, part, declarations_events, procedure_events, import_events, module_events}
use Rattle.ob_tree.specs.Derives.{end_names_in}
use Rattle.ob_tree.proofs.DeclarationLayers.{declarations_shown, procedure_shown, declarations_made, procedure_made, module_out}
use Rattle.ob_tree.proofs.DeclarationInduction.{DeclarationPredicates, DeclarationSteps, DeclarationsLayer, ProcedureLayer, WithDeclarations, WithProcedure, declarations_of, procedure_of, declarations_induction}
use Rattle.ob_tree.proofs.EndNames.{collect_end_names-append, append_declaration_end_names, append_procedure_end_names}
use Rattle.module_table.specs.declared.rows.End.{End}
use Rattle.module_table.specs.declared.rows.DeclKind.TheVariants as decl_kinds
use Rattle.module_table.specs.declared.builder.Context.{Context}
use Rattle.module_table.specs.Parts.{Fragment, no_rows, joined, token, both, with_rows, within, declaring, declaring_at, in_block, opens_block}
use Rattle.module_table.specs.Parts.{each as pieces}
use Rattle.module_table.specs.Tables.{module_name_token}
use Rattle.table_rules.specs.Expressions.{expr_rows}
use Rattle.table_rules.specs.Statements.{block_rows}
use Rattle.table_rules.specs.Types.{parameters_rows}
use Rattle.table_rules.specs.Declaring.{procedure_end, module_end, const_rows, type_decl_rows, variable_rows, declarations_rows, procedure_rows, imports_rows, module_rows}
use Rattle.table_rules.specs.Declaring.{part as told_part}
use Rattle.table_rules.specs.Naming.{ending_of}
use Rattle.table_rules.proofs.DeclarationLayers as told
use Rattle.table_rules.proofs.Compatible.{c-there}
use Rattle.table_rules.proofs.Mirrored.{Mirrors, m-name, m-nothing, m-word, width_of, width_both}
use Rattle.table_rules.proofs.Named.{n-both, n-word}
use Rattle.table_rules.proofs.NamedExpressions.{named, n-expr}
use Rattle.table_rules.proofs.NamedStatements.{n-block}
use Rattle.table_rules.proofs.NamedTypes.{n-identdef, n-parameters}
use Rattle.table_rules.proofs.NamedModules.{n-const, n-type_decl, n-variables, n-part, n-imports}
use Rattle.table_rules.proofs.Silent.{Silent, s-nothing, s-token, s-both, s-there, s-expr, s-block, s-identdef, s-parameters, s-constants, s-types, s-variables, s-imports}

-- each identifier has the number of its place, if the first token has this one
unfoldable pub AreCounted : ℕ → Events → Type 0
AreCounted k [] = Unit {0}
AreCounted k (Begins c n ∷ ms) = AreCounted k ms
AreCounted k (Ends c ∷ ms) = AreCounted k ms
AreCounted k (Identifier r n ∷ ms) = (n ≡ k) × AreCounted (suc k) ms
AreCounted k (Value l n ∷ ms) = AreCounted (suc k) ms
AreCounted k (Word w ∷ ms) = AreCounted (suc k) ms

counted_first : (k : ℕ) (a b : Events) → AreCounted k (a ++ b) → AreCounted k a
unfolding AreCounted
counted_first k [] b h = tt
counted_first k (Begins c n ∷ ms) b h = counted_first k ms b h
counted_first k (Ends c ∷ ms) b h = counted_first k ms b h
counted_first k (Identifier r n ∷ ms) b h = (h.0, counted_first (suc k) ms b h.1)
counted_first k (Value l n ∷ ms) b h = counted_first (suc k) ms b h
counted_first k (Word w ∷ ms) b h = counted_first (suc k) ms b h

counted_then : (k : ℕ) (a b : Events) → AreCounted k (a ++ b) → AreCounted (k + width_of a) b
unfolding AreCounted
counted_then k [] b h = subst (λ (n : ℕ). AreCounted n b) (omega arith) h
counted_then k (Begins c n ∷ ms) b h = counted_then k ms b h
counted_then k (Ends c ∷ ms) b h = counted_then k ms b h
counted_then k (Identifier r n ∷ ms) b h = subst (λ (n : ℕ). AreCounted n b) (omega arith) (counted_then (suc k) ms b h.1)
counted_then k (Value l n ∷ ms) b h = subst (λ (n : ℕ). AreCounted n b) (omega arith) (counted_then (suc k) ms b h)
counted_then k (Word w ∷ ms) b h = subst (λ (n : ℕ). AreCounted n b) (omega arith) (counted_then (suc k) ms b h)

-- in the procedure of this name the part contributes these
record Closes (name : ℕ) (p : Fragment) (o : Events) (es : List (ℕ × ℕ)) : Type 0 where
  width : p.width ≡ width_of o
  ends : (c : Context) (k : ℕ) → c.decl_group + 1 ≡ name → AreCounted k o → map ending_of (p.rows c k).ends ≡ es

e-silent : {name : ℕ} {p : Fragment} {o : Events} → Mirrors p o → Silent p → Closes name p o []
e-silent m s = record { width = m.width; ends = λ c k d h. ap (λ (es : List End). map ending_of es) (s.none c k) }

e-both : {name : ℕ} {p q : Fragment} {a b : Events} {es fs : List (ℕ × ℕ)} → Closes name p a es → Closes name q b fs → Closes name (both p q) (a ++ b) (es ++ fs)
unfolding both joined
e-both {name} {p} {q} {a} {b} {es} {fs} f g = record {
  width = let e = width_both a b in let x = f.width in let y = g.width in omega (arith, e, x, y);
  ends = λ c k d h.
      map-append ending_of (p.rows c k).ends (q.rows c (k + p.width)).ends
      ∙ ap₂ (λ (xs ys : List (ℕ × ℕ)). xs ++ ys) (f.ends c k d (counted_first k a b h))
      (g.ends c (k + p.width) d (subst (λ (w : ℕ). AreCounted (k + w) b) (sym f.width) (counted_then k a b h)));
}

e-held : {name : ℕ} (x : Construct) {p : Fragment} {o : Events} {es : List (ℕ × ℕ)} → Closes name p o es → Closes name p (construct x o) es
unfolding construct AreCounted
e-held x {p} {o} f = record {
  width = let e = width_both o (Ends x ∷ []) in let w = f.width in omega (arith, e, w);
  ends = λ c k d h. f.ends c k d (counted_first k o (Ends x ∷ []) h);
}

e-procedure : {name own : ℕ} {p : Fragment} {o : Events} {es : List (ℕ × ℕ)} → ((k : ℕ) → AreCounted k o → k + 1 ≡ own) → Closes own p o es → Closes name (declaring decl_kinds.Procedure (opens_block p)) o es
unfolding declaring with_rows within joined
e-procedure first f = record { width = f.width; ends = λ c k d h. f.ends (in_block (declaring_at c k) k) k (first k h) h }

e-procedure_end : (name end : ℕ) → Closes name (with_rows procedure_end token) (repeated name end) ((name, end) ∷ [])
unfolding with_rows token joined no_rows AreCounted
e-procedure_end name end = record { width = refl; ends = λ c k d h. ap₂ (λ (n m : ℕ). let es : List (ℕ × ℕ) = (n, m) ∷ [] in es) d (sym h.0) }

e-module_end : (name m end : ℕ) → Closes name (with_rows module_end token) (repeated m end) ((module_name_token, end) ∷ [])
unfolding with_rows token joined no_rows AreCounted
e-module_end name m end = record { width = refl; ends = λ c k d h. ap (λ (n : ℕ). let es : List (ℕ × ℕ) = (module_name_token, n) ∷ [] in es) (sym h.0) }

e-is : {name : ℕ} {p q : Fragment} {a b : Events} {es fs : List (ℕ × ℕ)} → p ≡ q → a ≡ b → es ≡ fs → Closes name q b fs → Closes name p a es
e-is {name} {p} {q} {a} {b} {es} {fs} e f g x =
    subst (λ (z : Fragment). Closes name z a es) (sym e) (subst (λ (o : Events). Closes name q o es) (sym f) (subst (λ (xs : List (ℕ × ℕ)). Closes name q b xs) (sym g) x))

-- ---- declarations

abbrev ended : ProcDecl → Events
ended p = procedure_events p ++ word kinds.Semicolon

abbrev predicates : DeclarationPredicates
predicates = record {
  declarations = λ t. (name : ℕ) → Closes name (declarations_rows t) (declarations_events t) (end_names_in (declarations_events t));
  procedure = λ t. (name : ℕ) → Closes name (procedure_rows t) (procedure_events t) (end_names_in (procedure_events t));
}

e-procedures : {X : Type 0} (name : ℕ) (h : X → ProcDecl) (xs : List X) → ((x : X) → Closes name (procedure_rows (h x)) (procedure_events (h x)) (end_names_in (procedure_events (h x)))) →
    Closes name (pieces (λ p. both (procedure_rows p) token) (map h xs)) (each ended (map h xs)) (end_names_in (each ended (map h xs)))
e-procedures name h [] w = e-silent m-nothing s-nothing
e-procedures name h (x ∷ xs) w =
    e-is refl refl
    (collect_end_names-append (ended (h x)) (each ended (map h xs)) ∙ ap (λ (es : List (ℕ × ℕ)). es ++ end_names_in (each ended (map h xs))) (collect_end_names-append (procedure_events (h x)) (word kinds.Semicolon)))
    (e-both (e-both (w x) (e-silent (m-word kinds.Semicolon) s-token)) (e-procedures name h xs w))

declarations_held : (y : WithDeclarations predicates) (name : ℕ) →
    Closes name (told.declarations_shown (declarations_of predicates y)) (declarations_shown (declarations_of predicates y)) (end_names_in (each ended (declarations_of predicates y).procedures.items))
declarations_held y name =
    e-both (e-silent (c-there named (λ v. told_part const_rows v.items) (λ v. part kinds.Const const_events v.items) y.constants (λ v. n-part kinds.Const const_rows const_events v.items n-const)).mirrors
    (s-there (λ v. told_part const_rows v.items) y.constants (λ v. s-constants v.items)))
    (e-both (e-silent (c-there named (λ v. told_part type_decl_rows v.items) (λ v. part kinds.Type type_decl_events v.items) y.types (λ v. n-part kinds.Type type_decl_rows type_decl_events v.items n-type_decl)).mirrors
    (s-there (λ v. told_part type_decl_rows v.items) y.types (λ v. s-types v.items)))
    (e-both (e-silent (c-there named (λ v. told_part variable_rows v.items) (λ v. part kinds.Var variable_events v.items) y.variables (λ v. n-part kinds.Var variable_rows variable_events v.items n-variables)).mirrors
    (s-there (λ v. told_part variable_rows v.items) y.variables (λ v. s-variables v.items)))
    (e-procedures name _ y.procedures.items (λ p. p.1 name))))

name_counted : (i : Identdef) (rest : Events) (k : ℕ) → AreCounted k (word kinds.Procedure ++ (identdef_events i ++ rest)) → k + 1 ≡ i.name
unfolding AreCounted identdef_events
name_counted i rest k h = let e : i.name ≡ suc k = h.0 in omega (arith, e)

procedure_held : (y : WithProcedure predicates) (name : ℕ) → Closes name (told.procedure_shown (procedure_of predicates y)) (procedure_shown (procedure_of predicates y))
    (end_names_in (declarations_events (procedure_of predicates y).declarations) ++ (y.name.name, y.end_name) ∷ [])
procedure_held y name = e-procedure (name_counted y.name _) (
    e-both (e-silent (m-word kinds.Procedure) s-token)
    (e-both (e-silent (n-identdef y.name).mirrors (s-identdef y.name))
    (e-both (e-silent (c-there named parameters_rows parameters_events y.parameters n-parameters).mirrors (s-there parameters_rows y.parameters s-parameters))
    (e-both (e-silent (m-word kinds.Semicolon) s-token)
    (e-both (y.declarations.1 y.name.name)
    (e-both (e-silent (c-there named (λ b. both token (block_rows b.value)) (λ b. word kinds.Begin ++ block_events b.value) y.body (λ b. n-both (n-word kinds.Begin) (n-block b.value))).mirrors
    (s-there (λ b. both token (block_rows b.value)) y.body (λ b. s-both s-token (s-block b.value))))
    (e-both (e-silent (c-there named (λ e. both token (expr_rows e.value)) (λ e. word kinds.Return ++ expr_events e.value) y.returned (λ e. n-both (n-word kinds.Return) (n-expr e.value))).mirrors
    (s-there (λ e. both token (expr_rows e.value)) y.returned (λ e. s-both s-token (s-expr e.value))))
    (e-both (e-silent (m-word kinds.End) s-token) (e-procedure_end y.name.name y.end_name)))))))))

steps : DeclarationSteps predicates
steps = record {
  declarations = λ y name.
      e-is (told.declarations_made _) (declarations_made _)
      (append_declaration_end_names (roll-Declarations (declarations_of predicates y)) ∙ ap (λ (z : DeclarationsLayer). end_names_in (each ended z.procedures.items)) (out-roll-Declarations (declarations_of predicates y)))
      (declarations_held y name);
  procedure = λ y name.
      e-is (told.procedure_made _) (procedure_made _)
      (append_procedure_end_names (roll-ProcDecl (procedure_of predicates y))
      ∙ ap (λ (z : ProcedureLayer). end_names_in (declarations_events z.declarations) ++ (z.name.name, z.end_name) ∷ []) (out-roll-ProcDecl (procedure_of predicates y)))
      (e-held constructs.ProcedureDeclaration (procedure_held y name));
}

e-declarations : (d : Declarations) (name : ℕ) → Closes name (declarations_rows d) (declarations_events d) (end_names_in (declarations_events d))
e-declarations = declarations_induction predicates steps

-- ---- modules

e-module : (m : Module) (name : ℕ) → Closes name (module_rows m) (module_events m) (end_names_in (declarations_events m.declarations) ++ (module_name_token, m.end_name) ∷ [])
e-module m name = e-is (told.module_out m) (module_out m) refl (e-held constructs.Module (
    e-both (e-silent (m-word kinds.Module) s-token)
    (e-both (e-silent (m-name Names m.name (λ k. refl) (λ k. refl)) s-token)
    (e-both (e-silent (m-word kinds.Semicolon) s-token)
    (e-both (e-silent (c-there named imports_rows (λ l. word kinds.Import ++ (separated kinds.Comma import_events l ++ word kinds.Semicolon)) m.imports n-imports).mirrors (s-there imports_rows m.imports s-imports))
    (e-both (e-declarations m.declarations name)
    (e-both (e-silent (c-there named (λ b. both token (block_rows b)) (λ b. word kinds.Begin ++ block_events b) m.body (λ b. n-both (n-word kinds.Begin) (n-block b))).mirrors
    (s-there (λ b. both token (block_rows b)) m.body (λ b. s-both s-token (s-block b))))
    (e-both (e-silent (m-word kinds.End) s-token)
    (e-both (e-module_end name m.name m.end_name) (e-silent (m-word kinds.Dot) s-token))))))))))

pub module_closes : (m : Module) (c : Context) → AreCounted 0 (module_events m) →
    map ending_of ((module_rows m).rows c 0).ends ≡ end_names_in (declarations_events m.declarations) ++ (module_name_token, m.end_name) ∷ []
module_closes m c h = (e-module m (c.decl_group + 1)).ends c 0 refl h
