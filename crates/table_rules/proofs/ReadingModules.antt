-- The entries of a module are determined by its event sequence.
use Rattle.std.proofs.Common.{◌≡◌, ℕ, Bool, true, false, List, [], ◌∷◌, ◌++◌, map, Option, Some, None, refl, sym, ap, ap₂, ◌∙◌}
use Rattle.std.specs.Prelude.{Vec}
use Rattle.std.specs.declared.alloc.Global.{Global}
use Rattle.ob_scan.specs.declared.kind.Kind.TheVariants as kinds
use Rattle.ob_tree.specs.declared.name.OneOrMore.{OneOrMore}
use Rattle.ob_tree.specs.declared.statement.StatementSequence.{StatementSequence}
use Rattle.ob_tree.specs.declared.declaration.ConstDecl.{ConstDecl}
use Rattle.ob_tree.specs.declared.declaration.TypeDecl.{TypeDecl}
use Rattle.ob_tree.specs.declared.declaration.VarDecl.{VarDecl}
use Rattle.ob_tree.specs.declared.declaration.ProcDecl.{ProcDecl}
use Rattle.ob_tree.specs.declared.declaration.Declarations.{Declarations, out-Declarations}
use Rattle.ob_tree.specs.declared.declaration.ImportItem.{ImportItem}
use Rattle.ob_tree.specs.declared.declaration.Module.{Module}
use Rattle.ob_tree.specs.Constructs as constructs
use Rattle.ob_tree.specs.declared.role.Role.TheVariants as roles
use Rattle.ob_tree.specs.TreeEvents.{Events, construct, word, aliased, imported, named, repeated, if_present, separated}
use Rattle.ob_tree.specs.Statements.{block_events}
use Rattle.ob_tree.specs.Declaring.{const_events, part, declarations_events, procedure_events, import_events, module_events}
use Rattle.ob_tree.proofs.DeclarationLayers.{import_out, module_out, declarations_out, procedure_out}
use Rattle.module_table.specs.declared.rows.DeclKind.TheVariants as decl_kinds
use Rattle.module_table.specs.Parts.{Fragment, one_import, token, both, with_rows, declaring}
use Rattle.module_table.specs.Parts.{if_present as there}
use Rattle.table_rules.specs.Expressions.{each_after}
use Rattle.table_rules.specs.Statements.{block_rows}
use Rattle.table_rules.specs.Types.{declared_row}
use Rattle.table_rules.specs.Declaring.{module_end, named_by, import_rows, imports_rows, declarations_rows, module_rows, outermost, rows_of}
use Rattle.table_rules.proofs.DeclarationLayers as told
use Rattle.table_rules.proofs.Reading.{Reads, never, on_word, maybe, r-name, r-until, r-both, r-past, r-then, r-held, r-at, r-made}
use Rattle.table_rules.proofs.ReadingLists.{r-there, each_told, there_told}
use Rattle.table_rules.proofs.ReadingNames.{itself, on_words}
use Rattle.table_rules.proofs.ReadingStatements.{r-block}
use Rattle.table_rules.proofs.ReadingParameters.{r-separated}
use Rattle.table_rules.proofs.ReadingSections.{on_declarations, procedures_shown, variables_shown, types_shown}
use Rattle.table_rules.proofs.ReadingDeclarations.{in_body, body_ends, r-repeated, r-declarations}

-- ---- imports

abbrev import_parts : ImportItem → ℕ × Option ℕ
import_parts i = (i.name, maybe (λ m. m) i.of)

abbrev import_inner_told : Option ℕ → Fragment
import_inner_told o = with_rows (λ c k. one_import (record { alias = k; imported = named_by o k })) (with_rows (declared_row false) (both token (there (λ m. both token token) o)))

abbrev import_told : ℕ × Option ℕ → Fragment
import_told p = declaring decl_kinds.Import (import_inner_told p.1)

import_tells : (i : ImportItem) → import_rows i ≡ import_told (import_parts i)
import_tells i =
    told.import_out i ∙
    ap (λ (p : Fragment). declaring decl_kinds.Import p) (told.import_inner_out i) ∙
    ap (λ (o : Option ℕ). declaring decl_kinds.Import (import_inner_told o)) (sym (itself i.of))

abbrev import_shown : ImportItem → Events
import_shown i = aliased i.name ++ if_present (λ m. word kinds.Assign ++ imported m) i.of

r-module_name_token : (m : ℕ) → Reads {A = ℕ} (λ z. z) (λ z. word kinds.Assign ++ imported z) never m (word kinds.Assign ++ imported m)
r-module_name_token m = r-past kinds.Assign (r-name roles.Imports (λ z. z) m)

import_held : (i : ImportItem) → Reads import_parts import_shown (on_word kinds.Assign) (import_parts i) (import_shown i)
import_held i = r-both (r-name roles.Aliases (λ z. z.name) i.name) (r-there (on_word kinds.Assign) (λ z. z.of) i.of r-module_name_token (λ s j. refl) (λ m s. refl))

r-import : (i : ImportItem) → Reads import_rows import_events never (import_rows i) (import_events i)
r-import i = r-made import_told (λ z. z) import_tells import_out (import_tells i) (import_out i) (r-held constructs.Import (import_held i) (λ s. refl))

abbrev imports_parts : OneOrMore ImportItem → Fragment × List Fragment
imports_parts l = (import_rows l.first, map import_rows l.rest.items)

abbrev imports_told : Fragment × List Fragment → Fragment
imports_told p = both token (both p.0 (both (each_after (λ x. x) p.1) token))

imports_seen : (o : Option (OneOrMore ImportItem)) → there imports_rows o ≡ there imports_told (maybe imports_parts o)
imports_seen None = refl
imports_seen (Some l) = told.imports_out l ∙
    ap (λ (x : Fragment). both token (both (import_rows l.first) (both x token))) (each_told import_rows (λ x. both token x) l.rest.items)

abbrev imports_shown : OneOrMore ImportItem → Events
imports_shown l = word kinds.Import ++ (separated kinds.Comma import_events l ++ word kinds.Semicolon)

r-imports : (l : OneOrMore ImportItem) → Reads imports_parts imports_shown never (imports_parts l) (imports_shown l)
r-imports l = r-past kinds.Import (r-then kinds.Semicolon (r-separated kinds.Comma (on_word kinds.Comma) r-import (λ s. refl) (λ s. refl) (λ s i. refl) l) (λ s. refl))

-- ---- modules

abbrev Parts : Type 0
Parts = ℕ × (Option (Fragment × List Fragment) × (Fragment × (Option Fragment × Bool)))

abbrev module_parts : Module → Parts
module_parts m = (m.name, (maybe imports_parts m.imports, (declarations_rows m.declarations, (maybe block_rows m.body, true))))

abbrev module_with : Fragment → Fragment → Fragment → Fragment
module_with a d b = both token (both token (both token (both a (both d (both b (both token (both (with_rows module_end token) token)))))))

abbrev module_told : Parts → Fragment
module_told p = module_with (there imports_told p.1.0) p.1.1.0 (there (λ b. both token b) p.1.1.1.0)

module_tells : (m : Module) → module_rows m ≡ module_told (module_parts m)
module_tells m = told.module_out m ∙
    ap₂ (λ (a : Fragment) (b : Fragment). module_with a (declarations_rows m.declarations) b) (imports_seen m.imports) (there_told block_rows (λ b. both token b) m.body)

abbrev body_shown : Option StatementSequence → Events
body_shown o = if_present (λ b. word kinds.Begin ++ block_events b) o

abbrev module_shown : Module → Events
module_shown m =
    word kinds.Module ++ (named m.name ++ (word kinds.Semicolon ++
    (if_present imports_shown m.imports ++
    (declarations_events m.declarations ++ (body_shown m.body ++ (word kinds.End ++
    (repeated m.name m.end_name ++ word kinds.Dot)))))))

abbrev constants_shown : Option (Vec ConstDecl Global) → Events
constants_shown o = if_present (λ v. part kinds.Const const_events v.items) o

procedure_apart : (p : ProcDecl) (q r s : Events) → on_word kinds.Import ((((procedure_events p ++ word kinds.Semicolon) ++ q) ++ r) ++ s) ≡ false
unfolding construct
procedure_apart p q r s = ap (λ (o : Events). on_word kinds.Import ((((o ++ word kinds.Semicolon) ++ q) ++ r) ++ s)) (procedure_out p)

sections_apart : (c : Option (Vec ConstDecl Global)) (t : Option (Vec TypeDecl Global)) (v : Option (Vec VarDecl Global)) (ps : List ProcDecl) (b : Option StatementSequence) (r s : Events) →
    on_word kinds.Import (((constants_shown c ++ (types_shown t ++ (variables_shown v ++ procedures_shown ps))) ++ (body_shown b ++ (word kinds.End ++ r))) ++ s) ≡ false
sections_apart (Some c) t v ps b r s = refl
sections_apart None (Some t) v ps b r s = refl
sections_apart None None (Some v) ps b r s = refl
sections_apart None None None (p ∷ ps) b r s = procedure_apart p (procedures_shown ps) (body_shown b ++ (word kinds.End ++ r)) s
sections_apart None None None [] (Some b) r s = refl
sections_apart None None None [] None r s = refl

no_import : (d : Declarations) (b : Option StatementSequence) (r s : Events) → on_word kinds.Import ((declarations_events d ++ (body_shown b ++ (word kinds.End ++ r))) ++ s) ≡ false
no_import d b r s =
    ap (λ (o : Events). on_word kinds.Import ((o ++ (body_shown b ++ (word kinds.End ++ r))) ++ s)) (declarations_out d) ∙
    sections_apart (out-Declarations d).constants (out-Declarations d).types (out-Declarations d).variables (out-Declarations d).procedures.items b r s

no_declarations : (b : Option StatementSequence) (r s : Events) → on_declarations ((body_shown b ++ (word kinds.End ++ r)) ++ s) ≡ false
no_declarations None r s = refl
no_declarations (Some b) r s = refl

r-body : (b : StatementSequence) → Reads block_rows (λ z. word kinds.Begin ++ block_events z) (on_word kinds.Semicolon) (block_rows b) (word kinds.Begin ++ block_events b)
r-body b = r-past kinds.Begin (r-block b)

module_held : (m : Module) → Reads module_parts module_shown never (module_parts m) (module_shown m)
module_held m =
    r-past kinds.Module (r-both (r-name roles.Names (λ z. z.name) m.name) (r-past kinds.Semicolon
    (r-until (r-there (on_word kinds.Import) (λ z. z.imports) m.imports r-imports (λ s i. refl) (λ l s. refl)) (λ s i. no_import m.declarations m.body _ s) (λ z s i. no_import z.declarations z.body _ s)
    (r-until (r-at (λ z. z.declarations) (r-declarations m.declarations)) (λ s i. no_declarations m.body _ s) (λ z s i. no_declarations z.body _ s)
    (r-until (r-there (on_words in_body) (λ z. z.body) m.body r-body body_ends (λ b s. refl)) (λ s i. refl) (λ z s i. refl)
    (r-past kinds.End (r-then kinds.Dot (r-repeated (λ z. z.name) (λ z. z.end_name) m.name m.end_name) (λ s. refl))))))))

pub r-module : (m : Module) → Reads module_rows module_events never (module_rows m) (module_events m)
r-module m = r-made module_told (λ z. z) module_tells module_out (module_tells m) (module_out m) (r-held constructs.Module (module_held m) (λ s. refl))

pub tables_same : (m n : Module) → module_events m ≡ module_events n → rows_of m ≡ rows_of n
tables_same m n e = ap (λ (p : Fragment). p.rows outermost 0) ((r-module m).same n [] [] refl refl (ap (λ (o : Events). o ++ []) e)).0
