-- Declared names and parameters are determined by their event sequences.
use Rattle.std.proofs.Common.{◌≡◌, ℕ, zero, suc, Bool, true, false, List, [], ◌∷◌, ◌++◌, map, Option, Some, None, refl, sym, ap, ap₂, ◌∙◌}
use Rattle.ob_scan.specs.declared.kind.Kind.{Kind}
use Rattle.ob_scan.specs.declared.kind.Kind.TheVariants as kinds
use Rattle.ob_tree.specs.declared.name.Identdef.{Identdef}
use Rattle.ob_tree.specs.declared.name.OneOrMore.{OneOrMore}
use Rattle.ob_tree.specs.declared.name.Qualident.{Qualident}
use Rattle.ob_tree.specs.declared.declaration.ParameterSection.{ParameterSection}
use Rattle.ob_tree.specs.declared.declaration.Parameters.{Parameters}
use Rattle.ob_tree.specs.Constructs as constructs
use Rattle.ob_tree.specs.declared.role.Role.TheVariants as roles
use Rattle.ob_tree.specs.TreeEvents.{Events, Word, construct, word, declared, if_present, if_true, each, separated, times}
use Rattle.ob_tree.specs.Names.{qualident_events, identdef_events}
use Rattle.ob_tree.specs.Types.{section_events, parameters_events}
use Rattle.module_table.specs.declared.rows.DeclKind.TheVariants as decl_kinds
use Rattle.module_table.specs.Parts.{Fragment, token, both, with_rows, declaring}
use Rattle.module_table.specs.Parts.{if_present as there, if_true as so}
use Rattle.table_rules.specs.Expressions.{each_after}
use Rattle.table_rules.specs.Statements.{qualident_rows}
use Rattle.table_rules.specs.Types.{parameter_rows, name_part, section_rows, parameters_rows}
use Rattle.table_rules.specs.Types.{open_arrays as arrays_piece}
use Rattle.table_rules.proofs.TypeLayers as told
use Rattle.table_rules.proofs.Reading.{Reads, never, on_word, on_list, no_word, clash, maybe, r-name, r-declared, r-until, r-both, r-past, r-held, r-at, r-made}
use Rattle.table_rules.proofs.ReadingLists.{r-there, r-each, r-so, apart_from, each_told, there_told}
use Rattle.table_rules.proofs.ReadingNames.{on_words, not_the_first, none_behind, r-qualident}

-- one or more with a token between each two
pub r-separated : {X A : Type 0} {f : X → A} {g : X → Events} {part : Events → Bool} (k : Kind) (more : Events → Bool) →
    ((x : X) → Reads f g part (f x) (g x)) → ((s : Events) → more (Word k ∷ s) ≡ true) → ((s : Events) → part (Word k ∷ s) ≡ false) → ((s : Events) → more s ≡ false → part s ≡ false) → (l : OneOrMore X) →
    Reads {Z = OneOrMore X} {A = A × List A} (λ z. (f z.first, map f z.rest.items)) (λ z. g z.first ++ each (λ x. word k ++ g x) z.rest.items) more (f l.first, map f l.rest.items) (g l.first ++ each (λ x. word k ++ g x) l.rest.items)
r-separated {X} {A} {f} {g} {part} k more x front apart ends l = r-until (r-at (λ z. z.first) (x l.first))
    (λ s i. apart_from (λ y. word k ++ g y) part more ends (λ y t. apart (g y ++ t)) l.rest.items s i)
    (λ z s i. apart_from (λ y. word k ++ g y) part more ends (λ y t. apart (g y ++ t)) z.rest.items s i)
    (r-at (λ z. z.rest.items) (r-each f (λ y. word k ++ g y) part more (λ y s. front (g y ++ s)) ends (λ y s. apart (g y ++ s)) l.rest.items (λ y. r-past k (x y))))

-- ---- names that are declared

abbrev identdef_parts : Identdef → (ℕ × Bool) × Bool
identdef_parts i = ((i.name, i.is_exported), i.is_exported)

abbrev identdef_told : (ℕ × Bool) × Bool → Identdef
identdef_told p = record { name = p.0.0; is_exported = p.0.1 }

identdef_held : (i : Identdef) → Reads identdef_parts (λ z. declared z.is_exported z.name ++ if_true z.is_exported (word kinds.Star)) (on_word kinds.Star) (identdef_parts i) (declared i.is_exported i.name ++ if_true i.is_exported (word kinds.Star))
identdef_held i = r-both (r-declared (λ z. z.is_exported) (λ z. z.name) i.is_exported i.name) (r-so kinds.Star (on_word kinds.Star) (λ s. refl) (λ z. z.is_exported) i.is_exported)

-- the name itself
pub r-identdef : (i : Identdef) → Reads {A = Identdef} (λ z. z) identdef_events (on_word kinds.Star) i (identdef_events i)
unfolding identdef_events
r-identdef i = r-made identdef_told (λ z. z) (λ z. refl) (λ z. refl) refl refl (identdef_held i)

-- ---- open arrays

abbrev arrays : ℕ → Events
arrays n = times n (word kinds.Array ++ word kinds.Of)

arrays_tail : (r s : Events) → (word kinds.Array ++ word kinds.Of) ++ r ≡ (word kinds.Array ++ word kinds.Of) ++ s → r ≡ s
arrays_tail r s e = cc

arrays_same : (m n : ℕ) (r s : Events) → on_word kinds.Array r ≡ false → on_word kinds.Array s ≡ false → arrays m ++ r ≡ arrays n ++ s → (m ≡ n) × (r ≡ s)
arrays_same zero zero r s i j e = (refl, e)
arrays_same zero (suc n) r s i j e = absurd (clash (on_word kinds.Array r) true (ap (on_word kinds.Array) e) i)
arrays_same (suc m) zero r s i j e = absurd (clash (on_word kinds.Array s) true (ap (on_word kinds.Array) (sym e)) j)
arrays_same (suc m) (suc n) r s i j e = let h = arrays_same m n r s i j (arrays_tail (arrays m ++ r) (arrays n ++ s) e) in (ap suc h.0, h.1)

r-arrays : {Z : Type 0} (at : Z → ℕ) (n : ℕ) → Reads at (λ z. arrays (at z)) (on_word kinds.Array) n (arrays n)
r-arrays at n = record { same = λ z r s i j e. arrays_same n (at z) r s i j e }

-- ---- sections

abbrev section_parts : ParameterSection → Bool × ((ℕ × List ℕ) × (ℕ × Qualident))
section_parts s = (s.variable, ((s.names.first, map (λ n. n) s.names.rest.items), (s.open_arrays, s.of)))

abbrev section_told : Bool × ((ℕ × List ℕ) × (ℕ × Qualident)) → Fragment
section_told p = declaring decl_kinds.Parameter (
    both (so p.0 token) (both parameter_rows (both (each_after (λ n. parameter_rows) p.1.0.1) (both token
    (both (arrays_piece p.1.1.0) (with_rows (name_part p.1.1.1) (qualident_rows p.1.1.1)))))))

section_tells : (s : ParameterSection) → section_rows s ≡ section_told (section_parts s)
section_tells s =
    told.section_out s ∙
    ap (λ (p : Fragment). declaring decl_kinds.Parameter p) (told.section_inner_out s) ∙
    ap (λ (o : Fragment). declaring decl_kinds.Parameter (
    both (so s.variable token) (both parameter_rows (both o (both token
    (both (arrays_piece s.open_arrays) (with_rows (name_part s.of) (qualident_rows s.of)))))))) (each_told (λ (n : ℕ). n) (λ n. both token parameter_rows) s.names.rest.items)

abbrev section_shown : ParameterSection → Events
section_shown s = if_true s.variable (word kinds.Var) ++ (separated kinds.Comma (declared false) s.names ++ (word kinds.Colon ++ (arrays s.open_arrays ++ qualident_events s.of)))

no_array : (q : Qualident) (s : Events) → on_word kinds.Array (qualident_events q ++ s) ≡ false
unfolding qualident_events
no_array q s = refl

r-parameter : (n : ℕ) → Reads {A = ℕ} (λ z. z) (declared false) never n (declared false n)
r-parameter n = r-name (roles.Declares false) (λ z. z) n

section_held : (s : ParameterSection) → Reads section_parts section_shown (on_word kinds.Dot) (section_parts s) (section_shown s)
section_held s = r-until (r-so kinds.Var (on_word kinds.Var) (λ t. refl) (λ z. z.variable) s.variable) (λ t i. refl) (λ z t i. refl)
    (r-until (r-at (λ z. z.names) (r-separated kinds.Comma (on_word kinds.Comma) r-parameter (λ t. refl) (λ t. refl) (λ t i. refl) s.names)) (λ t i. refl) (λ z t i. refl)
    (r-past kinds.Colon (r-until (r-arrays (λ z. z.open_arrays) s.open_arrays) (λ t i. no_array s.of t) (λ z t i. no_array z.of t) (r-at (λ z. z.of) (r-qualident s.of)))))

pub r-section : (s : ParameterSection) → Reads section_rows section_events never (section_rows s) (section_events s)
unfolding section_events
r-section s = r-made section_told (λ z. z) section_tells (λ z. refl) (section_tells s) refl (r-held constructs.FPSection (section_held s) (λ t. refl))

-- ---- parameters

abbrev sections_parts : OneOrMore ParameterSection → Fragment × List Fragment
sections_parts l = (section_rows l.first, map section_rows l.rest.items)

abbrev parameters_parts : Parameters → Option (Fragment × List Fragment) × Option Qualident
parameters_parts p = (maybe sections_parts p.sections, maybe (λ q. q) p.result)

abbrev sections_told : Fragment × List Fragment → Fragment
sections_told l = both l.0 (each_after (λ x. x) l.1)

abbrev parameters_told : Option (Fragment × List Fragment) × Option Qualident → Fragment
parameters_told p = both token (both (there sections_told p.0) (both token (there (λ q. both token (qualident_rows q)) p.1)))

sections_seen : (o : Option (OneOrMore ParameterSection)) →
    there (λ l. both (section_rows l.first) (each_after section_rows l.rest.items)) o ≡ there sections_told (maybe sections_parts o)
sections_seen None = refl
sections_seen (Some l) = ap (λ (x : Fragment). both (section_rows l.first) x) (each_told section_rows (λ x. both token x) l.rest.items)

parameters_tells : (p : Parameters) → parameters_rows p ≡ parameters_told (parameters_parts p)
parameters_tells p = told.parameters_out p ∙
    ap₂ (λ (a : Fragment) (b : Fragment). both token (both a (both token b))) (sections_seen p.sections) (there_told (λ (q : Qualident). q) (λ q. both token (qualident_rows q)) p.result)

abbrev parameters_shown : Parameters → Events
parameters_shown p =
    word kinds.LeftParen ++ (if_present (separated kinds.Semicolon section_events) p.sections ++
    (word kinds.RightParen ++ if_present (λ q. word kinds.Colon ++ qualident_events q) p.result))

r-sections : (l : OneOrMore ParameterSection) → Reads sections_parts (separated kinds.Semicolon section_events) (on_word kinds.Semicolon) (sections_parts l) (separated kinds.Semicolon section_events l)
r-sections l = r-separated kinds.Semicolon (on_word kinds.Semicolon) r-section (λ s. refl) (λ s. refl) (λ s i. refl) l

sections_begin : (l : OneOrMore ParameterSection) (s : Events) → on_list kinds.Semicolon (separated kinds.Semicolon section_events l ++ s) ≡ true
unfolding section_events construct
sections_begin l s = refl

r-result : (q : Qualident) → Reads {A = Qualident} (λ z. z) (λ z. word kinds.Colon ++ qualident_events z) (on_word kinds.Dot) q (word kinds.Colon ++ qualident_events q)
r-result q = r-past kinds.Colon (r-qualident q)

-- what may go on after a parenthesis
abbrev pub behind_list : List Kind
behind_list = kinds.Colon ∷ kinds.Dot ∷ []

result_ends : (s : Events) → on_words behind_list s ≡ false → on_word kinds.Dot s ≡ false
result_ends s i = not_the_first kinds.Dot [] s (none_behind kinds.Colon (kinds.Dot ∷ []) s i)

parameters_held : (p : Parameters) → Reads parameters_parts parameters_shown (on_words behind_list) (parameters_parts p) (parameters_shown p)
parameters_held p = r-past kinds.LeftParen (r-until (r-there (on_list kinds.Semicolon) (λ z. z.sections) p.sections r-sections (λ s i. no_word kinds.Semicolon s i) sections_begin) (λ s i. refl) (λ z s i. refl)
    (r-past kinds.RightParen (r-there (on_words behind_list) (λ z. z.result) p.result r-result result_ends (λ q s. refl))))

pub r-parameters : (p : Parameters) → Reads parameters_rows parameters_events (on_words behind_list) (parameters_rows p) (parameters_events p)
unfolding parameters_events
r-parameters p = r-made parameters_told (λ z. z) parameters_tells (λ z. refl) (parameters_tells p) refl (parameters_held p)

-- parameters that may be absent
abbrev pub in_heading : List Kind
in_heading = kinds.LeftParen ∷ behind_list

parameters_begin : (p : Parameters) (s : Events) → on_words in_heading (parameters_events p ++ s) ≡ true
unfolding parameters_events
parameters_begin p s = refl

parameters_end : (s : Events) → on_words in_heading s ≡ false → on_words behind_list s ≡ false
parameters_end s i = none_behind kinds.LeftParen behind_list s i

pub r-heading : {Z : Type 0} (at : Z → Option Parameters) (q : Option Parameters) →
    Reads (λ z. maybe parameters_rows (at z)) (λ z. if_present parameters_events (at z)) (on_words in_heading) (maybe parameters_rows q) (if_present parameters_events q)
r-heading at q = r-there (on_words in_heading) at q r-parameters parameters_end parameters_begin
