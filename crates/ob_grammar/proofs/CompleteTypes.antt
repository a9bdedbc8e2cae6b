-- The tokens of a type are read as that type, if they are followed by tokens that can't continue it.
use Rattle.std.proofs.Common.{◌≡◌, ℕ, zero, suc, ◌≤◌, Bool, true, false, List, [], ◌∷◌, ◌++◌, Option, Some, None, refl, sym, ap, subst, ◌∙◌, arith}
use Rattle.std.specs.declared.boxed.Box.{Box}
use Rattle.std.specs.declared.alloc.Global.{Global}
use Rattle.ob_scan.specs.declared.kind.Kind.{Kind}
use Rattle.ob_scan.specs.declared.kind.Kind.TheVariants as kinds
use Rattle.ob_tree.specs.declared.role.Role.TheVariants.{Declares}
use Rattle.ob_tree.specs.declared.token.Leaf.{Leaf}
use Rattle.ob_tree.specs.declared.token.Leaf.TheVariants as leafs
use Rattle.ob_tree.specs.declared.name.OneOrMore.{OneOrMore}
use Rattle.ob_tree.specs.declared.name.Qualident.{Qualident}
use Rattle.ob_tree.specs.declared.name.Identdef.{Identdef}
use Rattle.ob_tree.specs.declared.declaration.ParameterSection.{ParameterSection}
use Rattle.ob_tree.specs.declared.declaration.Parameters.{Parameters}
use Rattle.ob_tree.specs.declared.declaration.TypeForm.{TypeForm, TypeForm-F, out-TypeForm}
use Rattle.ob_tree.specs.declared.declaration.TypeForm.TheOpen as layers
use Rattle.ob_tree.specs.declared.declaration.Fields.{Fields, out-Fields}
use Rattle.ob_tree.specs.declared.declaration.Record.{Record, Record-F, out-Record}
use Rattle.ob_tree.specs.declared.declaration.VarDecl.{VarDecl, out-VarDecl}
use Rattle.ob_tree.specs.Constructs.{Construct, is_level}
use Rattle.ob_tree.specs.Constructs as constructs
use Rattle.ob_tree.specs.TreeEvents.{Events, construct, word, declared, if_present, if_true, each_after, separated, times, tokens_of, height}
use Rattle.ob_tree.specs.Names.{qualident_events, identdef_events}
use Rattle.ob_tree.specs.Expressions.{expr_list_events}
use Rattle.ob_tree.specs.Types.{section_events, parameters_events, type_events, fields_events, var_events}
use Rattle.ob_tree.proofs.TypeLayers.{type_shown, section_out, parameters_out, type_out, fields_out, record_out, var_out}
use Rattle.ob_grammar.specs.Lookahead.{is_word}
use Rattle.ob_grammar.specs.Combinators.{Reader, expect_at, accept_at, name_at, identifier_at, begins, unless, seq, prefixed, node, many, several}
use Rattle.ob_grammar.specs.ReadNames.{qualident_after, qualident_at, identdef_at}
use Rattle.ob_grammar.specs.ReadExpressions.{expr_at}
use Rattle.ob_grammar.specs.ReadTypes.{section_at, parameters_at, optional_parameters_at, var_with, field_start, fields_with, record_with, type_with, type_at}
use Rattle.ob_grammar.proofs.Compatible.{expect_held, name_held}
use Rattle.ob_grammar.proofs.CompatibleProductions.{identdef_held, section_held, field_held}
use Rattle.ob_grammar.proofs.Sound.{sound, tokens_of-construct, type_at_sound}
use Rattle.ob_grammar.proofs.Loops.{accept_advances, field_advances, has_begun}
use Rattle.ob_grammar.proofs.ReadsBack.{Reads, low_level, Opens, opens_node, open_there, opens_front, accepts_word, reads_none, reads_more, reads_word}
use Rattle.ob_grammar.proofs.CompleteNames.{member_shown, qualident_again, qualident_spelled, identdef_again}
use Rattle.ob_grammar.proofs.CompleteExpressions.{expr_lists_again}
use Rattle.ob_grammar.proofs.CompleteStatements.{expr_ends}
use Rattle.ob_grammar.proofs.Bounded.{Again, again_as, again_is, again_seq, again_end, again_word, again_name, again_node, again_level, too_high, again_nothing, again_something, again_option, again_unless, again_if_so, past_if_so, again_each, past_each, again_several, not_accepted, OpensName, opens_name_node, opens_name_front, name_not_accepted, name_not_closed}

---- names, within a depth

pub again_qualident : (d : ℕ) (q : Qualident) (rest : List Leaf) → accept_at kinds.Dot rest ≡ None → Again d qualident_at (qualident_events q) rest
again_qualident d q rest e = record { reads = λ le. qualident_again q rest e }

pub again_identdef : (d : ℕ) (i : Identdef) (rest : List Leaf) → accept_at kinds.Star rest ≡ None → Again d identdef_at (identdef_events i) rest
again_identdef d i rest e = record { reads = λ le. identdef_again i rest e }

pub identdef_opens : (i : Identdef) (x : List Leaf) → OpensName (tokens_of (identdef_events i) ++ x)
unfolding identdef_events
identdef_opens i x = record { number = i.name; tail = _; is = refl }

qualident_opens : (q : Qualident) (x : List Leaf) → OpensName (tokens_of (qualident_events q) ++ x)
qualident_opens q x = record { number = q.head; tail = _; is = qualident_spelled q x }

-- ---- parameters

times_read : (n : ℕ) (rest : List Leaf) → accept_at kinds.Array rest ≡ None →
    Reads (many (accept_at kinds.Array) (expect_at kinds.Of)) (times n (word kinds.Array ++ word kinds.Of)) rest
times_read zero rest e = reads_none _ _ (accept_advances zero kinds.Array (expect_at kinds.Of) (expect_held sound kinds.Of)) rest e
times_read (suc n) rest e =
    reads_more (accept_at kinds.Array) (expect_at kinds.Of) (accept_advances zero kinds.Array (expect_at kinds.Of) (expect_held sound kinds.Of)) (word kinds.Array)
    (word kinds.Of) (times n (word kinds.Array ++ word kinds.Of)) rest (accepts_word kinds.Array _) (reads_word kinds.Of _) (times_read n rest e)

again_section : (d : ℕ) (s : ParameterSection) (rest : List Leaf) → accept_at kinds.Dot rest ≡ None → Again d section_at (section_events s) rest
unfolding section_at
again_section d s rest dot =
    let arrays : Again d (many (accept_at kinds.Array) (expect_at kinds.Of)) (times s.open_arrays (word kinds.Array ++ word kinds.Of))
    (tokens_of (qualident_events s.of) ++ rest) = record { reads = λ le. times_read s.open_arrays _ (name_not_accepted kinds.Array _ (qualident_opens s.of rest)) } in
    let type_expr = again_word kinds.Colon (again_seq (again_qualident d s.of rest dot) arrays) in
    let names = again_several kinds.Comma (name_at (declared false)) (declared false) (λ ls. Unit {0}) d (accept_advances d kinds.Comma (name_at (declared false)) (name_held sound (Declares false) tt)) (λ ls. tt)
    (λ n ls good. again_name d (declared false) n ls refl) s.names.first s.names.rest.items _ tt (not_accepted kinds.Comma kinds.Colon _ refl) in
    let all = again_seq type_expr names in
    again_is (section_out s) (again_node constructs.FPSection
    (again_seq all (again_if_so d kinds.Var s.variable _ (name_not_accepted kinds.Var _ (record { number = s.names.first; tail = _; is = refl })))))

-- the first token of a section of parameters
abbrev section_first : Leaf → Bool
section_first (leafs.Name n) = true
section_first (leafs.Value k n) = false
section_first (leafs.Word kinds.Var) = true
section_first (leafs.Word k) = false

no_paren : (l : Leaf) → section_first l ≡ true → is_word kinds.RightParen l ≡ false
no_paren (leafs.Name n) e = refl
no_paren (leafs.Value k n) e = refl
no_paren (leafs.Word kinds.RightParen) e = absurd cc
no_paren (leafs.Word k) e = refl

section_parts_open : (b : Bool) (n : ℕ) (o more : Events) (x : List Leaf) → Opens section_first (tokens_of (if_true b (word kinds.Var) ++ ((declared false n ++ o) ++ more)) ++ x)
section_parts_open false n o more x = record { leaf = leafs.Name n; tail = _; is = refl; good = refl }
section_parts_open true n o more x = record { leaf = leafs.Word kinds.Var; tail = _; is = refl; good = refl }

section_opens : (s : ParameterSection) (x : List Leaf) → Opens section_first (tokens_of (section_events s) ++ x)
section_opens s x = subst (λ (o : Events). Opens section_first (tokens_of o ++ x)) (sym (section_out s))
    (opens_node section_first constructs.FPSection _ x
    (section_parts_open s.variable s.names.first (each_after kinds.Comma (declared false) s.names.rest.items)
    (word kinds.Colon ++ (times s.open_arrays (word kinds.Array ++ word kinds.Of) ++ qualident_events s.of)) x))

sections_free : (l : OneOrMore ParameterSection) (x : List Leaf) → unless kinds.RightParen (tokens_of (separated kinds.Semicolon section_events l) ++ x) ≡
    Some ([], tokens_of (separated kinds.Semicolon section_events l) ++ x)
sections_free l x = open_there kinds.RightParen section_first no_paren _
    (opens_front section_first (section_events l.first) (each_after kinds.Semicolon section_events l.rest.items) x (section_opens l.first))

again_sections : (d : ℕ) (l : OneOrMore ParameterSection) (rest : List Leaf) →
    Again d (several kinds.Semicolon section_at) (separated kinds.Semicolon section_events l) (leafs.Word kinds.RightParen ∷ rest)
again_sections d l rest =
    again_several kinds.Semicolon section_at section_events (λ ls. accept_at kinds.Dot ls ≡ None) d (accept_advances d kinds.Semicolon section_at (section_held sound))
    (λ ls. not_accepted kinds.Dot kinds.Semicolon ls refl) (again_section d) l.first l.rest.items _ (not_accepted kinds.Dot kinds.RightParen rest refl)
    (not_accepted kinds.Semicolon kinds.RightParen rest refl)

again_parameters : (d : ℕ) (p : Parameters) (rest : List Leaf) → accept_at kinds.Dot rest ≡ None → accept_at kinds.Colon rest ≡ None →
    Again d parameters_at (parameters_events p) rest
unfolding parameters_at
again_parameters d p rest dot colon =
    let answer = again_word kinds.RightParen (again_option d kinds.Colon qualident_at qualident_events p.result rest colon (λ q. again_qualident d q rest dot)) in
    let all = again_seq answer (again_unless d kinds.RightParen (several kinds.Semicolon section_at) (separated kinds.Semicolon section_events) p.sections _ sections_free
    (λ l. again_sections d l _)) in
    again_is (parameters_out p) (again_word kinds.LeftParen all)

parameters_begun : (p : Parameters) (x : List Leaf) → begins (is_word kinds.LeftParen) (tokens_of (parameters_events p) ++ x) ≡ Some ([], tokens_of (parameters_events p) ++ x)
unfolding parameters_events
parameters_begun p x = has_begun (is_word kinds.LeftParen) _ refl

---- tokens that can't continue a type

pub record EndsType (rest : List Leaf) : Type 0 where
  pub dot : accept_at kinds.Dot rest ≡ None
  pub paren : begins (is_word kinds.LeftParen) rest ≡ None
  pub colon : accept_at kinds.Colon rest ≡ None

pub semicolon_ends_type : (rest : List Leaf) → EndsType (leafs.Word kinds.Semicolon ∷ rest)
unfolding accept_at begins
semicolon_ends_type rest = record { dot = refl; paren = refl; colon = refl }

end_ends_type : (rest : List Leaf) → EndsType (leafs.Word kinds.End ∷ rest)
unfolding accept_at begins
end_ends_type rest = record { dot = refl; paren = refl; colon = refl }

pub again_some_parameters : (d : ℕ) (o : Option Parameters) (rest : List Leaf) → EndsType rest → Again d optional_parameters_at (if_present parameters_events o) rest
unfolding optional_parameters_at
again_some_parameters d None rest end = again_nothing d (begins (is_word kinds.LeftParen)) parameters_at rest end.paren
again_some_parameters d (Some p) rest end = again_something (begins (is_word kinds.LeftParen)) [] (parameters_begun p rest) (again_parameters d p rest end.dot end.colon)

---- types, if the types of one level less are read back

abbrev pub AgainTypes : ℕ → Type 0
AgainTypes d = (t : TypeForm) (rest : List Leaf) → EndsType rest → Again d (type_at d) (type_events t) rest

pub again_var : (d : ℕ) → AgainTypes d → (v : VarDecl) (rest : List Leaf) → EndsType rest → Again d (var_with (type_at d)) (var_events v) rest
unfolding var_with
again_var d h v rest end =
    let x = out-VarDecl v in
    let names = again_several kinds.Comma identdef_at identdef_events (λ ls. accept_at kinds.Star ls ≡ None) d
    (accept_advances d kinds.Comma identdef_at (identdef_held sound)) (λ ls. not_accepted kinds.Star kinds.Comma ls refl) (again_identdef d) x.names.first
    x.names.rest.items _ (not_accepted kinds.Star kinds.Colon _ refl) (not_accepted kinds.Comma kinds.Colon _ refl) in
    again_is (var_out v) (again_seq (again_word kinds.Colon (h x.type_expr rest end)) names)

pub var_opens : (v : VarDecl) (x : List Leaf) → OpensName (tokens_of (var_events v) ++ x)
var_opens v x =
    let y = out-VarDecl v in
    subst (λ (o : Events). OpensName (tokens_of o ++ x)) (sym (var_out v))
    (opens_name_front (separated kinds.Comma identdef_events y.names) (word kinds.Colon ++ type_events y.type_expr) x
    (λ z. opens_name_front (identdef_events y.names.first) _ z (identdef_opens y.names.first)))

abbrev field_outline : VarDecl → Events
field_outline v = construct constructs.FieldList (var_events v)

field_opens : (v : VarDecl) (x : List Leaf) → OpensName (tokens_of (field_outline v) ++ x)
field_opens v x = opens_name_node constructs.FieldList (var_events v) x (var_opens v x)

field_found : (ls : List Leaf) → OpensName ls → field_start (leafs.Word kinds.Semicolon ∷ ls) ≡ Some (word kinds.Semicolon, ls)
unfolding field_start
field_found ls h = rw h.is refl

no_field : (b : Bool) (rest : List Leaf) → field_start (tokens_of (if_true b (word kinds.Semicolon)) ++ (leafs.Word kinds.End ∷ rest)) ≡ None
unfolding field_start
no_field false rest = refl
no_field true rest = refl

again_field : (d : ℕ) → AgainTypes d → (v : VarDecl) (rest : List Leaf) → EndsType rest → Again d (node constructs.FieldList (var_with (type_at d))) (field_outline v) rest
again_field d h v rest end = again_node constructs.FieldList (again_var d h v rest end)

again_fields : (d : ℕ) → AgainTypes d → (f : Fields) (rest : List Leaf) → Again d (fields_with (type_at d)) (fields_events f) (leafs.Word kinds.End ∷ rest)
unfolding fields_with
again_fields d h f rest =
    let x = out-Fields f in
    let behind : List Leaf = leafs.Word kinds.End ∷ rest in
    let closing : Events = if_true x.closing_semicolon (word kinds.Semicolon) in
    let end : EndsType (tokens_of closing ++ behind) = past_if_so EndsType kinds.Semicolon x.closing_semicolon behind semicolon_ends_type (end_ends_type rest) in
    let reader : Reader = node constructs.FieldList (var_with (type_at d)) in
    let others = again_each field_start reader (λ v. word kinds.Semicolon) field_outline EndsType d
    (field_advances d reader (field_held sound (type_at_sound d))) (λ v ls. field_found _ (field_opens v ls))
    (λ v ls. semicolon_ends_type _) (again_field d h) x.rest.items (tokens_of closing ++ behind) end (no_field x.closing_semicolon rest) in
    let more = again_seq (again_if_so d kinds.Semicolon x.closing_semicolon behind (not_accepted kinds.Semicolon kinds.End rest refl)) others in
    again_is (fields_out f) (again_seq more (again_field d h x.first _ (past_each EndsType kinds.Semicolon field_outline x.rest.items closing behind semicolon_ends_type end)))

fields_opens : (f : Fields) (x : List Leaf) → OpensName (tokens_of (fields_events f) ++ x)
fields_opens f x = subst (λ (o : Events). OpensName (tokens_of o ++ x)) (sym (fields_out f))
    (opens_name_front (field_outline (out-Fields f).first) _ x (field_opens (out-Fields f).first))

no_base : (o : Option (Box Fields Global)) (rest : List Leaf) → accept_at kinds.LeftParen (tokens_of (if_present (λ f. fields_events f.value) o ++ word kinds.End) ++ rest) ≡ None
no_base None rest = not_accepted kinds.LeftParen kinds.End rest refl
no_base (Some f) rest = name_not_accepted kinds.LeftParen _ (opens_name_front (fields_events f.value) (word kinds.End) rest (fields_opens f.value))

again_record : (d : ℕ) → AgainTypes d → (x : Record-F TypeForm Fields Record VarDecl) (rest : List Leaf) →
    Again d (record_with (type_at d))
    (if_present (λ q. word kinds.LeftParen ++ (qualident_events q ++ word kinds.RightParen)) x.base ++ (if_present (λ f. fields_events f.value) x.fields ++ word kinds.End)) rest
unfolding record_with
again_record d h x rest =
    let fields = again_seq (again_end d kinds.End rest)
    (again_unless d kinds.End (fields_with (type_at d)) (λ (f : Box Fields Global). fields_events f.value) x.fields rest
    (λ f ls. name_not_closed kinds.End _ (fields_opens f.value ls)) (λ f. again_fields d h f.value rest)) in
    again_seq fields (again_option d kinds.LeftParen (seq qualident_at (expect_at kinds.RightParen)) (λ q. qualident_events q ++ word kinds.RightParen) x.base _
    (no_base x.fields rest) (λ q. again_seq (again_end d kinds.RightParen _) (again_qualident d q _ (not_accepted kinds.Dot kinds.RightParen _ refl))))

-- a type name, and a type that begins with a keyword

again_named : (d : ℕ) (q : Qualident) (rest : List Leaf) → accept_at kinds.Dot rest ≡ None →
    Again (suc d) (type_with (expr_at d) (type_at d)) (construct constructs.NamedType (qualident_events q)) rest
unfolding type_with qualident_at qualident_after name_at identifier_at
again_named d q rest e =
    let all_tokens : tokens_of (construct constructs.NamedType (qualident_events q)) ++ rest ≡ leafs.Name q.head ∷ (tokens_of (member_shown q.member) ++ rest) =
    ap (λ (t : List Leaf). t ++ rest) (tokens_of-construct constructs.NamedType (qualident_events q)) ∙ qualident_spelled q rest in
    again_as (type_with (expr_at d) (type_at d)) (rw all_tokens refl) (again_level constructs.NamedType refl (again_qualident d q rest e))

keyword_again : (d : ℕ) (c : Construct) (k : Kind) (r : Reader) (o : Events) (rest : List Leaf) → is_level c ≡ true →
    ((ls : List Leaf) → type_with (expr_at d) (type_at d) (leafs.Word k ∷ ls) ≡ node c (prefixed (word k) r) ls) → Again d r o rest →
    Again (suc d) (type_with (expr_at d) (type_at d)) (construct c (word k ++ o)) rest
keyword_again d c k r o rest level e p = record {
  reads = λ le.
      let low : suc (height o) ≤ suc d = low_level c (word k ++ o) (suc d) level le in
      let it : Reads r o rest = p.reads (omega (arith, low)) in
      record {
        is = ap (λ (t : List Leaf). type_with (expr_at d) (type_at d) (t ++ rest)) (tokens_of-construct c (word k ++ o)) ∙
            e (tokens_of o ++ rest) ∙ rw it.is refl;
      };
}

abbrev Layer : Type 0
Layer = TypeForm-F TypeForm Fields Record VarDecl

again_layer : (d : ℕ) → AgainTypes d → (x : Layer) (rest : List Leaf) → EndsType rest → Again (suc d) (type_with (expr_at d) (type_at d)) (type_shown x) rest
unfolding type_with
again_layer d h (layers.Named q) rest end = again_named d q rest end.dot
again_layer d h (layers.ArrayOf lengths of) rest end =
    let list : Again d (several kinds.Comma (expr_at d)) (expr_list_events lengths.value) (leafs.Word kinds.Of ∷ (tokens_of (type_events of.value) ++ rest)) =
    record { reads = λ le. expr_lists_again d lengths.value _ le (expr_ends kinds.Of _ refl) (not_accepted kinds.Comma kinds.Of _ refl) } in
    keyword_again d constructs.ArrayType kinds.Array _ _ rest refl (λ ls. refl) (again_seq (again_word kinds.Of (h of.value rest end)) list)
again_layer d h (layers.RecordOf r) rest end = again_is (ap (construct constructs.RecordType) (record_out r))
    (keyword_again d constructs.RecordType kinds.Record _ _ rest refl (λ ls. refl) (again_record d h (out-Record r) rest))
again_layer d h (layers.PointerTo t) rest end = keyword_again d constructs.PointerType kinds.Pointer _ _ rest refl (λ ls. refl) (again_word kinds.To (h t.value rest end))
again_layer d h (layers.ProcOf p) rest end = keyword_again d constructs.ProcedureType kinds.Procedure _ _ rest refl (λ ls. refl) (again_some_parameters d p rest end)

-- at depth zero there is no type
no_layer : (r : Reader) (x : Layer) (rest : List Leaf) → Again zero r (type_shown x) rest
no_layer r (layers.Named q) rest = too_high _ _ rest constructs.NamedType refl
no_layer r (layers.ArrayOf lengths of) rest = too_high _ _ rest constructs.ArrayType refl
no_layer r (layers.RecordOf x) rest = too_high _ _ rest constructs.RecordType refl
no_layer r (layers.PointerTo t) rest = too_high _ _ rest constructs.PointerType refl
no_layer r (layers.ProcOf p) rest = too_high _ _ rest constructs.ProcedureType refl

-- ---- every depth

again_none : AgainTypes zero
again_none t rest end = again_is (type_out t) (no_layer _ (out-TypeForm t) rest)

again_next : (d : ℕ) → AgainTypes d → (t : TypeForm) (rest : List Leaf) → EndsType rest → Again (suc d) (type_with (expr_at d) (type_at d)) (type_events t) rest
again_next d h t rest end = again_is (type_out t) (again_layer d h (out-TypeForm t) rest end)

pub again_type : (d : ℕ) → AgainTypes d
unfolding type_at
again_type zero = again_none
again_type (suc d) = again_next d (again_type d)
