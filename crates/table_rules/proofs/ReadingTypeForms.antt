-- The entries of each kind of type expression are determined by its event sequence.
use Rattle.std.proofs.Common.{◌≡◌, List, ◌++◌, map, Option, refl, sym, ap, ◌∙◌}
use Rattle.std.specs.declared.boxed.Box.{Box}
use Rattle.std.specs.declared.alloc.Global.{Global}
use Rattle.ob_scan.specs.declared.kind.Kind.TheVariants as kinds
use Rattle.ob_tree.specs.declared.name.Qualident.{Qualident}
use Rattle.ob_tree.specs.declared.expression.ExprList.{ExprList, out-ExprList}
use Rattle.ob_tree.specs.declared.declaration.Parameters.{Parameters}
use Rattle.ob_tree.specs.declared.declaration.TypeForm.TheOpen as layers
use Rattle.ob_tree.specs.declared.declaration.TypeForm.{TypeForm}
use Rattle.ob_tree.specs.declared.declaration.Record.{Record}
use Rattle.ob_tree.specs.Constructs as constructs
use Rattle.ob_tree.specs.TreeEvents.{Events, construct, word, if_present}
use Rattle.ob_tree.specs.Names.{qualident_events}
use Rattle.ob_tree.specs.Expressions.{expr_events, expr_list_events}
use Rattle.ob_tree.specs.Types.{parameters_events, type_events, record_events}
use Rattle.ob_tree.proofs.ExpressionLayers.{expr_list_shown, expr_list_out}
use Rattle.ob_tree.proofs.TypeLayers.{type_shown}
use Rattle.ob_tree.proofs.TypeInduction.{TypeLayer}
use Rattle.module_table.specs.declared.rows.Part.TheVariants as parts
use Rattle.module_table.specs.Parts.{Fragment, token, both, with_rows, within, opens_block}
use Rattle.module_table.specs.Parts.{if_present as there, each as pieces}
use Rattle.table_rules.specs.Expressions.{Phrase, expr_rows, expr_phrase}
use Rattle.table_rules.specs.Types.{part_row, in_pointer, in_array, parameters_rows, type_name_rows, lengths_rows, type_rows, record_rows}
use Rattle.table_rules.proofs.TypeLayers as told
use Rattle.table_rules.proofs.Reading.{Reads, never, on_word, maybe, r-until, r-both, r-past, r-held, r-at, r-made}
use Rattle.table_rules.proofs.ReadingLists.{r-each, each_told, there_told}
use Rattle.table_rules.proofs.ReadingNames.{r-qualident}
use Rattle.table_rules.proofs.ReadingExpressions.{r-expr}
use Rattle.table_rules.proofs.ReadingParameters.{r-heading}

-- ---- the lengths of an array

abbrev lengths_parts : ExprList → Phrase × List Phrase
lengths_parts l = (expr_phrase (out-ExprList l).first, map expr_phrase (out-ExprList l).rest.items)

abbrev lengths_told : Phrase × List Phrase → Fragment
lengths_told p = both p.0.piece (pieces (λ e. both (with_rows (part_row parts.Array) token) e.piece) p.1)

lengths_tells : (l : ExprList) → lengths_rows l ≡ lengths_told (lengths_parts l)
unfolding expr_rows
lengths_tells l = told.lengths_out l ∙
    ap (λ (o : Fragment). both (expr_phrase (out-ExprList l).first).piece o) (each_told expr_phrase (λ e. both (with_rows (part_row parts.Array) token) e.piece) (out-ExprList l).rest.items)

lengths_held : (l : ExprList) → Reads lengths_parts (λ z. expr_list_shown (out-ExprList z)) (on_word kinds.Comma) (lengths_parts l) (expr_list_shown (out-ExprList l))
lengths_held l = r-both (r-at (λ z. (out-ExprList z).first) (r-expr (out-ExprList l).first))
    (r-at (λ z. (out-ExprList z).rest.items) (r-each expr_phrase (λ e. word kinds.Comma ++ expr_events e) never (on_word kinds.Comma) (λ e s. refl) (λ s i. refl) (λ e s. refl) (out-ExprList l).rest.items (λ e. r-past kinds.Comma (r-expr e))))

pub r-lengths : (l : ExprList) → Reads lengths_rows expr_list_events (on_word kinds.Comma) (lengths_rows l) (expr_list_events l)
r-lengths l = r-made lengths_told (λ z. z) lengths_tells expr_list_out (lengths_tells l) (expr_list_out l) (lengths_held l)

-- ---- types

pub named_same : (p : Qualident) (z : TypeLayer) (r s : Events) → construct constructs.NamedType (qualident_events p) ++ r ≡ type_shown z ++ s → (type_name_rows p ≡ told.type_shown z) × (r ≡ s)
unfolding construct
named_same p (layers.Named q) r s e = let h = (r-held constructs.NamedType (r-qualident p) (λ t. refl)).same q r s refl refl e in (ap type_name_rows h.0, h.1)
named_same p (layers.ArrayOf l t) r s e = absurd cc
named_same p (layers.RecordOf x) r s e = absurd cc
named_same p (layers.PointerTo t) r s e = absurd cc
named_same p (layers.ProcOf q) r s e = absurd cc

abbrev pub array_told : Fragment × Fragment → Fragment
array_told p = with_rows (part_row parts.Array) (both token (both p.0 (both token (within in_array p.1))))

array_held : {a b : Fragment} {o q : Events} → Reads lengths_rows expr_list_events (on_word kinds.Comma) a o → Reads type_rows type_events never b q →
    Reads {Z = Box ExprList Global × Box TypeForm Global} {A = Fragment × Fragment} (λ w. (lengths_rows w.0.value, type_rows w.1.value)) (λ w. construct constructs.ArrayType (word kinds.Array ++ (expr_list_events w.0.value ++ (word kinds.Of ++ type_events w.1.value)))) never (a, b)
    (construct constructs.ArrayType (word kinds.Array ++ (o ++ (word kinds.Of ++ q))))
array_held x y = r-held constructs.ArrayType (r-past kinds.Array (r-until (r-at (λ w. w.0.value) x) (λ s i. refl) (λ z s i. refl) (r-past kinds.Of (r-at (λ w. w.1.value) y)))) (λ s. refl)

pub array_same : (a b : Fragment) (o q : Events) → Reads lengths_rows expr_list_events (on_word kinds.Comma) a o → Reads type_rows type_events never b q → (z : TypeLayer) (r s : Events) → construct constructs.ArrayType (word kinds.Array ++ (o ++ (word kinds.Of ++ q))) ++ r ≡ type_shown z ++ s → (array_told (a, b) ≡ told.type_shown z) × (r ≡ s)
unfolding construct
array_same a b o q x y (layers.Named p) r s e = absurd cc
array_same a b o q x y (layers.ArrayOf l t) r s e = let h = (array_held x y).same (l, t) r s refl refl e in (ap array_told h.0, h.1)
array_same a b o q x y (layers.RecordOf w) r s e = absurd cc
array_same a b o q x y (layers.PointerTo t) r s e = absurd cc
array_same a b o q x y (layers.ProcOf p) r s e = absurd cc

abbrev pub record_form_told : Fragment → Fragment
record_form_told p = with_rows (part_row parts.Record) p

pub record_same : (x : Record) → Reads record_rows record_events never (record_rows x) (record_events x) → (z : TypeLayer) (r s : Events) → construct constructs.RecordType (record_events x) ++ r ≡ type_shown z ++ s → (record_form_told (record_rows x) ≡ told.type_shown z) × (r ≡ s)
unfolding construct
record_same x y (layers.Named p) r s e = absurd cc
record_same x y (layers.ArrayOf l t) r s e = absurd cc
record_same x y (layers.RecordOf w) r s e = let h = (r-held constructs.RecordType y (λ t. refl)).same w r s refl refl e in (ap record_form_told h.0, h.1)
record_same x y (layers.PointerTo t) r s e = absurd cc
record_same x y (layers.ProcOf p) r s e = absurd cc

abbrev pub pointer_told : Fragment → Fragment
pointer_told p = with_rows (part_row parts.Pointer) (both token (both token (within in_pointer p)))

pointer_held : {b : Fragment} {q : Events} → Reads type_rows type_events never b q →
    Reads {Z = Box TypeForm Global} (λ w. type_rows w.value) (λ w. construct constructs.PointerType (word kinds.Pointer ++ (word kinds.To ++ type_events w.value))) never b (construct constructs.PointerType (word kinds.Pointer ++ (word kinds.To ++ q)))
pointer_held y = r-held constructs.PointerType (r-past kinds.Pointer (r-past kinds.To (r-at (λ w. w.value) y))) (λ s. refl)

pub pointer_same : (b : Fragment) (q : Events) → Reads type_rows type_events never b q → (z : TypeLayer) (r s : Events) → construct constructs.PointerType (word kinds.Pointer ++ (word kinds.To ++ q)) ++ r ≡ type_shown z ++ s → (pointer_told b ≡ told.type_shown z) × (r ≡ s)
unfolding construct
pointer_same b q y (layers.Named p) r s e = absurd cc
pointer_same b q y (layers.ArrayOf l t) r s e = absurd cc
pointer_same b q y (layers.RecordOf w) r s e = absurd cc
pointer_same b q y (layers.PointerTo t) r s e = let h = (pointer_held y).same t r s refl refl e in (ap pointer_told h.0, h.1)
pointer_same b q y (layers.ProcOf p) r s e = absurd cc

abbrev procedure_told : Option Fragment → Fragment
procedure_told o = with_rows (part_row parts.Procedure) (opens_block (both token (there (λ p. p) o)))

procedure_seen : (o : Option Parameters) → told.type_shown (layers.ProcOf o) ≡ procedure_told (maybe parameters_rows o)
procedure_seen o = ap (λ (p : Fragment). with_rows (part_row parts.Procedure) (opens_block (both token p))) (there_told parameters_rows (λ p. p) o)

procedure_held : (o : Option Parameters) → Reads {Z = Option Parameters} (maybe parameters_rows) (λ w. construct constructs.ProcedureType (word kinds.Procedure ++ if_present parameters_events w)) never (maybe parameters_rows o) (construct constructs.ProcedureType (word kinds.Procedure ++ if_present parameters_events o))
procedure_held o = r-held constructs.ProcedureType (r-past kinds.Procedure (r-heading (λ w. w) o)) (λ s. refl)

pub procedure_same : (o : Option Parameters) (z : TypeLayer) (r s : Events) → construct constructs.ProcedureType (word kinds.Procedure ++ if_present parameters_events o) ++ r ≡ type_shown z ++ s → (told.type_shown (layers.ProcOf o) ≡ told.type_shown z) × (r ≡ s)
unfolding construct
procedure_same o (layers.Named p) r s e = absurd cc
procedure_same o (layers.ArrayOf l t) r s e = absurd cc
procedure_same o (layers.RecordOf w) r s e = absurd cc
procedure_same o (layers.PointerTo t) r s e = absurd cc
procedure_same o (layers.ProcOf p) r s e = let h = (procedure_held o).same p r s refl refl e in (procedure_seen o ∙ ap procedure_told h.0 ∙ sym (procedure_seen p), h.1)
